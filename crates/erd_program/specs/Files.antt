-- What is done with standard input, or with the files that a request names.
use Rattle.std.specs.Prelude.{◌≡◌, ◌⊎◌, ◌++◌, ◌∷◌, [], ℕ, List, None, Result, Ok, Err}
use Rattle.erd_canon.specs.Answering.{IsPairRun, IsReportRun}
use Rattle.erd_canon.specs.AskedCommands.{pair_answers, report_answers}
use Rattle.erd_canon.specs.Preparing.{AreStepsListed, IsPreparationTold, IsPreparedAs, IsTextsRun}
use Rattle.erd_prepare.specs.declared.step_name.StepName.{StepName}
use Rattle.erd_canon.specs.Devices.{BeforeAfter, Writer, between}
use Rattle.erd_canon.specs.Engines.{IsCanonRun, IsCheckRun, IsCompareRun}
use Rattle.erd_meaning.specs.Keys.{Preference}
use Rattle.erd_canon.specs.declared.engines.asked.PairCommand.{PairCommand}
use Rattle.erd_canon.specs.declared.engines.asked.ReportCommand.{ReportCommand}
use Rattle.erd_canon.specs.declared.engines.outcome.Outcome.{Outcome}
use Rattle.erd_canon.specs.declared.engines.outcome.RunFault.{RunFault}
use Rattle.erd_program.specs.declared.files.WorldFault.{WorldFault}
use Rattle.erd_program.specs.declared.files.WorldFault.TheVariants.{Memory}
use Rattle.erd_program.specs.Messages.{IsSaid, IsTold, run_status, unopened_words, world_status, world_text}
use Rattle.erd_program.specs.World.{Outside}

-- The outside did not give something. The program wrote nothing but these words, or that it is out of memory, to standard
-- error.
pub record IsRefused {O E : Type 0} (errors : Writer E) (words : List ℕ) (fault : WorldFault) (status : ℕ) (out : BeforeAfter O)
    (err : BeforeAfter E) : Type 0 where
  pub status_is : status ≡ world_status fault
  pub said : IsSaid errors (world_text words fault) err
  pub quiet : out.after ≡ out.before

-- The file with this name could not be opened. The program wrote nothing but the words for that, or that it is out of memory, to
-- standard error.
abbrev pub IsUnopened : {O E : Type 0} → Writer E → List ℕ → WorldFault → ℕ → BeforeAfter O → BeforeAfter E → Type 0
IsUnopened errors name fault status out err =
    IsRefused errors (unopened_words name) fault status out err ⊎ IsRefused errors (unopened_words name) Memory status out err

-- Standard input was canonicalised with no preference, and the program ended with the answer.
pub record IsInputCanonicalised {F File I O E : Type 0} (known : Outside F File I O E) (status : ℕ) (input : BeforeAfter I) (out : BeforeAfter O)
    (err : BeforeAfter E) : Type 0 where
  pub answer : Result Outcome RunFault
  -- standard error as the engine left it
  pub err_left : E
  pub run : IsCanonRun known.input known.out known.err None answer input out (between err.before err_left)
  pub status_is : status ≡ run_status answer
  pub told : IsTold known.err answer (between err_left err.after)

-- The engine checked the file under the preference.
abbrev pub IsFileChecked : {F File I O E : Type 0} → Preference → Outside F File I O E → Result Outcome RunFault → BeforeAfter File → BeforeAfter O
    → BeforeAfter E → Type 0
IsFileChecked prefer known answer file out err = IsCheckRun known.file known.out prefer answer file out × (err.after ≡ err.before)

-- The engine canonicalised the file under the preference.
abbrev pub IsFileCanonicalised : {F File I O E : Type 0} → Preference → Outside F File I O E → Result Outcome RunFault → BeforeAfter File → BeforeAfter O
    → BeforeAfter E → Type 0
IsFileCanonicalised prefer known answer file out err = IsCanonRun known.file known.out known.err prefer answer file out err

-- The engine answered about the file under the preference, with one text.
abbrev pub IsFileAnswered : {F File I O E : Type 0} → ReportCommand → Preference → Outside F File I O E → Result Outcome RunFault → BeforeAfter File
    → BeforeAfter O → BeforeAfter E → Type 0
IsFileAnswered command prefer known answer file out err = IsReportRun known.file known.out (report_answers command prefer) answer file out
    × (err.after ≡ err.before)

-- The engine prepared the file by the chosen steps, and judged what came of it under the preference.
abbrev pub IsFilePrepared : {F File I O E : Type 0} → Preference → List StepName → Outside F File I O E → Result Outcome RunFault → BeforeAfter File
    → BeforeAfter O → BeforeAfter E → Type 0
IsFilePrepared prefer chosen known answer file out err = IsTextsRun known.file known.out known.err (IsPreparedAs prefer chosen) answer file out err

-- The engine tried each step on the file.
abbrev pub IsEachStepTried : {F File I O E : Type 0} → Outside F File I O E → Result Outcome RunFault → BeforeAfter File → BeforeAfter O
    → BeforeAfter E → Type 0
IsEachStepTried known answer file out err = IsTextsRun known.file known.out known.err AreStepsListed answer file out err

-- The engine prepared the file by the chosen steps, with what they did as the answer.
abbrev pub IsPreparationReported : {F File I O E : Type 0} → List StepName → Outside F File I O E → Result Outcome RunFault → BeforeAfter File → BeforeAfter O
    → BeforeAfter E → Type 0
IsPreparationReported chosen known answer file out err = IsTextsRun known.file known.out known.err (IsPreparationTold chosen) answer file out err

-- The engine ran on the file, and the file was closed as the engine left it. The program ended with the answer.
pub record IsFileDone {F File I O E : Type 0} (known : Outside F File I O E)
    (Run : Outside F File I O E → Result Outcome RunFault → BeforeAfter File → BeforeAfter O → BeforeAfter E → Type 0) (name : List ℕ) (file : File)
    (status : ℕ) (closed : BeforeAfter (List (List ℕ × File))) (out : BeforeAfter O) (err : BeforeAfter E) : Type 0 where
  pub answer : Result Outcome RunFault
  pub file_left : File
  pub err_left : E
  pub run : Run known answer (between file file_left) out (between err.before err_left)
  pub is_closed : closed.after ≡ closed.before ++ (name, file_left) ∷ []
  pub status_is : status ≡ run_status answer
  pub told : IsTold known.err answer (between err_left err.after)

-- The engine compared the two files under the preference, with a line as the answer.
abbrev pub AreFilesCompared : {F File I O E : Type 0} → Preference → Outside F File I O E → Result Outcome RunFault → BeforeAfter File → BeforeAfter File
    → BeforeAfter O → Type 0
AreFilesCompared prefer known answer left right out = IsCompareRun known.file known.file known.out prefer answer left right out

-- The engine answered about the two files under the preference, with one text.
abbrev pub AreFilesAnswered : {F File I O E : Type 0} → PairCommand → Preference → Outside F File I O E → Result Outcome RunFault → BeforeAfter File
    → BeforeAfter File → BeforeAfter O → Type 0
AreFilesAnswered command prefer known answer left right out = IsPairRun known.file known.file known.out (pair_answers command prefer) answer left right out

-- The engine ran on the two files, and they were closed as the engine left them. The program ended with the answer.
pub record AreFilesDone {F File I O E : Type 0} (known : Outside F File I O E)
    (Run : Outside F File I O E → Result Outcome RunFault → BeforeAfter File → BeforeAfter File → BeforeAfter O → Type 0) (left_name right_name : List ℕ)
    (left right : File) (status : ℕ) (closed : BeforeAfter (List (List ℕ × File))) (out : BeforeAfter O) (err : BeforeAfter E) : Type 0 where
  pub answer : Result Outcome RunFault
  pub left_left : File
  pub right_left : File
  pub run : Run known answer (between left left_left) (between right right_left) out
  pub are_closed : closed.after ≡ closed.before ++ (left_name, left_left) ∷ (right_name, right_left) ∷ []
  pub status_is : status ≡ run_status answer
  pub told : IsTold known.err answer err

-- What is done for a command on one file, by what opening the file gave.
abbrev pub IsFileAnswer : {F File I O E : Type 0} → Outside F File I O E
    → (Outside F File I O E → Result Outcome RunFault → BeforeAfter File → BeforeAfter O → BeforeAfter E → Type 0) → List ℕ → Result File WorldFault → ℕ
    → BeforeAfter (List (List ℕ × File)) → BeforeAfter O → BeforeAfter E → Type 0
IsFileAnswer known Run name (Ok file) status closed out err = IsFileDone known Run name file status closed out err
IsFileAnswer known Run name (Err fault) status closed out err =
    (closed.after ≡ closed.before) × IsUnopened known.err name fault status out err

-- What is done for a command on two files, by what opening the left file and then the right one gave. If one of them could not be
-- opened, the other one was closed as it was.
abbrev pub IsPairAnswer : {F File I O E : Type 0} → Outside F File I O E
    → (Outside F File I O E → Result Outcome RunFault → BeforeAfter File → BeforeAfter File → BeforeAfter O → Type 0) → List ℕ → List ℕ → Result File WorldFault
    → Result File WorldFault → ℕ → BeforeAfter (List (List ℕ × File)) → BeforeAfter O → BeforeAfter E → Type 0
IsPairAnswer known Run left right (Ok a) (Ok b) status closed out err = AreFilesDone known Run left right a b status closed out err
IsPairAnswer known Run left right (Ok a) (Err fault) status closed out err =
    (closed.after ≡ closed.before ++ (left, a) ∷ []) × IsUnopened known.err right fault status out err
IsPairAnswer known Run left right (Err fault) (Ok b) status closed out err =
    (closed.after ≡ closed.before ++ (right, b) ∷ []) × IsUnopened known.err left fault status out err
IsPairAnswer known Run left right (Err fault) (Err other) status closed out err =
    (closed.after ≡ closed.before) × IsUnopened known.err left fault status out err
