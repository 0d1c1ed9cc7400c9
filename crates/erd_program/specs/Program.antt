-- What the program does for the words of its command line.
use Rattle.std.specs.Prelude.{◌≡◌, ◌⊎◌, ◌++◌, ◌∷◌, [], ℕ, true, false, List, Option, Some, None, Result, Ok, Err, codes}
use Rattle.std.specs.Io.KnownBytes.{Appends}
use Rattle.erd_canon.specs.Devices.{BeforeAfter, Writer, between}
use Rattle.erd_canon.specs.declared.commands.request.Request.{Request}
use Rattle.erd_canon.specs.declared.commands.request.Request.TheVariants.{Filter, Check, Canon, Compare, CheckData, CompareData, Differences, DifferencesData}
use Rattle.erd_canon.specs.declared.commands.request.Request.TheVariants.{Prepare, PrepareList, PrepareReport, Ballots, BallotsData, BallotDifferences}
use Rattle.erd_canon.specs.declared.commands.request.Request.TheVariants.{BallotDifferencesData}
use Rattle.erd_canon.specs.declared.commands.request.LineFault.{LineFault}
use Rattle.erd_canon.specs.declared.commands.request.LineFault.TheVariants as line
use Rattle.erd_canon.specs.declared.engines.asked.PairCommand.TheVariants as asked_of_two
use Rattle.erd_canon.specs.declared.engines.asked.ReportCommand.TheVariants as asked_of_one
use Rattle.erd_canon.specs.declared.engines.outcome.Outcome.{Outcome}
use Rattle.erd_canon.specs.declared.engines.outcome.RunFault.{RunFault}
use Rattle.erd_canon.specs.declared.engines.outcome.RunFault.TheVariants as run
use Rattle.erd_canon.specs.Preparing.{asked_steps}
use Rattle.erd_canon.specs.ReadLines.{IsLineRead, IsReadExactly}
use Rattle.erd_canon.specs.Writing.{IsPartWritten}
use Rattle.erd_program.specs.declared.files.WorldFault.{WorldFault}
use Rattle.erd_program.specs.declared.files.WorldFault.TheVariants.{Memory, Refused}
use Rattle.erd_program.specs.declared.world.World.{World}
use Rattle.erd_prepare.specs.declared.step_name.StepName.{StepName}
use Rattle.erd_program.specs.Files.{AreFilesAnswered, AreFilesCompared, IsEachStepTried, IsFileAnswer, IsFileAnswered, IsFileCanonicalised, IsFileChecked}
use Rattle.erd_program.specs.Files.{IsFilePrepared, IsInputCanonicalised, IsPairAnswer, IsPreparationReported, IsRefused}
use Rattle.erd_program.specs.Messages.{IsSaid, fault_text}
use Rattle.erd_program.specs.World.{Outside}

-- Standard input was left alone.
abbrev pub LeavesInput : {F I O E : Type 0} → BeforeAfter (World F I O E) → Type 0
LeavesInput world = world.after.input ≡ world.before.input

-- No file was opened or closed.
abbrev pub LeavesFiles : {F I O E : Type 0} → BeforeAfter (World F I O E) → Type 0
LeavesFiles world = world.after.files ≡ world.before.files

-- The file was opened, and standard input was left alone. The engine ran on the file if there is one.
pub record IsFileOpened {F File I O E : Type 0} (known : Outside F File I O E)
    (Run : Outside F File I O E → Result Outcome RunFault → BeforeAfter File → BeforeAfter O → BeforeAfter E → Type 0) (name : List ℕ) (status : ℕ)
    (world : BeforeAfter (World F I O E)) : Type 0 where
  pub given : Result File WorldFault
  pub input : LeavesInput world
  pub opened : known.opened world.after.files ≡ known.opened world.before.files ++ (name, given) ∷ []
  pub answer : IsFileAnswer known Run name given status (between (known.closed world.before.files) (known.closed world.after.files))
      (between world.before.out world.after.out) (between world.before.err world.after.err)

-- The left file was opened first, and it was still as opening it gave it when the right file was opened: neither was read before
-- both were opened. Standard input was left alone. The engine ran on the files if there are both.
pub record AreFilesOpened {F File I O E : Type 0} (known : Outside F File I O E)
    (Run : Outside F File I O E → Result Outcome RunFault → BeforeAfter File → BeforeAfter File → BeforeAfter O → Type 0) (left right : List ℕ) (status : ℕ)
    (world : BeforeAfter (World F I O E)) : Type 0 where
  pub left_given : Result File WorldFault
  pub right_given : Result File WorldFault
  pub input : LeavesInput world
  pub opened : known.opened world.after.files ≡ known.opened world.before.files ++ (left, left_given) ∷ (right, right_given) ∷ []
  pub beside : known.beside world.after.files ≡ known.beside world.before.files ++ (right, left_given) ∷ []
  pub answer : IsPairAnswer known Run left right left_given right_given status (between (known.closed world.before.files) (known.closed world.after.files))
      (between world.before.out world.after.out) (between world.before.err world.after.err)

-- No file was opened. A word names nothing, which was said, or memory ran out.
abbrev pub AreStepsUnknown : {F File I O E : Type 0} → Outside F File I O E → Option (List ℕ) → ℕ → BeforeAfter (World F I O E) → Type 0
AreStepsUnknown known words status world =
    LeavesFiles world × (LeavesInput world × ((fault : WorldFault) × ((fault ≡ Refused → asked_steps words ≡ None)
    × IsRefused known.err (codes "unknown step") fault status (between world.before.out world.after.out) (between world.before.err world.after.err))))

-- The words name steps, and the engine ran on the file with them. Or else no file was opened.
abbrev pub IsDoneBySteps : {F File I O E : Type 0} → Outside F File I O E → Option (List ℕ)
    → (List StepName → Outside F File I O E → Result Outcome RunFault → BeforeAfter File → BeforeAfter O → BeforeAfter E → Type 0) → List ℕ → ℕ
    → BeforeAfter (World F I O E) → Type 0
IsDoneBySteps known words Run name status world =
    ((chosen : List StepName) × ((asked_steps words ≡ Some chosen) × IsFileOpened known (Run chosen) name status world))
    ⊎ AreStepsUnknown known words status world

-- The program did what the request asks for.
abbrev pub IsDone : {F File I O E : Type 0} → Outside F File I O E → Request → ℕ → BeforeAfter (World F I O E) → Type 0
IsDone known Filter status world =
    LeavesFiles world
    × IsInputCanonicalised known status (between world.before.input world.after.input) (between world.before.out world.after.out)
    (between world.before.err world.after.err)
IsDone known (Check name prefer) status world = IsFileOpened known (IsFileChecked prefer) name status world
IsDone known (Canon name prefer) status world = IsFileOpened known (IsFileCanonicalised prefer) name status world
IsDone known (Compare left right prefer) status world = AreFilesOpened known (AreFilesCompared prefer) left right status world
IsDone known (CheckData name prefer) status world = IsFileOpened known (IsFileAnswered asked_of_one.CheckData prefer) name status world
IsDone known (CompareData left right prefer) status world = AreFilesOpened known (AreFilesAnswered asked_of_two.CompareData prefer) left right status world
IsDone known (Differences left right prefer) status world = AreFilesOpened known (AreFilesAnswered asked_of_two.Differences prefer) left right status world
IsDone known (DifferencesData left right prefer) status world =
    AreFilesOpened known (AreFilesAnswered asked_of_two.DifferencesData prefer) left right status world
IsDone known (Prepare name words prefer) status world = IsDoneBySteps known words (IsFilePrepared prefer) name status world
IsDone known (PrepareList name) status world = IsFileOpened known IsEachStepTried name status world
IsDone known (PrepareReport name words) status world = IsDoneBySteps known words IsPreparationReported name status world
IsDone known (Ballots name prefer) status world = IsFileOpened known (IsFileAnswered asked_of_one.Ballots prefer) name status world
IsDone known (BallotsData name prefer) status world = IsFileOpened known (IsFileAnswered asked_of_one.BallotsData prefer) name status world
IsDone known (BallotDifferences left right prefer) status world =
    AreFilesOpened known (AreFilesAnswered asked_of_two.BallotDifferences prefer) left right status world
IsDone known (BallotDifferencesData left right prefer) status world =
    AreFilesOpened known (AreFilesAnswered asked_of_two.BallotDifferencesData prefer) left right status world

-- The text of the help was written and flushed, with status 0. Or else that failed: a first part of it was written, and
-- `write failed` to standard error, with status 3.
abbrev pub IsHelped : {O E : Type 0} → Writer O → Writer E → List ℕ → ℕ → BeforeAfter O → BeforeAfter E → Type 0
IsHelped known errors text status out err =
    ((status ≡ 0) × ((known.has_failed out.after ≡ false) × ((known.is_flushed out.after ≡ true)
    × (Appends (known.contents out.before) (known.contents out.after) text × (err.after ≡ err.before)))))
    ⊎ ((status ≡ 3) × ((known.has_failed out.after ≡ true)
    × (IsPartWritten (known.contents out.before) (known.contents out.after) text × IsSaid errors (fault_text run.Write) err)))

-- The text of the usage was written to standard error, with status 3.
abbrev pub IsUsageTold : {O E : Type 0} → Writer E → List ℕ → ℕ → BeforeAfter O → BeforeAfter E → Type 0
IsUsageTold errors text status out err = (status ≡ 3) × ((out.after ≡ out.before) × IsSaid errors text err)

-- The program said why the command line has no request.
abbrev pub IsLineRefused : {O E : Type 0} → Writer O → Writer E → LineFault → ℕ → BeforeAfter O → BeforeAfter E → Type 0
IsLineRefused known errors (line.Help text) status out err = IsHelped known errors text status out err
IsLineRefused known errors (line.Usage text) status out err = IsUsageTold errors text status out err
IsLineRefused known errors line.Memory status out err = IsRefused errors [] Memory status out err

-- The program answered what the command line was read as.
abbrev pub IsLineAnswered : {F File I O E : Type 0} → Outside F File I O E → Result Request LineFault → ℕ → BeforeAfter (World F I O E) → Type 0
IsLineAnswered known (Ok request) status world = IsDone known request status world
IsLineAnswered known (Err fault) status world =
    LeavesFiles world × (LeavesInput world
    × IsLineRefused known.out known.err fault status (between world.before.out world.after.out) (between world.before.err world.after.err))

-- Some line was read from the words, and the program answered it.
pub record AreWordsAnswered {F File I O E : Type 0} (known : Outside F File I O E) (words : List (List ℕ)) (status : ℕ)
    (world : BeforeAfter (World F I O E)) : Type 0 where
  pub found : Result Request LineFault
  pub exact : IsReadExactly words found
  pub read : IsLineRead words found
  pub answered : IsLineAnswered known found status world

-- The words that the system gave, or why it gave none.
abbrev pub words_given : {W : Type 0} → (W → List (List ℕ)) → Result W WorldFault → Result (List (List ℕ)) WorldFault
words_given texts (Ok words) = Ok (texts words)
words_given texts (Err fault) = Err fault

-- What the program does: it answers the words of its command line. If it has none, since the system gave words that are
-- not text or memory ran out, it says so.
abbrev pub IsProgramRun : {F File I O E : Type 0} → Outside F File I O E → Result (List (List ℕ)) WorldFault → ℕ → BeforeAfter (World F I O E) → Type 0
IsProgramRun known (Ok words) status world = AreWordsAnswered known words status world
IsProgramRun known (Err fault) status world =
    LeavesFiles world × (LeavesInput world
    × IsRefused known.err (codes "the arguments are not text") fault status (between world.before.out world.after.out)
    (between world.before.err world.after.err))
