-- What the engines that prepare a report write, and do to their devices. All of this is the program's own.
use Rattle.std.specs.Prelude.{◌≡◌, ◌≢◌, ◌↔◌, ◌⊎◌, ◌+◌, ◌++◌, ◌<◌, ◌≤◌, ℕ, zero, suc, List, [], ◌∷◌, Option, true, Result, Err, IfOk, IfErr, IsErrOf, OnOk}
use Rattle.std.specs.Prelude.{codes, decimal, length, map, unwrap_or}
use Rattle.std.specs.List.{flat_map}
use Rattle.std.specs.Io.KnownBytes.{Appends}
use Rattle.serde_json.specs.Data.{Data}
use Rattle.erd_tables.specs.Faults.{fault_line}
use Rattle.erd_tables.specs.declared.fault.Fault.{Fault}
use Rattle.erd_meaning.specs.Keys.{Preference}
use Rattle.erd_prepare.specs.Preparations.{IsPrepared}
use Rattle.erd_prepare.specs.StepWords.{group_of, name_of_group, name_of_step, steps_chosen}
use Rattle.erd_prepare.specs.Steps.{IsNamedStepDone}
use Rattle.erd_prepare.specs.declared.engine.Done.{Done}
use Rattle.erd_prepare.specs.declared.step_done.Others.TheVariants.{Told, Untold}
use Rattle.erd_prepare.specs.declared.step_done.PreparedBytes.{PreparedBytes}
use Rattle.erd_prepare.specs.declared.step_done.StepDone.{StepDone}
use Rattle.erd_prepare.specs.declared.step_name.StepName.{StepName}
use Rattle.erd_prepare.specs.declared.step_name.TheConstants.{STEPS}
use Rattle.erd_canon.specs.Bytes.{IsNotJson, IsTreeOf}
use Rattle.erd_canon.specs.Devices.{BeforeAfter, Reader, Writer}
use Rattle.erd_canon.specs.EngineTexts.{IsRefusedReport, text_of_lines}
use Rattle.erd_canon.specs.Limits.{most_bytes, most_reads}
use Rattle.erd_canon.specs.Reading.{Exceeds, IsReadWhole}
use Rattle.erd_canon.specs.Refused.{IsSomeReport}
use Rattle.erd_canon.specs.Remedies.{remedy_lines}
use Rattle.erd_canon.specs.Writing.{IsPartWritten}
use Rattle.erd_canon.specs.declared.engines.outcome.Outcome.{Outcome}
use Rattle.erd_canon.specs.declared.engines.outcome.Outcome.TheVariants.{Bad, Good, NotJson}
use Rattle.erd_canon.specs.declared.engines.outcome.RunFault.{RunFault}
use Rattle.erd_canon.specs.declared.engines.outcome.RunFault.TheVariants.{TooLong, Read, Write}

-- The steps that a caller asks for, if the words choose some: by these words, or by `removed` if there are none.
abbrev pub asked_steps : Option (List ℕ) → Option (List StepName)
asked_steps words = steps_chosen (unwrap_or words (codes "removed"))

-- The lines of what changed or left so much: one, or none if it did neither.
abbrev pub count_lines : List ℕ → ℕ → ℕ → List (List ℕ)
count_lines name zero zero = []
count_lines name (suc changed) zero = (name ++ codes ": " ++ decimal (suc changed) ++ codes " changed") ∷ []
count_lines name zero (suc left) = (name ++ codes ": " ++ decimal (suc left) ++ codes " left") ∷ []
count_lines name (suc changed) (suc left) = (name ++ codes ": " ++ decimal (suc changed) ++ codes " changed, " ++ decimal (suc left) ++ codes " left") ∷ []

-- The lines of a step that was done.
abbrev pub done_lines : StepDone → List (List ℕ)
done_lines step = count_lines (name_of_step step.step) (length step.changes.items) (length step.left.items)

-- The lines of a prepared file: that of the numbers whose texts change, if any do, and those of each step that was done.
abbrev pub file_lines : PreparedBytes → List (List ℕ)
file_lines file = count_lines (codes "numbers") (length file.numbers.items) 0 ++ flat_map done_lines file.steps.items

-- The lines say why the prepared report is refused: `not JSON`, or one line for each fault, and then what may be done about them.
abbrev pub IsRefusalWithRemedies : Preference → List ℕ → List (List ℕ) → Type 0
IsRefusalWithRemedies π bytes lines =
    (IsNotJson bytes × (lines ≡ codes "not JSON" ∷ []))
    ⊎ ((faults : List Fault) × IsRefusedReport π bytes faults × (lines ≡ map fault_line faults ++ remedy_lines faults))

-- The prepared report is judged with this outcome: it is accepted, and there are no lines, or the lines say why it is refused,
-- and what may be done about that.
abbrev pub IsJudged : Preference → List ℕ → Outcome → List (List ℕ) → Type 0
IsJudged π bytes Good lines = IsSomeReport π bytes × (lines ≡ [])
IsJudged π bytes Bad lines = IsRefusalWithRemedies π bytes lines
IsJudged π bytes NotJson lines = ⊥

-- The prepared file ends the run with this outcome and has these texts. The output has the prepared report with no line end. The
-- errors have the lines of the steps, and then those that say why the prepared report is refused, if it is.
pub record AreFileTexts (π : Preference) (file : PreparedBytes) (outcome : Outcome) (out err : List ℕ) : Type 0 where
  pub lines : List (List ℕ)
  pub judged : IsJudged π file.bytes.items outcome lines
  pub output : out ≡ file.bytes.items
  pub errors : err ≡ text_of_lines (file_lines file ++ lines)

-- The run ends with this outcome and these texts: the output has nothing, and the errors say that the bytes are not JSON.
pub record AreNotJsonTexts (outcome : Outcome) (out err : List ℕ) : Type 0 where
  pub not_json : outcome ≡ NotJson
  pub output : out ≡ []
  pub errors : err ≡ text_of_lines (codes "not JSON" ∷ [])

-- A byte order mark: U+FEFF in UTF-8.
abbrev pub byte_order_mark : List ℕ
byte_order_mark = 239 ∷ 187 ∷ 191 ∷ []

-- The bytes begin with a byte order mark. The outcome and the texts are those of what follows it, with a line for it before the
-- errors.
pub record AreMarkedTexts (Answers : List ℕ → Outcome → List ℕ → List ℕ → Type 0) (bytes : List ℕ) (outcome : Outcome) (out err : List ℕ) : Type 0 where
  pub rest : List ℕ
  pub rest_err : List ℕ
  pub marked : bytes ≡ byte_order_mark ++ rest
  pub answers : Answers rest outcome out rest_err
  pub errors : err ≡ text_of_lines (codes "byte order mark: taken off" ∷ []) ++ rest_err

-- The outcome and the texts are those of the bytes, or of what follows a byte order mark if they begin with one.
abbrev pub IsBehindMark : (List ℕ → Outcome → List ℕ → List ℕ → Type 0) → List ℕ → Outcome → List ℕ → List ℕ → Type 0
IsBehindMark Answers bytes outcome out err =
    (((rest : List ℕ) → bytes ≢ byte_order_mark ++ rest) × Answers bytes outcome out err) ⊎ AreMarkedTexts Answers bytes outcome out err

-- Preparing bytes with no mark before them by these steps ends with this outcome and writes these texts. One is for its output,
-- one for its errors.
abbrev pub IsUnmarkedPrepared : Preference → List StepName → List ℕ → Outcome → List ℕ → List ℕ → Type 0
IsUnmarkedPrepared π chosen bytes outcome out err =
    (IsNotJson bytes × AreNotJsonTexts outcome out err) ⊎ ((file : PreparedBytes) × IsPrepared bytes chosen Untold file × AreFileTexts π file outcome out err)

-- Preparing the bytes by these steps ends with this outcome and writes these texts.
abbrev pub IsPreparedAs : Preference → List StepName → List ℕ → Outcome → List ℕ → List ℕ → Type 0
IsPreparedAs π chosen = IsBehindMark (IsUnmarkedPrepared π chosen)

-- The name of a step with that of its group.
abbrev pub grouped_text : StepName → List ℕ
grouped_text step = name_of_step step ++ codes " (" ++ name_of_group (group_of step) ++ codes ")"

-- The lines of a step that was tried.
abbrev pub tried_lines : StepName → Done → List (List ℕ)
tried_lines step done = count_lines (grouped_text step) (length done.changes.items) (length done.left.items)

-- Each of these steps was tried on the report, and these are the lines of them all, in their order.
pub data AreStepsTried (given : Data) : List StepName → List (List ℕ) → Type 0 where
  no_step : AreStepsTried given [] []
  one_more : (names : List StepName) (name : StepName) (lines : List (List ℕ)) (done : Done) → AreStepsTried given names lines
      → IsNamedStepDone name given done → AreStepsTried given (names ++ name ∷ []) (lines ++ tried_lines name done)

-- Trying each step on the report ends with this outcome and has these texts.
pub record AreTriedTexts (given : Data) (outcome : Outcome) (out err : List ℕ) : Type 0 where
  pub lines : List (List ℕ)
  pub tried : AreStepsTried given STEPS lines
  pub good : outcome ≡ Good
  pub output : out ≡ text_of_lines lines
  pub errors : err ≡ []

-- Listing the steps for bytes with no mark before them ends with this outcome and writes these texts.
abbrev pub AreUnmarkedSteps : List ℕ → Outcome → List ℕ → List ℕ → Type 0
AreUnmarkedSteps bytes outcome out err =
    (IsNotJson bytes × AreNotJsonTexts outcome out err) ⊎ ((given : Data) × IsTreeOf bytes given × AreTriedTexts given outcome out err)

-- Listing the steps for the bytes ends with this outcome and writes these texts.
abbrev pub AreStepsListed : List ℕ → Outcome → List ℕ → List ℕ → Type 0
AreStepsListed = IsBehindMark AreUnmarkedSteps

-- Telling what a preparation did ends with this outcome and has these texts: the output has it as a line of JSON.
pub record AreToldTexts (file : PreparedBytes) (outcome : Outcome) (out err : List ℕ) : Type 0 where
  pub good : outcome ≡ Good
  pub output : out ≡ file.told.items ++ 10 ∷ []
  pub errors : err ≡ []

-- Telling what these steps do on bytes with no mark before them ends with this outcome and writes these texts.
abbrev pub IsUnmarkedTold : List StepName → List ℕ → Outcome → List ℕ → List ℕ → Type 0
IsUnmarkedTold chosen bytes outcome out err =
    (IsNotJson bytes × AreNotJsonTexts outcome out err) ⊎ ((file : PreparedBytes) × IsPrepared bytes chosen Told file × AreToldTexts file outcome out err)

-- Telling what these steps do on the bytes ends with this outcome and writes these texts.
abbrev pub IsPreparationTold : List StepName → List ℕ → Outcome → List ℕ → List ℕ → Type 0
IsPreparationTold chosen = IsBehindMark (IsUnmarkedTold chosen)

-- The run on the input ends with this outcome. If the bytes of the writers are known, its texts were written, and nothing else.
pub record AreTextsWritten (Answers : List ℕ → Outcome → List ℕ → List ℕ → Type 0) (bytes : List ℕ) (outcome : Outcome)
    (out_before out_after err_before err_after : Option (List ℕ)) : Type 0 where
  pub out_text : List ℕ
  pub err_text : List ℕ
  pub answers : Answers bytes outcome out_text err_text
  pub wrote_out : Appends out_before out_after out_text
  pub wrote_err : Appends err_before err_after err_text

-- The run on the input has these texts. If the bytes of the writers are known, a first part of its text was written to each, and
-- nothing else.
pub record AreTextsPartWritten (Answers : List ℕ → Outcome → List ℕ → List ℕ → Type 0) (bytes : List ℕ)
    (out_before out_after err_before err_after : Option (List ℕ)) : Type 0 where
  pub outcome : Outcome
  pub out_text : List ℕ
  pub err_text : List ℕ
  pub answers : Answers bytes outcome out_text err_text
  pub part_out : IsPartWritten out_before out_after out_text
  pub part_err : IsPartWritten err_before err_after err_text

-- The run on the input has texts of which this holds.
pub record AreTextsWith (Answers : List ℕ → Outcome → List ℕ → List ℕ → Type 0) (Holds : List ℕ → List ℕ → Type 0) (bytes : List ℕ) : Type 0 where
  pub outcome : Outcome
  pub out_text : List ℕ
  pub err_text : List ℕ
  pub answers : Answers bytes outcome out_text err_text
  pub holds : Holds out_text err_text

-- If the bytes of the devices are known: the reader was read to its end within the limit, and the texts for its bytes were
-- written, and nothing else.
pub record AreWholeTexts (Answers : List ℕ → Outcome → List ℕ → List ℕ → Type 0) (limit : ℕ) (outcome : Outcome)
    (before after out_before out_after err_before err_after : Option (List ℕ)) : Type 0 where
  pub input : List ℕ
  pub whole : IsReadWhole limit before after input
  pub written : AreTextsWritten Answers input outcome out_before out_after err_before err_after

-- If the bytes of the devices are known: the reader was read to its end within the limit, and a first part of each text for its
-- bytes was written, and nothing else.
pub record AreBrokenTexts (Answers : List ℕ → Outcome → List ℕ → List ℕ → Type 0) (limit : ℕ)
    (before after out_before out_after err_before err_after : Option (List ℕ)) : Type 0 where
  pub input : List ℕ
  pub whole : IsReadWhole limit before after input
  pub written : AreTextsPartWritten Answers input out_before out_after err_before err_after

-- If the bytes of the reader are known: it was read to its end within the limit, and the texts for its bytes are such that this
-- holds of them.
pub record IsReadWith (Answers : List ℕ → Outcome → List ℕ → List ℕ → Type 0) (Holds : List ℕ → List ℕ → Type 0) (limit : ℕ)
    (before after : Option (List ℕ)) : Type 0 where
  pub input : List ℕ
  pub whole : IsReadWhole limit before after input
  pub texts : AreTextsWith Answers Holds input

-- A report was read, and the two texts for its bytes were written, with this answer.
pub record IsTextsRun {S O E : Type 0} (source : Reader S) (sink : Writer O) (errors : Writer E) (Answers : List ℕ → Outcome → List ℕ → List ℕ → Type 0)
    (answer : Result Outcome RunFault) (reader : BeforeAfter S) (out : BeforeAfter O) (err : BeforeAfter E) : Type 0 where
  -- What an outcome means.
  pub whole : IfOk answer (λ outcome. AreWholeTexts Answers most_bytes outcome (source.remaining reader.before) (source.remaining reader.after)
      (sink.contents out.before) (sink.contents out.after) (errors.contents err.before) (errors.contents err.after))
  pub flushed : OnOk answer ((sink.is_flushed out.after ≡ true) × (errors.is_flushed err.after ≡ true))
  -- If the fault is not `Write`, nothing was written or flushed. If it is, each writer holds a first part of its text.
  pub quiet : IfErr answer (λ fault. fault ≢ Write → (out.after ≡ out.before) × (err.after ≡ err.before))
  pub broken : answer ≡ Err Write → AreBrokenTexts Answers most_bytes (source.remaining reader.before) (source.remaining reader.after)
      (sink.contents out.before) (sink.contents out.after) (errors.contents err.before) (errors.contents err.after)
  -- After a failed write to `out`, `err` is unchanged. Before a failed write, nothing is flushed. `err` is flushed only after
  -- `out`.
  pub out_first : sink.has_failed out.after ≡ true → sink.flushes out.after ≡ sink.flushes out.before → err.after ≡ err.before
  pub writes_first : errors.has_failed err.after ≡ true → errors.flushes err.after ≡ errors.flushes err.before
      → sink.flushes out.after ≡ sink.flushes out.before
  pub flush_order : (errors.flushes err.after ≡ errors.flushes err.before) ⊎ (sink.is_flushed out.after ≡ true)
  -- A write to `out` or `err` fails only if there is a text for it.
  pub out_needed : sink.has_failed out.after ≡ true → sink.flushes out.after ≡ sink.flushes out.before
      → IsReadWith Answers (λ out_text _. 0 < length out_text) most_bytes (source.remaining reader.before) (source.remaining reader.after)
  pub err_needed : errors.has_failed err.after ≡ true → errors.flushes err.after ≡ errors.flushes err.before
      → IsReadWith Answers (λ _ err_text. 0 < length err_text) most_bytes (source.remaining reader.before) (source.remaining reader.after)
  -- When each fault is returned.
  pub read : IsErrOf answer Read ↔ (source.has_failed reader.after ≡ true)
  pub write : IsErrOf answer Write ↔ ((sink.has_failed out.after ≡ true) ⊎ (errors.has_failed err.after ≡ true))
  pub too_long : answer ≡ Err TooLong → Exceeds most_bytes (source.remaining reader.before) (source.remaining reader.after)
  pub too_many : answer ≡ Err TooLong → source.given reader.before + most_bytes < source.given reader.after
  pub calls : source.reads reader.after ≤ source.reads reader.before + most_reads
