-- What the call that prepares a report tells its caller.
use Rattle.std.specs.Prelude.{◌≡◌, ◌≢◌, ◌<◌, ◌⊎◌, ◌++◌, ◌∷◌, ℕ, Bool, true, false, List, Some, length}
use Rattle.std.specs.Str.{IsUtf8}
use Rattle.erd_canon.specs.Limits.{most_bytes}
use Rattle.erd_prepare.specs.Preparations.{IsPrepared}
use Rattle.erd_prepare.specs.Reading.{IsNoJson}
use Rattle.erd_prepare.specs.StepWords.{steps_chosen}
use Rattle.erd_prepare.specs.declared.step_done.Others.{Others}
use Rattle.erd_prepare.specs.declared.step_done.Others.TheVariants as others
use Rattle.erd_prepare.specs.declared.step_done.PreparedBytes.{PreparedBytes}
use Rattle.erd_prepare.specs.declared.step_name.StepName.{StepName}
use Rattle.erd_c.specs.Told.{HasNoText, IsPut}
use Rattle.erd_c.specs.declared.call_result.Told.{Told}

-- The words of a caller choose these steps.
pub record IsChosenBy (words : List ℕ) (chosen : List StepName) : Type 0 where
  pub is_text : IsUtf8 words
  pub steps : steps_chosen words ≡ Some chosen

-- The arguments are wrong: the report has more bytes than a run reads, or the words choose no list of steps, since one of them
-- names nothing.
abbrev pub IsWrongToPrepare : List ℕ → List ℕ → Type 0
IsWrongToPrepare bytes words = (most_bytes < length bytes) ⊎ ((chosen : List StepName) → ¬ (IsChosenBy words chosen))

-- What was done, a line feed, and the prepared report.
abbrev pub prepared_text : PreparedBytes → List ℕ
prepared_text file = file.told.items ++ 10 ∷ file.bytes.items

-- Whether it is told what the steps would do that are not chosen.
abbrev pub others_asked : Bool → Others
others_asked true = others.Told
others_asked false = others.Untold

-- The text is what the steps that the words choose did on the report in the bytes, and the report that they made.
pub record IsPreparedText (bytes words : List ℕ) (others : Bool) (text : List ℕ) : Type 0 where
  pub chosen : List StepName
  pub by_words : IsChosenBy words chosen
  pub file : PreparedBytes
  pub prepared : IsPrepared bytes chosen (others_asked others) file
  pub same : text ≡ prepared_text file

-- Why there is no text: the bytes are not JSON (2), the arguments are wrong (3), or the call is out of memory (4).
abbrev pub IsUnpreparedBy : List ℕ → List ℕ → ℕ → Type 0
IsUnpreparedBy bytes words outcome =
    ((outcome ≡ 2) × IsNoJson bytes × ¬ (IsWrongToPrepare bytes words)) ⊎ (((outcome ≡ 3) × IsWrongToPrepare bytes words) ⊎ (outcome ≡ 4))

-- The call tells some text by its length, which is that of the prepared report, and puts it into the room if it fits.
pub record IsPreparedTold (bytes words : List ℕ) (others : Bool) (told : Told) (before after : List ℕ) : Type 0 where
  pub text : List ℕ
  pub answers : IsPreparedText bytes words others text
  pub count : told.length ≡ length text
  pub put : IsPut text before after

-- All that the call tells: with 0 a prepared report, and with any other outcome no text, and why. A report that is too long is
-- told as wrong.
pub record IsPrepareCall (bytes words : List ℕ) (others : Bool) (told : Told) (before after : List ℕ) : Type 0 where
  pub prepared : told.outcome ≡ 0 → IsPreparedTold bytes words others told before after
  pub refused : told.outcome ≢ 0 → IsUnpreparedBy bytes words told.outcome × HasNoText told before after
  pub long : most_bytes < length bytes → told.outcome ≡ 3
