-- The JSON value of a refusal, and its text.
use Rattle.std.specs.Prelude.{ℕ, ◌≡◌, List, ◌++◌, codes}
use Rattle.serde_json.specs.Data.{Data, string}
use Rattle.serde_json.specs.Written.{compact_text}
use Rattle.erd_check.specs.Numbers.{HasFittingNumbers}
use Rattle.erd_canon.specs.DataAnswers.{IsDataText}
use Rattle.erd_canon.specs.DataValues.{faults_data, refused_data}
use Rattle.erd_canon.specs.code.SideRefusals.{OnSide}
use Rattle.erd_canon.specs.declared.engines.outcome.Outcome.{Outcome}
use Rattle.erd_canon.specs.declared.engines.outcome.Outcome.TheVariants.{Bad, NotJson}
use Rattle.erd_canon.specs.declared.bytes.refusal.Refusal.{Refusal}
use Rattle.erd_canon.specs.declared.bytes.refusal.Refusal.TheVariants as refusal
use Rattle.erd_canon.specs.declared.bytes.refusal.Side.{Side}

-- The text of a value that `Says` holds of was appended. Each number in it fits 64 bits.
pub record AppendsData (Says : Data → Type 0) (before after : List ℕ) : Type 0 where
  pub value : Data
  pub says : Says value
  pub fits : HasFittingNumbers value
  pub wrote : after ≡ before ++ compact_text value

-- The text is that of a value that `Says` holds of.
pub record AnswersData (Says : Data → Type 0) (text : List ℕ) : Type 0 where
  pub value : Data
  pub says : Says value
  pub is_text : IsDataText text value

-- The value says why bytes are refused, and this is the outcome. Running out of memory has no value.
abbrev pub TellsRefusalAs : Outcome → Refusal → Data → Type 0
TellsRefusalAs Bad (refusal.Faults faults) value = value ≡ faults_data faults
TellsRefusalAs NotJson refusal.NotJson value = value ≡ string (codes "not JSON")
TellsRefusalAs outcome refused value = ⊥

-- The value is the object that names the side, with a value that `Says` holds of.
abbrev pub NamesSide : List ℕ → (Data → Type 0) → Data → Type 0
NamesSide name Says value = (why : Data) × Says why × (value ≡ refused_data name why)

-- The value is the object that names the side that is refused, and tells why.
abbrev pub TellsSideAs : (Refusal → Data → Type 0) → Side → Data → Type 0
TellsSideAs Tells refused value = OnSide (codes "left") (codes "right") (λ name why. NamesSide name (Tells why) value) refused
