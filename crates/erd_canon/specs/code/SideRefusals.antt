-- What is told of a refusal on one of two sides.
use Rattle.std.specs.Prelude.{◌≡◌, ℕ, List, [], ◌∷◌, map, codes, Option}
use Rattle.std.specs.Io.KnownBytes.{Appends}
use Rattle.erd_tables.specs.Faults.{fault_line}
use Rattle.erd_canon.specs.declared.engines.outcome.Outcome.{Outcome}
use Rattle.erd_canon.specs.declared.engines.outcome.Outcome.TheVariants.{Bad, NotJson}
use Rattle.erd_canon.specs.EngineTexts.{lines_of_side, text_of_lines}
use Rattle.erd_canon.specs.Writing.{IsPartWritten}
use Rattle.erd_canon.specs.declared.bytes.refusal.Refusal.{Refusal}
use Rattle.erd_canon.specs.declared.bytes.refusal.Refusal.TheVariants as refusal
use Rattle.erd_canon.specs.declared.bytes.refusal.Side.{Side}
use Rattle.erd_canon.specs.declared.bytes.refusal.Side.TheVariants as side

-- `Tells` holds of the words for the side that is refused, and of why it is. If both sides are accepted, there is none.
abbrev pub OnSide : List ℕ → List ℕ → (List ℕ → Refusal → Type 0) → Side → Type 0
OnSide left right Tells (side.Left refused) = Tells left refused
OnSide left right Tells (side.Right refused) = Tells right refused
OnSide left right Tells side.Memory = ⊥

-- The text is what is written about a refusal on one side, and this is its outcome. Running out of memory has no such text.
abbrev pub TellsRefusal : List ℕ → Refusal → Outcome → List ℕ → Type 0
TellsRefusal side (refusal.Faults faults) Bad out = out ≡ text_of_lines (lines_of_side side (map fault_line faults))
TellsRefusal side refusal.NotJson NotJson out = out ≡ text_of_lines (lines_of_side side (codes "not JSON" ∷ []))
TellsRefusal side refused outcome out = ⊥

-- If the bytes of the writer are known: what is written about a refusal on one side was written, and nothing else.
pub record IsRefusalWritten (side : List ℕ) (refused : Refusal) (outcome : Outcome) (before after : Option (List ℕ)) : Type 0 where
  pub text : List ℕ
  pub tells : TellsRefusal side refused outcome text
  pub wrote : Appends before after text

-- What is written about a refusal on one side has this text. If the bytes of the writer are known, a first part of it was
-- written, and nothing else.
pub record IsRefusalPartWritten (side : List ℕ) (refused : Refusal) (before after : Option (List ℕ)) : Type 0 where
  pub outcome : Outcome
  pub text : List ℕ
  pub tells : TellsRefusal side refused outcome text
  pub part : IsPartWritten before after text
