-- What an answer says about two meanings, and about which values it is asked.
use Rattle.std.specs.Prelude.{◌≡◌, ◌↔◌, Bool, true, false, Option, Some, None, ⊤}
use Rattle.std.specs.Option.{option_cmp}
use Rattle.serde_json.specs.Data.{Data}
use Rattle.serde_json.specs.Written.{has_float}
use Rattle.erd_tables.specs.declared.member.MemberKind.{MemberKind}
use Rattle.erd_tables.specs.declared.member.MemberKind.TheVariants as kind
use Rattle.std.specs.declared.cmp.Ordering.TheVariants.{Less}
use Rattle.erd_check.specs.Trees.{IsTree}
use Rattle.erd_meaning.specs.Keys.{has_keys, key_cmp}
use Rattle.erd_meaning.specs.Meaning.{Meaning, ObjectRecord}
use Rattle.erd_meaning.specs.declared.keys.key.Key.{Key}
use Rattle.erd_compare.specs.Differences.{Differ, record_at}
use Rattle.erd_compare.specs.declared.difference.Difference.{Difference}
use Rattle.erd_compare.specs.declared.difference.How.{How}
use Rattle.erd_compare.specs.declared.difference.Part.{Part}

-- ---- what is compared

-- The value is a tree, and each of its numbers is whole.
pub record IsWholeTree (d : Data) : Type 0 where
  pub is_tree : IsTree d
  pub whole : has_float d ≡ false

-- If members of this kind hold references, these name objects of a family that has keys.
abbrev pub NamesKeys : MemberKind → Type 0
NamesKeys (kind.One f) = has_keys f ≡ true
NamesKeys (kind.Many f) = has_keys f ≡ true
NamesKeys k = ⊤

-- ---- answers

-- The answer is true if and only if the two are equal.
abbrev pub Decides : {A : Type 0} → Bool → A → A → Type 0
Decides answer a b = (answer ≡ true) ↔ (a ≡ b)

-- A record for each key, or for none.
abbrev pub RecordMap : Type 0
RecordMap = Option Key → Option ObjectRecord

-- The two maps differ in this way at the key, and they agree at every lesser key.
pub record DifferAtKey (m n : RecordMap) (key : Option Key) (how : How) : Type 0 where
  pub differ : Differ (m key) (n key) how
  pub least : (k : Option Key) → (option_cmp key_cmp k key ≡ Less) → m k ≡ n k

-- The difference is at this part. There the meanings differ in this way at its key, and they agree at every lesser key.
pub record DifferAtPart (m n : Meaning) (part : Part) (d : Difference) : Type 0 where
  pub its_part : d.part ≡ part
  pub at : DifferAtKey (record_at m part) (record_at n part) d.key d.how

-- The answer is the first difference at the part, or none if the meanings agree there at every key.
abbrev pub TellsPart : Meaning → Meaning → Part → Option Difference → Type 0
TellsPart m n part None = (k : Option Key) → record_at m part k ≡ record_at n part k
TellsPart m n part (Some d) = DifferAtPart m n part d
