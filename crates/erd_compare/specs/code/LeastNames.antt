-- The least name at which two objects of one class differ.
use Rattle.std.specs.Prelude.{ℕ, ◌≡◌, ◌≢◌, List, Option, Some, None, true, if◌then◌else◌}
use Rattle.std.specs.Option.{is_some}
use Rattle.std.specs.Ordering.{is_lt}
use Rattle.std.specs.declared.cmp.Ordering.TheVariants.{Less}
use Rattle.serde_json.specs.Data.{Data}
use Rattle.serde_json.specs.Find.{as_object}
use Rattle.erd_tables.specs.Texts.{text_cmp}
use Rattle.erd_tables.specs.declared.class.Class.{Class}
use Rattle.erd_meaning.specs.Keys.{Preference}
use Rattle.erd_meaning.specs.Meaning.{MemberValue, ObjectRecord}
use Rattle.erd_meaning.specs.Records.{member_of_class}

-- What an object means under each name.
abbrev pub MemberMap : Type 0
MemberMap = List ℕ → Option MemberValue

-- The record of an object of the class.
abbrev pub record_of_class : Preference → Data → Class → Data → ObjectRecord
record_of_class π t c d = record { class = c; members = member_of_class π t d c }

-- The value is a JSON object.
abbrev pub IsObject : Data → Type 0
IsObject d = is_some (as_object d) ≡ true

-- The two maps differ at the name, and they agree at every lesser name.
pub record DifferAtName (m n : MemberMap) (name : List ℕ) : Type 0 where
  pub differ : m name ≢ n name
  pub least : (k : List ℕ) → text_cmp k name ≡ Less → m k ≡ n k

-- The answer is the least name at which the two maps differ, or none if they are equal.
abbrev pub TellsLeastName : MemberMap → MemberMap → Option (List ℕ) → Type 0
TellsLeastName m n None = m ≡ n
TellsLeastName m n (Some name) = DifferAtName m n name

-- The lesser of two names. If there is only one, it is that one.
abbrev pub lesser_name : Option (List ℕ) → Option (List ℕ) → Option (List ℕ)
lesser_name None other = other
lesser_name (Some k) None = Some k
lesser_name (Some k) (Some l) = if is_lt (text_cmp l k) then Some l else Some k
