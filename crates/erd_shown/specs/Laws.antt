-- The laws of what is written for members and objects. In accepted reports, two are written alike if and only if they mean the
-- same.
use Rattle.std.specs.Prelude.{ℕ, ◌≡◌, ◌↔◌, List, Option, Some, Contains}
use Rattle.serde_json.specs.Data.{Data}
use Rattle.erd_tables.specs.declared.class.Class.{Class}
use Rattle.erd_tables.specs.declared.class.Family.TheVariants as family
use Rattle.erd_tables.specs.declared.class.Role.{Role}
use Rattle.erd_tables.specs.declared.class.Role.TheVariants as role
use Rattle.erd_check.specs.Numbers.{HasFittingNumbers}
use Rattle.erd_check.specs.Trees.{IsTree}
use Rattle.erd_check.specs.Wants.{class_of_object}
use Rattle.erd_meaning.specs.Accepted.{IsAccepted}
use Rattle.erd_meaning.specs.Keys.{Preference}
use Rattle.erd_meaning.specs.Meaning.{ObjectRecord}
use Rattle.erd_meaning.specs.Objects.{Placed, objects_with_role, report_of}
use Rattle.erd_meaning.specs.Records.{member_of_class, object_record, placed_record}
use Rattle.erd_meaning.specs.SelectionNames.{selection_role}
use Rattle.erd_shown.specs.Shown.{member_data, object_data}

-- A report that a call takes: it is accepted, and its numbers fit 64 bits. (the clauses of `Report::tree`)
pub record IsTaken (π : Preference) (t : Data) : Type 0 where
  pub accepted : IsAccepted π t
  pub is_tree : IsTree t
  pub fits : HasFittingNumbers t

-- The object, with its place, is the report, or stands in it with this role.
abbrev pub StandsAs : Data → Role → Placed → Type 0
StandsAs t role.Report o = o ≡ report_of t
StandsAs t r o = Contains (objects_with_role r t) o

-- What an object with the role means: an object of a family with the key of the election that holds it, but for a selection,
-- which its contest holds.
abbrev pub placed_meaning : Preference → Data → Role → Placed → Option ObjectRecord
placed_meaning π t (role.OfFamily family.Selection) o = object_record π t selection_role o.value
placed_meaning π t (role.OfFamily f) o = placed_record π t f o
placed_meaning π t r o = object_record π t r o.value

-- The members with one name, of two objects of one class, are written alike if and only if they mean the same. The two objects
-- may stand in two reports, each under its own preference.
abbrev pub MembersTell : Type 0
MembersTell =
    (π ρ : Preference) (t u : Data) (r : Role) (o p : Placed) (c : Class) (name : List ℕ) → IsTaken π t → IsTaken ρ u → StandsAs t r o → StandsAs u r p
    → class_of_object r o.value ≡ Some c → class_of_object r p.value ≡ Some c
    → (member_data π t c name o.value ≡ member_data ρ u c name p.value) ↔ (member_of_class π t o.value c name ≡ member_of_class ρ u p.value c name)

-- Two objects with one role are written alike if and only if they mean the same.
abbrev pub ObjectsTell : Type 0
ObjectsTell =
    (π ρ : Preference) (t u : Data) (r : Role) (o p : Placed) → IsTaken π t → IsTaken ρ u → StandsAs t r o → StandsAs u r p
    → (object_data π t r o ≡ object_data ρ u r p) ↔ (placed_meaning π t r o ≡ placed_meaning ρ u r p)
