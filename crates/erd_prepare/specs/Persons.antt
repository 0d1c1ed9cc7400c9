-- Persons to whom nothing refers, such as those who stood only in the administration of a unit.
use Rattle.std.specs.Prelude.{◌≡◌, ℕ, List, [], ◌∷◌, ◌++◌, Bool, false, not, ◌||◌, ◌&&◌, if◌then◌else◌, Option, Some, None, codes, option_and_then}
use Rattle.std.specs.Prelude.{option_to_list, String}
use Rattle.std.specs.BTreeSet.{BTreeSet, contains_text}
use Rattle.std.specs.List.{list_any}
use Rattle.std.specs.Option.{option_map_or}
use Rattle.std.specs.Str.{bytes_eq}
use Rattle.std.specs.declared.alloc.Global.{Global}
use Rattle.serde_json.specs.Data.{Data, null, boolean, number, string, array, object, Items, no_items, item, Members, no_members, member}
use Rattle.serde_json.specs.Find.{as_str, get}
use Rattle.erd_tables.specs.Table.{is_reference_name}
use Rattle.erd_tables.specs.declared.class.Family.TheVariants as family
use Rattle.erd_tables.specs.declared.member.MemberKind.TheVariants as kind
use Rattle.erd_check.specs.Faults.{is_object}
use Rattle.erd_check.specs.declared.want.Want.{Want}
use Rattle.erd_check.specs.declared.want.Want.TheVariants.{Member}
use Rattle.erd_prepare.specs.Rules.{Rule, scope_in}

-- The texts among the entries of an array.
abbrev pub texts_of : Items → List (List ℕ)
texts_of no_items = []
texts_of (item d ds) = option_to_list (as_str d) ++ texts_of ds

-- The text of a member with one reference, or the texts of one with several.
abbrev pub texts_in : Data → List (List ℕ)
texts_in null = []
texts_in (boolean b) = []
texts_in (number n) = []
texts_in (string s) = s ∷ []
texts_in (array ds) = texts_of ds
texts_in (object ms) = []

-- The texts in members whose names end as those of references do, in all objects of the value.
abbrev mutual
  pub references : Data → List (List ℕ)
  references null = []
  references (boolean b) = []
  references (number n) = []
  references (string s) = []
  references (array ds) = references_of_items ds
  references (object ms) = references_of_members ms

  pub references_of_items : Items → List (List ℕ)
  references_of_items no_items = []
  references_of_items (item d ds) = references d ++ references_of_items ds

  pub references_of_members : Members → List (List ℕ)
  references_of_members no_members = []
  references_of_members (member k d ms) = ((if is_reference_name k then texts_in d else []) ++ references d) ++ references_of_members ms

-- True if the text is one of these.
abbrev pub is_among : List (List ℕ) → List ℕ → Bool
is_among ss id = list_any (λ s. bytes_eq s id) ss

-- True for a person without an `@id` that is used. The list of persons stands in the report itself.
abbrev pub is_unused_person : (List ℕ → Bool) → Option Want → Data → Bool
is_unused_person is_used (Some (Member (kind.Keyed family.Person) required)) d =
    is_object d && not (option_map_or is_used (option_and_then as_str (get (codes "@id") d)) false)
is_unused_person is_used w d = false

-- The step, given which texts are used.
abbrev pub persons_unless : (List ℕ → Bool) → Rule
persons_unless is_used = record {
  scopes = scope_in;
  shapes = λ p w d. None;
  wraps = λ p w d. false;
  drops = λ p s k d. false;
  lets_go = λ p w d. is_unused_person is_used w d;
  puts = λ p w d. [];
}

-- The step: each person goes to whom no reference of the report refers.
abbrev pub unused_persons : Data → Rule
unused_persons t = persons_unless (is_among (references t))

-- ---- for the code

-- These texts have been added to the set.
abbrev pub Adds : List (List ℕ) → BTreeSet (String Global) → BTreeSet (String Global) → Type 0
Adds ss old new = (id : List ℕ) → contains_text new id ≡ (is_among ss id || contains_text old id)
