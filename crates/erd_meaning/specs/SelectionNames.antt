-- The names of the selections of a contest. They tell selections apart independently of the vendor.
use Rattle.std.specs.Prelude.{ℕ, ℤ, List, [], Bool, false, Option, None, option_and_then, option_map, unwrap_or, codes}
use Rattle.std.specs.Cmp.Lexicographic.{slice_cmp}
use Rattle.std.specs.List.{filter_map}
use Rattle.std.specs.Option.{option_cmp}
use Rattle.std.specs.Ordering.{int_cmp, bool_cmp, ordering_then}
use Rattle.std.specs.declared.cmp.Ordering.{Ordering}
use Rattle.serde_json.specs.Data.{Data}
use Rattle.serde_json.specs.Find.{get, as_str, as_bool, as_number, as_integer}
use Rattle.serde_json.specs.Written.{compact_text}
use Rattle.erd_tables.specs.Classes.{class_name}
use Rattle.erd_tables.specs.Texts.{text_cmp}
use Rattle.erd_tables.specs.declared.class.Class.{Class}
use Rattle.erd_tables.specs.declared.class.Class.TheVariants as class
use Rattle.erd_tables.specs.declared.class.Family.{Family}
use Rattle.erd_tables.specs.declared.class.Family.TheVariants as family
use Rattle.erd_tables.specs.declared.class.Role.{Role}
use Rattle.erd_tables.specs.declared.class.Role.TheVariants as role
use Rattle.erd_check.specs.Wants.{class_of_object}
use Rattle.erd_meaning.specs.Keys.{Preference, key_cmp, key_of}
use Rattle.erd_check.specs.Values.{entries_at}
use Rattle.erd_text.specs.RisingLists.{rising_list, with_rising_text}
use Rattle.erd_meaning.specs.NameParts.{NameParts}
use Rattle.erd_meaning.specs.Objects.{owner}
use Rattle.erd_meaning.specs.declared.keys.key.Key.{Key}

-- ---- the six parts

-- The key of the object of the family that the reference names, or none if there is no such object or it has no key.
abbrev pub key_named : Preference → Data → Family → List ℕ → Option Key
key_named π t f id = option_and_then (key_of π) (owner t f id)

-- The keys that the references in a list lead to, if the function says which key a reference leads to.
abbrev pub keys_found : (List ℕ → Option Key) → List Data → List Key
keys_found key references = filter_map (λ r. option_and_then key (as_str r)) references

-- The keys of the objects of the family that the references in a list name.
abbrev pub keys_named : Preference → Data → Family → List Data → List Key
keys_named π t f references = keys_found (key_named π t f) references

-- The keys of the candidates of a CandidateSelection or of the parties of a PartySelection, and no keys for any other class.
-- The function says which key a reference to an object of the family leads to. (classes CandidateSelection, PartySelection)
abbrev pub keys_of_selection : (Family → List ℕ → Option Key) → Class → Data → List Key
keys_of_selection key class.CandidateSelection d = keys_found (key family.Candidate) (entries_at (codes "CandidateIds") d)
keys_of_selection key class.PartySelection d = keys_found (key family.Party) (entries_at (codes "PartyIds") d)
keys_of_selection key c d = []

-- True for a CandidateSelection whose `IsWriteIn` is true. (class CandidateSelection)
abbrev pub is_write_in : Class → Data → Bool
is_write_in class.CandidateSelection d = unwrap_or (option_and_then as_bool (get (codes "IsWriteIn") d)) false
is_write_in c d = false

-- The whole number in `SequenceOrder`, or none. (class ContestSelection)
abbrev pub order_of_selection : Data → Option ℤ
order_of_selection d = option_and_then as_integer (option_and_then as_number (get (codes "SequenceOrder") d))

-- The compact text of `Selection` in a BallotMeasureSelection, with its translations in rising order, and none for any other
-- class. (class BallotMeasureSelection)
abbrev pub label_of_selection : Class → Data → Option (List ℕ)
label_of_selection class.BallotMeasureSelection d =
    option_map (λ v. compact_text (with_rising_text v)) (get (codes "Selection") d)
label_of_selection c d = None

-- ---- names

-- The name of a selection of this class, made of its six parts. The function says which keys its references lead to.
abbrev pub name_in_class : Preference → (Family → List ℕ → Option Key) → Class → Data → NameParts
name_in_class π key c d = record {
  class = c;
  keys = rising_list key_cmp (keys_of_selection key c d);
  write_in = is_write_in c d;
  order = order_of_selection d;
  label = label_of_selection c d;
  identifier = key_of π d;
}

-- The role of the objects in the `ContestSelection` of a contest.
abbrev pub selection_role : Role
selection_role = role.OfFamily family.Selection

-- The name of a selection, or none if its `@type` is not that of a selection class. The function says which keys its references
-- lead to.
abbrev pub name_by : Preference → (Family → List ℕ → Option Key) → Data → Option NameParts
name_by π key d = option_map (λ c. name_in_class π key c d) (class_of_object selection_role d)

-- The name of a selection of the report, or none if its `@type` is not that of a selection class.
abbrev pub name_of : Preference → Data → Data → Option NameParts
name_of π t d = name_by π (key_named π t) d

-- Classes are compared by their names.
abbrev pub class_cmp : Class → Class → Ordering
class_cmp c d = text_cmp (class_name c) (class_name d)

-- Names are compared part by part. Lists of keys go entry by entry, false comes before true, and none before any value.
-- (profile)
abbrev pub name_cmp : NameParts → NameParts → Ordering
name_cmp a b =
    ordering_then (class_cmp a.class b.class)
    (ordering_then (slice_cmp key_cmp a.keys b.keys)
    (ordering_then (bool_cmp a.write_in b.write_in)
    (ordering_then (option_cmp int_cmp a.order b.order)
    (ordering_then (option_cmp text_cmp a.label b.label)
    (option_cmp key_cmp a.identifier b.identifier)))))

-- The name of the selection that the reference names, or none if it names no selection.
abbrev pub name_named : Preference → Data → List ℕ → Option NameParts
name_named π t id = option_and_then (name_of π t) (owner t family.Selection id)
