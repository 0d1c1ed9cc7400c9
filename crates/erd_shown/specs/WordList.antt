-- What ballots print, as a list that has each object of a report once. All of this is the profile's own.
use Rattle.std.specs.Prelude.{ℕ, List, [], ◌∷◌, Bool, true, false, if◌then◌else◌, Option, None, map, codes}
use Rattle.std.specs.List.{flat_map}
use Rattle.std.specs.Option.{option_map_or}
use Rattle.serde_json.specs.Data.{Data, null, string, object, Members, no_members, member}
use Rattle.erd_tables.specs.Classes.{text_of_class}
use Rattle.erd_tables.specs.declared.class.Class.{Class}
use Rattle.erd_tables.specs.declared.class.Family.{Family}
use Rattle.erd_tables.specs.declared.class.Family.TheVariants as family
use Rattle.erd_tables.specs.declared.class.Role.{Role}
use Rattle.erd_tables.specs.declared.class.Role.TheVariants as role
use Rattle.erd_check.specs.Values.{entries_at}
use Rattle.erd_check.specs.Wants.{class_of_object}
use Rattle.erd_meaning.specs.Keys.{Preference}
use Rattle.erd_meaning.specs.Lookups.{election_key_in, key_in, rising_election_keys, rising_keys}
use Rattle.erd_meaning.specs.NameParts.{NameParts}
use Rattle.erd_meaning.specs.SelectionNames.{name_of}
use Rattle.erd_meaning.specs.declared.keys.key.Key.{Key}
use Rattle.erd_shown.specs.BallotWords.{in_name_order, words_data, words_in_class}
use Rattle.erd_shown.specs.KeyData.{array_of, shown_key_or_null, shown_name}
use Rattle.erd_shown.specs.Shown.{placed_in}
use Rattle.erd_shown.specs.declared.word_list.WordedObject.{WordedObject}

-- ---- which objects the list has

-- The roles of these objects, in their order. Styles print nothing of themselves, and selections are told with their contests.
abbrev pub worded_roles : List Role
worded_roles =
    role.OfFamily family.Unit ∷ role.OfFamily family.Party ∷ role.OfFamily family.Person ∷ role.OfFamily family.Office
    ∷ role.OfFamily family.Header ∷ role.Election ∷ role.OfFamily family.Candidate ∷ role.OfFamily family.Contest ∷ []

-- The positions of the objects with a role, in the rising order of their keys.
abbrev pub positions_by_key : Preference → Data → Role → List ℕ
positions_by_key π t (role.OfFamily f) = map (λ p. p.1) (rising_keys π t f)
positions_by_key π t role.Election = map (λ p. p.1) (rising_election_keys π t)
positions_by_key π t r = []

-- The same as objects of the list.
abbrev pub worded_with_role : Preference → Data → Role → List WordedObject
worded_with_role π t r = map (λ i. record { role = r; position = i }) (positions_by_key π t r)

-- The objects of the list: role by role, and with one role in the rising order of their keys.
abbrev pub worded_objects : Preference → Data → List WordedObject
worded_objects π t = flat_map (worded_with_role π t) worded_roles

-- ---- what is said of an object

-- The word for what an object of the family is.
abbrev pub family_word : Family → List ℕ
family_word family.Unit = codes "unit"
family_word family.Party = codes "party"
family_word family.Person = codes "person"
family_word family.Office = codes "office"
family_word family.Header = codes "header"
family_word family.Candidate = codes "candidate"
family_word family.Contest = codes "contest"
family_word family.Style = codes "style"
family_word family.Selection = codes "selection"

-- The word for what an object with a role is. The list has objects of families and elections.
abbrev pub role_word : Role → List ℕ
role_word (role.OfFamily f) = family_word f
role_word role.Election = codes "election"
role_word r = codes "report"

-- The key of the object with a role at a position, or none if there is no such object or it has no key.
abbrev pub key_with_role : Preference → Data → Role → ℕ → Option Key
key_with_role π t (role.OfFamily f) i = key_in π f t i
key_with_role π t role.Election i = election_key_in π t i
key_with_role π t r i = None

-- A selection with a name: the name, and what ballots print of it.
abbrev pub named_words : Preference → Data → Option NameParts → Data → Data
named_words π t n d = object (member (codes "name") (shown_name n) (member (codes "words") (words_data π t family.Selection d) no_members))

-- Selections, in the rising order of their names.
abbrev pub worded_selections : Preference → Data → List Data → Data
worded_selections π t ds = array_of (map (λ d. named_words π t (name_of π t d) d) (in_name_order π t ds))

-- What ballots print of an object of the class, as the last member of its entry.
abbrev pub words_members : Preference → Data → Class → Data → Members
words_members π t c d = member (codes "words") (words_in_class π t c d) no_members

-- The selections of a contest, and what ballots print of itself.
abbrev pub contest_members : Preference → Data → Class → Data → Members
contest_members π t c d = member (codes "selections") (worded_selections π t (entries_at (codes "ContestSelection") d)) (words_members π t c d)

-- True for the role of contests.
abbrev pub is_contest_role : Role → Bool
is_contest_role (role.OfFamily family.Contest) = true
is_contest_role r = false

-- What the object is, and what ballots print of it.
abbrev pub role_members : Preference → Data → Role → Class → Data → Members
role_members π t r c d = member (codes "part") (string (role_word r)) (if is_contest_role r then contest_members π t c d else words_members π t c d)

-- The entry of an object of the class: the class, its key, what it is, and what ballots print of it.
abbrev pub worded_in_class : Preference → Data → WordedObject → Data → Class → Data
worded_in_class π t o d c =
    object (member (codes "class") (string (text_of_class c))
    (member (codes "key") (shown_key_or_null (key_with_role π t o.role o.position)) (role_members π t o.role c d)))

-- The same, or null if its class does not have the role.
abbrev pub worded_value : Preference → Data → WordedObject → Data → Data
worded_value π t o d = option_map_or (worded_in_class π t o d) (class_of_object o.role d) null

-- The entry of an object of the list, or null if there is none.
abbrev pub worded_data : Preference → Data → WordedObject → Data
worded_data π t o = option_map_or (λ p. worded_value π t o p.value) (placed_in t o.role o.position) null
