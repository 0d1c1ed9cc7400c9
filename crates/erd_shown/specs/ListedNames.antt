-- The names of the selections of a contest on a ballot. All of this is the profile's own.
use Rattle.std.specs.Prelude.{ℕ, List, [], ◌∷◌, Bool, true, false, if◌then◌else◌, option_and_then, codes}
use Rattle.std.specs.List.{filter_map}
use Rattle.std.specs.Option.{option_map_or}
use Rattle.serde_json.specs.Data.{Data}
use Rattle.serde_json.specs.Find.{as_str}
use Rattle.erd_tables.specs.declared.class.Family.TheVariants as family
use Rattle.erd_check.specs.Values.{entries_at, text_at}
use Rattle.erd_text.specs.RisingLists.{rising_list}
use Rattle.erd_meaning.specs.Keys.{Preference}
use Rattle.erd_meaning.specs.NameParts.{NameParts}
use Rattle.erd_meaning.specs.Objects.{owner}
use Rattle.erd_meaning.specs.Records.{class_of_node, is_header_class}
use Rattle.erd_meaning.specs.SelectionNames.{name_cmp, name_named, name_of}

-- The references to selections that a ballot lists.
abbrev pub listed_at : Data → List Data
listed_at d = entries_at (codes "OrderedContestSelectionIds") d

-- True if a list has entries.
abbrev pub is_filled : List Data → Bool
is_filled [] = false
is_filled (d ∷ ds) = true

-- True if a ballot lists selections for a contest.
abbrev pub lists_selections : Data → Bool
lists_selections d = is_filled (listed_at d)

-- The names of the selections that references name, in their order.
abbrev pub names_named : Preference → Data → List Data → List NameParts
names_named π t rs = filter_map (λ r. option_and_then (name_named π t) (as_str r)) rs

-- The names of selections, in rising order.
abbrev pub sorted_names : Preference → Data → List Data → List NameParts
sorted_names π t ds = rising_list name_cmp (filter_map (name_of π t) ds)

-- The selections of the contest that a reference names.
abbrev pub selections_named : Data → List ℕ → List Data
selections_named t id = option_map_or (entries_at (codes "ContestSelection")) (owner t family.Contest id) []

-- All selections of the contest of a line of a ballot. A header has none.
abbrev pub selections_on : Data → Data → List Data
selections_on t d = if is_header_class (class_of_node d) then [] else selections_named t (text_at (codes "ContestId") d)

-- The names of the selections of a contest on a ballot: those that it lists, in their order, or if it lists none all of the
-- contest, in rising order.
abbrev pub names_on : Preference → Data → Data → List NameParts
names_on π t d =
    if lists_selections d
    then names_named π t (listed_at d)
    else sorted_names π t (selections_on t d)

-- The same for two ballots beside each other: in rising order if one of them lists none, which gives no order.
abbrev pub names_in_order : Bool → List NameParts → List NameParts
names_in_order both_listed ns = if both_listed then ns else rising_list name_cmp ns
