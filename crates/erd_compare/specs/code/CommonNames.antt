-- Numbers in place of the names of selections: selections of two reports have one number if and only if they have one name.
use Rattle.std.specs.Prelude.{◌≡◌, Bool, ℕ, List, [], Option, map, option_map}
use Rattle.std.specs.List.{filter_map, position_or_len}
use Rattle.std.specs.Ordering.{eq_by_cmp}
use Rattle.indexmap.specs.IndexSet.{insert_all}
use Rattle.serde_json.specs.Data.{Data}
use Rattle.serde_json.specs.View.{view}
use Rattle.erd_tables.specs.declared.class.Family.TheVariants as family
use Rattle.erd_tables.specs.declared.class.Role.{Role}
use Rattle.erd_tables.specs.declared.class.Role.TheVariants.{OfFamily}
use Rattle.erd_meaning.specs.Judged.{Judged}
use Rattle.erd_meaning.specs.NameParts.{NameParts}
use Rattle.erd_meaning.specs.Objects.{objects}
use Rattle.erd_meaning.specs.SelectionNames.{name_of}
use Rattle.erd_meaning.specs.NumberedNames.{RankedParts, numbered_name_cmp, numbered_parts}
use Rattle.erd_meaning.specs.RankedNames.{family_chosen, ranked_name}
use Rattle.erd_compare.specs.code.CommonRanks.{common_rank_of, rank_of_key}
use Rattle.erd_compare.specs.code.RankedSides.{on_side}
use Rattle.erd_compare.specs.declared.ranks.common_ranks.CommonRanks.{CommonRanks}
use Rattle.erd_compare.specs.declared.ranks.name_numbers.NameNumbers.{NameNumbers}
use Rattle.erd_compare.specs.declared.ranks.common_ranks.ComparedReport.{ComparedReport}
use Rattle.erd_compare.specs.declared.ranks.common_ranks.ComparedReport.TheVariants.{Left, Right}

-- ---- names with common ranks in place of keys

-- The role of the objects whose keys are in the name.
abbrev pub role_of_name : NameParts → Role
role_of_name n = OfFamily (family_chosen n.class)

-- The common ranks of the keys in a name.
abbrev pub ranks_in_name : Judged → Judged → NameParts → List ℕ
ranks_in_name a b n = map (rank_of_key a b (role_of_name n)) n.keys

-- The name with common ranks in place of its keys.
abbrev pub name_by_ranks : Judged → Judged → NameParts → RankedParts
name_by_ranks a b n = numbered_parts n (ranks_in_name a b n)

-- The name of a selection with common ranks in place of its keys, or none if its `@type` is not that of a selection class.
abbrev pub name_by_ranks_of : Judged → Judged → ComparedReport → Data → Option RankedParts
name_by_ranks_of a b side d = option_map (name_by_ranks a b) (name_of (on_side side a b).prefer (view (on_side side a b).tree) d)

-- The common ranks of the keys in a name, by their ranks on the side.
abbrev pub ranks_told : CommonRanks → ComparedReport → RankedParts → List ℕ
ranks_told common side r = filter_map (common_rank_of common side (role_of_name r.name)) r.ranks

-- The name of a selection of the report, with these common ranks in place of its keys.
abbrev pub name_told : CommonRanks → ComparedReport → Judged → Data → Option RankedParts
name_told common side a d = option_map (λ n. numbered_parts n (ranks_told common side (ranked_name a.prefer (view a.tree) n)))
    (name_of a.prefer (view a.tree) d)

-- True if the two names are equal.
abbrev pub name_eq : RankedParts → RankedParts → Bool
name_eq = eq_by_cmp numbered_name_cmp

-- ---- numbers in place of names

-- The names of the selections of a report, in the order of the report.
abbrev pub names_on : Judged → Judged → ComparedReport → List RankedParts
names_on a b side = filter_map (λ o. name_by_ranks_of a b side o.value) (objects family.Selection (view (on_side side a b).tree))

-- The names of the selections of both reports, each once, in the order in which they come first.
abbrev pub names_of_both : Judged → Judged → List RankedParts
names_of_both a b = insert_all name_eq (insert_all name_eq [] (names_on a b Left)) (names_on a b Right)

-- The number of a name: its position among these.
abbrev pub number_of_name : Judged → Judged → NameParts → ℕ
number_of_name a b n = position_or_len (name_eq (name_by_ranks a b n)) (names_of_both a b)

-- The number of the name of a selection, or none if its `@type` is not that of a selection class.
abbrev pub number_of_selection : Judged → Judged → ComparedReport → Data → Option ℕ
number_of_selection a b side d = option_map (number_of_name a b) (name_of (on_side side a b).prefer (view (on_side side a b).tree) d)

-- The numbers of the names of a report's selections.
abbrev pub numbers_on : ComparedReport → NameNumbers → List (Option ℕ)
numbers_on Left n = n.left.items
numbers_on Right n = n.right.items

-- These are the numbers of the names of the selections of both reports, in the order of each.
abbrev pub AreNameNumbers : Judged → Judged → NameNumbers → Type 0
AreNameNumbers a b n = (side : ComparedReport) → numbers_on side n ≡ map (λ o. number_of_selection a b side o.value)
    (objects family.Selection (view (on_side side a b).tree))
