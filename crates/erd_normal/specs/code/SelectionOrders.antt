-- The selections of a contest in the order of their names, and their ranks.
use Rattle.std.specs.Prelude.{◌≡◌, ℕ, ◌+◌, List, Option, Some, codes, map, option_map}
use Rattle.std.specs.List.{slice_get}
use Rattle.std.specs.Option.{option_cmp}
use Rattle.std.specs.declared.cmp.Ordering.{Ordering}
use Rattle.serde_json.specs.Data.{Data}
use Rattle.erd_check.specs.Values.{entries_at}
use Rattle.erd_meaning.specs.Keys.{Preference}
use Rattle.erd_meaning.specs.Lookups.{selection_in}
use Rattle.erd_meaning.specs.NameParts.{NameParts}
use Rattle.erd_meaning.specs.NumberedNames.{RankedParts}
use Rattle.erd_meaning.specs.Objects.{Placed, contests, numbered_selections}
use Rattle.erd_meaning.specs.RankedNames.{ranked_name_cmp}
use Rattle.erd_meaning.specs.SelectionNames.{name_cmp, name_of}
use Rattle.erd_meaning.specs.code.KeyOrders.{positions_by}
use Rattle.erd_normal.specs.code.NormalTree.{rank_of_name}
use denote.Ref.{Bor}

-- Borrowed names with ranks are compared by what they point to, with ranks in place of keys. None is less than any.
abbrev pub lent_name_cmp : Option (Bor RankedParts) → Option (Bor RankedParts) → Ordering
lent_name_cmp = option_cmp (λ m n. ranked_name_cmp m.now n.now)

-- The name of the selection at this position of the report, or none.
abbrev pub name_in : Preference → Data → ℕ → Option NameParts
name_in π t i = option_map (λ s. s.1) (selection_in π t i)

-- The values have the names of the selections of the report, from position s on.
abbrev pub AreNamedFrom : Preference → Data → ℕ → List Data → Type 0
AreNamedFrom π t s ds = (j : ℕ) (d : Data) → slice_get ds j ≡ Some d → name_in π t (s + j) ≡ name_of π t d

-- The positions of the selections of a contest among them, in the order of their names.
abbrev pub rising_selections : Preference → Data → Data → List ℕ
rising_selections π t contest = positions_by (option_cmp name_cmp) (map (name_of π t) (entries_at (codes "ContestSelection") contest))

-- The selections of a report have these ranks in their contests, by their positions in the report.
abbrev pub AreSelectionRanks : Preference → Data → List ℕ → Type 0
AreSelectionRanks π t ranks =
    (i c : ℕ) (contest o : Placed) → slice_get (numbered_selections t) i ≡ Some (c, o) → slice_get (contests t) c ≡ Some contest
    → slice_get ranks i ≡ Some (rank_of_name π t (entries_at (codes "ContestSelection") contest.value) (name_of π t o.value))
