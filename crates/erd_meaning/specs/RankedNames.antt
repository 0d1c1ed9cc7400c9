-- Names of selections with the ranks of their keys. The rank of a key is the number of objects of its family that have lesser
-- keys. Names of one report are compared by these ranks in no more time if keys are long.
use Rattle.std.specs.Prelude.{◌≡◌, ℕ, Option, Some, map, option_map}
use Rattle.std.specs.Hash.{HashWrites}
use Rattle.std.specs.declared.cmp.Ordering.{Ordering}
use Rattle.serde_json.specs.Data.{Data}
use Rattle.erd_tables.specs.declared.class.Class.{Class}
use Rattle.erd_tables.specs.declared.class.Class.TheVariants as class
use Rattle.erd_tables.specs.declared.class.Family.{Family}
use Rattle.erd_tables.specs.declared.class.Family.TheVariants as family
use Rattle.erd_meaning.specs.Keys.{Preference}
use Rattle.erd_meaning.specs.Lookups.{rank_of, selection_in}
use Rattle.erd_meaning.specs.NameParts.{NameParts}
use Rattle.erd_meaning.specs.NumberedNames.{RankedParts, numbered_name_cmp, numbered_name_writes, numbered_parts}

-- The family of the objects that a selection of the class is for. Only candidates and parties have selections.
abbrev pub family_chosen : Class → Family
family_chosen class.PartySelection = family.Party
family_chosen c = family.Candidate

-- The name with the ranks of its keys in the report.
abbrev pub ranked_name : Preference → Data → NameParts → RankedParts
ranked_name π t n = record { name = n; ranks = map (λ key. rank_of π t (family_chosen n.class) (Some key)) n.keys }

-- The position of a contest, and the name of one of its selections with its ranks.
abbrev pub PlacedName : Type 0
PlacedName = ℕ × RankedParts

-- The selection at this position of a report: the position of its contest, and its name with the ranks of its keys.
abbrev pub ranked_selection_in : Preference → Data → ℕ → Option PlacedName
ranked_selection_in π t i = option_map (λ s. (s.0, ranked_name π t s.1)) (selection_in π t i)

-- A selection of the report has the name, and these are the ranks of its keys in the report.
pub record IsRankedIn (π : Preference) (t : Data) (r : RankedParts) : Type 0 where
  pub contest : ℕ
  pub index : ℕ
  pub is : ranked_selection_in π t index ≡ Some (contest, r)

-- The name with the ranks in place of its keys.
abbrev pub with_ranks : RankedParts → RankedParts
with_ranks r = numbered_parts r.name r.ranks

-- These are compared as names are, with the ranks in place of the keys.
abbrev pub ranked_name_cmp : RankedParts → RankedParts → Ordering
ranked_name_cmp a b = numbered_name_cmp (with_ranks a) (with_ranks b)

-- What the hasher is given of such a name.
abbrev pub ranked_name_writes : RankedParts → HashWrites
ranked_name_writes r = numbered_name_writes (with_ranks r)
