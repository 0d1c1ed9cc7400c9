-- Common ranks in place of keys: objects of two reports have the same common rank if and only if they have the same key.
use Rattle.std.specs.Prelude.{◌≡◌, ℕ, suc, List, [], ◌∷◌, ◌++◌, map, true, if◌then◌else◌, Option, Some}
use Rattle.std.specs.List.{slice_get}
use Rattle.std.specs.Option.{option_cmp}
use Rattle.std.specs.Ordering.{is_eq}
use Rattle.std.specs.declared.cmp.Ordering.{Ordering}
use Rattle.std.specs.declared.cmp.Ordering.TheVariants.{Greater}
use Rattle.serde_json.specs.View.{view}
use Rattle.erd_tables.specs.Families.{entry_of}
use Rattle.erd_tables.specs.declared.class.Role.{Role}
use Rattle.erd_tables.specs.declared.class.Role.TheVariants as role
use Rattle.erd_meaning.specs.Judged.{Judged}
use Rattle.erd_meaning.specs.Keys.{key_cmp}
use Rattle.erd_meaning.specs.declared.keys.key.Key.{Key}
use Rattle.erd_compare.specs.code.KeyedDifferences.{is_ranked, rising_in_role}
use Rattle.erd_compare.specs.declared.ranks.common_ranks.CommonRanks.{CommonRanks}
use Rattle.erd_compare.specs.declared.ranks.common_ranks.ComparedReport.{ComparedReport}
use Rattle.erd_compare.specs.declared.ranks.common_ranks.ComparedReport.TheVariants.{Left, Right}

-- The first position of the key in the list, or the length of the list if the key is not in it.
abbrev pub place_of : Option Key → List (Option Key) → ℕ
place_of k [] = 0
place_of k (l ∷ ls) = if is_eq (option_cmp key_cmp k l) then 0 else suc (place_of k ls)

-- The common rank of a key of objects with the role: its first position among the rising keys of the left report, followed by
-- those of the right report.
abbrev pub common_rank : Judged → Judged → Role → Option Key → ℕ
common_rank a b r k = place_of k (rising_in_role a.prefer (view a.tree) r ++ rising_in_role b.prefer (view b.tree) r)

-- The common rank of a key.
abbrev pub rank_of_key : Judged → Judged → Role → Key → ℕ
rank_of_key a b r k = common_rank a b r (Some k)

-- These are the common ranks of the keys of the right report, in the rising order of these keys.
abbrev pub AreCommonRanks : Judged → Judged → Role → List ℕ → Type 0
AreCommonRanks a b r ranks = ranks ≡ map (common_rank a b r) (rising_in_role b.prefer (view b.tree) r)

-- The common ranks that are kept for the role. For the report itself, which has no key, they are those of one rank.
abbrev pub common_ranks_in : Role → CommonRanks → List ℕ
common_ranks_in (role.OfFamily f) common = (entry_of common.families f).items
common_ranks_in role.Election common = common.elections.items
common_ranks_in r common = 0 ∷ []

-- These are the common ranks of the keys of the right report with each role that has ranks.
abbrev pub AreAllCommonRanks : Judged → Judged → CommonRanks → Type 0
AreAllCommonRanks a b common = (r : Role) → is_ranked r ≡ true → AreCommonRanks a b r (common_ranks_in r common)

-- The common rank of the key with this rank on the side, or none if there is no such key. On the left it is the rank.
abbrev pub common_rank_of : CommonRanks → ComparedReport → Role → ℕ → Option ℕ
common_rank_of common Left r rank = Some rank
common_rank_of common Right r rank = slice_get (common_ranks_in r common) rank

-- How the two keys compare that come next, if both do. Otherwise the second one is less.
abbrev pub next_cmp : Option (Option Key) → Option (Option Key) → Ordering
next_cmp (Some k) (Some l) = option_cmp key_cmp k l
next_cmp k l = Greater
