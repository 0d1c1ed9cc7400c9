-- The common ranks of keys on either side.
use Rattle.std.specs.Prelude.{◌≡◌, ℕ, List, map, Bool, true, Option, Some, option_map}
use Rattle.std.specs.List.{list_any}
use Rattle.std.specs.List.Sorted.{IsStrictlySortedBy}
use Rattle.std.specs.Ordering.{is_eq, nat_cmp}
use Rattle.serde_json.specs.Data.{Data}
use Rattle.serde_json.specs.View.{view}
use Rattle.erd_tables.specs.declared.class.Family.{Family}
use Rattle.erd_tables.specs.declared.class.Role.{Role}
use Rattle.erd_tables.specs.declared.class.Role.TheVariants as role
use Rattle.erd_meaning.specs.Judged.{Judged}
use Rattle.erd_meaning.specs.SelectionNames.{key_named, keys_named}
use Rattle.erd_meaning.specs.code.KeyOrders.{rank_in_keys}
use Rattle.erd_meaning.specs.declared.keys.key.Key.{Key}
use Rattle.erd_compare.specs.code.CommonRanks.{common_rank, common_rank_of, rank_of_key}
use Rattle.erd_compare.specs.code.KeyedDifferences.{HasKeyAt, is_ranked, keys_in_role}
use Rattle.erd_compare.specs.declared.ranks.common_ranks.CommonRanks.{CommonRanks}
use Rattle.erd_compare.specs.declared.ranks.common_ranks.ComparedReport.{ComparedReport}
use Rattle.erd_compare.specs.declared.ranks.common_ranks.ComparedReport.TheVariants.{Left, Right}

-- The report on the side.
abbrev pub on_side : ComparedReport → Judged → Judged → Judged
on_side Left a b = a
on_side Right a b = b

-- The common rank of the key of the object of the family that the reference names, or none if there is no such object or key.
abbrev pub rank_with_id : Judged → Judged → ComparedReport → Family → List ℕ → Option ℕ
rank_with_id a b side f id = option_map (rank_of_key a b (role.OfFamily f)) (key_named (on_side side a b).prefer (view (on_side side a b).tree) f id)

-- The common ranks of the keys of the objects of the family that the references in a list name.
abbrev pub list_of_ranks : Judged → Judged → ComparedReport → Family → List Data → List ℕ
list_of_ranks a b side f references = map (rank_of_key a b (role.OfFamily f)) (keys_named (on_side side a b).prefer (view (on_side side a b).tree) f references)

-- The set of the ranks in the list.
abbrev pub rank_set : List ℕ → ℕ → Bool
rank_set ns n = list_any (λ m. is_eq (nat_cmp m n)) ns

-- The set has the ranks of the list, each of them once and in rising order.
pub record IsRankSet (ns set : List ℕ) : Type 0 where
  pub rises : IsStrictlySortedBy nat_cmp set
  pub same : (n : ℕ) → rank_set set n ≡ rank_set ns n

-- On either side, the common rank at the rank of an object's key is that of the key.
abbrev pub AreCommonByRank : Judged → Judged → CommonRanks → Type 0
AreCommonByRank a b common =
    (side : ComparedReport) (r : Role) → is_ranked r ≡ true → (i : ℕ) (k : Option Key) → HasKeyAt (on_side side a b).prefer (view (on_side side a b).tree) r i k
    → common_rank_of common side r (rank_in_keys (keys_in_role (on_side side a b).prefer (view (on_side side a b).tree) r) k) ≡ Some (common_rank a b r k)
