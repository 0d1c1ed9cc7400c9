-- The common ranks of the keys that references name are put into a set one after another, and two such sets are equal if and
-- only if the sets of the keys are.
use Rattle.erd_compare.proofs.Common.{◌≡◌, ℕ, Bool, true, List, [], ◌∷◌, map, ◌==◌, Some, None, Option, option_map, IsPermutation, IsSorted, filter_map}
use Rattle.erd_compare.proofs.Common.{option_and_then, nat_cmp, is_eq, Ordering, sym, refl, ap, ◌∙◌, subst, ap₂, inl, inr, fun_ext, tied_itself, nat_cmp_total}
use Rattle.erd_compare.proofs.Common.{CmpEqualImpliesEq, exact_unsigned, Equal-is, IsTotalOrder, both_ways, cons_option, list_any, Data, as_str, view, Value}
use Rattle.erd_compare.proofs.Common.{Family, Role, role, In, In-map, In-map_from, any_at, In-from_contains, contains_from_In, Judged, has_keys, key_cmp}
use Rattle.erd_compare.proofs.Common.{key_named, keys_named, key_cmp_total, key_cmp_exact, unsigned_ties, dedup, KeySet, key_set, Key, rank_of_key, Decides}
use Rattle.erd_compare.proofs.Common.{on_side, rank_with_id, list_of_ranks, rank_set, IsRankSet, ComparedReport}
use Rattle.std.proofs.lemmas.List.Kept.{Contains-dedup_nat, Contains-from_dedup, IsStrictlySortedBy-dedup}
use Rattle.std.proofs.lemmas.List.Sorted.{list_any-IsPermutation}
use Rattle.std.proofs.lemmas.Map.Views.{Contains-from_any}
use Rattle.erd_meaning.proofs.rising.DistinctEntries.{set_unique}
use Rattle.erd_compare.proofs.same_ranks.KeyRanks.{both_keys, one_rank, Stands, value_named, value_known}

-- ---- the ranks of references

module _ (a b : Judged) (side : ComparedReport) (f : Family) where
  more : (o : Option Key) (ks : List Key) → map (rank_of_key a b (role.OfFamily f)) (cons_option o ks)
      ≡ cons_option (option_map (rank_of_key a b (role.OfFamily f)) o) (map (rank_of_key a b (role.OfFamily f)) ks)
  more None ks = refl
  more (Some k) ks = refl

  -- the ranks of what references name are those of the keys that they name
  pub ranks_of_keys : (vs : List Value) → filter_map (λ v. option_and_then (rank_with_id a b side f) (as_str (view v))) vs
      ≡ list_of_ranks a b side f (map view vs)
  ranks_of_keys [] = refl
  ranks_of_keys (v ∷ vs) =
      let j = on_side side a b in
      ap₂ cons_option (value_named a b side f (as_str (view v))) (ranks_of_keys vs)
      ∙ sym (more (option_and_then (key_named j.prefer (view j.tree) f) (as_str (view v))) (keys_named j.prefer (view j.tree) f (map view vs)))

-- ---- what is in a list

module _ {K : Type 0} (cmp : K → K → Ordering) (total : IsTotalOrder cmp) (exact : CmpEqualImpliesEq cmp) where
  any_from_in : (k : K) (ks : List K) → In k ks → list_any (λ l. is_eq (cmp l k)) ks ≡ true
  any_from_in k ks inside = any_at (λ l. is_eq (cmp l k)) k ks inside (ap is_eq (tied_itself total k))

  in_from_any : (k : K) (ks : List K) → list_any (λ l. is_eq (cmp l k)) ks ≡ true → In k ks
  in_from_any k ks h = In-from_contains k ks (Contains-from_any {eq = λ q l. is_eq (cmp l q)} (λ q l e. sym (exact l q ((Equal-is (cmp l q)).0 e))) k ks h)

-- ranks that were sorted, each of them once
pub sorted_once : (ns sorted once : List ℕ) → IsPermutation ns sorted → IsSorted nat_cmp sorted → once ≡ dedup ◌==◌ sorted → IsRankSet ns once
sorted_once ns sorted once all rises is = subst (IsRankSet ns) (sym is) (record {
  rises = IsStrictlySortedBy-dedup nat_cmp_total unsigned_ties sorted rises;
  same = λ n. both_ways (rank_set (dedup ◌==◌ sorted) n) (rank_set sorted n) (fewer n) (kept n)
      ∙ sym (list_any-IsPermutation (λ m. is_eq (nat_cmp m n)) ns sorted all);
})
  where
    fewer : (n : ℕ) → rank_set (dedup ◌==◌ sorted) n ≡ true → rank_set sorted n ≡ true
    fewer n h = any_from_in nat_cmp nat_cmp_total exact_unsigned n sorted
        (In-from_contains n sorted
        (Contains-from_dedup ◌==◌ sorted n (contains_from_In n (dedup ◌==◌ sorted) (in_from_any nat_cmp nat_cmp_total exact_unsigned n (dedup ◌==◌ sorted) h))))

    kept : (n : ℕ) → rank_set sorted n ≡ true → rank_set (dedup ◌==◌ sorted) n ≡ true
    kept n h = any_from_in nat_cmp nat_cmp_total exact_unsigned n (dedup ◌==◌ sorted)
        (In-from_contains n (dedup ◌==◌ sorted)
        (Contains-dedup_nat sorted n (contains_from_In n sorted (in_from_any nat_cmp nat_cmp_total exact_unsigned n sorted h))))

-- ---- sets of keys, by their common ranks

module _ (a b : Judged) (r : Role) where
  abbrev rank : Key → ℕ
  rank = rank_of_key a b r

  -- each key of the list is known
  abbrev pub AllKnown : List Key → Type 0
  AllKnown ks = (k : Key) → In k ks → Stands (Some k) (both_keys a b r)

  keys_over : (ks ls : List Key) → AllKnown ks → AllKnown ls → ((n : ℕ) → rank_set (map rank ks) n ≡ rank_set (map rank ls) n) → (k : Key) → key_set ks k
      ≡ true → key_set ls k ≡ true
  keys_over ks ls mine its same k h =
      let inside = in_from_any key_cmp key_cmp_total key_cmp_exact k ks h in
      let any = sym (same (rank k)) ∙ any_from_in nat_cmp nat_cmp_total exact_unsigned (rank k) (map rank ks) (In-map rank k ks inside) in
      let image = In-map_from rank ls (rank k) (in_from_any nat_cmp nat_cmp_total exact_unsigned (rank k) (map rank ls) any) in
      let one : image.0 ≡ k = one_rank a b r image.0 k (its image.0 image.1) (mine k inside) image.2 in
      any_from_in key_cmp key_cmp_total key_cmp_exact k ls (subst (λ x. In x ls) one image.1)

  ranks_over : (ks ls : List Key) → ((k : Key) → key_set ks k ≡ key_set ls k) → (n : ℕ) → rank_set (map rank ks) n ≡ true → rank_set (map rank ls) n ≡ true
  ranks_over ks ls same n h =
      let image = In-map_from rank ks n (in_from_any nat_cmp nat_cmp_total exact_unsigned n (map rank ks) h) in
      let inside = in_from_any key_cmp key_cmp_total key_cmp_exact image.0 ls
      (sym (same image.0) ∙ any_from_in key_cmp key_cmp_total key_cmp_exact image.0 ks image.1) in
      any_from_in nat_cmp nat_cmp_total exact_unsigned n (map rank ls) (subst (λ x. In x (map rank ls)) image.2 (In-map rank image.0 ls inside))

  pub same_keys : (ks ls : List Key) → AllKnown ks → AllKnown ls → ((n : ℕ) → rank_set (map rank ks) n ≡ rank_set (map rank ls) n) → (k : Key)
      → key_set ks k ≡ key_set ls k
  same_keys ks ls mine its same k = both_ways (key_set ks k) (key_set ls k) (keys_over ks ls mine its same k) (keys_over ls ks its mine (λ n. sym (same n)) k)

  pub same_ranks : (ks ls : List Key) → ((k : Key) → key_set ks k ≡ key_set ls k) → (n : ℕ) → rank_set (map rank ks) n ≡ rank_set (map rank ls) n
  same_ranks ks ls same n = both_ways (rank_set (map rank ks) n) (rank_set (map rank ls) n) (ranks_over ks ls same n) (ranks_over ls ks (λ k. sym (same k)) n)

  pub sets_decide : (ks ls : List Key) → AllKnown ks → AllKnown ls → (s t : List ℕ) (answer : Bool) → IsRankSet (map rank ks) s → IsRankSet (map rank ls) t
      → Decides answer s t → Decides answer (key_set ks) (key_set ls)
  sets_decide ks ls here there s t answer mine its decides = (
    λ h. fun_ext (same_keys ks ls here there (λ n. sym (mine.same n) ∙ (ap (λ xs. rank_set xs n) (decides.0 h) ∙ its.same n))),
    λ same. decides.1 (set_unique nat_cmp nat_cmp_total exact_unsigned s t mine.rises its.rises
        (λ n. mine.same n ∙ (same_ranks ks ls (λ k. ap (λ (x : KeySet). x k) same) n ∙ sym (its.same n)))),
  )

module _ (a b : Judged) (side : ComparedReport) (f : Family) (keyed : has_keys f ≡ true) where
  abbrev key_of_value : Data → Option Key
  key_of_value d = option_and_then (key_named (on_side side a b).prefer (view (on_side side a b).tree) f) (as_str d)

  abbrev keys_of_values : List Data → List Key
  keys_of_values ds = keys_named (on_side side a b).prefer (view (on_side side a b).tree) f ds

  abbrev IsKnownKey : Key → Type 0
  IsKnownKey k = Stands (Some k) (both_keys a b (role.OfFamily f))

  -- each key that references name is known
  pub named_known : (ds : List Data) → AllKnown a b (role.OfFamily f) (keys_of_values ds)
  named_known [] k inside = absurd inside
  named_known (d ∷ ds) k inside = at (key_of_value d) refl inside (named_known ds k)
    where
      at : (o : Option Key) → key_of_value d ≡ o → In k (cons_option o (keys_of_values ds)) → (In k (keys_of_values ds) → IsKnownKey k) → IsKnownKey k
      at None is inside rest = rest inside
      at (Some x) is (inl e) rest = subst IsKnownKey e (value_known a b side f (as_str d) keyed x is)
      at (Some x) is (inr inside) rest = rest inside
