use Rattle.erd_compare.proofs.Common.{◌≡◌, ℕ, ◌+◌, ◌<◌, ◌≤◌, true, List, [], ◌∷◌, ◌++◌, length, slice_get, Some, Option, Ordering, Less, Equal, Greater, sym}
use Rattle.erd_compare.proofs.Common.{ap, ◌∙◌, subst, arith, length-map, slice_get_within, option_cmp, Data, view, Role, key_cmp, Preference, rising_positions}
use Rattle.erd_compare.proofs.Common.{at_low, KeyPosition, Key, next_cmp, keys_in_role, is_ranked, rising_in_role, IsComparable}
use Rattle.erd_compare.proofs.least_difference.RisingKeys.{entries, entry_keys, keys_rise}
use Rattle.erd_compare.proofs.same_ranks.KeyRanks.{IsMergedTo, all_merged, both_done, equal_key, next_above, next_there, one_passed, other_done}
use Rattle.erd_compare.proofs.ranks.merging.common_ranks.Goals as goal

-- there are as many rising positions as rising keys
as_many : (π : Preference) (t : Data) (r : Role) {ns : List ℕ} → ns ≡ rising_positions (keys_in_role π t r) → length ns ≡ length (rising_in_role π t r)
as_many π t r are =
    ap length are
    ∙ (length-map (entries π t r) (λ (e : KeyPosition). e.1) ∙ (sym (length-map (entries π t r) (λ (e : KeyPosition). e.0)) ∙ ap length (entry_keys π t r)))

-- the next key of the right report, and what the merge is after it
module _ {π ρ : Preference} {t u : Data} (r : Role) (c : IsComparable π t) (d : IsComparable ρ u) (ranked : is_ranked r ≡ true) {passed : ℕ} {ranks : List ℕ}
    (m : IsMergedTo (rising_in_role π t r) (rising_in_role ρ u r) passed ranks)
    {others : List ℕ} (are : others ≡ rising_positions (keys_in_role ρ u r)) (low : length ranks < length others) (count : ℕ) (same : count ≡ length ranks)
    {x : Ordering} (is : x ≡ next_cmp (slice_get (rising_in_role π t r) passed) (slice_get (rising_in_role ρ u r) count)) where
  abbrev ls : List (Option Key)
  ls = rising_in_role π t r

  abbrev rs : List (Option Key)
  rs = rising_in_role ρ u r

  key : (k : Option Key) × (slice_get rs (length ranks) ≡ Some k)
  key = at_low rs (length ranks) (subst (λ n. length ranks < n) (as_many ρ u r are) low)

  next : next_cmp (slice_get ls passed) (Some key.0) ≡ x
  next = sym (is ∙ ap (next_cmp (slice_get ls passed)) (ap (slice_get rs) same ∙ key.1))

  there : x ≡ Less → (k : Option Key) × (slice_get ls passed ≡ Some k) × (option_cmp key_cmp k key.0 ≡ Less)
  there less = next_there (slice_get ls passed) key.0 Less (next ∙ less) (λ e. cc)

  inside : x ≡ Less → {ones : List ℕ} → ones ≡ rising_positions (keys_in_role π t r) → passed < length ones
  inside less these = subst (λ n. passed < n) (sym (as_many π t r these)) (slice_get_within ls passed (there less).0 (there less).1)

  after_less : x ≡ Less → IsMergedTo ls rs (passed + 1) ranks
  after_less less = one_passed ls rs (keys_rise π t r c ranked) (keys_rise ρ u r d ranked) passed ranks m key.0 key.1 (there less).0
      (there less).1 (there less).2

  after_equal : x ≡ Equal → IsMergedTo ls rs passed (ranks ++ passed ∷ [])
  after_equal equal =
      let k = next_there (slice_get ls passed) key.0 Equal (next ∙ equal) (λ e. cc) in
      both_done ls rs (keys_rise π t r c ranked) (keys_rise ρ u r d ranked) passed ranks m key.0 key.1 (k.1 ∙ ap Some (equal_key k.0 key.0 k.2))

  after_greater : x ≡ Greater → {ones : List ℕ} → ones ≡ rising_positions (keys_in_role π t r) → (n : ℕ) → n ≡ length ones + length ranks
      → IsMergedTo ls rs passed (ranks ++ n ∷ [])
  after_greater greater these n sum =
      subst (λ j. IsMergedTo ls rs passed (ranks ++ j ∷ [])) (sym (sum ∙ ap (λ j. j + length ranks) (as_many π t r these)))
      (other_done ls rs (keys_rise π t r c ranked) (keys_rise ρ u r d ranked) passed ranks m key.0 key.1
      (next_above (slice_get ls passed) key.0 (next ∙ greater)))

pub overflow_add-passed : goal.overflow_add-passed
overflow_add-passed c =
    let low = inside c.args.role c.requires.left c.requires.right c.requires.ranked c.loop-ones.invariant c.rising-others.ensures
    (omega arith) c.len-in-loop-ones.result (omega arith) c.next_cmp.ensures c.in-Less.is c.rising-ones.ensures in
    omega (arith, low)

pub loop-ones-smaller-in-Less : goal.loop-ones-smaller-in-Less
loop-ones-smaller-in-Less c =
    let low = inside c.args.role c.requires.left c.requires.right c.requires.ranked c.loop-ones.invariant c.rising-others.ensures
    (omega arith) c.len-in-loop-ones.result (omega arith) c.next_cmp.ensures c.in-Less.is c.rising-ones.ensures in
    omega (arith, low)

pub loop-ones-preserved-in-Less : goal.loop-ones-preserved-in-Less
loop-ones-preserved-in-Less c = after_less c.args.role c.requires.left c.requires.right c.requires.ranked c.loop-ones.invariant c.rising-others.ensures
    (omega arith) c.len-in-loop-ones.result (omega arith) c.next_cmp.ensures c.in-Less.is

pub loop-ones-preserved-in-Continue-branch-2 : goal.loop-ones-preserved-in-Continue-branch-2
loop-ones-preserved-in-Continue-branch-2 c = subst (IsMergedTo _ _ c.loop-ones.passed) (sym c.in_ok-push-in-Equal.ensures.items)
    (after_equal c.args.role c.requires.left c.requires.right c.requires.ranked c.loop-ones.invariant c.rising-others.ensures
    (omega arith) c.len-in-loop-ones.result (omega arith) c.next_cmp.ensures c.in-Equal.is)

pub loop-ones-preserved : goal.loop-ones-preserved
loop-ones-preserved c =
    subst (IsMergedTo _ _ c.loop-ones.passed) (sym c.in_ok-push-in-Greater.ensures.items)
    (after_greater c.args.role c.requires.left c.requires.right c.requires.ranked c.loop-ones.invariant c.rising-others.ensures
    (omega arith) c.len-in-loop-ones.result (omega arith) c.next_cmp.ensures c.in-Greater.is c.rising-ones.ensures
    (length c.rising-ones.result.now + c.len-in-Greater.result) (omega arith))

pub returns : goal.returns
returns c =
    let b = c.args.right.now in
    all_merged _ (rising_in_role b.prefer (view b.tree) c.args.role) c.loop-ones.passed c.loop-ones.ranks.items c.loop-ones.invariant
    (subst (λ n. n ≤ length c.loop-ones.ranks.items) (as_many b.prefer (view b.tree) c.args.role c.rising-others.ensures) (omega arith))
