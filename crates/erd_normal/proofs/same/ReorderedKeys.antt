-- The key that identifiers give does not depend on their order.
use Rattle.erd_normal.proofs.Common.{◌≡◌, Bool, true, false, List, map, Some, sym, refl, ap, ◌∙◌, Data, None, Option, Ordering, Equal, Preference, [], ◌∷◌}
use Rattle.erd_normal.proofs.Common.{if◌then◌else◌, true≢false, is_lt, Less, Greater, CmpEqualImpliesEq, IsTotalOrder, ordering_reverse, less, triple_of}
use Rattle.erd_normal.proofs.Common.{key_of_identifiers, whole-reordered, Key, fun_ext, IsPermutation}
use Rattle.erd_meaning.specs.code.ChosenKeys.{choice_cmp, choice_of, choice_of_two}
use Rattle.erd_meaning.proofs.rising.ChoiceOrder.{choice_cmp_exact, choice_cmp_total, key_is_choice}

-- ---- the lesser of two

module _ {A : Type 0} (cmp : A → A → Ordering) (order : IsTotalOrder cmp) (exact : CmpEqualImpliesEq cmp) where
  abbrev lesser : A → A → A
  lesser k l = if is_lt (cmp l k) then l else k

  reversed : (a b : A) (o : Ordering) → cmp a b ≡ o → cmp b a ≡ ordering_reverse o
  reversed a b o is = order.antisymm b a ∙ ap ordering_reverse is

  either_first : (k l : A) → lesser k l ≡ lesser l k
  either_first k l = at (cmp l k) refl
    where
      at : (o : Ordering) → cmp l k ≡ o → lesser k l ≡ lesser l k
      at Equal is = rw (is, reversed l k Equal is) (sym (exact l k is))
      at d is = rw (is, reversed l k d is) refl

  below_both : (a b k : A) → cmp a b ≡ Less → is_lt (cmp b k) ≡ true → is_lt (cmp a k) ≡ true
  below_both a b k low is = ap is_lt (order.trans a b k low (less (cmp b k) is))

  lesser_swapped : (k a b : A) → lesser (lesser k a) b ≡ lesser (lesser k b) a
  lesser_swapped k a b = at (is_lt (cmp a k)) (is_lt (cmp b k)) (cmp b a) refl refl refl
    where
      at : (p q : Bool) (o : Ordering) → is_lt (cmp a k) ≡ p → is_lt (cmp b k) ≡ q → cmp b a ≡ o → lesser (lesser k a) b ≡ lesser (lesser k b) a
      at true true Equal a_low b_low is = rw (a_low, b_low, is, reversed b a Equal is) (sym (exact b a is))
      at true true o a_low b_low is = rw (a_low, b_low, is, reversed b a o is) refl
      at true false Less a_low b_high is = absurd (true≢false (sym (below_both b a k is a_low) ∙ b_high))
      at true false o a_low b_high is = rw (b_high, a_low, is) refl
      at false true Greater a_high b_low is = absurd (true≢false (sym (below_both a b k (reversed b a Greater is) b_low) ∙ a_high))
      at false true o a_high b_low is = rw (a_high, b_low, reversed b a o is) refl
      at false false o a_high b_high is = rw (a_high, b_high, a_high) refl

-- ---- the key that identifiers give

module _ (π : Preference) where
  -- the one to choose of those before and one more
  abbrev with_one : Option Key → Key → Option Key
  with_one None k = Some k
  with_one (Some l) k = Some (choice_of_two π l k)

  with_one_exchanges : (o : Option Key) (k l : Key) → with_one (with_one o k) l ≡ with_one (with_one o l) k
  with_one_exchanges None k l = ap Some (either_first (choice_cmp π) (choice_cmp_total π) (choice_cmp_exact π) k l)
  with_one_exchanges (Some j) k l = ap Some (lesser_swapped (choice_cmp π) (choice_cmp_total π) (choice_cmp_exact π) j k l)

  -- the one to choose of those before and those of a list
  abbrev chosen : List Data → Option Key → Option Key
  chosen [] o = o
  chosen (d ∷ ds) o = chosen ds (with_one o (triple_of d))

  chosen_after : (k : Key) (ds : List Data) → chosen ds (Some k) ≡ Some (choice_of π k (map triple_of ds))
  chosen_after k [] = refl
  chosen_after k (d ∷ ds) = chosen_after (choice_of_two π k (triple_of d)) ds

  key_is_chosen : (ds : List Data) → key_of_identifiers π ds ≡ chosen ds None
  key_is_chosen [] = key_is_choice π []
  key_is_chosen (d ∷ ds) = key_is_choice π (d ∷ ds) ∙ sym (chosen_after (triple_of d) ds)

  chosen-reordered : {ds es : List Data} → IsPermutation ds es → chosen ds ≡ chosen es
  chosen-reordered h =
      whole-reordered chosen (λ d f o. f (with_one o (triple_of d))) (λ d ds. refl)
      (λ d e f. fun_ext (λ o. ap f (with_one_exchanges o (triple_of d) (triple_of e)))) h

  pub key_of_identifiers-reordered : (ds es : List Data) → IsPermutation ds es → key_of_identifiers π ds ≡ key_of_identifiers π es
  key_of_identifiers-reordered ds es h = key_is_chosen ds ∙ ap (λ f. f None) (chosen-reordered h) ∙ sym (key_is_chosen es)
