-- Worked examples of rising lists, of labels with their translations in order, of stable sorts and of tokens, by computation.
use Rattle.erd_text.proofs.Common.{◌≡◌, ℕ, zero, suc, Bool, true, false, List, [], ◌∷◌, map, codes, nat_cmp, bool_cmp, Less, Equal, Greater, refl, ap, arith}
use Rattle.erd_text.proofs.Common.{true≢false, compact_text, rising_list, compact_cmp, with_rising_text, value_tokens, tree_of, serde_json_on_literals}
use Rattle.std.specs.Fmt.{digits}
use Rattle.std.specs.Prelude.{IsSortedByKey}
use Rattle.erd_text.specs.StableOrder.{IsStablySorted, pairs_of}
use Rattle.json.specs.Token.{begin_object, end_object, begin_array, end_array, key, string, number, boolean, null}

-- ---- lists in rising order

-- each value stands as often as before
rising : (rising_list nat_cmp (3 ∷ 1 ∷ 2 ∷ 1 ∷ []) ≡ 1 ∷ 1 ∷ 2 ∷ 3 ∷ []) × (rising_list nat_cmp [] ≡ [])
rising = (refl, refl)

-- values are compared by their compact texts: 10 before 9, a text before a number, and capital letters first
compact_order : (compact_cmp (tree_of (codes "10")) (tree_of (codes "9")) ≡ Less) × (compact_cmp (tree_of (codes "1")) (tree_of (codes "\"1\"")) ≡ Greater)
    × (compact_cmp (tree_of (codes "\"Z\"")) (tree_of (codes "\"a\"")) ≡ Less)
    × (compact_cmp (tree_of (codes "{ \"a\" : 1 }")) (tree_of (codes "{\"a\":1}")) ≡ Equal)
unfolding serde_json_on_literals digits
compact_order = (refl, refl, refl, refl)

-- ---- labels

-- what is written of the label with this text
abbrev label : List ℕ → List ℕ
label text = compact_text (with_rising_text (tree_of text))

-- the translations stand in the order of their texts, at the place of `Text`, and nothing else moves
labels : (label (codes "{\"Text\":[{\"Language\":\"es\",\"Content\":\"Si\"},{\"Language\":\"en\",\"Content\":\"Yes\"}],\"Label\":\"x\"}")
    ≡ codes "{\"Label\":\"x\",\"Text\":[{\"Content\":\"Si\",\"Language\":\"es\"},{\"Content\":\"Yes\",\"Language\":\"en\"}]}")
    × (label (codes "{\"Text\":[{\"Language\":\"en\",\"Content\":\"Yes\"},{\"Language\":\"es\",\"Content\":\"Si\"}],\"Label\":\"x\"}")
    ≡ codes "{\"Label\":\"x\",\"Text\":[{\"Content\":\"Si\",\"Language\":\"es\"},{\"Content\":\"Yes\",\"Language\":\"en\"}]}")
unfolding serde_json_on_literals
labels = (refl, refl)

-- a translation that stands twice stays twice, a plain text stays, and only `Text` is put in order
labels_kept : (label (codes "{\"Text\":[\"b\",\"a\",\"b\"],\"Other\":[2,1]}") ≡ codes "{\"Other\":[2,1],\"Text\":[\"a\",\"b\",\"b\"]}")
    × (label (codes "\"Yes\"") ≡ codes "\"Yes\"") × (label (codes "[\"b\",\"a\"]") ≡ codes "[\"b\",\"a\"]")
unfolding serde_json_on_literals digits
labels_kept = (refl, refl, refl)

-- ---- stable sorts

-- two pairs with the greater key, and one with the lesser between them
abbrev before : List (Bool × ℕ)
before = (true, 7) ∷ (false, 9) ∷ (true, 5) ∷ []

-- the lesser key comes first, and pairs with one key keep their order
sorted : IsStablySorted bool_cmp before ((false, 9) ∷ (true, 7) ∷ (true, 5) ∷ [])
sorted = record {
  never_falls = rises;
  same = λ k. (elim k as (λ k. pairs_of bool_cmp k ((false, 9) ∷ (true, 7) ∷ (true, 5) ∷ []) ≡ pairs_of bool_cmp k before)
      [ true ↦ refl | false ↦ refl ]);
}
  where
    rises : IsSortedByKey {X = Bool × ℕ} (λ pair. pair.0) bool_cmp ((false, 9) ∷ (true, 7) ∷ (true, 5) ∷ [])
    rises zero d low high = refl
    rises (suc zero) d low high = refl
    rises (suc (suc k)) d low high = absurd (omega (arith, high))

-- the first number of a list, or 0
abbrev first_of : List ℕ → ℕ
first_of [] = 0
first_of (x ∷ xs) = x

-- the same pairs with equal keys exchanged are not a stable sort, though their keys never fall
not_stable : IsStablySorted bool_cmp before ((false, 9) ∷ (true, 5) ∷ (true, 7) ∷ []) → ⊥
not_stable is =
    let first : ◌≡◌ {A = ℕ} 5 7 = ap (λ pairs. first_of (map (λ pair. pair.1) pairs)) (is.same true) in
    omega (arith, first)

-- nor are pairs of which one is lost
not_all : IsStablySorted bool_cmp before ((false, 9) ∷ (true, 7) ∷ []) → ⊥
not_all is = let same : (true, 7) ∷ [] ≡ (true, 7) ∷ (true, 5) ∷ [] = is.same true in absurd (cc same)

-- nor are pairs in their old order, whose keys fall
not_rising : IsStablySorted bool_cmp before before → ⊥
not_rising is = true≢false (is.never_falls 0 (true, 7) (omega arith) (omega arith))

-- ---- tokens

tokens : value_tokens (tree_of (codes "{\"b\":[1,-2,\"x\"],\"a\":null,\"c\":true}"))
    ≡ begin_object ∷ key (codes "a") ∷ null ∷ key (codes "b") ∷ begin_array ∷ number (codes "1") ∷ number (codes "-2") ∷ string (codes "x") ∷ end_array
    ∷ key (codes "c") ∷ boolean true ∷ end_object ∷ []
unfolding serde_json_on_literals digits
tokens = refl
