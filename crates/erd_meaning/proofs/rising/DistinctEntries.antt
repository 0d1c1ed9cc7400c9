-- Lists and sets in which no two entries compare as equal.
use Rattle.erd_meaning.proofs.Common.{◌≡◌, ℕ, zero, suc, ◌<◌, Bool, true, false, ◌⊎◌, List, [], ◌∷◌, map, take, slice_get, Some, Ordering, Equal, sym, refl, ap}
use Rattle.erd_meaning.proofs.Common.{◌∙◌, subst, inl, inr, true≢false, arith, false_from_ne_true, Equal-is, IsDistinct, eq_by_cmp, Data, Items, no_items, item}
use Rattle.erd_meaning.proofs.Common.{get_item, In, In-map_from, any_at, all_from_In, In-all, position_of, is_same_json, list_of_items, is_repeated, None}
use Rattle.erd_meaning.proofs.Common.{Option, is_eq, option_cmp, NameParts, key_cmp, name_cmp, key_cmp_exact, name_cmp_exact, Key, tied_itself}
use Rattle.erd_meaning.proofs.Common.{CmpEqualImpliesEq, IsTotalOrder, list_any, IsStrictlySortedBy, rising_unique, In-any, In-map}

-- entries at two places pass no test
pub distinct_from_places : {A : Type 0} (test : A → A → Bool) (xs : List A)
    → ((i j : ℕ) (x y : A) → i < j → slice_get xs i ≡ Some x → slice_get xs j ≡ Some y → test x y ≡ false) → IsDistinct test xs
unfolding IsDistinct
distinct_from_places test [] h = tt
distinct_from_places test (x ∷ xs) h = (
  all_from_In (λ y. test x y ≡ false) xs (λ y i. let p = position_of xs y i in h 0 (suc p.0) x y (omega arith) refl p.1),
  distinct_from_places test xs (λ i j y z l. h (suc i) (suc j) y z (omega arith)),
)

-- entries that pass stand at one place
pub distinct_from_one_place : {A : Type 0} (test : A → A → Bool) (xs : List A)
    → ((i j : ℕ) (x y : A) → slice_get xs i ≡ Some x → slice_get xs j ≡ Some y → test x y ≡ true → i ≡ j) → IsDistinct test xs
distinct_from_one_place test xs h =
    distinct_from_places test xs (λ i j x y l a b. false_from_ne_true (test x y) (λ e. let same : i ≡ j = h i j x y a b e in omega arith))

-- the values of a map
pub distinct_map : {A B : Type 0} (f : A → B) (test : B → B → Bool) (xs : List A) → IsDistinct (λ x y. test (f x) (f y)) xs → IsDistinct test (map f xs)
unfolding IsDistinct
distinct_map f test [] h = tt
distinct_map f test (x ∷ xs) h = (
  all_from_In (λ y. test (f x) y ≡ false) (map f xs) (λ y i.
      let from = In-map_from f xs y i in
      subst (λ z. test (f x) z ≡ false) from.2 (In-all (λ z. test (f x) (f z) ≡ false) from.0 xs h.0 from.1)),
  distinct_map f test xs h.1,
)

-- another test that passes less
pub distinct_less : {A : Type 0} (test test' : A → A → Bool) (xs : List A) → ((x y : A) → In x xs → In y xs → test' x y ≡ true → test x y ≡ true)
    → IsDistinct test xs → IsDistinct test' xs
unfolding IsDistinct
distinct_less test test' [] less h = tt
distinct_less test test' (x ∷ xs) less h = (
  all_from_In (λ y. test' x y ≡ false) xs (λ y i.
      false_from_ne_true (test' x y) (λ e. true≢false (sym (less x y (inl refl) (inr i) e) ∙ In-all (λ y. test x y ≡ false) y xs h.0 i))),
  distinct_less test test' xs (λ y z i j. less y z (inr i) (inr j)) h.1,
)

-- of two entries whose values pass the test both ways there is one
pub distinct_one : {A B : Type 0} (g : A → B) (test : B → B → Bool) (xs : List A) → IsDistinct test (map g xs) → (x y : A) → In x xs → In y xs
    → test (g x) (g y) ≡ true → test (g y) (g x) ≡ true → x ≡ y
unfolding IsDistinct
distinct_one g test [] d x y h k t u = elim h [ ]
distinct_one {A} g test (z ∷ zs) d x y h k t u = at h k (distinct_one g test zs d.1 x y)
  where
    at : (z ≡ x) ⊎ In x zs → (z ≡ y) ⊎ In y zs → (In x zs → In y zs → test (g x) (g y) ≡ true → test (g y) (g x) ≡ true → x ≡ y) → x ≡ y
    at (inl e) (inl f) more = sym e ∙ f
    at (inl e) (inr j) more =
        let no_such : test (g x) (g y) ≡ false = subst (λ w. test (g w) (g y) ≡ false) e
        (In-all (λ b. test (g z) b ≡ false) (g y) (map g zs) d.0 (In-map g y zs j)) in
        absurd (true≢false (sym t ∙ no_such))
    at (inr i) (inl f) more =
        let no_such : test (g y) (g x) ≡ false = subst (λ w. test (g w) (g x) ≡ false) f
        (In-all (λ b. test (g z) b ≡ false) (g x) (map g zs) d.0 (In-map g x zs i)) in
        absurd (true≢false (sym u ∙ no_such))
    at (inr i) (inr j) more = more i j t u

-- ---- sets

in_taken : {A : Type 0} (xs : List A) (i j : ℕ) (x : A) → i < j → slice_get xs i ≡ Some x → In x (take j xs)
in_taken [] i j x l e = cc
in_taken (y ∷ xs) i zero x l e = absurd (omega arith)
in_taken (y ∷ xs) zero (suc j) x l e = let same : y ≡ x = cc in inl same
in_taken (y ∷ xs) (suc i) (suc j) x l e = inr (in_taken xs i j x (omega arith) e)

get_item-slice : (ds : Items) (i : ℕ) (d : Data) → slice_get (list_of_items ds) i ≡ Some d → get_item i ds ≡ Some d
get_item-slice no_items i d e = cc
get_item-slice (item v ds) zero d e = e
get_item-slice (item v ds) (suc i) d e = get_item-slice ds i d e

-- no entry is equal to an earlier one
pub unrepeated_distinct : (ds : Items) → ((i : ℕ) (d : Data) → get_item i ds ≡ Some d → is_repeated ds i d ≡ false)
    → IsDistinct (λ d e. is_same_json e d) (list_of_items ds)
unrepeated_distinct ds each = distinct_from_places (λ d e. is_same_json e d) (list_of_items ds) (λ i j d e l a b.
    false_from_ne_true (is_same_json e d) (λ same.
    true≢false (sym (any_at (is_same_json e) d (take j (list_of_items ds)) (in_taken (list_of_items ds) i j d l a) same) ∙ each j e (get_item-slice ds j e b))))

-- nor compares as equal, where those that do are equal
pub unrepeated_by_cmp : (cmp : Data → Data → Ordering) (ds : Items) → ((i : ℕ) (d : Data) → get_item i ds ≡ Some d → is_repeated ds i d ≡ false)
    → ((d e : Data) → In d (list_of_items ds) → In e (list_of_items ds) → cmp d e ≡ Equal → is_same_json e d ≡ true)
    → IsDistinct (eq_by_cmp cmp) (list_of_items ds)
unrepeated_by_cmp cmp ds each equal =
    distinct_less (λ d e. is_same_json e d) (eq_by_cmp cmp) (list_of_items ds) (λ d e i j h. equal d e i j ((Equal-is (cmp d e)).0 h))
    (unrepeated_distinct ds each)

-- ---- keys and names that are equal in their orders are equal

pub options_exact : {A : Type 0} (cmp : A → A → Ordering) → ((a b : A) → is_eq (cmp a b) ≡ true → a ≡ b) → (x y : Option A)
    → is_eq (option_cmp cmp x y) ≡ true → x ≡ y
options_exact cmp exact None None h = refl
options_exact cmp exact (Some a) (Some b) h = ap Some (exact a b h)
options_exact cmp exact x y h = absurd (cc h)

pub equal_keys : (k l : Key) → is_eq (key_cmp k l) ≡ true → k ≡ l
equal_keys k l h = key_cmp_exact k l ((Equal-is (key_cmp k l)).0 h)

pub equal_names : (m n : NameParts) → is_eq (name_cmp m n) ≡ true → m ≡ n
equal_names m n h = name_cmp_exact m n ((Equal-is (name_cmp m n)).0 h)

-- ---- a set that is written as a rising list is determined by its membership test

-- a set of what an order tells apart
pub set_unique : {K : Type 0} (cmp : K → K → Ordering) → IsTotalOrder cmp → CmpEqualImpliesEq cmp → (xs ys : List K) → IsStrictlySortedBy cmp xs
    → IsStrictlySortedBy cmp ys
    → ((k : K) → list_any (λ l. is_eq (cmp l k)) xs ≡ list_any (λ l. is_eq (cmp l k)) ys) → xs ≡ ys
set_unique {K} cmp order exact xs ys rise rise' same = rising_unique cmp order xs ys rise rise' (over xs ys same) (over ys xs (λ k. sym (same k)))
  where
    over : (xs ys : List K) → ((k : K) → list_any (λ l. is_eq (cmp l k)) xs ≡ list_any (λ l. is_eq (cmp l k)) ys) → (k : K) → In k xs → In k ys
    over xs ys same k h =
        let r = In-any (λ l. is_eq (cmp l k)) ys (sym (same k) ∙ any_at (λ l. is_eq (cmp l k)) k xs h (ap is_eq (tied_itself order k))) in
        subst (λ z. In z ys) (exact r.0 k ((Equal-is (cmp r.0 k)).0 r.2)) r.1
