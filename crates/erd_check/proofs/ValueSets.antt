-- A set of values: one value more, and the value that is tied with a given one.
use Rattle.erd_check.proofs.Common.{◌≡◌, Bool, true, false, not, ◌||◌, List, [], ◌∷◌, ◌++◌, map, Some, None, find, is_eq, Ordering, Less, Equal, Greater, sym}
use Rattle.erd_check.proofs.Common.{refl, ap, ◌∙◌, true≢false, or_right, Equal-is, list_any, match_ordering, Data, view, is_same_json, StandsFor, json_cmp, inl}
use Rattle.erd_check.proofs.Common.{inr, false_from_ne_true, cases_Bool, arith}
use Rattle.std.specs.BTreeSet.{insert_key}
use Rattle.std.proofs.lemmas.List.Folds.{list_any-append}
use Rattle.erd_check.specs.declared.ordered_value.OrderedValue.{OrderedValue}
use Rattle.erd_check.specs.declared.value_set.ValueSet.{ValueSet}
use Rattle.erd_check.proofs.JsonTies.{same_as_tied, same_itself, same_tied, tied_same}

-- what a value of a set is
abbrev pub data_of : OrderedValue → Data
data_of v = view v.value.now

abbrev pub value_cmp : OrderedValue → OrderedValue → Ordering
value_cmp a b = json_cmp (view a.value.now) (view b.value.now)

-- ---- one value more

pub or_exchanged : (a b c : Bool) → a || (b || c) ≡ b || (a || c)
or_exchanged a b c = grind arith

absorbed : (a b c : Bool) → (b ≡ true → a ≡ true) → a || c ≡ b || (a || c)
absorbed a b c h = grind arith

put : (vs : List OrderedValue) (v : OrderedValue) (d : Data) → list_any (is_same_json d) (map data_of (insert_key value_cmp vs v)) ≡ is_same_json d (data_of v)
    || list_any (is_same_json d) (map data_of vs)
put [] v d = refl
put (w ∷ vs) v d = at (value_cmp v w) refl (put vs v d)
  where
    at : (o : Ordering) → value_cmp v w ≡ o → list_any (is_same_json d) (map data_of (insert_key value_cmp vs v)) ≡ is_same_json d (data_of v)
        || list_any (is_same_json d) (map data_of vs) → list_any (is_same_json d) (map data_of (insert_key value_cmp (w ∷ vs) v)) ≡ is_same_json d (data_of v)
        || list_any (is_same_json d) (map data_of (w ∷ vs))
    at Less is later = rw is refl
    at Equal is later =
        ap (λ o. list_any (is_same_json d) (map data_of (match_ordering o (v ∷ w ∷ vs) (w ∷ vs) (w ∷ insert_key value_cmp vs v)))) is
        ∙ absorbed (is_same_json d (data_of w)) (is_same_json d (data_of v)) (list_any (is_same_json d) (map data_of vs))
        (same_as_tied d (data_of v) (data_of w) is)
    at Greater is later =
        rw is (ap (λ b. is_same_json d (data_of w) || b) later ∙ or_exchanged (is_same_json d (data_of w)) (is_same_json d (data_of v))
        (list_any (is_same_json d) (map data_of vs)))

swapped : (a b : Bool) → a || b ≡ b || (a || false)
swapped a b = grind arith

pub one_more : (s n : ValueSet) (v : OrderedValue) (ds : List Data) → n.ordered.keys ≡ insert_key value_cmp s.ordered.keys v → StandsFor ds s
    → StandsFor (ds ++ data_of v ∷ []) n
one_more s n v ds keys h d =
    ap (λ vs. list_any (is_same_json d) (map data_of vs)) keys ∙ (put s.ordered.keys v d ∙ (ap (λ b. is_same_json d (data_of v) || b) (h d)
    ∙ (swapped (is_same_json d (data_of v)) (list_any (is_same_json d) ds) ∙ sym (list_any-append (is_same_json d) ds (data_of v ∷ [])))))

-- ---- the value that is tied with one

untied : (d e : Data) → is_eq (json_cmp d e) ≡ false → is_same_json d e ≡ false
untied d e apart = false_from_ne_true (is_same_json d e) (λ is. true≢false (sym (ap is_eq (same_tied d e is)) ∙ apart))

-- a value that is new is equal to none
pub new_untied : (vs : List OrderedValue) (d : Data) → true ≡ not (list_any (λ v. is_eq (json_cmp d (data_of v))) vs)
    → list_any (is_same_json d) (map data_of vs) ≡ false
new_untied [] d e = refl
new_untied (w ∷ vs) d e = elim (cases_Bool (is_eq (json_cmp d (data_of w)))) [
  | inl is ↦ let clash : true ≡ false = rw is at e in cc
  | inr is ↦ rw (untied d (data_of w) is) (new_untied vs d (rw is at e))
]

-- none is tied
pub none_tied : (vs : List OrderedValue) (d : Data) → find (λ v. is_eq (json_cmp d (data_of v))) vs ≡ None → list_any (is_same_json d) (map data_of vs) ≡ false
none_tied [] d e = refl
none_tied (w ∷ vs) d e = elim (cases_Bool (is_eq (json_cmp d (data_of w)))) [
  | inl is ↦ let clash : Some w ≡ None = rw is at e in cc
  | inr is ↦ rw (untied d (data_of w) is) (none_tied vs d (rw is at e))
]

-- a value that is not equal to itself is equal to none
unequal_one : (d e : Data) → is_same_json d d ≡ false → is_same_json d e ≡ false
unequal_one d e own = false_from_ne_true (is_same_json d e) (λ is. true≢false (sym (same_itself d e is) ∙ own))

unequal : (vs : List OrderedValue) (d : Data) → is_same_json d d ≡ false → list_any (is_same_json d) (map data_of vs) ≡ false
unequal [] d own = refl
unequal (w ∷ vs) d own = rw (unequal_one d (data_of w) own) (unequal vs d own)

-- a value that is equal to itself is equal to the one that it is tied with
found : (vs : List OrderedValue) (d : Data) (w : OrderedValue) → is_same_json d d ≡ true → find (λ v. is_eq (json_cmp d (data_of v))) vs ≡ Some w
    → (list_any (is_same_json d) (map data_of vs) ≡ true) × (is_same_json d (data_of w) ≡ true)
found [] d w own e = cc
found (x ∷ xs) d w own e = elim (cases_Bool (is_eq (json_cmp d (data_of x)))) [
  | inl is ↦
      let told : Some x ≡ Some w = rw is at e in
      let one : x ≡ w = cc in
      let same : is_same_json d (data_of x) ≡ true = tied_same d (data_of x) ((Equal-is (json_cmp d (data_of x))).0 is) own in
      (ap (λ b. b || list_any (is_same_json d) (map data_of xs)) same, ap (λ v. is_same_json d (data_of v)) (sym one) ∙ same)
  | inr is ↦ let r = found xs d w own (rw is at e) in (or_right (is_same_json d (data_of x)) (list_any (is_same_json d) (map data_of xs)) r.0, r.1)
]

-- one is
pub one_tied : (vs : List OrderedValue) (d : Data) (w : OrderedValue) → find (λ v. is_eq (json_cmp d (data_of v))) vs ≡ Some w
    → list_any (is_same_json d) (map data_of vs) ≡ is_same_json d (data_of w)
one_tied vs d w e =
    elim (cases_Bool (is_same_json d d)) [
      | inl own ↦ (let both = found vs d w own e in both.0 ∙ sym both.1)
      | inr own ↦ unequal vs d own
          ∙ sym (unequal_one d (data_of w) own)
    ]
