-- Lists of entries and of members.
use Rattle.erd_check.proofs.Common.{◌≡◌, suc, List, [], ◌∷◌, ◌++◌, length, string_bytes, String, string_cmp, Less, Global, refl, ap, AllByRecursion}
use Rattle.erd_check.proofs.Common.{IsStrictlySortedBy, Data, items_of, items_view, members_view, Value, text_cmp, list_of_items, names}
use Rattle.std.specs.Map.{keys_of}
use Rattle.serde_json.proofs.Views.{Entry}

pub count_of_view : (vs : List Value) → length (list_of_items (items_view vs)) ≡ length vs
count_of_view [] = refl
count_of_view (v ∷ vs) = ap suc (count_of_view vs)

names_above : (k : String Global) (es : List Entry) → AllByRecursion (λ y. string_cmp k y ≡ Less) (keys_of es)
    → AllByRecursion (λ y. text_cmp (string_bytes k) y ≡ Less) (names (members_view es))
names_above k [] h = tt
names_above k (e ∷ es) h = (h.0, names_above k es h.1)

-- the keys of a map rise, and so do the names of its members
pub names_sorted : (es : List Entry) → IsStrictlySortedBy string_cmp (keys_of es) → IsStrictlySortedBy text_cmp (names (members_view es))
unfolding IsStrictlySortedBy
names_sorted [] h = tt
names_sorted (e ∷ es) h = (names_above e.0 es h.0, names_sorted es h.1)

pub list_of_items-items_of : (ds : List Data) → list_of_items (items_of ds) ≡ ds
list_of_items-items_of [] = refl
list_of_items-items_of (d ∷ ds) = ap (λ es. d ∷ es) (list_of_items-items_of ds)

pub both_empty : {A : Type 0} (xs ys : List A) → xs ++ ys ≡ [] → (xs ≡ []) × (ys ≡ [])
both_empty [] ys e = (refl, e)
both_empty (x ∷ xs) ys e = cc
