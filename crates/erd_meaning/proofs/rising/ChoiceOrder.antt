-- What comes first in the order in which the program chooses among identifiers is the key that they give; the order is
-- total, and tells unequal triples apart.
use Rattle.erd_meaning.proofs.Common.{◌≡◌, Bool, true, false, List, [], ◌∷◌, map, Some, None, filter, is_lt, sym, refl, ap, ◌∙◌, on_total, then_total}
use Rattle.erd_meaning.proofs.Common.{back_total, CmpEqualImpliesEq, IsTotalOrder, bool_cmp_total, option_or, bool_cmp, Data, then_both, key_cmp, triple_of}
use Rattle.erd_meaning.proofs.Common.{lesser_key, least_key_of, least_key, Preference, preferred_key, key_of_identifiers, is_preferred, choice_cmp}
use Rattle.erd_meaning.proofs.Common.{choice_of_two, choice_of, choice, key_cmp_total, key_cmp_exact, Key, cond_both}

pub choice_cmp_total : (π : Preference) → IsTotalOrder (choice_cmp π)
choice_cmp_total π = then_total (back_total (on_total (is_preferred π) bool_cmp_total)) key_cmp_total

pub choice_cmp_exact : (π : Preference) → CmpEqualImpliesEq (choice_cmp π)
choice_cmp_exact π k l e = key_cmp_exact k l (then_both (bool_cmp (is_preferred π l) (is_preferred π k)) (key_cmp k l) e).1

-- ---- one of two

-- among triples of the type, and among others, the lesser is chosen
chosen_alike : (π : Preference) (k l : Key) (b : Bool) → is_preferred π k ≡ b → is_preferred π l ≡ b → choice_of_two π k l ≡ lesser_key k l
chosen_alike π k l true is next = rw (is, next) refl
chosen_alike π k l false is next = rw (is, next) refl

lesser_alike : (π : Preference) (k l : Key) (b : Bool) → is_preferred π k ≡ b → is_preferred π l ≡ b → is_preferred π (lesser_key k l) ≡ b
lesser_alike π k l b is next = cond_both (is_lt (key_cmp l k)) l k (λ x. is_preferred π x ≡ b) (λ _. next) (λ _. is)

first_stays : (π : Preference) (k l : Key) → is_preferred π k ≡ true → is_preferred π l ≡ false → choice_of_two π k l ≡ k
first_stays π k l is next = rw (is, next) refl

next_taken : (π : Preference) (k l : Key) → is_preferred π k ≡ false → is_preferred π l ≡ true → choice_of_two π k l ≡ l
next_taken π k l is next = rw (is, next) refl

-- ---- one of a list

-- after one of the type only those of the type count
choice_of-preferred : (π : Preference) (k : Key) (ks : List Key) → is_preferred π k ≡ true → choice_of π k ks ≡ least_key_of k (filter (is_preferred π) ks)
choice_of-preferred π k [] is = refl
choice_of-preferred π k (l ∷ ls) is =
    cond_both (is_preferred π l) (l ∷ filter (is_preferred π) ls) (filter (is_preferred π) ls) (λ ms. choice_of π (choice_of_two π k l) ls ≡ least_key_of k ms)
    (λ next. ap (λ x. choice_of π x ls) (chosen_alike π k l true is next) ∙ choice_of-preferred π (lesser_key k l) ls (lesser_alike π k l true is next))
    (λ next. ap (λ x. choice_of π x ls) (first_stays π k l is next) ∙ choice_of-preferred π k ls is)

-- after others one of the type is the one to choose, and else the least of all
choice_of-other : (π : Preference) (k : Key) (ks : List Key) → is_preferred π k ≡ false
    → Some (choice_of π k ks) ≡ option_or (least_key (filter (is_preferred π) ks)) (Some (least_key_of k ks))
choice_of-other π k [] is = refl
choice_of-other π k (l ∷ ls) is =
    cond_both (is_preferred π l) (l ∷ filter (is_preferred π) ls) (filter (is_preferred π) ls)
    (λ ms. Some (choice_of π (choice_of_two π k l) ls) ≡ option_or (least_key ms) (Some (least_key_of (lesser_key k l) ls)))
    (λ next. ap (λ x. Some (choice_of π x ls)) (next_taken π k l is next) ∙ ap Some (choice_of-preferred π l ls next))
    (λ next. ap (λ x. Some (choice_of π x ls)) (chosen_alike π k l false is next) ∙ choice_of-other π (lesser_key k l) ls (lesser_alike π k l false is next))

-- the least of the preferred type, told by the test
preferred-filter : (π : Preference) (ks : List Key) → preferred_key π ks ≡ least_key (filter (is_preferred π) ks)
preferred-filter None [] = refl
preferred-filter None (k ∷ ks) = preferred-filter None ks
preferred-filter (Some type) ks = refl

chosen_key : (π : Preference) (ks : List Key) → option_or (preferred_key π ks) (least_key ks) ≡ choice π ks
chosen_key None [] = refl
chosen_key (Some type) [] = refl
chosen_key π (k ∷ ks) =
    ap (λ o. option_or o (least_key (k ∷ ks))) (preferred-filter π (k ∷ ks))
    ∙ sym (cond_both (is_preferred π k) (k ∷ filter (is_preferred π) ks) (filter (is_preferred π) ks)
    (λ ms. Some (choice_of π k ks) ≡ option_or (least_key ms) (least_key (k ∷ ks)))
    (λ is. ap Some (choice_of-preferred π k ks is)) (λ is. choice_of-other π k ks is))

-- the key that identifiers give is the one to choose
pub key_is_choice : (π : Preference) (ds : List Data) → key_of_identifiers π ds ≡ choice π (map triple_of ds)
key_is_choice π ds = chosen_key π (map triple_of ds)
