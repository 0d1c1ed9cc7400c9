-- What the indexes answer, once something was added.
use Rattle.erd_meaning.proofs.Common.{◌≡◌, ℕ, zero, suc, ◌+◌, ◌<◌, Bool, true, false, cond, List, [], ◌∷◌, ◌++◌, length, is_some, slice_get, Some, None, Option}
use Rattle.erd_meaning.proofs.Common.{option_map, position, option_and_then, sym, refl, ap, ◌∙◌, subst, append_assoc, append-nil, arith, append_snoc}
use Rattle.erd_meaning.proofs.Common.{take-append_seam, position_from-zero, take-append-le, length_push, slice_get_within, position_from, lookup, option_or}
use Rattle.erd_meaning.proofs.Common.{Family, family, with_place, places_from, rank, number_at, number_of_id, number_of_key, contests_noted, contests_before}
use Rattle.erd_meaning.proofs.Common.{is_of_family, those_of, is_keyed, keeps_id, Kept, Key, inl, inr, cases_Bool, ◌&&◌, ◌==◌, is_eq, rules, and_parts}
use Rattle.erd_meaning.proofs.Common.{Equal-is, family_number, key_writes, key_cmp, same_owned, is_salted_owned, key_cmp_exact, salted_number, Salted}
use Rattle.erd_meaning.proofs.finding.OneObject.{hit}
use Rattle.erd_index.specs.declared.salt.Salt.{Salt}
use Rattle.erd_meaning.proofs.identity.ObjectFamilies.{family_exact}
use Rattle.erd_tables.specs.contracts.class.FamilyPartialEq as family_eq

-- ---- lists

-- what is looked up among entries, and one more
pub lookup_push : {K X : Type 0} (test : K → Bool) (es : List (K × X)) (k : K) (x : X) → lookup test (es ++ (k, x) ∷ []) ≡ option_or (lookup test es)
    (cond (test k) (Some x) None)
lookup_push test [] k x = refl
lookup_push test (e ∷ es) k x = elim (cases_Bool (test e.0)) [ inl is ↦ rw is refl | inr is ↦ rw is (lookup_push test es k x) ]

position_from_push : {X : Type 0} (p : X → Bool) (i : ℕ) (xs : List X) (x : X)
    → position_from p i (xs ++ x ∷ []) ≡ option_or (position_from p i xs) (cond (p x) (Some (i + length xs)) None)
position_from_push p i [] x = let none : i + 0 ≡ i = omega arith in ap (λ n. cond (p x) (Some n) None) (sym none)
position_from_push p i (y ∷ xs) x =
    let next : i + 1 + length xs ≡ i + length (y ∷ xs) = omega arith in
    elim (cases_Bool (p y)) [
      | inl is ↦ rw is refl
      | inr is ↦ rw is (position_from_push p (i + 1) xs x ∙ ap (λ n. option_or (position_from p (i + 1) xs) (cond (p x) (Some n) None)) next)
    ]

pub position_push : {X : Type 0} (p : X → Bool) (xs : List X) (x : X) → position p (xs ++ x ∷ []) ≡ option_or (position p xs)
    (cond (p x) (Some (length xs)) None)
position_push p xs x =
    let none : 0 + length xs ≡ length xs = omega arith in
    position_from-zero p (xs ++ x ∷ []) ∙ position_from_push p 0 xs x ∙ ap (λ n. option_or (position_from p 0 xs) (cond (p x) (Some n) None)) none
    ∙ ap (λ o. option_or o (cond (p x) (Some (length xs)) None)) (sym (position_from-zero p xs))

get_earlier : {X : Type 0} (xs : List X) (y x : X) (i : ℕ) → slice_get xs i ≡ Some x → slice_get (xs ++ y ∷ []) i ≡ Some x
get_earlier [] y x i e = cc
get_earlier (z ∷ xs) y x zero e = e
get_earlier (z ∷ xs) y x (suc i) e = get_earlier xs y x i e

pub get_last : {X : Type 0} (xs ys : List X) (y : X) → slice_get (xs ++ y ∷ ys) (length xs) ≡ Some y
get_last [] ys y = refl
get_last (x ∷ xs) ys y = get_last xs ys y

-- what was there stays
pub or_known : {X : Type 0} (o : Option X) (x : X) (b : Bool) → (b ≡ true → is_some o ≡ true) → o ≡ option_or o (cond b (Some x) None)
or_known o x b known = grind arith

-- where nothing is found
pub none_found : {X : Type 0} (o : Option X) → false ≡ is_some o → o ≡ None
none_found o e = grind arith

-- ---- the places of a family

pub places_push : (f : Family) (n : ℕ) (ks : List Kept) (k : Kept) → places_from f n (ks ++ k ∷ []) ≡ with_place k.family (n + length ks) f (places_from f n ks)
places_push f n [] k = let none : n + 0 ≡ n = omega arith in ap (λ m. cond (is_of_family f k) (m ∷ []) []) (sym none)
places_push f n (l ∷ ks) k = at (is_of_family f l) (is_of_family f k)
    (places_push f (n + 1) ks k ∙ ap (λ m. with_place k.family m f (places_from f (n + 1) ks)) next)
  where
    next : n + 1 + length ks ≡ n + length (l ∷ ks)
    next = omega arith

    at : (b c : Bool) → places_from f (n + 1) (ks ++ k ∷ []) ≡ cond c (places_from f (n + 1) ks ++ (n + length (l ∷ ks)) ∷ []) (places_from f (n + 1) ks)
        → cond b (n ∷ places_from f (n + 1) (ks ++ k ∷ [])) (places_from f (n + 1) (ks ++ k ∷ []))
        ≡ cond c (cond b (n ∷ places_from f (n + 1) ks) (places_from f (n + 1) ks) ++ (n + length (l ∷ ks)) ∷ [])
        (cond b (n ∷ places_from f (n + 1) ks) (places_from f (n + 1) ks))
    at true true h = ap (λ ps. n ∷ ps) h
    at true false h = ap (λ ps. n ∷ ps) h
    at false c h = h

-- there are as many as objects
pub places_length : (f : Family) (n : ℕ) (ks : List Kept) → length (places_from f n ks) ≡ length (those_of f ks)
places_length f n [] = refl
places_length f n (k ∷ ks) =
    elim (cases_Bool (is_of_family f k)) [ inl is ↦ rw is (ap suc (places_length f (n + 1) ks)) | inr is ↦ rw is (places_length f (n + 1) ks) ]

-- and there the objects stand
places_after : (f : Family) (js ks : List Kept) (i : ℕ) → option_and_then (slice_get (js ++ ks)) (slice_get (places_from f (length js) ks) i)
    ≡ slice_get (those_of f ks) i
places_after f js [] i = refl
places_after f js (k ∷ ks) i = at (is_of_family f k) i
    (λ m. subst (λ (ls : List Kept). option_and_then (slice_get ls) (slice_get (places_from f (length js + 1) ks) m) ≡ slice_get (those_of f ks) m)
    (append_snoc js k ks)
    (subst (λ n. option_and_then (slice_get ((js ++ k ∷ []) ++ ks)) (slice_get (places_from f n ks) m) ≡ slice_get (those_of f ks) m) (length_push js k)
    (places_after f (js ++ k ∷ []) ks m)))
  where
    at : (b : Bool) (m : ℕ) → ((n : ℕ) → option_and_then (slice_get (js ++ k ∷ ks)) (slice_get (places_from f (length js + 1) ks) n)
        ≡ slice_get (those_of f ks) n)
        → option_and_then (slice_get (js ++ k ∷ ks)) (slice_get (cond b (length js ∷ places_from f (length js + 1) ks) (places_from f (length js + 1) ks)) m)
        ≡ slice_get (cond b (k ∷ those_of f ks) (those_of f ks)) m
    at true zero later = get_last js ks k
    at true (suc m) later = later m
    at false m later = later m

pub places_get : (f : Family) (ks : List Kept) (i : ℕ) → option_and_then (slice_get ks) (slice_get (places_from f 0 ks) i) ≡ slice_get (those_of f ks) i
places_get f ks i = places_after f [] ks i

-- ---- the contests of selections

pub before_push : (n : ℕ) (ks : List Kept) (k : Kept)
    → contests_before n (ks ++ k ∷ []) ≡ contests_before n ks ++ contests_noted k.family (n + length (those_of family.Contest ks))
before_push n [] k = let none : n + 0 ≡ n = omega arith in append-nil (contests_noted k.family n) ∙ ap (contests_noted k.family) (sym none)
before_push n (l ∷ ks) k =
    let m = cond (is_of_family family.Contest l) (n + 1) n in
    ap (λ ns. contests_noted l.family n ++ ns) (before_push m ks k ∙ ap (λ i. contests_before m ks ++ contests_noted k.family i)
    (count (is_of_family family.Contest l))) ∙ sym (append_assoc (contests_noted l.family n) (contests_before m ks) _)
  where
    count : (b : Bool) → cond b (n + 1) n + length (those_of family.Contest ks)
        ≡ n + length (cond b (l ∷ those_of family.Contest ks) (those_of family.Contest ks))
    count true = omega arith
    count false = refl

-- ---- what is found

rank_earlier : (f : Family) (ks : List Kept) (k j : Kept) (n : ℕ) → slice_get ks n ≡ Some j → rank f (ks ++ k ∷ []) n ≡ rank f ks n
rank_earlier f ks k j n e =
    let inside : n < length ks = slice_get_within ks n j e in
    ap (λ ls. length (those_of f ls)) (take-append-le n ks (k ∷ []) (omega (arith, inside)))

rank_last : (f : Family) (ks : List Kept) (k : Kept) → rank f (ks ++ k ∷ []) (length ks) ≡ length (those_of f ks)
rank_last f ks k = ap (λ ls. length (those_of f ls)) (take-append_seam ks (k ∷ []))

number_earlier : (ks : List Kept) (k j : Kept) (n : ℕ) → slice_get ks n ≡ Some j → number_at (ks ++ k ∷ []) n ≡ Some (j.family, rank j.family ks n)
number_earlier ks k j n e =
    ap (option_map {U = Family × ℕ} (λ (l : Kept). (l.family, rank l.family (ks ++ k ∷ []) n))) (get_earlier ks k j n e)
    ∙ ap (λ m. Some (j.family, m)) (rank_earlier j.family ks k j n e)

number_last : (ks : List Kept) (k : Kept) → number_at (ks ++ k ∷ []) (length ks) ≡ Some (k.family, length (those_of k.family ks))
number_last ks k =
    ap (option_map {U = Family × ℕ} (λ (l : Kept). (l.family, rank l.family (ks ++ k ∷ []) (length ks)))) (get_last ks [] k)
    ∙ ap (λ m. Some (k.family, m)) (rank_last k.family ks k)

pub number_of_id_push : (ks : List Kept) (k : Kept) (id : List ℕ)
    → number_of_id (ks ++ k ∷ []) id ≡ option_or (number_of_id ks id) (cond (keeps_id id k) (Some (k.family, length (those_of k.family ks))) None)
number_of_id_push ks k id =
    ap (option_and_then (number_at (ks ++ k ∷ []))) (position_push (keeps_id id) ks k) ∙ from (position (keeps_id id) ks) refl
  where
    last : (b : Bool) → option_and_then (number_at (ks ++ k ∷ [])) (cond b (Some (length ks)) None)
        ≡ cond b (Some (k.family, length (those_of k.family ks))) None
    last true = number_last ks k
    last false = refl

    from : (o : Option ℕ) → position (keeps_id id) ks ≡ o
        → option_and_then (number_at (ks ++ k ∷ [])) (option_or o (cond (keeps_id id k) (Some (length ks)) None))
        ≡ option_or (option_and_then (number_at ks) o) (cond (keeps_id id k) (Some (k.family, length (those_of k.family ks))) None)
    from None e = last (keeps_id id k)
    from (Some n) e =
        let h = hit (keeps_id id) ks n e in
        let here : number_at ks n ≡ Some (h.one.family, rank h.one.family ks n) =
        ap (option_map {U = Family × ℕ} (λ (l : Kept). (l.family, rank l.family ks n))) h.at in
        number_earlier ks k h.one n h.at ∙ sym (ap (λ o. option_or o (cond (keeps_id id k) (Some (k.family, length (those_of k.family ks))) None)) here)

pub number_of_key_push : (ks : List Kept) (k : Kept) (f : Family) (key : Key)
    → number_of_key (ks ++ k ∷ []) f key ≡ option_or (number_of_key ks f key) (cond (is_keyed f key k) (Some (length (those_of f ks))) None)
number_of_key_push ks k f key =
    ap (option_map (rank f (ks ++ k ∷ []))) (position_push (is_keyed f key) ks k) ∙ from (position (is_keyed f key) ks) refl
  where
    last : (b : Bool) → option_map (rank f (ks ++ k ∷ [])) (cond b (Some (length ks)) None) ≡ cond b (Some (length (those_of f ks))) None
    last true = ap Some (rank_last f ks k)
    last false = refl

    from : (o : Option ℕ) → position (is_keyed f key) ks ≡ o
        → option_map (rank f (ks ++ k ∷ [])) (option_or o (cond (is_keyed f key k) (Some (length ks)) None))
        ≡ option_or (option_map (rank f ks) o) (cond (is_keyed f key k) (Some (length (those_of f ks))) None)
    from None e = last (is_keyed f key k)
    from (Some n) e =
        let h = hit (is_keyed f key) ks n e in
        ap Some (rank_earlier f ks k h.one n h.at)

-- ---- the test by which an index of keys is asked: one family and one key

pub families_same : (f g : Family) → family_eq.TheImpl.ghosts.eq f g ≡ (family_number f == family_number g)
families_same f g = search rules

pub owned_test : (f : Family) (k : Key) → (λ (o : Family × Key). family_eq.TheImpl.ghosts.eq f o.0 && is_eq (key_cmp k o.1)) ≡ same_owned (f, k)
owned_test f k i o = families_same f o.0 i && is_eq (key_cmp k o.1)

-- the test by which the index is asked, where the number is that of the key
pub owned_asked : (salt : Salt) (n : ℕ) (f : Family) (k : Key) → n ≡ salted_number salt (key_writes k)
    → (λ (o : Salted (Family × Key)). (n == o.number) && (family_eq.TheImpl.ghosts.eq f o.key.0 && is_eq (key_cmp k o.key.1))) ≡ is_salted_owned salt (f, k)
owned_asked salt n f k e i o = (e i == o.number) && owned_test f k i o.key

-- what passes is one
pub owned_exact : (f g : Family) (k l : Key) → same_owned (f, k) (g, l) ≡ true → (f ≡ g) × (k ≡ l)
owned_exact f g k l e =
    let both = and_parts (family_number f == family_number g) (is_eq (key_cmp k l)) e in
    (family_exact f g both.0, key_cmp_exact k l ((Equal-is (key_cmp k l)).0 both.1))
