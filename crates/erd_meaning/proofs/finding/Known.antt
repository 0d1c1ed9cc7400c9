-- What earlier objects have is what the indexes know.
use Rattle.erd_meaning.proofs.Common.{◌≡◌, ℕ, ◌+◌, Bool, true, false, cond, ◌&&◌, List, [], ◌∷◌, length, is_some, ◌==◌, Some, None, Option, option_map}
use Rattle.erd_meaning.proofs.Common.{position, option_and_then, is_eq, sym, refl, ap, ◌∙◌, ap₂, Bor, and-false, Decides-eqb, tied_itself, position_from-zero}
use Rattle.erd_meaning.proofs.Common.{Equal-is, both_ways, list_any, position_from, option_map_or, family_number, Family, key_cmp, same_owned, rank, number_at}
use Rattle.erd_meaning.proofs.Common.{number_of_id, number_of_key, those_of, is_keyed, keeps_id, Kept, same_key, same_id, has_same_key, has_same_id}
use Rattle.erd_meaning.proofs.Common.{key_cmp_total, key_cmp_exact, Key, inl, inr, cases_Bool, arith}
use Rattle.erd_meaning.proofs.finding.OneObject.{hit}
use Rattle.erd_meaning.proofs.finding.Pushed.{owned_exact}
use Rattle.erd_meaning.proofs.references.ReferenceLookups.{text_same}

-- ---- positions

some_from : {X : Type 0} (p : X → Bool) (i : ℕ) (xs : List X) → is_some (position_from p i xs) ≡ list_any p xs
some_from p i [] = refl
some_from p i (x ∷ xs) = elim (cases_Bool (p x)) [ inl is ↦ rw is refl | inr is ↦ rw is (some_from p (i + 1) xs) ]

some_position : {X : Type 0} (p : X → Bool) (xs : List X) → is_some (position p xs) ≡ list_any p xs
some_position p xs = ap is_some (position_from-zero p xs) ∙ some_from p 0 xs

any_none : {X : Type 0} (xs : List X) → list_any (λ x. false) xs ≡ false
any_none [] = refl
any_none (x ∷ xs) = any_none xs

-- ---- by an `@id`

pub id_known : (ks : List Kept) (id : List ℕ) → is_some (number_of_id ks id) ≡ list_any (keeps_id id) ks
id_known ks id = at (position (keeps_id id) ks) refl ∙ some_position (keeps_id id) ks
  where
    at : (o : Option ℕ) → position (keeps_id id) ks ≡ o → is_some (option_and_then (number_at ks) o) ≡ is_some o
    at None e = refl
    at (Some n) e =
        let h = hit (keeps_id id) ks n e in
        ap (λ (o : Option Kept). is_some (option_map {U = Family × ℕ} (λ (k : Kept). (k.family, rank k.family ks n)) o)) h.at

id_swap : (a b : Option (List ℕ)) → same_id a b ≡ same_id b a
id_swap (Some a) (Some b) = text_same a b
id_swap (Some a) None = refl
id_swap None (Some b) = refl
id_swap None None = refl

same_id_known : (ks : List Kept) (k : Kept) (id : List ℕ) → k.id ≡ Some id → list_any (has_same_id k) ks ≡ is_some (number_of_id ks id)
same_id_known ks k id e =
    ap (λ (test : Kept → Bool). list_any test ks) (λ i j. (ap (λ o. same_id o j.id) e ∙ id_swap (Some id) j.id) i) ∙ sym (id_known ks id)

no_id_known : (ks : List Kept) (k : Kept) → k.id ≡ None → list_any (has_same_id k) ks ≡ false
no_id_known ks k e = ap (λ (test : Kept → Bool). list_any test ks) (λ i j. same_id (e i) j.id) ∙ any_none ks

-- ---- by a key

key_known : (ks : List Kept) (f : Family) (key : Key) → is_some (number_of_key ks f key) ≡ list_any (is_keyed f key) ks
key_known ks f key = at (position (is_keyed f key) ks) ∙ some_position (is_keyed f key) ks
  where
    at : (o : Option ℕ) → is_some (option_map (rank f ks) o) ≡ is_some o
    at o = grind arith

pub number_swap : (m n : ℕ) → (m == n) ≡ (n == m)
number_swap m n = both_ways (m == n) (n == m) (λ h. (Decides-eqb n m).1 (sym ((Decides-eqb m n).0 h))) (λ h. (Decides-eqb m n).1 (sym ((Decides-eqb n m).0 h)))

keys_one_way : (k l : Key) → is_eq (key_cmp k l) ≡ true → is_eq (key_cmp l k) ≡ true
keys_one_way k l h =
    let same : k ≡ l = key_cmp_exact k l ((Equal-is (key_cmp k l)).0 h) in
    ap (λ m. is_eq (key_cmp l m)) same ∙ ap is_eq (tied_itself key_cmp_total l)

keys_swap : (k l : Key) → is_eq (key_cmp k l) ≡ is_eq (key_cmp l k)
keys_swap k l = both_ways (is_eq (key_cmp k l)) (is_eq (key_cmp l k)) (keys_one_way k l) (keys_one_way l k)

key_swap : (a b : Option Key) → same_key a b ≡ same_key b a
key_swap (Some a) (Some b) = keys_swap a b
key_swap (Some a) None = refl
key_swap None (Some b) = refl
key_swap None None = refl

same_key_known : (ks : List Kept) (k : Kept) (key : Key) → k.key ≡ Some key → list_any (has_same_key k) ks ≡ is_some (number_of_key ks k.family key)
same_key_known ks k key e =
    ap (λ (test : Kept → Bool). list_any test ks)
    (λ i j. number_swap (family_number k.family) (family_number j.family) i && (ap (λ o. same_key o j.key) e ∙ key_swap (Some key) j.key) i)
    ∙ sym (key_known ks k.family key)

no_key_known : (ks : List Kept) (k : Kept) → k.key ≡ None → list_any (has_same_key k) ks ≡ false
no_key_known ks k e =
    ap (λ (test : Kept → Bool). list_any test ks)
    (λ i j. (ap (λ o. (family_number k.family == family_number j.family) && same_key o j.key) e ∙ and-false (family_number k.family == family_number j.family))
    i) ∙ any_none ks

-- what is noted of a key is what is found of it
noted_key : (ks : List Kept) (k : Kept) (f : Family) (key l : Key) → k.key ≡ Some l
    → cond (same_owned (f, key) (k.family, l)) (Some (length (those_of k.family ks))) None ≡ cond (is_keyed f key k) (Some (length (those_of f ks))) None
noted_key ks k f key l e =
    elim (cases_Bool (same_owned (f, key) (k.family, l))) [
      | inl is ↦ ap (λ g. cond (same_owned (f, key) (k.family, l)) (Some (length (those_of g ks))) None)
          (sym (owned_exact f k.family key l is).0)
      | inr is ↦ rw is refl
    ] ∙ ap (λ b. cond b (Some (length (those_of f ks))) None)
    (ap₂ (λ a b. a && b) (number_swap (family_number f) (family_number k.family)) (keys_swap key l)
    ∙ ap (λ o. (family_number k.family == family_number f) && same_key o (Some key)) (sym e))

not_keyed : (k : Kept) (f : Family) (key : Key) → k.key ≡ None → is_keyed f key k ≡ false
not_keyed k f key e = ap (λ o. (family_number k.family == family_number f) && same_key o (Some key)) e ∙ and-false (family_number k.family == family_number f)

-- ---- where there may be none

pub noted_any : (ks : List Kept) (k : Kept) (f : Family) (key : Key) (o : Option Key) → k.key ≡ o
    → option_map_or (λ l. cond (same_owned (f, key) (k.family, l)) (Some (length (those_of k.family ks))) None) o None ≡ cond (is_keyed f key k)
    (Some (length (those_of f ks))) None
noted_any ks k f key None e = ap (λ b. cond b (Some (length (those_of f ks))) None) (sym (not_keyed k f key e))
noted_any ks k f key (Some l) e = noted_key ks k f key l e

pub has_key_known : (ks : List Kept) (k : Kept) (o : Option Key) → k.key ≡ o → list_any (has_same_key k) ks
    ≡ option_map_or (λ l. is_some (number_of_key ks k.family l)) o false
has_key_known ks k None e = no_key_known ks k e
has_key_known ks k (Some l) e = same_key_known ks k l e

pub has_id_known : (ks : List Kept) (k : Kept) (o : Option (Bor (List ℕ))) → k.id ≡ option_map (λ s. s.now) o
    → list_any (has_same_id k) ks ≡ option_map_or (λ s. is_some (number_of_id ks s.now)) o false
has_id_known ks k None e = no_id_known ks k e
has_id_known ks k (Some s) e = same_id_known ks k s.now e
