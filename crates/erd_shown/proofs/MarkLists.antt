-- Marks of objects, in the order of the objects.
use Rattle.erd_shown.proofs.Common.{◌≡◌, ℕ, ◌+◌, ◌<◌, ◌≤◌, Bool, true, false, cond, ◌||◌, List, [], ◌∷◌, ◌++◌, length, map, drop, slice_get, Some, None, Option}
use Rattle.erd_shown.proofs.Common.{option_map, option_map_or, list_any, unwrap_or, sym, refl, ap, ◌∙◌, subst, append_assoc, append-nil}
use Rattle.erd_shown.proofs.Common.{slice_get-map, length-map, at_low, drop_all, Data, Family, Placed, objects, owner}
use Rattle.erd_shown.specs.code.Marks.{marks_of}
use Rattle.erd_shown.proofs.Written.{drop_there}

pub mark_there : (P : Data → Bool) (f : Family) (t : Data) (i : ℕ) → unwrap_or (slice_get (marks_of P f t) i) false
    ≡ option_map_or P (option_map (λ o. o.value) (slice_get (objects f t) i)) false
mark_there P f t i = ap (λ x. unwrap_or x false) (slice_get-map (λ (o : Placed). P o.value) (objects f t) i) ∙ at (slice_get (objects f t) i)
  where
    at : (o : Option Placed) → unwrap_or (option_map (λ (o : Placed). P o.value) o) false ≡ option_map_or P (option_map (λ o. o.value) o) false
    at None = refl
    at (Some o) = refl

pub owner_marked : (P : Data → Bool) (f : Family) (t : Data) (id : List ℕ) (marks : List Bool) (i : ℕ) (mark : Bool)
    → mark ≡ unwrap_or (slice_get marks i) false → option_map (λ o. o.value) (slice_get (objects f t) i) ≡ owner t f id → marks ≡ marks_of P f t
    → mark ≡ option_map_or P (owner t f id) false
owner_marked P f t id marks i mark is there all =
    is ∙ ap (λ ms. unwrap_or (slice_get ms i) false) all ∙ mark_there P f t i ∙ ap (λ o. option_map_or P o false) there

-- one more mark
pub next_mark : (P : Data → Bool) (f : Family) (t : Data) (i : ℕ) (old new : List Bool) (mark : Bool) → i < length (objects f t)
    → ((o : Placed) → slice_get (objects f t) i ≡ Some o → mark ≡ P o.value) → new ≡ old ++ mark ∷ [] → old ++ drop i (marks_of P f t) ≡ marks_of P f t
    → new ++ drop (i + 1) (marks_of P f t) ≡ marks_of P f t
next_mark P f t i old new mark low is pushed before =
    let o = at_low (objects f t) i low in
    let there : slice_get (marks_of P f t) i ≡ Some mark =
    slice_get-map (λ (o : Placed). P o.value) (objects f t) i ∙ ap (option_map (λ (o : Placed). P o.value)) o.1 ∙ ap Some (sym (is o.0 o.1)) in
    ap (λ xs. xs ++ drop (i + 1) (marks_of P f t)) pushed
    ∙ append_assoc old (mark ∷ []) (drop (i + 1) (marks_of P f t))
    ∙ ap (λ xs. old ++ xs) (sym (drop_there (marks_of P f t) i mark there))
    ∙ before

pub any_map : {A B : Type 0} (p : B → Bool) (f : A → B) (xs : List A) → list_any (λ x. p (f x)) xs ≡ list_any p (map f xs)
any_map p f [] = refl
any_map p f (x ∷ xs) = ap (λ b. p (f x) || b) (any_map p f xs)

-- what is so in the branch that is taken
pub then_so : {A : Type 0} (b : Bool) (x y z : A) → b ≡ true → z ≡ x → z ≡ cond b x y
then_so true x y z is e = e
then_so false x y z is e = cc

pub else_so : {A : Type 0} (b : Bool) (x y z : A) → b ≡ false → z ≡ y → z ≡ cond b x y
else_so true x y z is e = cc
else_so false x y z is e = e

pub all_marked : (P : Data → Bool) (f : Family) (t : Data) (i : ℕ) (marks : List Bool) → length (objects f t) ≤ i → marks ++ drop i (marks_of P f t)
    ≡ marks_of P f t → marks ≡ marks_of P f t
all_marked P f t i marks past all =
    let many : length (marks_of P f t) ≤ i = subst (λ n. n ≤ i) (sym (length-map (objects f t) (λ (o : Placed). P o.value))) past in
    sym (append-nil marks) ∙ ap (λ xs. marks ++ xs) (sym (drop_all i (marks_of P f t) many)) ∙ all
