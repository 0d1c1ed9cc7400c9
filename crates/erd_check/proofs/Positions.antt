-- Where the entries of a list stand, and what stands where one option gives another.
use Rattle.erd_check.proofs.Common.{◌≡◌, ℕ, zero, suc, ◌+◌, List, [], ◌∷◌, drop, slice_get, Some, ap, ◌∙◌, subst, ⊎_elim, AllByRecursion, true, None, Option}
use Rattle.erd_check.proofs.Common.{option_map, option_and_then, refl, inl, inr}
use Rattle.std.proofs.Common.{is_some}
use Rattle.std.proofs.lemmas.List.{drop_more}
use Rattle.std.proofs.lemmas.Option.{get_or_from_slice_get, slice_get_within}
use Rattle.erd_check.proofs.Order.{In}

-- an entry of a list stands at a position
pub position_of : {A : Type 0} (xs : List A) (x : A) → In x xs → (i : ℕ) × (slice_get xs i ≡ Some x)
position_of [] x h = elim h [ ]
position_of (y ∷ ys) x h = ⊎_elim (λ same. (zero, ap Some same)) (λ k. let r = position_of ys x k in (suc r.0, r.1)) h

-- an entry at a position is one of the list
pub in_at : {A : Type 0} (xs : List A) (i : ℕ) (x : A) → slice_get xs i ≡ Some x → In x xs
in_at [] i x is = absurd (cc is)
in_at (y ∷ ys) zero x is = let same : y ≡ x = cc in subst (λ z. In z (y ∷ ys)) same (inl refl)
in_at (y ∷ ys) (suc i) x is = inr (in_at ys i x is)

-- what is left of a list from a position on begins with the entry there
pub left_there : {A : Type 0} (xs : List A) (i : ℕ) (x : A) → slice_get xs i ≡ Some x → drop i xs ≡ x ∷ drop (i + 1) xs
left_there xs i x is = drop_more xs i x (slice_get_within xs i x is) ∙ ap (λ y. y ∷ drop (i + 1) xs) (get_or_from_slice_get xs i x x is)

-- what holds of all entries holds at each position
pub all_at : {A : Type 0} (P : A → Type 0) (xs : List A) (i : ℕ) (x : A) → AllByRecursion P xs → slice_get xs i ≡ Some x → P x
all_at P [] i x all is = absurd (cc is)
all_at P (y ∷ ys) zero x all is = let same : y ≡ x = cc in subst P same all.0
all_at P (y ∷ ys) (suc i) x all is = all_at P ys i x all.1 is

pub all_weakened : {A : Type 0} (P Q : A → Type 0) (xs : List A) → ((x : A) → P x → Q x) → AllByRecursion P xs → AllByRecursion Q xs
all_weakened P Q [] each all = tt
all_weakened P Q (x ∷ xs) each all = (each x all.0, all_weakened P Q xs each all.1)

-- ---- what stands where one option gives another

-- a value that is given comes from one that stands
pub and_then-Some : {A B : Type 0} (f : A → Option B) (o : Option A) (y : B) → option_and_then f o ≡ Some y → (x : A) × (o ≡ Some x) × (f x ≡ Some y)
and_then-Some f None y e = cc
and_then-Some f (Some x) y e = (x, refl, e)

pub option_map-Some : {A B : Type 0} (f : A → B) (o : Option A) (y : B) → option_map f o ≡ Some y → (x : A) × (o ≡ Some x) × (f x ≡ y)
option_map-Some f None y e = cc
option_map-Some f (Some x) y e = (x, refl, cc)

pub some_from : {A : Type 0} (o : Option A) → is_some o ≡ true → (x : A) × (o ≡ Some x)
some_from None h = cc
some_from (Some x) h = (x, refl)
