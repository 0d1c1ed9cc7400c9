-- The places of positions, each put at its position: the list of places is the inverse of the list of positions.
use Rattle.erd_meaning.proofs.Common.{◌≡◌, ℕ, zero, suc, ◌+◌, ◌<◌, List, [], ◌∷◌, length, slice_get, slice_set, Some, sym, refl, ap, ◌∙◌, subst, ap₂, arith}
use Rattle.erd_meaning.proofs.Common.{length-set, AllByRecursion, all_from_In, places_put, position_of}

-- one entry set
pub set_other : (ns : List ℕ) (i j n : ℕ) → (i ≡ j → ⊥) → slice_get (slice_set ns i n) j ≡ slice_get ns j
set_other [] zero j n other = refl
set_other [] (suc i) j n other = refl
set_other (m ∷ ns) zero zero n other = absurd (other refl)
set_other (m ∷ ns) zero (suc j) n other = refl
set_other (m ∷ ns) (suc i) zero n other = refl
set_other (m ∷ ns) (suc i) (suc j) n other = set_other ns i j n (λ e. other (ap suc e))

pub set_here : (ns : List ℕ) (i n : ℕ) → i < length ns → slice_get (slice_set ns i n) i ≡ Some n
set_here [] i n low = absurd (omega arith)
set_here (m ∷ ns) zero n low = refl
set_here (m ∷ ns) (suc i) n low = set_here ns i n (omega arith)

untouched : (is : List ℕ) (r : ℕ) (ns : List ℕ) (i : ℕ) → AllByRecursion (λ j. j ≡ i → ⊥) is → slice_get (places_put r is ns) i ≡ slice_get ns i
untouched [] r ns i apart = refl
untouched (j ∷ is) r ns i apart = untouched is (r + 1) (slice_set ns j r) i apart.1 ∙ set_other ns j i r apart.0

-- each position stands at one place
abbrev pub StandOnce : List ℕ → Type 0
StandOnce is = (j k i : ℕ) → slice_get is j ≡ Some i → slice_get is k ≡ Some i → j ≡ k

pub put_at : (is : List ℕ) (r : ℕ) (ns : List ℕ) (j i : ℕ) → StandOnce is → slice_get is j ≡ Some i → i < length ns
    → slice_get (places_put r is ns) i ≡ Some (r + j)
put_at [] r ns j i once e low = cc
put_at (h ∷ is) r ns zero i once e low =
    let same : h ≡ i = cc in
    let count : r ≡ r + 0 = omega arith in
    let others = all_from_In (λ k. k ≡ i → ⊥) is (λ k inside is_i.
    let p = position_of is k inside in
    let two : 0 ≡ suc p.0 = once 0 (suc p.0) i e (p.1 ∙ ap Some is_i) in
    omega arith) in
    untouched is (r + 1) (slice_set ns h r) i others ∙ (subst (λ k. slice_get (slice_set ns k r) i ≡ Some r) (sym same) (set_here ns i r low) ∙ ap Some count)
put_at (h ∷ is) r ns (suc j) i once e low =
    let count : (r + 1) + j ≡ r + suc j = omega arith in
    put_at is (r + 1) (slice_set ns h r) j i (λ a b k x y. let two : suc a ≡ suc b = once (suc a) (suc b) k x y in omega arith) e
    (subst (λ n. i < n) (sym (length-set ns h r)) low) ∙ ap Some count

pub length_put : (r : ℕ) (is ns : List ℕ) → length (places_put r is ns) ≡ length ns
length_put r [] ns = refl
length_put r (i ∷ is) ns = length_put (r + 1) is (slice_set ns i r) ∙ length-set ns i r

-- lists with the same entries at the same places
pub same_entries : {A : Type 0} (xs ys : List A) → length xs ≡ length ys → ((i : ℕ) (y : A) → slice_get ys i ≡ Some y → slice_get xs i ≡ Some y) → xs ≡ ys
same_entries [] [] long each = refl
same_entries [] (y ∷ ys) long each = absurd (omega (arith, long))
same_entries (x ∷ xs) [] long each = absurd (omega (arith, long))
same_entries {A} (x ∷ xs) (y ∷ ys) long each =
    let first : Some x ≡ Some y = each 0 y refl in
    let same : x ≡ y = cc in
    let rest : length xs ≡ length ys = omega (arith, long) in
    ap₂ (λ (z : A) zs. z ∷ zs) same (same_entries xs ys rest (λ i z e. each (suc i) z e))
