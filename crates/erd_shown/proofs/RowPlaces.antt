-- The row in which a line stands.
use Rattle.erd_text.proofs.Common.{◌≡◌, ℕ, zero, suc, ◌+◌, ◌<◌, ◌≤◌, List, [], ◌∷◌, inl, inr, sym, refl, ◌∙◌, arith, subst, In}
use Rattle.erd_shown.specs.Rows.{from, lefts, rights}
use Rattle.erd_shown.specs.declared.rows.Row.{Row}
use Rattle.erd_shown.specs.declared.rows.Row.TheVariants.{Both, Removed, Added, MovedAway, MovedHere}

-- the row has this line of the left ballot, or of the right one
abbrev pub HasLeft : ℕ → Row → Type 0
HasLeft i (Both k j) = k ≡ i
HasLeft i (Removed k) = k ≡ i
HasLeft i (MovedAway k j) = k ≡ i
HasLeft i row = ⊥

abbrev pub HasRight : ℕ → Row → Type 0
HasRight j (Both i k) = k ≡ j
HasRight j (Added k) = k ≡ j
HasRight j (MovedHere i k) = k ≡ j
HasRight j row = ⊥

abbrev pub Holds : (Row → Type 0) → List Row → Type 0
Holds P rows = (row : Row) × In row rows × P row

later : (P : Row → Type 0) (x : Row) (rows : List Row) → Holds P rows → Holds P (x ∷ rows)
later P x rows h = (h.0, inr h.1, h.2)

next : (k h : ℕ) → k + 1 + h ≡ k + suc h
next k h = omega arith

left_later : (rows : List Row) (k h : ℕ) (x : Row) → Holds (HasLeft (k + 1 + h)) rows → Holds (HasLeft (k + suc h)) (x ∷ rows)
left_later rows k h x found = subst (λ i. Holds (HasLeft i) (x ∷ rows)) (next k h) (later (HasLeft (k + 1 + h)) x rows found)

left_row : (rows : List Row) (k n h : ℕ) → lefts rows ≡ from k n → h < n → Holds (HasLeft (k + h)) rows
left_row [] k zero h e low = absurd (omega (arith, low))
left_row [] k (suc n) h e low = cc
left_row (Both i j ∷ rows) k zero h e low = cc
left_row (Both i j ∷ rows) k (suc n) zero e low = let here : i ≡ k = cc in (Both i j, inl refl, omega (arith, here))
left_row (Both i j ∷ rows) k (suc n) (suc h) e low =
    let rest : lefts rows ≡ from (k + 1) n = cc in left_later rows k h (Both i j) (left_row rows (k + 1) n h rest (omega (arith, low)))
left_row (Removed i ∷ rows) k zero h e low = cc
left_row (Removed i ∷ rows) k (suc n) zero e low = let here : i ≡ k = cc in (Removed i, inl refl, omega (arith, here))
left_row (Removed i ∷ rows) k (suc n) (suc h) e low =
    let rest : lefts rows ≡ from (k + 1) n = cc in left_later rows k h (Removed i) (left_row rows (k + 1) n h rest (omega (arith, low)))
left_row (MovedAway i j ∷ rows) k zero h e low = cc
left_row (MovedAway i j ∷ rows) k (suc n) zero e low = let here : i ≡ k = cc in (MovedAway i j, inl refl, omega (arith, here))
left_row (MovedAway i j ∷ rows) k (suc n) (suc h) e low =
    let rest : lefts rows ≡ from (k + 1) n = cc in left_later rows k h (MovedAway i j) (left_row rows (k + 1) n h rest (omega (arith, low)))
left_row (Added j ∷ rows) k n h e low = later (HasLeft (k + h)) (Added j) rows (left_row rows k n h e low)
left_row (MovedHere i j ∷ rows) k n h e low = later (HasLeft (k + h)) (MovedHere i j) rows (left_row rows k n h e low)

right_later : (rows : List Row) (k h : ℕ) (x : Row) → Holds (HasRight (k + 1 + h)) rows → Holds (HasRight (k + suc h)) (x ∷ rows)
right_later rows k h x found = subst (λ i. Holds (HasRight i) (x ∷ rows)) (next k h) (later (HasRight (k + 1 + h)) x rows found)

right_row : (rows : List Row) (k n h : ℕ) → rights rows ≡ from k n → h < n → Holds (HasRight (k + h)) rows
right_row [] k zero h e low = absurd (omega (arith, low))
right_row [] k (suc n) h e low = cc
right_row (Both i j ∷ rows) k zero h e low = cc
right_row (Both i j ∷ rows) k (suc n) zero e low = let here : j ≡ k = cc in (Both i j, inl refl, omega (arith, here))
right_row (Both i j ∷ rows) k (suc n) (suc h) e low =
    let rest : rights rows ≡ from (k + 1) n = cc in right_later rows k h (Both i j) (right_row rows (k + 1) n h rest (omega (arith, low)))
right_row (Added j ∷ rows) k zero h e low = cc
right_row (Added j ∷ rows) k (suc n) zero e low = let here : j ≡ k = cc in (Added j, inl refl, omega (arith, here))
right_row (Added j ∷ rows) k (suc n) (suc h) e low =
    let rest : rights rows ≡ from (k + 1) n = cc in right_later rows k h (Added j) (right_row rows (k + 1) n h rest (omega (arith, low)))
right_row (MovedHere i j ∷ rows) k zero h e low = cc
right_row (MovedHere i j ∷ rows) k (suc n) zero e low = let here : j ≡ k = cc in (MovedHere i j, inl refl, omega (arith, here))
right_row (MovedHere i j ∷ rows) k (suc n) (suc h) e low =
    let rest : rights rows ≡ from (k + 1) n = cc in right_later rows k h (MovedHere i j) (right_row rows (k + 1) n h rest (omega (arith, low)))
right_row (Removed i ∷ rows) k n h e low = later (HasRight (k + h)) (Removed i) rows (right_row rows k n h e low)
right_row (MovedAway i j ∷ rows) k n h e low = later (HasRight (k + h)) (MovedAway i j) rows (right_row rows k n h e low)

from_start : (i : ℕ) → 0 + i ≡ i
from_start i = omega arith

pub row_with_left : (rows : List Row) (n i : ℕ) → lefts rows ≡ from 0 n → i < n → Holds (HasLeft i) rows
row_with_left rows n i e low = subst (λ k. Holds (HasLeft k) rows) (from_start i) (left_row rows 0 n i e low)

pub row_with_right : (rows : List Row) (n j : ℕ) → rights rows ≡ from 0 n → j < n → Holds (HasRight j) rows
row_with_right rows n j e low = subst (λ k. Holds (HasRight k) rows) (from_start j) (right_row rows 0 n j e low)

-- ---- no line stands in two rows

least_later : (k i : ℕ) → k + 1 ≤ i → k ≤ i
least_later k i low = omega (arith, low)

least_left : (rows : List Row) (k n i : ℕ) (r : Row) → lefts rows ≡ from k n → In r rows → HasLeft i r → k ≤ i
least_left [] k n i r e inside is = absurd inside
least_left (Both j h ∷ rows) k zero i r e inside is = cc
least_left (Both j h ∷ rows) k (suc n) i r e (inl g) is =
    let here : j ≡ k = cc in let one : j ≡ i = subst (HasLeft i) (sym g) is in omega (arith, here, one)
least_left (Both j h ∷ rows) k (suc n) i r e (inr g) is =
    let rest : lefts rows ≡ from (k + 1) n = cc in least_later k i (least_left rows (k + 1) n i r rest g is)
least_left (Removed j ∷ rows) k zero i r e inside is = cc
least_left (Removed j ∷ rows) k (suc n) i r e (inl g) is =
    let here : j ≡ k = cc in let one : j ≡ i = subst (HasLeft i) (sym g) is in omega (arith, here, one)
least_left (Removed j ∷ rows) k (suc n) i r e (inr g) is =
    let rest : lefts rows ≡ from (k + 1) n = cc in least_later k i (least_left rows (k + 1) n i r rest g is)
least_left (MovedAway j h ∷ rows) k zero i r e inside is = cc
least_left (MovedAway j h ∷ rows) k (suc n) i r e (inl g) is =
    let here : j ≡ k = cc in let one : j ≡ i = subst (HasLeft i) (sym g) is in omega (arith, here, one)
least_left (MovedAway j h ∷ rows) k (suc n) i r e (inr g) is =
    let rest : lefts rows ≡ from (k + 1) n = cc in least_later k i (least_left rows (k + 1) n i r rest g is)
least_left (Added j ∷ rows) k n i r e (inl g) is = absurd (subst (HasLeft i) (sym g) is)
least_left (Added j ∷ rows) k n i r e (inr g) is = least_left rows k n i r e g is
least_left (MovedHere j h ∷ rows) k n i r e (inl g) is = absurd (subst (HasLeft i) (sym g) is)
least_left (MovedHere j h ∷ rows) k n i r e (inr g) is = least_left rows k n i r e g is

-- the first row has the line k, and no later one has it
first_apart : (x : Row) (rows : List Row) (k n i : ℕ) (r : Row) → HasLeft k x → lefts rows ≡ from (k + 1) n → HasLeft i x → In r rows → HasLeft i r → ⊥
first_apart x rows k n i r first rest one inside is =
    let low : k + 1 ≤ i = least_left rows (k + 1) n i r rest inside is in
    let here : k ≡ i = same_left x k i first one in
    omega (arith, low, here)
  where
    same_left : (x : Row) (k i : ℕ) → HasLeft k x → HasLeft i x → k ≡ i
    same_left (Both j h) k i e f = sym e ∙ f
    same_left (Removed j) k i e f = sym e ∙ f
    same_left (MovedAway j h) k i e f = sym e ∙ f
    same_left (Added j) k i e f = absurd e
    same_left (MovedHere j h) k i e f = absurd e

one_of_two : (x : Row) (rows : List Row) (k n i : ℕ) (r s : Row) → HasLeft k x → lefts rows ≡ from (k + 1) n → (In r rows → In s rows → r ≡ s)
    → In r (x ∷ rows) → In s (x ∷ rows) → HasLeft i r → HasLeft i s → r ≡ s
one_of_two x rows k n i r s first rest both (inl g) (inl h) a b = sym g ∙ h
one_of_two x rows k n i r s first rest both (inl g) (inr h) a b = absurd (first_apart x rows k n i s first rest (subst (HasLeft i) (sym g) a) h b)
one_of_two x rows k n i r s first rest both (inr g) (inl h) a b = absurd (first_apart x rows k n i r first rest (subst (HasLeft i) (sym h) b) g a)
one_of_two x rows k n i r s first rest both (inr g) (inr h) a b = both g h

-- a row that has no line of the left ballot
one_later : (x : Row) (rows : List Row) (i : ℕ) (r s : Row) → (HasLeft i x → ⊥) → (In r rows → In s rows → r ≡ s)
    → In r (x ∷ rows) → In s (x ∷ rows) → HasLeft i r → HasLeft i s → r ≡ s
one_later x rows i r s none both (inl g) h a b = absurd (none (subst (HasLeft i) (sym g) a))
one_later x rows i r s none both (inr g) (inl h) a b = absurd (none (subst (HasLeft i) (sym h) b))
one_later x rows i r s none both (inr g) (inr h) a b = both g h

pub one_left_row : (rows : List Row) (k n i : ℕ) (r s : Row) → lefts rows ≡ from k n → In r rows → In s rows → HasLeft i r → HasLeft i s → r ≡ s
one_left_row [] k n i r s e inside other a b = absurd inside
one_left_row (Both j h ∷ rows) k zero i r s e inside other a b = cc
one_left_row (Both j h ∷ rows) k (suc n) i r s e inside other a b =
    let here : j ≡ k = cc in
    let rest : lefts rows ≡ from (k + 1) n = cc in
    one_of_two (Both j h) rows k n i r s here rest (λ g h. one_left_row rows (k + 1) n i r s rest g h a b) inside other a b
one_left_row (Removed j ∷ rows) k zero i r s e inside other a b = cc
one_left_row (Removed j ∷ rows) k (suc n) i r s e inside other a b =
    let here : j ≡ k = cc in
    let rest : lefts rows ≡ from (k + 1) n = cc in
    one_of_two (Removed j) rows k n i r s here rest (λ g h. one_left_row rows (k + 1) n i r s rest g h a b) inside other a b
one_left_row (MovedAway j h ∷ rows) k zero i r s e inside other a b = cc
one_left_row (MovedAway j h ∷ rows) k (suc n) i r s e inside other a b =
    let here : j ≡ k = cc in
    let rest : lefts rows ≡ from (k + 1) n = cc in
    one_of_two (MovedAway j h) rows k n i r s here rest (λ g h. one_left_row rows (k + 1) n i r s rest g h a b) inside other a b
one_left_row (Added j ∷ rows) k n i r s e inside other a b =
    one_later (Added j) rows i r s (λ x. x) (λ g h. one_left_row rows k n i r s e g h a b) inside other a b
one_left_row (MovedHere j h ∷ rows) k n i r s e inside other a b =
    one_later (MovedHere j h) rows i r s (λ x. x) (λ g h. one_left_row rows k n i r s e g h a b) inside other a b
