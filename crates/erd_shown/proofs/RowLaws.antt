-- Rows that tell no difference.
use Rattle.erd_shown.proofs.Common.{◌≡◌, ℕ, zero, suc, ◌+◌, ◌<◌, List, [], ◌∷◌, map, length, slice_get, Some, Option, Bool, sym, refl, ap, ap₂, ◌∙◌, arith}
use Rattle.erd_shown.proofs.Common.{length-map, AllByRecursion, eq_by_cmp, Data, Preference}
use Rattle.erd_shown.specs.BallotLaws.{BallotsTell, TellsNoDifference}
use Rattle.erd_shown.specs.Ballots.{line_data, lines_of, thing_at}
use Rattle.erd_shown.specs.KeyData.{array_of}
use Rattle.erd_shown.specs.Partners.{occurrences, occurrences_after, partners, place_from}
use Rattle.erd_shown.specs.RowData.{thing_cmp, things_of}
use Rattle.erd_shown.specs.Rows.{AreRows, from, lefts, rights}
use Rattle.erd_shown.specs.declared.rows.Row.{Row}
use Rattle.erd_shown.specs.declared.rows.Row.TheVariants.{Both, Removed, Added, MovedAway, MovedHere}

from_start : (h : ℕ) → h ≡ 0 + h
from_start h = omega arith

module _ {A : Type 0} where
  step : (ls rs : List A) (k i j n : ℕ) → i ≡ k → j ≡ k → slice_get ls i ≡ slice_get rs j
      → ((h : ℕ) → h < n → slice_get ls (k + 1 + h) ≡ slice_get rs (k + 1 + h))
      → (h : ℕ) → h < suc n → slice_get ls (k + h) ≡ slice_get rs (k + h)
  step ls rs k i j n one other same rest zero low =
      let left : k + 0 ≡ i = omega (arith, one) in
      let right : j ≡ k + 0 = omega (arith, other) in
      ap (slice_get ls) left ∙ same ∙ ap (slice_get rs) right
  step ls rs k i j n one other same rest (suc h) low =
      let left : k + suc h ≡ k + 1 + h = omega arith in
      ap (slice_get ls) left ∙ rest h (omega (arith, low)) ∙ ap (slice_get rs) (sym left)

  -- rows of both alone pair equal positions
  paired : (ls rs : List A) (rows : List Row) (k n m : ℕ) → lefts rows ≡ from k n → rights rows ≡ from k m → AllByRecursion (TellsNoDifference ls rs) rows
      → (n ≡ m) × ((h : ℕ) → h < n → slice_get ls (k + h) ≡ slice_get rs (k + h))
  paired ls rs [] k zero zero e f all = (refl, λ h low. absurd (omega (arith, low)))
  paired ls rs [] k zero (suc m) e f all = cc
  paired ls rs [] k (suc n) m e f all = cc
  paired ls rs (Both i j ∷ rows) k zero m e f all = cc
  paired ls rs (Both i j ∷ rows) k (suc n) zero e f all = cc
  paired ls rs (Both i j ∷ rows) k (suc n) (suc m) e f all =
      let one : i ≡ k = cc in
      let other : j ≡ k = cc in
      let left : lefts rows ≡ from (k + 1) n = cc in
      let right : rights rows ≡ from (k + 1) m = cc in
      let rest = paired ls rs rows (k + 1) n m left right all.1 in
      (ap suc rest.0, step ls rs k i j n one other all.0 rest.1)
  paired ls rs (Removed i ∷ rows) k n m e f all = absurd all.0
  paired ls rs (Added j ∷ rows) k n m e f all = absurd all.0
  paired ls rs (MovedAway i j ∷ rows) k n m e f all = absurd all.0
  paired ls rs (MovedHere i j ∷ rows) k n m e f all = absurd all.0

  same_lists : (ls rs : List A) → length ls ≡ length rs → ((h : ℕ) → h < length ls → slice_get ls h ≡ slice_get rs h) → ls ≡ rs
  same_lists [] [] e each = refl
  same_lists [] (r ∷ rs) e each = cc
  same_lists (l ∷ ls) [] e each = cc
  same_lists (l ∷ ls) (r ∷ rs) e each =
      let first : Some l ≡ Some r = each 0 (omega arith) in
      let head : l ≡ r = cc in
      let count : length ls ≡ length rs = cc in
      ap₂ (λ x xs. x ∷ xs) head (same_lists ls rs count (λ h low. each (suc h) (omega (arith, low))))

  -- no row tells a difference: the lists are equal
  pub equal_lists : (left right : List (Option ℕ)) (rows : List Row) (ls rs : List A) → length left ≡ length ls → length right ≡ length rs
      → AreRows left right rows
      → AllByRecursion (TellsNoDifference ls rs) rows → ls ≡ rs
  equal_lists left right rows ls rs e f are none =
      let walked = paired ls rs rows 0 (length ls) (length rs) (are.left_lines ∙ ap (from 0) e) (are.right_lines ∙ ap (from 0) f) none in
      same_lists ls rs walked.0 (λ h low. ap (slice_get ls) (from_start h) ∙ walked.1 h low ∙ ap (slice_get rs) (sym (from_start h)))

pub occurrences_count : {K : Type 0} (same : K → K → Bool) (before xs : List K) → length (occurrences_after same before xs) ≡ length xs
occurrences_count same before [] = refl
occurrences_count same before (x ∷ xs) = ap suc (occurrences_count same (x ∷ before) xs)

pub partners_count : {K : Type 0} (same : K → K → Bool) (xs ys : List K) → length (partners same xs ys) ≡ length xs
partners_count same xs ys = length-map (occurrences same xs) (place_from same 0 (occurrences same ys)) ∙ occurrences_count same [] xs

lines_count : (π ρ : Preference) (t u d e : Data) → length (partners (eq_by_cmp thing_cmp) (things_of π t d) (things_of ρ u e))
    ≡ length (map (line_data π t) (lines_of d))
lines_count π ρ t u d e =
    partners_count (eq_by_cmp thing_cmp) (things_of π t d) (things_of ρ u e)
    ∙ length-map (lines_of d) (λ (l : ℕ × Data). thing_at π t l.1)
    ∙ sym (length-map (lines_of d) (line_data π t))

pub ballots_told : BallotsTell
ballots_told π ρ t u d e rows are none =
    ap array_of (equal_lists _ _ rows (map (line_data π t) (lines_of d)) (map (line_data ρ u) (lines_of e)) (lines_count π ρ t u d e)
    (lines_count ρ π u t e d) are none)
