-- One row more.
use Rattle.erd_text.proofs.Common.{◌≡◌, ℕ, zero, suc, ◌+◌, List, [], ◌∷◌, ◌++◌, Option, Some, None, sym, refl, ap, ◌∙◌, arith, AllByRecursion, add-one}
use Rattle.erd_text.proofs.Common.{slice_get}
use Rattle.erd_shown.specs.code.RowsSoFar.{AreUpTo, left_row, right_row}
use Rattle.erd_shown.specs.declared.rows.Row.{Row}
use Rattle.erd_shown.specs.declared.rows.Row.TheVariants.{Both, Removed, Added, MovedAway, MovedHere}
use Rattle.erd_shown.specs.Rows.{IsRow, from, lefts, rights}

from_more : (i n : ℕ) → from i (suc n) ≡ from i n ++ (i + n) ∷ []
from_more i zero = ap (λ k. k ∷ []) (omega arith)
from_more i (suc n) = ap (λ ks. i ∷ ks) (from_more (i + 1) n ∙ ap (λ k. from (i + 1) n ++ k ∷ []) (omega arith))

one_more : (n : ℕ) → from 0 (n + 1) ≡ from 0 n ++ n ∷ []
one_more n = ap (from 0) (add-one n) ∙ from_more 0 n ∙ ap (λ k. from 0 n ++ k ∷ []) (omega arith)

lefts_append : (xs ys : List Row) → lefts (xs ++ ys) ≡ lefts xs ++ lefts ys
lefts_append [] ys = refl
lefts_append (Both i j ∷ xs) ys = ap (λ ks. i ∷ ks) (lefts_append xs ys)
lefts_append (Removed i ∷ xs) ys = ap (λ ks. i ∷ ks) (lefts_append xs ys)
lefts_append (MovedAway i j ∷ xs) ys = ap (λ ks. i ∷ ks) (lefts_append xs ys)
lefts_append (Added j ∷ xs) ys = lefts_append xs ys
lefts_append (MovedHere i j ∷ xs) ys = lefts_append xs ys

rights_append : (xs ys : List Row) → rights (xs ++ ys) ≡ rights xs ++ rights ys
rights_append [] ys = refl
rights_append (Both i j ∷ xs) ys = ap (λ ks. j ∷ ks) (rights_append xs ys)
rights_append (Removed i ∷ xs) ys = rights_append xs ys
rights_append (MovedAway i j ∷ xs) ys = rights_append xs ys
rights_append (Added j ∷ xs) ys = ap (λ ks. j ∷ ks) (rights_append xs ys)
rights_append (MovedHere i j ∷ xs) ys = ap (λ ks. j ∷ ks) (rights_append xs ys)

pub all_more : {A : Type 0} (P : A → Type 0) (xs : List A) (x : A) → AllByRecursion P xs → P x → AllByRecursion P (xs ++ x ∷ [])
all_more P [] x h p = (p, tt)
all_more P (y ∷ ys) x h p = (h.0, all_more P ys x h.1 p)

append_none : {A : Type 0} (xs : List A) → xs ++ [] ≡ xs
append_none [] = refl
append_none (x ∷ xs) = ap (λ ys. x ∷ ys) (append_none xs)

module _ (left right : List (Option ℕ)) (rows : List Row) (i j : ℕ) (h : AreUpTo left right rows i j) where
  pub up_left : (o : Option ℕ) → slice_get left i ≡ Some o → AreUpTo left right (rows ++ left_row i o ∷ []) (i + 1) j
  up_left None e = record {
    left_lines = lefts_append rows _ ∙ ap (λ ks. ks ++ i ∷ []) h.left_lines ∙ sym (one_more i);
    right_lines = rights_append rows _ ∙ append_none (rights rows) ∙ h.right_lines;
    so = all_more (IsRow left right) rows _ h.so e;
  }
  up_left (Some k) e = record {
    left_lines = lefts_append rows _ ∙ ap (λ ks. ks ++ i ∷ []) h.left_lines ∙ sym (one_more i);
    right_lines = rights_append rows _ ∙ append_none (rights rows) ∙ h.right_lines;
    so = all_more (IsRow left right) rows _ h.so e;
  }

  pub up_right : (o : Option ℕ) → slice_get right j ≡ Some o → AreUpTo left right (rows ++ right_row j o ∷ []) i (j + 1)
  up_right None e = record {
    left_lines = lefts_append rows _ ∙ append_none (lefts rows) ∙ h.left_lines;
    right_lines = rights_append rows _ ∙ ap (λ ks. ks ++ j ∷ []) h.right_lines ∙ sym (one_more j);
    so = all_more (IsRow left right) rows _ h.so e;
  }
  up_right (Some k) e = record {
    left_lines = lefts_append rows _ ∙ append_none (lefts rows) ∙ h.left_lines;
    right_lines = rights_append rows _ ∙ ap (λ ks. ks ++ j ∷ []) h.right_lines ∙ sym (one_more j);
    so = all_more (IsRow left right) rows _ h.so e;
  }

  pub up_both : slice_get left i ≡ Some (Some j) → AreUpTo left right (rows ++ Both i j ∷ []) (i + 1) (j + 1)
  up_both e = record {
    left_lines = lefts_append rows _ ∙ ap (λ ks. ks ++ i ∷ []) h.left_lines ∙ sym (one_more i);
    right_lines = rights_append rows _ ∙ ap (λ ks. ks ++ j ∷ []) h.right_lines ∙ sym (one_more j);
    so = all_more (IsRow left right) rows _ h.so e;
  }
