-- Steps over the bytes of a file.
use Rattle.std.proofs.Common.{◌≡◌, ◌≢◌, ◌∙◌, ◌+◌, ◌-◌, ◌<◌, ◌≤◌, ◌==◌, ◌++◌, ℕ, zero, suc, Bool, true, false, List, [], ◌∷◌, ap, arith, cond, drop, get_or, inl}
use Rattle.std.proofs.Common.{inr, length, refl, subst, sym, take, append_assoc, length-drop}
use Rattle.std.proofs.Math.Seq.{drop-nil}
use Rattle.std.proofs.lemmas.List.{append-nil, drop-drop, drop_more, drop_all}
use Rattle.json.specs.Ascii as ascii
use Rattle.erd_prepare.specs.Numbers.{AreTold, NumberAt, begins_number, changed, is_in_number, none, number_here, numbers_from, numbers_in, piece_length}
use Rattle.erd_prepare.specs.Numbers.{string_length, unchanged, IsUnchanged, IsNumberTold}
use Rattle.erd_prepare.specs.code.Scanning.{IsAdded, IsLineAt, IsNumberAdded, IsToldUpTo}
use Rattle.erd_prepare.specs.declared.changed_number.ChangedNumber.{ChangedNumber}
use Rattle.erd_prepare.specs.declared.numbers.Line.{Line}

-- ---- strings

pub over : (e : Bool) (xs : List ℕ) (i : ℕ) → length xs ≤ i → string_length e (drop i xs) ≡ 0
unfolding string_length
over e xs i high = ap (string_length e) (drop_all i xs high)

pub escaped : (xs : List ℕ) (i d : ℕ) → i < length xs → string_length true (drop i xs) ≡ suc (string_length false (drop (i + 1) xs))
unfolding string_length
escaped xs i d low = ap (string_length true) (drop_more xs i d low)

pub ends : (xs : List ℕ) (i d : ℕ) → i < length xs → get_or xs i d ≡ 34 → string_length false (drop i xs) ≡ 1
unfolding string_length
ends xs i d low is = ap (string_length false) (drop_more xs i d low) ∙ rw is refl

pub goes_on : (xs : List ℕ) (i d : ℕ) → i < length xs → (get_or xs i d == 34) ≡ false → string_length false (drop i xs)
    ≡ suc (string_length (get_or xs i d == 92) (drop (i + 1) xs))
unfolding string_length
goes_on xs i d low is_not = ap (string_length false) (drop_more xs i d low) ∙ rw is_not refl

pub ruleset strings = (over, escaped, ends, goes_on)

-- ---- numbers

-- what is left of a piece is passed over
passed : (k i : ℕ) (xs : List ℕ) → numbers_from i k xs ≡ numbers_from (i + k) 0 (drop k xs)
unfolding numbers_from
passed k i [] = ap (numbers_from (i + k) 0) (sym (drop-nil k))
passed zero i (b ∷ bs) = ap (λ j. numbers_from j 0 (b ∷ bs)) (sym (omega arith))
passed (suc k) i (b ∷ bs) = passed k (suc i) bs ∙ ap (λ j. numbers_from j 0 (drop k bs)) (omega arith)

-- a piece gives its number, if it is one
pub piece : (i : ℕ) (xs : List ℕ) → 0 < length xs → 0 < piece_length xs
    → numbers_from i 0 xs ≡ number_here i xs ++ numbers_from (i + piece_length xs) 0 (drop (piece_length xs) xs)
unfolding numbers_from
piece i [] some long = elim some [ ]
piece i (b ∷ bs) some long = ap (λ its. number_here i (b ∷ bs) ++ its) (rest (piece_length (b ∷ bs)) long)
  where
    rest : (n : ℕ) → 0 < n → numbers_from (suc i) (n - 1) bs ≡ numbers_from (i + n) 0 (drop n (b ∷ bs))
    rest zero long = elim long [ ]
    rest (suc n) long = ap (λ k. numbers_from (suc i) k bs) (omega arith) ∙ passed n (suc i) bs ∙ ap (λ j. numbers_from j 0 (drop n bs)) (omega arith)

-- the number at the front of a list, and those behind it
abbrev AreNumbersBehind : ℕ → List ℕ → Type 0
AreNumbersBehind i xs = 0 < piece_length xs
    → numbers_from i 0 xs ≡ (record { before = i; token = take (piece_length xs) xs }) ∷ numbers_from (i + piece_length xs) 0 (drop (piece_length xs) xs)

front_number : (i b : ℕ) (bs : List ℕ) → begins_number b ≡ true → AreNumbersBehind i (b ∷ bs)
front_number i b bs begins long = piece i (b ∷ bs) (omega arith) long ∙ rw begins refl

front_other : (i b : ℕ) (bs : List ℕ) → begins_number b ≡ false → 0 < piece_length (b ∷ bs)
    → numbers_from i 0 (b ∷ bs) ≡ numbers_from (i + piece_length (b ∷ bs)) 0 (drop (piece_length (b ∷ bs)) (b ∷ bs))
front_other i b bs begins long = piece i (b ∷ bs) (omega arith) long ∙ rw begins refl

-- the same at a position of a file
pub number_at : (file : List ℕ) (i e : ℕ) → i < length file → e ≡ i + piece_length (drop i file) → i < e → begins_number (get_or file i 0) ≡ true
    → numbers_from i 0 (drop i file) ≡ (record { before = i; token = take (e - i) (drop i file) }) ∷ numbers_from e 0 (drop e file)
number_at file i e low is more begins =
    let h : AreNumbersBehind i (drop i file) = subst (AreNumbersBehind i) (sym (drop_more file i 0 low))
    (front_number i (get_or file i 0) (drop (i + 1) file) begins) in
    let n : piece_length (drop i file) ≡ e - i = omega arith in
    h (omega arith) ∙ rw (n, drop-drop (e - i) i file)
    (ap (λ j. (record { before = i; token = take (e - i) (drop i file) }) ∷ numbers_from j 0 (drop j file)) (omega arith))

pub other_at : (file : List ℕ) (i e : ℕ) → i < length file → e ≡ i + piece_length (drop i file) → i < e → begins_number (get_or file i 0) ≡ false
    → numbers_from i 0 (drop i file) ≡ numbers_from e 0 (drop e file)
other_at file i e low is more begins =
    let h : 0 < piece_length (drop i file) → numbers_from i 0 (drop i file) ≡ numbers_from (i + piece_length (drop i file)) 0
    (drop (piece_length (drop i file)) (drop i file)) =
    subst (λ xs. 0 < piece_length xs → numbers_from i 0 xs ≡ numbers_from (i + piece_length xs) 0 (drop (piece_length xs) xs)) (sym (drop_more file i 0 low))
    (front_other i (get_or file i 0) (drop (i + 1) file) begins) in
    let n : piece_length (drop i file) ≡ e - i = omega arith in
    h (omega arith) ∙ rw (n, drop-drop (e - i) i file) (ap (λ j. numbers_from j 0 (drop j file)) (omega arith))

-- ---- what is told

pub nothing_told : (file : List ℕ) (told : List ChangedNumber) → told ≡ [] → IsToldUpTo file 0 told
nothing_told file told is_none = record { all = λ rest h. rw is_none h }

pub all_told : (file : List ℕ) (i : ℕ) (told : List ChangedNumber) → length file ≤ i → IsToldUpTo file i told → AreTold file (numbers_in file) told
unfolding numbers_from
all_told file i told high h =
    subst (AreTold file (numbers_in file)) (append-nil told) (h.all [] (subst (λ xs. AreTold file (numbers_from i 0 xs) []) (sym (drop_all i file high)) none))

pub other_told : (file : List ℕ) (i e : ℕ) (told : List ChangedNumber) → i < length file → e ≡ i + piece_length (drop i file) → i < e
    → begins_number (get_or file i 0) ≡ false
    → IsToldUpTo file i told → IsToldUpTo file e told
other_told file i e told low is more begins h =
    record { all = λ rest k. h.all rest (subst (λ its. AreTold file its rest) (sym (other_at file i e low is more begins)) k) }

-- the number of a file from one position to another
abbrev number_between : List ℕ → ℕ → ℕ → NumberAt
number_between file i e = record { before = i; token = take (e - i) (drop i file) }

pub number_told : (file : List ℕ) (i e : ℕ) (line : Line) (olds news : List ChangedNumber) → i < length file → e ≡ i + piece_length (drop i file) → i < e
    → begins_number (get_or file i 0) ≡ true → IsLineAt file i line → IsToldUpTo file i olds
    → IsNumberAdded (take (e - i) (drop i file)) line.number (i + 1 - line.start) olds news → IsToldUpTo file e news
number_told file i e line olds news low is more begins at h (inl (same, none_new)) =
    record {
      all = λ rest k. rw none_new (h.all rest (subst (λ its. AreTold file its rest) (sym (number_at file i e low is more begins))
          (unchanged (number_between file i e) (numbers_from e 0 (drop e file)) rest same k)));
    }
number_told file i e line olds news low is more begins at h (inr new) =
    record {
      all = λ rest k.
          let told : IsNumberTold file (number_between file i e) new.one =
          record { line = new.line_told ∙ at.number; column = new.column_told ∙ column _ at.start; before = new.before; changed = new.changed } in
          rw (new.added, append_assoc olds (new.one ∷ []) rest)
          (h.all (new.one ∷ rest) (subst (λ its. AreTold file its (new.one ∷ rest)) (sym (number_at file i e low is more begins))
          (changed (number_between file i e) (numbers_from e 0 (drop e file)) new.one rest told k)));
    }
  where
    column : (n : ℕ) → line.start + n ≡ i → i + 1 - line.start ≡ 1 + n
    column n e = omega arith
