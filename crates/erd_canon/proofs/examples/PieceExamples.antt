-- The front and the piece of a list, and the lines of a piece, on worked rows.
use Rattle.erd_canon.proofs.Common.{◌≡◌, ℕ, zero, suc, ◌+◌, ◌<◌, List, [], ◌∷◌, map, length, take, codes, refl, ap, inl, inr, arith, digits, fault_line, Fault}
use Rattle.erd_canon.proofs.Common.{reason}
use Rattle.std.proofs.Common.{sum}
use Rattle.erd_tables.specs.declared.place.Step.TheVariants.{Name, At}
use Rattle.erd_canon.specs.Pieces.{IsFront, IsPiece, IsPieceLines, whole_line}
use Rattle.erd_canon.specs.PiecesTaken.{AreTaken, Taken}
use Rattle.erd_canon.proofs.data_values.FrontLaws.{one_front}

abbrev size : ℕ → ℕ
size n = n

-- entries of 3, 5 and 2 bytes; the second begins where there are 3, and 4 are enough
abbrev three : List ℕ
three = 3 ∷ 5 ∷ 2 ∷ []

two_begin : IsFront size 9 4 three (3 ∷ 5 ∷ [])
two_begin = record { rest = 2 ∷ []; split = refl; few = omega arith; begun = begun; full = λ some. inr (omega arith) }
  where
    begun : (k : ℕ) → k < 2 → sum (map size (take k (3 ∷ 5 ∷ []))) < 4
    begun zero less = omega arith
    begun (suc zero) less = omega arith
    begun (suc (suc k)) less = absurd (omega (arith, less))

-- neither one entry nor all of them are that front
one_begins : IsFront size 9 4 three (3 ∷ []) → ⊥
one_begins is = let same = ap length (one_front size 9 4 three (3 ∷ []) (3 ∷ 5 ∷ []) is two_begin) in omega (arith, same)

all_begin : IsFront size 9 4 three three → ⊥
all_begin is = let low = is.begun 2 (omega arith) in omega (arith, low)

-- at most one entry, and none at all where no bytes are enough; all entries where nothing ends them
one_at_most : IsFront size 1 4 three (3 ∷ [])
one_at_most = record { rest = 5 ∷ 2 ∷ []; split = refl; few = omega arith; begun = begun; full = λ some. inl refl }
  where
    begun : (k : ℕ) → k < 1 → sum (map size (take k (3 ∷ []))) < 4
    begun zero less = omega arith
    begun (suc k) less = absurd (omega (arith, less))

none_is_enough : IsFront size 9 0 three []
none_is_enough = record { rest = three; split = refl; few = omega arith; begun = λ k less. absurd (omega (arith, less)); full = λ some. inr (omega arith) }

-- the piece behind the first entry; the list has three all the same
behind_the_first : IsPiece size (record { first = 1; most = 1; enough_bytes = 100 }) three (5 ∷ []) (record { count = 1; all = 3 })
behind_the_first =
    record { front = record { rest = 2 ∷ []; split = refl; few = omega arith; begun = begun; full = λ some. inl refl }; count = refl; all = refl }
  where
    begun : (k : ℕ) → k < 1 → sum (map size (take k (5 ∷ []))) < 100
    begun zero less = omega arith
    begun (suc k) less = absurd (omega (arith, less))

-- the line of the second of two faults, on the left side; one byte is enough for it
abbrev two_faults : List Fault
two_faults = record { place = []; reason = reason.MissingMember (codes "Election") }
    ∷ record { place = Name (codes "a/b") ∷ At 0 ∷ []; reason = reason.WrongKind } ∷ []

second_line : IsPieceLines fault_line (codes "left: ") (record { first = 1; most = 9; enough_bytes = 1 }) two_faults (record { count = 1; all = 2 })
    (codes "left: /a~1b/0: wrong kind\n")
unfolding digits
second_line = record {
  shown = record { place = Name (codes "a/b") ∷ At 0 ∷ []; reason = reason.WrongKind } ∷ [];
  is_piece =
      record { front = record { rest = []; split = refl; few = omega arith; begun = begun; full = λ some. absurd (some refl) }; count = refl; all = refl };
  is_text = refl;
}
  where
    begun : (k : ℕ) → k < 1
        → sum (map (λ f. length (whole_line (codes "left: ") (fault_line f)))
        (take k (record { place = Name (codes "a/b") ∷ At 0 ∷ []; reason = reason.WrongKind } ∷ []))) < 1
    begun zero less = omega arith
    begun (suc k) less = absurd (omega (arith, less))

-- the line of the first of them; one byte is enough for it too
first_line : IsPieceLines fault_line (codes "left: ") (record { first = 0; most = 9; enough_bytes = 1 }) two_faults (record { count = 1; all = 2 })
    (codes "left: : missing member Election\n")
first_line = record {
  shown = record { place = []; reason = reason.MissingMember (codes "Election") } ∷ [];
  is_piece = record {
    front = record {
      rest = record { place = Name (codes "a/b") ∷ At 0 ∷ []; reason = reason.WrongKind } ∷ [];
      split = refl;
      few = omega arith;
      begun = begun;
      full = λ some. inr (omega arith);
    };
    count = refl;
    all = refl;
  };
  is_text = refl;
}
  where
    begun : (k : ℕ) → k < 1
        → sum (map (λ f. length (whole_line (codes "left: ") (fault_line f)))
        (take k (record { place = []; reason = reason.MissingMember (codes "Election") } ∷ []))) < 1
    begun zero less = omega arith
    begun (suc k) less = absurd (omega (arith, less))

-- whoever takes both pieces has taken the list; not so who leaves out the first one, or stops after it
abbrev taken_first : Taken (List ℕ)
taken_first =
    record {
      piece = record { first = 0; most = 9; enough_bytes = 1 };
      told = record { count = 1; all = 2 };
      answer = codes "left: : missing member Election\n";
    }

abbrev taken_second : Taken (List ℕ)
taken_second =
    record { piece = record { first = 1; most = 9; enough_bytes = 1 }; told = record { count = 1; all = 2 }; answer = codes "left: /a~1b/0: wrong kind\n" }

both_taken : AreTaken (λ piece. IsPieceLines fault_line (codes "left: ") piece two_faults) 0 (taken_first ∷ taken_second ∷ [])
both_taken = ((refl, first_line), omega arith, ((refl, second_line), refl))

not_without_the_first : AreTaken (λ piece. IsPieceLines fault_line (codes "left: ") piece two_faults) 0 (taken_second ∷ []) → ⊥
not_without_the_first are = let no : 1 ≡ 0 = are.0.0 in omega (arith, no)

not_after_the_first : AreTaken (λ piece. IsPieceLines fault_line (codes "left: ") piece two_faults) 0 (taken_first ∷ []) → ⊥
not_after_the_first are = let no : 0 + 1 ≡ 2 = are.1 in omega (arith, no)
