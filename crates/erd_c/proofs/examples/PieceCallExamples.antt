-- What a call for a piece tells of the JSON `null`, which has one fault: the piece of it, and the piece behind it.
use Rattle.std.proofs.Common.{◌≡◌, ◌<◌, ◌+◌, ℕ, zero, suc, false, List, [], ◌∷◌, map, length, take, codes, None, refl, ap, arith}
use Rattle.std.specs.Prelude.{sum}
use Rattle.erd_canon.proofs.Common.{fault_line}
use Rattle.erd_canon.proofs.examples.EngineExamples.{null_refused, root_kind}
use Rattle.erd_canon.specs.Pieces.{IsCheckLines, IsPieceLines, whole_line}
use Rattle.erd_canon.specs.declared.data.piece.Piece.{Piece}
use Rattle.erd_canon.specs.declared.data.piece.Told.{Told as PieceTold}
use Rattle.erd_canon.specs.declared.engines.outcome.Outcome.TheVariants.{Bad}
use Rattle.erd_c.proofs.examples.CallExamples.{fault_told, line_told, right_arguments}
use Rattle.erd_c.specs.Told.{IsPieceCall, IsTelling}
use Rattle.erd_c.specs.declared.call_result.Told.{Told}
use Rattle.erd_c.specs.declared.call_result.Wanted.{Wanted}

-- the piece from here on, of which one byte is enough, before a call and after it told so many entries of one
abbrev wanted : ℕ → Wanted
wanted first = record { first = first; most = 9; enough_bytes = 1; told = 0; all = 0; prefers = false }

abbrev asked : ℕ → ℕ → Wanted
asked first count = record { first = first; most = 9; enough_bytes = 1; told = count; all = 1; prefers = false }

abbrev piece : ℕ → Piece
piece first = record { first = first; most = 9; enough_bytes = 1 }

one_line : IsPieceLines fault_line [] (piece 0) (root_kind ∷ []) (record { count = 1; all = 1 }) (codes ": wrong kind\n")
unfolding root_kind
one_line = record {
  shown = root_kind ∷ [];
  is_piece = record {
    front = record { rest = []; split = refl; few = omega arith; begun = begun; full = λ some. absurd (some refl) };
    count = refl;
    all = refl;
  };
  is_text = refl;
}
  where
    begun : (k : ℕ) → k < 1 → sum (map (λ f. length (whole_line [] (fault_line f))) (take k (root_kind ∷ []))) < 1
    begun zero less = omega arith
    begun (suc k) less = absurd (omega (arith, less))

first_piece : IsPieceCall (λ π. IsCheckLines π (codes "null")) [] 4 (wanted 0) (asked 0 1) fault_told (codes "0123456789abcde") (codes ": wrong kind\nde")
first_piece = record {
  call = record {
    answered = λ few. record {
      outcome = Bad;
      text = codes ": wrong kind\n";
      answers = record {
        told = record { count = 1; all = 1 };
        telling = record { count = refl; all = refl; piece = refl; prefers = refl };
        answers = (root_kind ∷ [], null_refused, one_line);
      };
      telling = line_told;
    };
    silent = λ high. absurd (omega (arith, high));
    wrong = ((λ is. absurd (omega (arith, is))), (λ is. absurd (right_arguments is)));
    known = omega arith;
  };
  silent = λ high. absurd (omega (arith, high));
}

-- behind the one fault the piece is empty, and tells all the same that there is one
no_line : IsPieceLines fault_line [] (piece 1) (root_kind ∷ []) (record { count = 0; all = 1 }) []
no_line = record {
  shown = [];
  is_piece = record {
    front = record { rest = []; split = refl; few = omega arith; begun = λ k less. absurd (omega (arith, less)); full = λ some. absurd (some refl) };
    count = refl;
    all = refl;
  };
  is_text = refl;
}

second_piece : IsPieceCall (λ π. IsCheckLines π (codes "null")) [] 4 (wanted 1) (asked 1 0) (record { outcome = 1; length = 0 }) (codes "01") (codes "01")
second_piece = record {
  call = record {
    answered = λ few. record {
      outcome = Bad;
      text = [];
      answers = record {
        told = record { count = 0; all = 1 };
        telling = record { count = refl; all = refl; piece = refl; prefers = refl };
        answers = (root_kind ∷ [], null_refused, no_line);
      };
      telling = record { status = refl; count = refl; put = record { fits = λ less. refl; too_long = λ less. absurd (omega (arith, less)) } };
    };
    silent = λ high. absurd (omega (arith, high));
    wrong = ((λ is. absurd (omega (arith, is))), (λ is. absurd (right_arguments is)));
    known = omega arith;
  };
  silent = λ high. absurd (omega (arith, high));
}

-- a call without an answer tells of no list
none_told : IsPieceCall (λ π. IsCheckLines π (codes "null")) [] 4 (wanted 0) (asked 0 1) (record { outcome = 4; length = 0 }) [] [] → ⊥
none_told call = let all : 1 ≡ 0 = (call.silent (omega arith)).all in omega (arith, all)

-- and none changes what is wanted
piece_kept : IsPieceCall (λ π. IsCheckLines π (codes "null")) [] 4 (wanted 0) (asked 1 0) (record { outcome = 4; length = 0 }) [] [] → ⊥
piece_kept call = let first : 1 ≡ 0 = ap (λ p. p.first) (call.silent (omega arith)).piece in omega (arith, first)
