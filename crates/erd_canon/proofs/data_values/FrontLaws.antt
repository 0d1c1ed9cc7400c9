-- A list has one front, and one piece: what the definitions say leaves no choice.
use Rattle.erd_canon.proofs.Common.{◌≡◌, ◌≢◌, refl, ℕ, zero, suc, ◌+◌, ◌<◌, ◌≤◌, ◌⊎◌, List, [], ◌++◌, map, length, take, drop, sym, ap, ◌∙◌, subst, inl, inr}
use Rattle.erd_canon.proofs.Common.{arith, length-append}
use Rattle.std.proofs.Common.{sum}
use Rattle.std.proofs.Math.Seq.{take-append_seam}
use Rattle.std.proofs.lemmas.List.{take-append-le}
use Rattle.erd_canon.specs.Pieces.{IsFront, IsPiece}
use Rattle.erd_canon.specs.declared.data.piece.Piece.{Piece}
use Rattle.erd_canon.specs.declared.data.piece.Told.{Told}

-- a front ends where `full` says, so none of two is the shorter one
no_shorter : {A : Type 0} (size : A → ℕ) (most enough : ℕ) (entries a b : List A) → IsFront size most enough entries a → IsFront size most enough entries b
    → length a < length b → ⊥
no_shorter {A} size most enough entries a b one other less = ends (one.full some)
  where
    front_of : take (length a) b ≡ a
    front_of = sym (take-append-le (length a) b other.rest (omega (arith, less))) ∙ ap (take (length a)) (sym other.split ∙ one.split)
        ∙ take-append_seam a one.rest

    some : one.rest ≢ []
    some none =
        let all = ap length one.split ∙ length-append a one.rest ∙ ap (λ xs. length a + length xs) none in
        let whole = ap length other.split ∙ length-append b other.rest in
        omega (arith, all, whole, less)

    ends : (length a ≡ most) ⊎ (enough ≤ sum (map size a)) → ⊥
    ends (inl all) = let few = other.few in omega (arith, all, few, less)
    ends (inr much) =
        let low : sum (map size a) < enough = subst (λ xs. sum (map size xs) < enough) front_of (other.begun (length a) less) in
        omega (arith, much, low)

-- two fronts of one list are equal
pub one_front : {A : Type 0} (size : A → ℕ) (most enough : ℕ) (entries a b : List A) → IsFront size most enough entries a
    → IsFront size most enough entries b → a ≡ b
one_front {A} size most enough entries a b one other = at (length a) (length b) (λ less. no_shorter size most enough entries a b one other less)
    (λ less. no_shorter size most enough entries b a other one less) same
  where
    same : length a ≡ length b → a ≡ b
    same long = sym (take-append_seam a one.rest) ∙ ap (λ xs. take (length a) xs) (sym one.split ∙ other.split) ∙ ap (λ n. take n (b ++ other.rest)) long
        ∙ take-append_seam b other.rest

    at : (m n : ℕ) → ((m < n) → ⊥) → ((n < m) → ⊥) → (m ≡ n → a ≡ b) → a ≡ b
    at zero zero above below is = is refl
    at zero (suc n) above below is = absurd (above (omega arith))
    at (suc m) zero above below is = absurd (below (omega arith))
    at (suc m) (suc n) above below is = at m n (λ less. above (omega (arith, less))) (λ less. below (omega (arith, less))) (λ same. is (ap suc same))

-- two pieces of one list are equal, and so is what is told of them
pub one_piece : {A : Type 0} (size : A → ℕ) (piece : Piece) (entries a b : List A) (told other : Told) → IsPiece size piece entries a told
    → IsPiece size piece entries b other
    → (a ≡ b) × (told.count ≡ other.count) × (told.all ≡ other.all)
one_piece size piece entries a b told other first second =
    let same = one_front size piece.most piece.enough_bytes (drop piece.first entries) a b first.front second.front in
    (same, first.count ∙ ap length same ∙ sym second.count, first.all ∙ sym second.all)
