-- The text of lines.
use Rattle.erd_shown.proofs.Common.{◌≡◌, ℕ, Bool, true, false, List, [], ◌∷◌, ◌++◌, ◌==◌, length}
use Rattle.erd_shown.proofs.Common.{flat_map, refl, sym, ap, ◌∙◌, append_assoc, true≢false, suc, arith, Decides-eqb}
use Rattle.erd_meaning.proofs.Common.{flat_map-append}
use Rattle.erd_shown.specs.BallotLines.{headed_unless, line_unless, lines_text}

abbrev ended : List ℕ → List ℕ
ended line = line ++ 10 ∷ []

pub lines_more : (xs ys : List (List ℕ)) → lines_text (xs ++ ys) ≡ lines_text xs ++ lines_text ys
lines_more xs ys = flat_map-append ended xs ys

pub lines_flat : {A : Type 0} (f : A → List (List ℕ)) (xs : List A) → lines_text (flat_map f xs) ≡ flat_map (λ x. lines_text (f x)) xs
lines_flat f [] = refl
lines_flat f (x ∷ xs) = lines_more (f x) (flat_map f xs) ∙ ap (λ ys. lines_text (f x) ++ ys) (lines_flat f xs)

-- two pieces, one behind the other
pub two_pieces : (old one new : List ℕ) (xs ys : List (List ℕ)) → one ≡ old ++ lines_text xs → new ≡ one ++ lines_text ys → new ≡ old ++ lines_text (xs ++ ys)
two_pieces old one new xs ys first second =
    second ∙ ap (λ ts. ts ++ lines_text ys) first ∙ append_assoc old (lines_text xs) (lines_text ys) ∙ ap (λ ts. old ++ ts) (sym (lines_more xs ys))

-- a list with an entry is not empty
pub none_in : {A : Type 0} (x : A) (xs : List A) → true ≡ (length (x ∷ xs) == 0) → ⊥
none_in x xs e = let h : suc (length xs) ≡ 0 = (Decides-eqb (suc (length xs)) 0).0 (sym e) in absurd (omega arith)

-- a line, and those below it
pub without_below : (so : Bool) (line below old new : List ℕ) → true ≡ (length below == 0) → new ≡ old ++ lines_text (line_unless so line)
    → (told : List (List ℕ)) → below ≡ lines_text told
    → new ≡ old ++ lines_text (headed_unless so line told)
without_below so line below old new empty is [] e = is
without_below so line below old new empty is ([] ∷ xs) e = absurd (none_in 10 (lines_text xs) (empty ∙ ap (λ ts. length ts == 0) e))
without_below so line below old new empty is ((c ∷ cs) ∷ xs) e = absurd (none_in c ((cs ++ 10 ∷ []) ++ lines_text xs) (empty ∙ ap (λ ts. length ts == 0) e))

pub with_below : (so : Bool) (line below old one new : List ℕ) → false ≡ (length below == 0) → one ≡ old ++ lines_text (line ∷ []) → new ≡ one ++ below
    → (told : List (List ℕ))
    → below ≡ lines_text told → new ≡ old ++ lines_text (headed_unless so line told)
with_below so line below old one new some first second [] e = absurd (true≢false (sym (some ∙ ap (λ ts. length ts == 0) e)))
with_below so line below old one new some first second (x ∷ xs) e =
    two_pieces old one new (line ∷ []) (x ∷ xs) first (second ∙ ap (λ ts. one ++ ts) e)
