-- The answers that have a piece of a list as lines.
use Rattle.erd_canon.proofs.Common.{◌≡◌, ℕ, zero, suc, ◌<◌, ◌≤◌, Bool, true, false, List, [], ◌∷◌, ◌++◌, map, take, drop, codes, sym, refl, ap, ◌∙◌, subst, inl}
use Rattle.erd_canon.proofs.Common.{inr, Preference, RefusedAs, RefusedSide, Refusal, refusal, Outcome, Bad, Good, NotJson, lines_of_side, text_of_lines}
use Rattle.std.proofs.Common.{◌==◌, length, sum, true≢false}
use Rattle.erd_meaning.proofs.Common.{length-map, map-append}
use Rattle.erd_compare.specs.DifferenceLine.{difference_line}
use Rattle.erd_compare.specs.declared.detailed.DetailedDifference.{DetailedDifference}
use Rattle.erd_canon.specs.DataAnswers.{listing_outcome}
use Rattle.erd_canon.specs.EngineTexts.{AreDetailed}
use Rattle.erd_canon.specs.Pieces.{IsCheckLines, IsCompareLines, IsFormLines, IsFoundLines, IsFront, IsListLines, IsPieceLines, IsRefusalLines, whole_line}
use Rattle.erd_canon.specs.code.Fronts.{AppendsEntries, TellsLinesAs, joined_text}
use Rattle.erd_canon.specs.code.SideRefusals.{OnSide}
use Rattle.erd_canon.specs.declared.bytes.refusal.Side.{Side}
use Rattle.erd_canon.specs.declared.data.piece.Piece.{Piece}
use Rattle.erd_canon.specs.declared.data.piece.Told.{Told}
use Rattle.erd_canon.proofs.forms.Refusing.{of_side}

-- ---- the texts

joined_lines : {A : Type 0} (side : List ℕ) (line_of : A → List ℕ) (later : Bool) (xs : List A)
    → joined_text (λ later x. whole_line side (line_of x)) later xs ≡ text_of_lines (lines_of_side side (map line_of xs))
joined_lines side line_of later [] = refl
joined_lines side line_of later (x ∷ xs) = ap (λ t. whole_line side (line_of x) ++ t) (joined_lines side line_of true xs)

-- the lines of a piece alone
pub lines_of_piece : {A : Type 0} (line_of : A → List ℕ) (Has : A → Type 0) (side : List ℕ) (piece : Piece) (entries : List A) (told : Told)
    (before text : List ℕ) → before ≡ []
    → AppendsEntries (λ x. length (whole_line side (line_of x))) (λ later x. whole_line side (line_of x)) Has piece entries told before text
    → IsPieceLines line_of side piece entries told text
lines_of_piece line_of Has side piece entries told before text none a = record {
  shown = a.shown;
  is_piece = a.is_piece;
  is_text = a.wrote ∙ ap (λ t. t ++ joined_text (λ later x. whole_line side (line_of x)) false a.shown) none ∙ joined_lines side line_of false a.shown;
}

-- ---- entries that are made of others

module _ {A B : Type 0} (f : A → B) where
  drop_map : (n : ℕ) (xs : List A) → drop n (map f xs) ≡ map f (drop n xs)
  drop_map zero xs = refl
  drop_map (suc n) [] = refl
  drop_map (suc n) (x ∷ xs) = drop_map n xs

  take_map : (n : ℕ) (xs : List A) → take n (map f xs) ≡ map f (take n xs)
  take_map zero xs = refl
  take_map (suc n) [] = refl
  take_map (suc n) (x ∷ xs) = ap (λ ys. f x ∷ ys) (take_map n xs)

  pub map_made : {C : Type 0} (g : B → C) (xs : List A) → map g (map f xs) ≡ map (λ x. g (f x)) xs
  map_made g [] = refl
  map_made g (x ∷ xs) = ap (λ ys. g (f x) ∷ ys) (map_made g xs)

  front_made : (size : B → ℕ) (most enough : ℕ) (xs shown : List A) → IsFront (λ x. size (f x)) most enough xs shown
      → IsFront size most enough (map f xs) (map f shown)
  front_made size most enough xs shown is = record {
    rest = map f is.rest;
    split = ap (map f) is.split ∙ map-append f shown is.rest;
    few = subst (λ n. n ≤ most) (sym (length-map shown f)) is.few;
    begun = λ k low. subst (λ n. sum n < enough) (sym (ap (map size) (take_map k shown) ∙ map_made size (take k shown)))
        (is.begun k (subst (λ n. k < n) (length-map shown f) low));
    full = λ some. elim (is.full (λ none. some (ap (map f) none))) [
      | inl all ↦ inl (length-map shown f ∙ all)
      | inr over ↦ inr (subst (λ n. enough ≤ sum n) (sym (map_made size shown)) over)
    ];
  }

  pub lines_made : (line_of : B → List ℕ) (side : List ℕ) (piece : Piece) (xs : List A) (told : Told) (text : List ℕ)
      → IsPieceLines (λ x. line_of (f x)) side piece xs told text → IsPieceLines line_of side piece (map f xs) told text
  lines_made line_of side piece xs told text is = record {
    shown = map f is.shown;
    is_piece = record {
      front = subst (λ ys. IsFront (λ y. length (whole_line side (line_of y))) piece.most piece.enough_bytes ys (map f is.shown))
          (sym (drop_map piece.first xs))
          (front_made (λ y. length (whole_line side (line_of y))) piece.most piece.enough_bytes (drop piece.first xs) is.shown is.is_piece.front);
      count = is.is_piece.count ∙ sym (length-map is.shown f);
      all = is.is_piece.all ∙ sym (length-map xs f);
    };
    is_text = is.is_text ∙ ap (λ ls. text_of_lines (lines_of_side side ls)) (sym (map_made line_of is.shown));
  }

-- ---- the answers

why_lines : (π : Preference) (piece : Piece) (outcome : Outcome) (told : Told) (text words bytes : List ℕ) (refused : Refusal) → RefusedAs π bytes refused
    → TellsLinesAs piece outcome told text words refused → IsRefusalLines π words bytes piece outcome told text
why_lines π piece Bad told text words bytes (refusal.Faults faults) (is, none) tells = (faults, is, tells)
why_lines π piece NotJson told text words bytes refusal.NotJson not tells = (not, tells.0, tells.1)
why_lines π piece outcome told text words bytes refused is tells = absurd tells

-- a check, or a canonical form, of refused bytes
pub lines_refused : (π : Preference) (bytes : List ℕ) (refused : Refusal) (piece : Piece) (outcome : Outcome) (told : Told) (text : List ℕ)
    → RefusedAs π bytes refused
    → TellsLinesAs piece outcome told text [] refused → IsCheckLines π bytes piece outcome told text × IsFormLines π bytes piece outcome told text
lines_refused π bytes refused piece outcome told text is tells = at outcome (why_lines π piece outcome told text [] bytes refused is tells)
  where
    at : (o : Outcome) → IsRefusalLines π [] bytes piece o told text → IsCheckLines π bytes piece o told text × IsFormLines π bytes piece o told text
    at Good why = absurd why
    at o why = (why, why)

-- a comparison, or a list of differences, of which one side is refused
pub sides_refused : (π : Preference) (left right : List ℕ) (s : Side) (piece : Piece) (outcome : Outcome) (told : Told) (text : List ℕ)
    → RefusedSide π left right s
    → OnSide (codes "left: ") (codes "right: ") (TellsLinesAs piece outcome told text) s → IsCompareLines π left right piece outcome told text
    × IsListLines π left right piece outcome told text
sides_refused π left right s piece outcome told text is tells =
    let whys = λ (Both : Type 0).
    of_side π left right (codes "left: ") (codes "right: ") s (TellsLinesAs piece outcome told text)
    (λ words bytes. IsRefusalLines π words bytes piece outcome told text) Both
    (why_lines π piece outcome told text) is tells in
    (whys _, whys _)

-- the lines of all differences, or `same`
pub found_lines : (piece : Piece) (found : List DetailedDifference) (told : Told) (text : List ℕ) {empty : Bool} → empty ≡ false → empty ≡ (length found == 0)
    → IsPieceLines difference_line [] piece (map (λ d. d.difference) found) told text
    → IsFoundLines piece (map (λ d. d.difference) found) told text
found_lines piece [] told text other is lines = absurd (true≢false (sym is ∙ other))
found_lines piece (d ∷ ds) told text other is lines = lines

-- the lists of two accepted reports
pub same_outcome : (ds : List DetailedDifference) → listing_outcome ds ≡ listing_outcome (map (λ d. d.difference) ds)
same_outcome [] = refl
same_outcome (d ∷ ds) = refl

pub both_lines : (π : Preference) (left right : List ℕ) (first most : ℕ) (piece : Piece) (outcome : Outcome) (told : Told) (text : List ℕ)
    (found : List DetailedDifference) → AreDetailed π left right first most found
    → outcome ≡ listing_outcome found → IsFoundLines piece (map (λ d. d.difference) found) told text → IsListLines π left right piece outcome told text
both_lines π left right first most piece outcome told text found are ends lines = inr (inr (
  map (λ d. d.difference) found,
  record {
    left_tree = are.left_tree;
    right_tree = are.right_tree;
    left_accepted = are.left_accepted;
    right_accepted = are.right_accepted;
    differences = are.differences.list;
  },
  ends ∙ same_outcome found,
  lines,
))
