-- The pieces of a list are together the list.
use Rattle.erd_canon.proofs.Common.{◌≡◌, ◌≢◌, refl, ℕ, ◌+◌, ◌-◌, ◌<◌, ◌≤◌, ◌⊎◌, inl, inr, List, [], ◌∷◌, ◌++◌, map, length, drop, sym, ap, ◌∙◌}
use Rattle.erd_canon.proofs.Common.{arith}
use Rattle.std.proofs.lemmas.Grind.{flat_map-append}
use Rattle.std.proofs.lemmas.List.{append-nil, drop-drop, drop_all, length-append, length-drop, map-append}
use Rattle.std.proofs.Math.Seq.{drop-append_seam}
use Rattle.std.specs.List.{flat_map}
use Rattle.serde_json.specs.Data.{Data}
use Rattle.erd_canon.specs.EngineTexts.{lines_of_side, text_of_lines}
use Rattle.erd_canon.specs.Pieces.{IsFront, IsPiece, IsPieceData, IsPieceLines}
use Rattle.erd_canon.specs.PiecesTaken.{AreEntries, AreTaken, EntriesGoOn, GoesOn, LinesGoOn, PiecesAreTheEntries, PiecesAreTheLines, Taken}
use Rattle.erd_canon.specs.declared.data.piece.Piece.{Piece}
use Rattle.erd_canon.specs.declared.data.piece.Told.{Told}

-- what is left behind a piece
drop_front : {A : Type 0} (n : ℕ) (xs shown rest : List A) → drop n xs ≡ shown ++ rest → drop (n + length shown) xs ≡ rest
drop_front n xs shown rest is = sym (drop-drop (length shown) n xs) ∙ ap (drop (length shown)) is ∙ drop-append_seam shown rest

-- the rest of the entries behind a piece
rest_of : {A : Type 0} (size : A → ℕ) (piece : Piece) (entries shown : List A) (told : Told) (before : ℕ) → piece.first ≡ before
    → IsPiece size piece entries shown told
    → drop before entries ≡ shown ++ drop (before + told.count) entries
rest_of size piece entries shown told before is p =
    let split : drop before entries ≡ shown ++ p.front.rest = ap (λ n. drop n entries) (sym is) ∙ p.front.split in
    split ∙ ap (λ xs. shown ++ xs) (sym (drop_front before entries shown p.front.rest split) ∙ ap (λ n. drop (before + n) entries) (sym p.count))

-- behind the last piece nothing is left
last_of : {A : Type 0} (size : A → ℕ) (piece : Piece) (entries shown : List A) (told : Told) (before : ℕ) → piece.first ≡ before
    → IsPiece size piece entries shown told
    → before + told.count ≡ told.all → drop before entries ≡ shown
last_of size piece entries shown told before is p ends =
    rest_of size piece entries shown told before is p ∙ ap (λ xs. shown ++ xs)
    (drop_all (before + told.count) entries (let whole = ends ∙ p.all in omega (arith, whole))) ∙ append-nil shown

-- ---- lines

text_append : {A : Type 0} (line_of : A → List ℕ) (side : List ℕ) (xs ys : List A)
    → text_of_lines (lines_of_side side (map line_of (xs ++ ys))) ≡ text_of_lines (lines_of_side side (map line_of xs))
    ++ text_of_lines (lines_of_side side (map line_of ys))
text_append line_of side xs ys =
    ap (λ lines. text_of_lines (lines_of_side side lines)) (map-append line_of xs ys)
    ∙ ap text_of_lines (map-append (λ line. side ++ line) (map line_of xs) (map line_of ys))
    ∙ flat_map-append (λ line. line ++ 10 ∷ []) (lines_of_side side (map line_of xs)) (lines_of_side side (map line_of ys))

lines_from : {A : Type 0} (line_of : A → List ℕ) (side : List ℕ) (entries : List A) (before : ℕ) (taken : List (Taken (List ℕ)))
    → AreTaken (λ piece. IsPieceLines line_of side piece entries) before taken
    → flat_map (λ one. one.answer) taken ≡ text_of_lines (lines_of_side side (map line_of (drop before entries)))
lines_from line_of side entries before [] are = absurd are
lines_from line_of side entries before (one ∷ []) ((first, is), ends) =
    append-nil one.answer ∙ is.is_text ∙ ap (λ xs. text_of_lines (lines_of_side side (map line_of xs)))
    (sym (last_of _ one.piece entries is.shown one.told before first is.is_piece ends))
lines_from line_of side entries before (one ∷ next ∷ later) ((first, is), more, rest) =
    let here : drop before entries ≡ is.shown ++ drop (before + one.told.count) entries =
    rest_of _ one.piece entries is.shown one.told before first is.is_piece in
    ap (λ text. one.answer ++ text) (lines_from line_of side entries (before + one.told.count) (next ∷ later) rest)
    ∙ ap (λ text. text ++ text_of_lines (lines_of_side side (map line_of (drop (before + one.told.count) entries)))) is.is_text
    ∙ sym (text_append line_of side is.shown (drop (before + one.told.count) entries))
    ∙ ap (λ xs. text_of_lines (lines_of_side side (map line_of xs))) (sym here)

pub pieces_are_the_lines : {A : Type 0} (line_of : A → List ℕ) → PiecesAreTheLines line_of
pieces_are_the_lines line_of side entries taken are = lines_from line_of side entries 0 taken are

-- ---- arrays

entries_from : {A : Type 0} (value_of : A → Data) (entries : List A) (before : ℕ) (taken : List (Taken Data))
    → AreTaken (λ piece. IsPieceData value_of piece entries) before taken
    → AreEntries (map (λ one. one.answer) taken) (map value_of (drop before entries))
entries_from value_of entries before [] are = absurd are
entries_from value_of entries before (one ∷ []) ((first, is), ends) = (
  map value_of is.shown,
  [],
  is.is_array,
  ap (map value_of) (last_of _ one.piece entries is.shown one.told before first is.is_piece ends) ∙ sym (append-nil (map value_of is.shown)),
  refl,
)
entries_from value_of entries before (one ∷ next ∷ later) ((first, is), more, rest) =
    let here : drop before entries ≡ is.shown ++ drop (before + one.told.count) entries =
    rest_of _ one.piece entries is.shown one.told before first is.is_piece in (
      map value_of is.shown,
      map value_of (drop (before + one.told.count) entries),
      is.is_array,
      ap (map value_of) here ∙ map-append value_of is.shown (drop (before + one.told.count) entries),
      entries_from value_of entries (before + one.told.count) (next ∷ later) rest,
    )

pub pieces_are_the_entries : {A : Type 0} (value_of : A → Data) → PiecesAreTheEntries value_of
pieces_are_the_entries value_of entries taken are = entries_from value_of entries 0 taken are

-- ---- the end

-- a front has an entry if it may have one and there is one
front_some : {A : Type 0} (size : A → ℕ) (most enough : ℕ) (entries shown : List A) → IsFront size most enough entries shown → 0 < most → 0 < enough
    → 0 < length entries → 0 < length shown
front_some size most enough entries (x ∷ shown) f m e l = omega arith
front_some size most enough entries [] f m e l = absurd (ends (f.full some))
  where
    some : f.rest ≢ []
    some none = let long : length entries ≡ 0 = ap length (f.split ∙ none) in omega (arith, long, l)

    ends : (0 ≡ most) ⊎ (enough ≤ 0) → ⊥
    ends (inl is) = omega (arith, is, m)
    ends (inr is) = omega (arith, is, e)

goes_on : {A : Type 0} (size : A → ℕ) (piece : Piece) (entries shown : List A) (told : Told) → IsPiece size piece entries shown told → GoesOn piece told
goes_on size piece entries shown told p = (more, none)
  where
    more : 0 < piece.most → 0 < piece.enough_bytes → piece.first < told.all → 0 < told.count
    more m e l =
        let all = p.all in
        let left : length (drop piece.first entries) ≡ length entries - piece.first = length-drop piece.first entries in
        let some : 0 < length shown = front_some size piece.most piece.enough_bytes (drop piece.first entries) shown p.front m e
        (omega (arith, left, all, l)) in
        let count = p.count in
        omega (arith, some, count)

    none : told.all ≤ piece.first → told.count ≡ 0
    none over =
        let all = p.all in
        let gone : [] ≡ shown ++ p.front.rest = sym (drop_all piece.first entries (omega (arith, all, over))) ∙ p.front.split in
        let sizes : 0 ≡ length shown + length p.front.rest = ap length gone ∙ length-append shown p.front.rest in
        let count = p.count in
        omega (arith, sizes, count)

pub lines_go_on : {A : Type 0} (line_of : A → List ℕ) → LinesGoOn line_of
lines_go_on line_of side piece entries told text is = goes_on _ piece entries is.shown told is.is_piece

pub entries_go_on : {A : Type 0} (value_of : A → Data) → EntriesGoOn value_of
entries_go_on value_of piece entries told value is = goes_on _ piece entries is.shown told is.is_piece
