-- The front of a list that a piece shows: what it is, and how a walk along the list reaches it entry by entry.
use Rattle.erd_canon.proofs.Common.{◌≡◌, ℕ, zero, suc, ◌+◌, ◌-◌, ◌<◌, ◌≤◌, Bool, true, false, ◌⊎◌, List, [], ◌∷◌, ◌++◌, map, length, take, drop, nat_lt, sym}
use Rattle.erd_canon.proofs.Common.{refl, ap, ◌∙◌, subst, inl, inr, append_assoc, append-nil, arith, lt-ltb, fold, Data, array, items_of, comma_if}
use Rattle.erd_canon.proofs.Common.{compact_text, items_text, HasFittingNumbers, ItemsHaveFittingNumbers, AppendsData}
use Rattle.std.proofs.Common.{sum, le-ltb}
use Rattle.erd_canon.specs.Pieces.{IsFront, IsPieceData}
use Rattle.erd_canon.specs.code.Fronts.{AllHave, AppendsEntries, IsReached, ahead, front, joined_text}
use Rattle.erd_canon.specs.declared.data.piece.Piece.{Piece}
use Rattle.erd_canon.specs.declared.data.piece.Told.{Told}

-- ---- what the front is

fold_from : (a : ℕ) (ns : List ℕ) → fold ◌+◌ a ns ≡ a + fold ◌+◌ 0 ns
fold_from a [] = omega arith
fold_from a (n ∷ ns) =
    let one = fold_from (a + n) ns in
    let other = fold_from (0 + n) ns in
    omega (arith, one, other)

sum_cons : (n : ℕ) (ns : List ℕ) → sum (n ∷ ns) ≡ n + sum ns
sum_cons n ns = let from = fold_from (0 + n) ns in omega (arith, from)

-- one more entry in front
cons_is : {A : Type 0} (size : A → ℕ) (most enough : ℕ) (x : A) (xs shown : List A) → IsFront size most (suc enough - size x) xs shown
    → IsFront size (suc most) (suc enough) (x ∷ xs) (x ∷ shown)
cons_is size most enough x xs shown later = record {
  rest = later.rest;
  split = ap (λ ys. x ∷ ys) later.split;
  few = let few = later.few in omega (arith, few);
  begun = begun;
  full = λ some. full (later.full some);
}
  where
    begun : (k : ℕ) → k < length (x ∷ shown) → sum (map size (take k (x ∷ shown))) < suc enough
    begun zero less = omega arith
    begun (suc k) less =
        let whole : sum (map size (take (suc k) (x ∷ shown))) ≡ size x + sum (map size (take k shown)) = sum_cons (size x) (map size (take k shown)) in
        let here = later.begun k (omega (arith, less)) in omega (arith, here, whole)

    full : (length shown ≡ most) ⊎ (suc enough - size x ≤ sum (map size shown)) → (length (x ∷ shown) ≡ suc most) ⊎ (suc enough ≤ sum (map size (x ∷ shown)))
    full (inl all) = inl (ap suc all)
    full (inr much) = let whole : sum (map size (x ∷ shown)) ≡ size x + sum (map size shown) = sum_cons (size x) (map size shown) in
        inr (omega (arith, much, whole))

pub front_is : {A : Type 0} (size : A → ℕ) (most enough : ℕ) (xs : List A) → IsFront size most enough xs (front size most enough xs)
front_is size most enough [] =
    record { rest = []; split = refl; few = omega arith; begun = λ k less. absurd (omega (arith, less)); full = λ some. absurd (some refl) }
front_is size zero enough (x ∷ xs) =
    record { rest = x ∷ xs; split = refl; few = omega arith; begun = λ k less. absurd (omega (arith, less)); full = λ some. inl refl }
front_is size (suc most) zero (x ∷ xs) =
    record { rest = x ∷ xs; split = refl; few = omega arith; begun = λ k less. absurd (omega (arith, less)); full = λ some. inr (omega arith) }
front_is size (suc most) (suc enough) (x ∷ xs) = cons_is size most enough x xs (front size most (suc enough - size x) xs)
    (front_is size most (suc enough - size x) xs)

no_more : {A : Type 0} (size : A → ℕ) (enough : ℕ) (xs : List A) → front size 0 enough xs ≡ []
no_more size enough [] = refl
no_more size enough (x ∷ xs) = refl

nat_lt-same : (n : ℕ) → nat_lt n n ≡ false
nat_lt-same n = le-ltb n n (omega arith)

no_room : {A : Type 0} (size : A → ℕ) (most : ℕ) (xs : List A) → front size most 0 xs ≡ []
no_room size most [] = refl
no_room size zero (x ∷ xs) = refl
no_room size (suc most) (x ∷ xs) = refl

-- ---- how a walk reaches it

-- before the first entry
pub begun : {A : Type 0} (size : A → ℕ) (text_of : Bool → A → List ℕ) (Has : A → Type 0) (piece : Piece) (entries : List A) (before : List ℕ)
    → IsReached size text_of Has piece entries before before piece entries
begun size text_of Has piece entries before = record {
  low = omega arith;
  written = ap (λ later. before ++ joined_text text_of later (ahead size piece entries)) (nat_lt-same piece.most);
  count = omega arith;
  fits = λ fit. fit;
}

-- an entry behind those that the piece shows
pub stopped : {A : Type 0} (size : A → ℕ) (text_of : Bool → A → List ℕ) (Has : A → Type 0) (piece : Piece) (entries : List A) (before text : List ℕ)
    (left : Piece) (x : A) (rest : List A)
    → left.first ≡ 0 → (left.most ≡ 0) ⊎ (left.enough_bytes ≡ 0) → IsReached size text_of Has piece entries before text left (x ∷ rest)
    → IsReached size text_of Has piece entries before text left rest
stopped {A} size text_of Has piece entries before text left x rest none why is = record {
  low = is.low;
  written = ap (λ ys. text ++ joined_text text_of (nat_lt left.most piece.most) ys) same ∙ is.written;
  count = ap (λ ys. (piece.most - left.most) + length ys) same ∙ is.count;
  fits = λ fit. is.fits (subst (AllHave Has) same fit);
}
  where
    nothing : (xs : List A) → (left.most ≡ 0) ⊎ (left.enough_bytes ≡ 0) → front size left.most left.enough_bytes xs ≡ []
    nothing xs (inl ended) = ap (λ n. front size n left.enough_bytes xs) ended ∙ no_more size left.enough_bytes xs
    nothing xs (inr ended) = ap (λ n. front size left.most n xs) ended ∙ no_room size left.most xs

    same : ahead size left rest ≡ ahead size left (x ∷ rest)
    same = nothing (drop left.first rest) why ∙ sym (nothing (drop left.first (x ∷ rest)) why)

-- an entry that the piece shows
pub taken : {A : Type 0} (size : A → ℕ) (text_of : Bool → A → List ℕ) (Has : A → Type 0) (piece : Piece) (entries : List A) (before text : List ℕ)
    (left : Piece) (x : A) (rest : List A) (later : List ℕ)
    (enough : ℕ) → left.first ≡ 0 → 0 < left.most → 0 < left.enough_bytes → enough ≡ left.enough_bytes - size x
    → later ≡ text ++ text_of (nat_lt left.most piece.most) x → Has x
    → IsReached size text_of Has piece entries before text left (x ∷ rest)
    → IsReached size text_of Has piece entries before later (record { first = left.first; most = left.most - 1; enough_bytes = enough }) rest
taken {A} size text_of Has piece entries before text left x rest later enough none some room less wrote has is =
    let low = is.low in
    let count = is.count in
    let longer = ap length key in
    record {
      low = omega (arith, low);
      written = ap (λ b. later ++ joined_text text_of b shown) (lt-ltb (left.most - 1) piece.most (omega (arith, low, some)))
          ∙ ap (λ t. t ++ joined_text text_of true shown) wrote
          ∙ append_assoc text (text_of (nat_lt left.most piece.most) x) (joined_text text_of true shown)
          ∙ ap (λ ys. text ++ joined_text text_of (nat_lt left.most piece.most) ys) (sym key) ∙ is.written;
      count = omega (arith, low, some, count, longer);
      fits = λ fits. is.fits (subst (AllHave Has) (sym key) (has, fits));
    }
  where
    shown : List A
    shown = front size (left.most - 1) enough (drop left.first rest)

    step : (most bytes : ℕ) (ys : List A) → 0 < most → 0 < bytes → front size most bytes (x ∷ ys) ≡ x ∷ front size (most - 1) (bytes - size x) ys
    step zero bytes ys some room = absurd (omega (arith, some))
    step (suc most) zero ys some room = absurd (omega (arith, room))
    step (suc most) (suc bytes) ys some room = let is : most ≡ suc most - 1 = omega arith in ap (λ n. x ∷ front size n (suc bytes - size x) ys) is

    first : drop left.first (x ∷ rest) ≡ x ∷ drop left.first rest
    first = ap (λ n. drop n (x ∷ rest)) none ∙ ap (λ ys. x ∷ ys) (sym (ap (λ n. drop n rest) none))

    key : ahead size left (x ∷ rest) ≡ x ∷ shown
    key = ap (front size left.most left.enough_bytes) first ∙ step left.most left.enough_bytes (drop left.first rest) some room
        ∙ ap (λ n. x ∷ front size (left.most - 1) n (drop left.first rest)) (sym less)

-- behind the last entry
pub none_of : {A : Type 0} (xs : List A) → length xs ≡ 0 → xs ≡ []
none_of [] none = refl
none_of (x ∷ xs) none = absurd (omega (arith, none))

drop_nil : {A : Type 0} (n : ℕ) (xs : List A) → length xs ≡ 0 → drop n xs ≡ []
drop_nil zero xs none = none_of xs none
drop_nil (suc n) [] none = refl
drop_nil (suc n) (x ∷ xs) none = absurd (omega (arith, none))

pub ended : {A : Type 0} (size : A → ℕ) (text_of : Bool → A → List ℕ) (Has : A → Type 0) (piece : Piece) (entries : List A)
    (before text : List ℕ) (left : Piece)
    → IsReached size text_of Has piece entries before text left []
    → AppendsEntries size text_of Has piece entries (record { count = piece.most - left.most; all = length entries }) before text
ended size text_of Has piece entries before text left is = record {
  shown = ahead size piece entries;
  is_piece = record { front = front_is size piece.most piece.enough_bytes (drop piece.first entries); count = counted; all = refl };
  fits = is.fits (subst (AllHave Has) (sym none) tt);
  wrote = sym (append-nil text) ∙ subst (λ ys. text ++ joined_text text_of (nat_lt left.most piece.most) ys ≡ before ++ joined_text text_of false
      (ahead size piece entries)) none is.written;
}
  where
    none : ahead size left [] ≡ []
    none = ap (front size left.most left.enough_bytes) (drop_nil left.first [] refl)

    counted : piece.most - left.most ≡ length (ahead size piece entries)
    counted = let count = subst (λ ys. (piece.most - left.most) + length ys ≡ length (ahead size piece entries)) none is.count in omega (arith, count)

-- ---- the entries as an array

pub joined_items : {A : Type 0} (value_of : A → Data) (later : Bool) (xs : List A)
    → joined_text (λ later x. comma_if later ++ compact_text (value_of x)) later xs ++ 93 ∷ [] ≡ items_text later (items_of (map value_of xs))
joined_items value_of later [] = refl
joined_items value_of later (x ∷ xs) =
    let rest = joined_text (λ later x. comma_if later ++ compact_text (value_of x)) true xs in
    append_assoc (comma_if later ++ compact_text (value_of x)) rest (93 ∷ []) ∙ append_assoc (comma_if later) (compact_text (value_of x)) (rest ++ 93 ∷ [])
    ∙ ap (λ t. comma_if later ++ (compact_text (value_of x) ++ t)) (joined_items value_of true xs)

items_fit : {A : Type 0} (value_of : A → Data) (xs : List A) → AllHave (λ x. HasFittingNumbers (value_of x)) xs
    → ItemsHaveFittingNumbers (items_of (map value_of xs))
items_fit value_of [] fit = tt
items_fit value_of (x ∷ xs) fit = (fit.0, items_fit value_of xs fit.1)

-- the entries of a piece between brackets
pub in_brackets : {A : Type 0} (value_of : A → Data) (piece : Piece) (entries : List A) (told : Told) (before first second after : List ℕ)
    → first ≡ before ++ 91 ∷ []
    → AppendsEntries (λ x. length (compact_text (value_of x))) (λ later x. comma_if later ++ compact_text (value_of x)) (λ x. HasFittingNumbers (value_of x))
    piece entries told first second
    → after ≡ second ++ 93 ∷ [] → AppendsData (IsPieceData value_of piece entries told) before after
in_brackets value_of piece entries told before first second after opened a closed = record {
  value = array (items_of (map value_of a.shown));
  says = record { shown = a.shown; is_piece = a.is_piece; is_array = refl };
  fits = items_fit value_of a.shown a.fits;
  wrote = closed ∙ ap (λ t. t ++ 93 ∷ []) (a.wrote ∙ ap (λ t. t ++ entries_text) opened) ∙ append_assoc (before ++ 91 ∷ []) entries_text (93 ∷ [])
      ∙ append_assoc before (91 ∷ []) (entries_text ++ 93 ∷ [])
      ∙ ap (λ t. before ++ 91 ∷ t) (joined_items value_of false a.shown);
}
  where
    entries_text : List ℕ
    entries_text = joined_text (λ later x. comma_if later ++ compact_text (value_of x)) false a.shown
