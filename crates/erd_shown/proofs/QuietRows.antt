-- Rows of which none is told.
use Rattle.erd_shown.proofs.Common.{◌≡◌, ℕ, Bool, true, false, List, [], ◌∷◌, ◌++◌, length, slice_get, flat_map, Some, Option, ⊤}
use Rattle.erd_shown.proofs.Common.{sym, refl, ap, ◌∙◌, subst, In, In-all, all_from_In, slice_get_within, AllByRecursion, inl, inr, zero, suc, ◌<◌, arith}
use Rattle.std.specs.Cmp.{IsEquivalence}
use Rattle.erd_shown.specs.BallotLaws.{TellsNoDifference}
use Rattle.erd_shown.specs.Partners.{partners}
use Rattle.erd_shown.specs.Rows.{AreRows, IsRow}
use Rattle.erd_shown.specs.declared.rows.Row.{Row}
use Rattle.erd_shown.specs.declared.rows.Row.TheVariants.{Both, Removed, Added, MovedAway, MovedHere}
use Rattle.erd_shown.proofs.PartnerLaws.{each_other, one_thing}
use Rattle.erd_shown.proofs.RowLaws.{equal_lists, partners_count}
use Rattle.erd_shown.proofs.RowPlaces.{HasRight, one_left_row, row_with_right}

-- equality that is decided
pub equivalence : {K : Type 0} (same : K → K → Bool) → ((x : K) → same x x ≡ true) → ((x y : K) → same x y ≡ true → x ≡ y) → IsEquivalence same
equivalence same itself exact = record {
  refl = itself;
  symm = λ x y. at x y (same x y) refl (same y x) refl;
  congr = λ x y z e. ap (λ w. same w z) (exact x y e);
}
  where
    at : (x y : _) (b : Bool) → same x y ≡ b → (c : Bool) → same y x ≡ c → same x y ≡ same y x
    at x y true e c f = let one : x ≡ y = exact x y e in ap (λ w. same w y) one ∙ ap (λ w. same y w) (sym one)
    at x y false e true f = let one : y ≡ x = exact y x f in ap (λ w. same w y) (sym one) ∙ ap (λ w. same y w) one
    at x y false e false f = e ∙ sym f

-- nothing is told of a row: it is of a line of both ballots, or of one that moved away
abbrev pub IsQuiet : Row → Type 0
IsQuiet (Both i j) = ⊤
IsQuiet (MovedAway i j) = ⊤
IsQuiet row = ⊥

some_at : {A : Type 0} (xs : List A) (i : ℕ) → i < length xs → (x : A) × (slice_get xs i ≡ Some x)
some_at [] i low = absurd (omega (arith, low))
some_at (x ∷ xs) zero low = (x, refl)
some_at (x ∷ xs) (suc i) low = some_at xs i (omega (arith, low))

module _ {K : Type 0} (same : K → K → Bool) (laws : IsEquivalence same) (xs ys : List K) where
  -- a line with a partner, or with none, stands in its list
  pub stands : (i : ℕ) (o : Option ℕ) → slice_get (partners same xs ys) i ≡ Some o → (x : K) × (slice_get xs i ≡ Some x)
  stands i o e = some_at xs i (subst (λ n. i < n) (partners_count same xs ys) (slice_get_within (partners same xs ys) i o e))

  module _ (rows : List Row) (are : AreRows (partners same xs ys) (partners same ys xs) rows) where
    pub so : (row : Row) → In row rows → IsRow (partners same xs ys) (partners same ys xs) row
    so row inside = In-all (IsRow (partners same xs ys) (partners same ys xs)) row rows are.so inside

    module _ (quiet : (row : Row) → In row rows → IsQuiet row) where
      -- none moved away, since none came
      not_moved : (i j : ℕ) → In (MovedAway i j) rows → ⊥
      not_moved i j inside =
          let turned : slice_get (partners same ys xs) j ≡ Some (Some i) = each_other same laws xs ys i j (so (MovedAway i j) inside) in
          let low = slice_get_within (partners same ys xs) j (Some i) turned in
          let there = row_with_right rows (length (partners same ys xs)) j are.right_lines low in
          at turned there.0 there.1 there.2
        where
          at : slice_get (partners same ys xs) j ≡ Some (Some i) → (row : Row) → In row rows → HasRight j row → ⊥
          at turned (Both k h) other is =
              let back : slice_get (partners same ys xs) h ≡ Some (Some k) = each_other same laws xs ys k h (so (Both k h) other) in
              let one : k ≡ i = cc in
              let equal = one_left_row rows 0 (length (partners same xs ys)) i (MovedAway i j) (Both k h) are.left_lines inside other refl one in
              cc
          at turned (Removed k) other is = is
          at turned (Added k) other is = quiet (Added k) other
          at turned (MovedAway k h) other is = is
          at turned (MovedHere k h) other is = quiet (MovedHere k h) other

      -- each row is of two equal entries, of any two lists whose entries are equal where things are partners
      pub none_told : {A : Type 0} (ls rs : List A) → ((i j : ℕ) → In (Both i j) rows → slice_get ls i ≡ slice_get rs j)
          → AllByRecursion (TellsNoDifference ls rs) rows
      none_told ls rs equal = all_from_In (TellsNoDifference ls rs) rows at
        where
          at : (row : Row) → In row rows → TellsNoDifference ls rs row
          at (Both i j) inside = equal i j inside
          at (Removed i) inside = quiet (Removed i) inside
          at (Added j) inside = quiet (Added j) inside
          at (MovedAway i j) inside = not_moved i j inside
          at (MovedHere i j) inside = quiet (MovedHere i j) inside

      -- the things are the same ones
      pub same_things : ((x y : K) → same x y ≡ true → x ≡ y) → xs ≡ ys
      same_things exact = equal_lists (partners same xs ys) (partners same ys xs) rows xs ys (partners_count same xs ys) (partners_count same ys xs) are
          (none_told xs ys equal)
        where
          equal : (i j : ℕ) → In (Both i j) rows → slice_get xs i ≡ slice_get ys j
          equal i j inside =
              let both = one_thing same laws xs ys i j (so (Both i j) inside) in
              both.2 ∙ ap Some (sym (exact both.1 both.0 both.4)) ∙ sym both.3

-- ---- no line is told

pub none_before : {A : Type 0} (xs ys : List A) → xs ++ ys ≡ [] → (xs ≡ []) × (ys ≡ [])
none_before [] ys e = (refl, e)
none_before (x ∷ xs) ys e = cc

pub none_of_each : {A B : Type 0} (f : A → List B) (xs : List A) (x : A) → flat_map f xs ≡ [] → In x xs → f x ≡ []
none_of_each f [] x e inside = absurd inside
none_of_each f (y ∷ xs) x e (inl g) = ap f (sym g) ∙ (none_before (f y) (flat_map f xs) e).0
none_of_each f (y ∷ xs) x e (inr g) = none_of_each f xs x (none_before (f y) (flat_map f xs) e).1 g
