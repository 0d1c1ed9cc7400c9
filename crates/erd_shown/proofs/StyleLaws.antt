-- The styles that are told are those that differ.
use Rattle.erd_shown.proofs.Common.{◌≡◌, ℕ, Bool, List, [], ◌∷◌, length, slice_get, Some, None, Option, inl, inr}
use Rattle.erd_shown.proofs.Common.{sym, refl, ap, ap₂, ◌∙◌, subst, In, In-all, In-from_contains, contains_from_In}
use Rattle.erd_shown.proofs.Common.{key_cmp_total, options_total, filter_map, cons_option, Key, family, rising_keys}
use Rattle.erd_shown.proofs.Common.{slice_get_within}
use Rattle.std.specs.Cmp.{IsEquivalence}
use Rattle.std.proofs.lemmas.Cmp.{eq_by_cmp_equiv}
use Rattle.erd_shown.specs.BallotDifferences.{AreStyleRows, StyleFound, is_one_key, is_same_ballot, style_keys, told_of_row}
use Rattle.erd_shown.specs.BallotLaws.{IsDifferingStyle, StylesTell, style_partners}
use Rattle.erd_shown.specs.Rows.{IsRow}
use Rattle.erd_shown.specs.declared.rows.Row.{Row}
use Rattle.erd_shown.specs.declared.rows.Row.TheVariants.{Both, Removed, Added, MovedAway, MovedHere}
use Rattle.erd_shown.proofs.PartnerLaws.{each_other}
use Rattle.erd_shown.proofs.RowPlaces.{HasLeft, HasRight, Holds, row_with_left, row_with_right}

-- ---- what is told of rows

told_of_some : {A B : Type 0} (f : A → Option B) (xs : List A) (y : B) → In y (filter_map f xs) → (x : A) × In x xs × (f x ≡ Some y)
told_of_some f [] y h = absurd h
told_of_some f (x ∷ xs) y h = at (f x) refl h (told_of_some f xs y)
  where
    at : (o : Option _) → f x ≡ o → In y (cons_option o (filter_map f xs)) → (In y (filter_map f xs) → (z : _) × In z xs × (f z ≡ Some y))
        → (z : _) × In z (x ∷ xs) × (f z ≡ Some y)
    at None e h later = let rest = later h in (rest.0, inr rest.1, rest.2)
    at (Some z) e (inl g) later = (x, inl refl, e ∙ ap Some g)
    at (Some z) e (inr g) later = let rest = later g in (rest.0, inr rest.1, rest.2)

some_told : {A B : Type 0} (f : A → Option B) (xs : List A) (x : A) (y : B) → In x xs → f x ≡ Some y → In y (filter_map f xs)
some_told f [] x y h e = absurd h
some_told f (z ∷ xs) x y (inl g) e =
    let here : f z ≡ Some y = ap f g ∙ e in subst (λ o. In y (cons_option o (filter_map f xs))) (sym here) (inl refl)
some_told f (z ∷ xs) x y (inr g) e = at (f z) (some_told f xs x y g e)
  where
    at : (o : Option _) → In y (filter_map f xs) → In y (cons_option o (filter_map f xs))
    at None h = h
    at (Some w) h = inr h

-- ---- styles

pub keys_alike : IsEquivalence is_one_key
keys_alike = eq_by_cmp_equiv (options_total key_cmp_total)

module _ (same : ℕ → ℕ → Bool) (ls rs : List (Option Key × ℕ)) (rows : List Row) (are : AreStyleRows ls rs rows) where
  other_way : (i j : ℕ) → slice_get (style_partners ls rs) i ≡ Some (Some j) → slice_get (style_partners rs ls) j ≡ Some (Some i)
  other_way = each_other is_one_key keys_alike (style_keys ls) (style_keys rs)

  back : (i j : ℕ) → slice_get (style_partners rs ls) j ≡ Some (Some i) → slice_get (style_partners ls rs) i ≡ Some (Some j)
  back i j = each_other is_one_key keys_alike (style_keys rs) (style_keys ls) j i

  so : (row : Row) → In row rows → IsRow (style_partners ls rs) (style_partners rs ls) row
  so row h = In-all (IsRow (style_partners ls rs) (style_partners rs ls)) row rows are.so h

  -- what is told differs
  differs : (s : StyleFound) (row : Row) → IsRow (style_partners ls rs) (style_partners rs ls) row → told_of_row same ls rs row ≡ Some s
      → IsDifferingStyle same ls rs s
  differs s (Both i j) is e = inr (inr (i, j, is, e))
  differs s (Removed i) is e = inl (i, is, e)
  differs s (Added j) is e = inr (inl (j, is, e))
  differs s (MovedAway i j) is e = cc
  differs s (MovedHere i j) is e = inr (inr (i, j, back i j is, e))

  -- the row of a line of the left report, and of one of the right report
  row_of_left : (i : ℕ) (o : Option ℕ) → slice_get (style_partners ls rs) i ≡ Some o → Holds (HasLeft i) rows
  row_of_left i o e = row_with_left rows (length (style_partners ls rs)) i are.left_lines (slice_get_within (style_partners ls rs) i o e)

  row_of_right : (j : ℕ) (o : Option ℕ) → slice_get (style_partners rs ls) j ≡ Some o → Holds (HasRight j) rows
  row_of_right j o e = row_with_right rows (length (style_partners rs ls)) j are.right_lines (slice_get_within (style_partners rs ls) j o e)

  abbrev told : List StyleFound
  told = filter_map (told_of_row same ls rs) rows

  told_left : (s : StyleFound) (i : ℕ) → slice_get (style_partners ls rs) i ≡ Some None → told_of_row same ls rs (Removed i) ≡ Some s → In s told
  told_left s i none e = let h = row_of_left i None none in at h.0 h.1 h.2
    where
      at : (row : Row) → In row rows → HasLeft i row → In s told
      at (Both k j) inside is = let found = so (Both k j) inside in cc
      at (Removed k) inside is = some_told (told_of_row same ls rs) rows (Removed k) s inside (ap (λ m. told_of_row same ls rs (Removed m)) is ∙ e)
      at (MovedAway k j) inside is = let found = so (MovedAway k j) inside in cc
      at (Added j) inside is = absurd is
      at (MovedHere k j) inside is = absurd is

  told_right : (s : StyleFound) (j : ℕ) → slice_get (style_partners rs ls) j ≡ Some None → told_of_row same ls rs (Added j) ≡ Some s → In s told
  told_right s j none e = let h = row_of_right j None none in at h.0 h.1 h.2
    where
      at : (row : Row) → In row rows → HasRight j row → In s told
      at (Both i k) inside is = let found = other_way i k (so (Both i k) inside) in cc
      at (Added k) inside is = some_told (told_of_row same ls rs) rows (Added k) s inside (ap (λ m. told_of_row same ls rs (Added m)) is ∙ e)
      at (MovedHere i k) inside is = let found = so (MovedHere i k) inside in cc
      at (Removed i) inside is = absurd is
      at (MovedAway i k) inside is = absurd is

  told_both : (s : StyleFound) (i j : ℕ) → slice_get (style_partners ls rs) i ≡ Some (Some j) → told_of_row same ls rs (Both i j) ≡ Some s → In s told
  told_both s i j pair e = let h = row_of_right j (Some i) turned in at h.0 h.1 h.2
    where
      turned : slice_get (style_partners rs ls) j ≡ Some (Some i)
      turned = other_way i j pair

      at : (row : Row) → In row rows → HasRight j row → In s told
      at (Both l k) inside is =
          let found : slice_get (style_partners rs ls) k ≡ Some (Some l) = other_way l k (so (Both l k) inside) in
          let there : slice_get (style_partners rs ls) j ≡ Some (Some i) = turned in
          let one : l ≡ i = cc in
          some_told (told_of_row same ls rs) rows (Both l k) s inside (ap₂ (λ m n. told_of_row same ls rs (Both m n)) one is ∙ e)
      at (Added k) inside is =
          let there : slice_get (style_partners rs ls) j ≡ Some (Some i) = turned in
          let found = so (Added k) inside in
          cc
      at (MovedHere l k) inside is =
          let found : slice_get (style_partners rs ls) k ≡ Some (Some l) = so (MovedHere l k) inside in
          let there : slice_get (style_partners rs ls) j ≡ Some (Some i) = turned in
          let one : l ≡ i = cc in
          some_told (told_of_row same ls rs) rows (MovedHere l k) s inside (ap₂ (λ m n. told_of_row same ls rs (MovedHere m n)) one is ∙ e)
      at (Removed l) inside is = absurd is
      at (MovedAway l k) inside is = absurd is

  told_if : (s : StyleFound) → IsDifferingStyle same ls rs s → In s told
  told_if s (inl (i, none, e)) = told_left s i none e
  told_if s (inr (inl (j, none, e))) = told_right s j none e
  told_if s (inr (inr (i, j, pair, e))) = told_both s i j pair e

  differs_if : (s : StyleFound) → In s told → IsDifferingStyle same ls rs s
  differs_if s h = let row = told_of_some (told_of_row same ls rs) rows s h in differs s row.0 (so row.0 row.1) row.2

pub styles_told : StylesTell
styles_told π ρ t u found are s =
    let same = is_same_ballot π t ρ u in
    let ls = rising_keys π t family.Style in
    let rs = rising_keys ρ u family.Style in (
      λ h. differs_if same ls rs are.rows are.are_rows s (subst (In s) are.tells (In-from_contains s found h)),
      λ d. contains_from_In s found (subst (In s) (sym are.tells) (told_if same ls rs are.rows are.are_rows s d)),
    )
