-- Two ballots pass the test if and only if they are one, and in reports that mean the same no style is told.
use Rattle.erd_shown.proofs.Common.{◌≡◌, ℕ, suc, ◌+◌, ◌<◌, Bool, true, false, not, List, [], ◌∷◌, map, length, slice_get, Some}
use Rattle.erd_shown.proofs.Common.{None, Option, option_map, option_map_or, sym, refl, ap, ap₂, ◌∙◌, subst, arith, inl, inr, In, In-from_contains}
use Rattle.erd_shown.proofs.Common.{contains_from_In, In-map, In-map_from, In-rising, and_parts, and_from, bytes_eq, text_exact, text_itself, is_same_exact}
use Rattle.erd_shown.proofs.Common.{compact_text, is_same_json, eq_by_cmp, option_cmp, key_cmp, key_cmp_total, options_total}
use Rattle.erd_shown.proofs.Common.{options_exact, equal_keys, Decides-eqb, enumerate_from, at_low, in_at, slice_get-map, slice_get_within}
use Rattle.erd_shown.proofs.Common.{option_map-Some, rising_list, rising_list_map, objects_distinct, distinct_map, has_identifier, no_identity_fault, Data}
use Rattle.erd_shown.proofs.Common.{null, family, Preference, key_of, rising_keys, Key, Placed, objects, NoneOf, IdentityFault}
unfoldable use Rattle.erd_shown.proofs.Common.{IsDistinct}
use Rattle.std.specs.Cmp.{IsEquivalence}
use Rattle.erd_meaning.proofs.Common.{map-map}
use Rattle.erd_shown.specs.BallotDifferences.{AreBallotDifferences, StyleFound, compared_in, has_same_lines, has_same_selections}
use Rattle.erd_shown.specs.BallotDifferences.{is_one_key, is_reworded_at, is_same_ballot, style_keys, told_of_both}
use Rattle.erd_shown.specs.BallotLaws.{IsDifferingStyle, IsOneBallot, MeaningsTell, SameBallotsTell}
use Rattle.erd_shown.specs.BallotWords.{printed_selections, selections_in}
use Rattle.erd_shown.specs.Ballots.{compared_ballot}
use Rattle.erd_shown.specs.Partners.{is_same_occurrence, occurrences, partners, place_from}
use Rattle.erd_shown.specs.Reworded.{is_ballot_reworded}
use Rattle.erd_shown.specs.RowData.{style_in}
use Rattle.erd_shown.proofs.BallotTrees.{ballot_sound}
use Rattle.erd_shown.proofs.LinesTold.{not_so}
use Rattle.erd_shown.proofs.PartnerLaws.{found_at, one_thing}
use Rattle.erd_shown.proofs.QuietRows.{stands}
use Rattle.erd_shown.proofs.RowLaws.{occurrences_count}
use Rattle.erd_shown.proofs.StyleLaws.{keys_alike, styles_told}
use Rattle.erd_shown.proofs.fit.FitMembers.{fitting_whole}
use Rattle.erd_shown.proofs.told.JsonSets.{itself}
use Rattle.erd_shown.proofs.told.Sets.{one_order}
use Rattle.erd_shown.proofs.alike.Objects.{AreAlike, turned, twin}
use Rattle.erd_shown.proofs.alike.Ballots.{one_ballot, told_alike}

-- ---- the test of two ballots

there : {A : Type 0} (f : Data → A) (z : A) (o : Option Placed) (d : Data) → option_map (λ (o : Placed). o.value) o ≡ Some d
    → option_map_or (λ (o : Placed). f o.value) o z ≡ f d
there f z None d e = cc
there f z (Some o) d e = let same : o.value ≡ d = cc in ap f same

module _ (π ρ : Preference) (t u d e : Data) (i j : ℕ) (one : style_in t i ≡ Some d) (other : style_in u j ≡ Some e) where
  ballot_left : compared_in π t i ≡ compared_ballot π t d
  ballot_left = there (compared_ballot π t) null (slice_get (objects family.Style t) i) d one

  ballot_right : compared_in ρ u j ≡ compared_ballot ρ u e
  ballot_right = there (compared_ballot ρ u) null (slice_get (objects family.Style u) j) e other

  words_left : selections_in π t i ≡ printed_selections π t d
  words_left = there (printed_selections π t) null (slice_get (objects family.Style t) i) d one

  words_right : selections_in ρ u j ≡ printed_selections ρ u e
  words_right = there (printed_selections ρ u) null (slice_get (objects family.Style u) j) e other

  reworded_left : is_reworded_at π t ρ u i ≡ is_ballot_reworded π t ρ u d
  reworded_left = there (is_ballot_reworded π t ρ u) false (slice_get (objects family.Style t) i) d one

  same_is_one : is_same_ballot π t ρ u i j ≡ true → IsOneBallot π t d ρ u e
  same_is_one h =
      let lines = and_parts (has_same_lines π t ρ u i j) _ h in
      let rest = and_parts (has_same_selections π t ρ u i j) _ lines.1 in (
        sym ballot_left ∙ is_same_exact _ _ (ballot_sound π t i).0 (ballot_sound ρ u j).0 lines.0 ∙ ballot_right,
        ap compact_text (sym words_left) ∙ text_exact _ _ rest.0 ∙ ap compact_text words_right,
        sym reworded_left ∙ not_so (is_reworded_at π t ρ u i) rest.1,
      )

  one_is_same : IsOneBallot π t d ρ u e → is_same_ballot π t ρ u i j ≡ true
  one_is_same h =
      let ballots : compared_in π t i ≡ compared_in ρ u j = ballot_left ∙ h.0 ∙ sym ballot_right in
      let words : compact_text (selections_in π t i) ≡ compact_text (selections_in ρ u j) =
      ap compact_text words_left ∙ h.1 ∙ sym (ap compact_text words_right) in
      and_from (has_same_lines π t ρ u i j) _
      (subst (λ x. is_same_json (compared_in π t i) x ≡ true) ballots (itself (compared_in π t i) (fitting_whole (compared_in π t i) (ballot_sound π t i).1)))
      (and_from (has_same_selections π t ρ u i j) _
      (subst (λ x. bytes_eq (compact_text (selections_in π t i)) x ≡ true) words (text_itself (compact_text (selections_in π t i))))
      (ap not (reworded_left ∙ h.2)))

pub same_ballots_told : SameBallotsTell
same_ballots_told π ρ t u d e i j one other = (same_is_one π ρ t u d e i j one other, one_is_same π ρ t u d e i j one other)

-- ---- the keys of styles

numbered : {A B : Type 0} (f : A → B) (n : ℕ) (xs : List A) → map (λ (p : ℕ × A). f p.1) (enumerate_from n xs) ≡ map f xs
numbered f n [] = refl
numbered f n (x ∷ xs) = ap (λ ys. f x ∷ ys) (numbered f (n + 1) xs)

numbered_there : {A : Type 0} (n : ℕ) (xs : List A) (p : ℕ × A) → In p (enumerate_from n xs) → (i : ℕ) × (p.0 ≡ n + i) × (slice_get xs i ≡ Some p.1)
numbered_there n [] p h = absurd h
numbered_there n (x ∷ xs) p (inl e) =
    let first : n + 0 ≡ n = omega arith in (0, sym (ap (λ (q : ℕ × _). q.0) e) ∙ sym first, ap (λ (q : ℕ × _). Some q.1) e)
numbered_there n (x ∷ xs) p (inr h) =
    let rest = numbered_there (n + 1) xs p h in
    let next : n + 1 + rest.0 ≡ n + suc rest.0 = omega arith in
    (suc rest.0, rest.1 ∙ next, rest.2)

module _ (π : Preference) (t : Data) where
  abbrev numbered_key : ℕ × Placed → Option Key × ℕ
  numbered_key p = (key_of π p.1.value, p.0)

  keys_there : style_keys (rising_keys π t family.Style) ≡ rising_list (option_cmp key_cmp) (map (λ (o : Placed). key_of π o.value) (objects family.Style t))
  keys_there =
      rising_list_map (λ (p : Option Key × ℕ). p.0) (option_cmp key_cmp) (map numbered_key (enumerate_from 0 (objects family.Style t)))
      ∙ ap (rising_list (option_cmp key_cmp))
      (map-map (λ (p : Option Key × ℕ). p.0) numbered_key (enumerate_from 0 (objects family.Style t))
      ∙ numbered (λ (o : Placed). key_of π o.value) 0 (objects family.Style t))

  -- where a style stands
  style_there : (i : ℕ) (a : Option Key × ℕ) → slice_get (rising_keys π t family.Style) i ≡ Some a → (o : Placed)
      × (slice_get (objects family.Style t) a.1 ≡ Some o) × (key_of π o.value ≡ a.0)
  style_there i a e =
      let all = map numbered_key (enumerate_from 0 (objects family.Style t)) in
      let inside = In-rising (λ (a b : Option Key × ℕ). option_cmp key_cmp a.0 b.0) a all (in_at (rising_keys π t family.Style) i a e) in
      let p = In-map_from numbered_key (enumerate_from 0 (objects family.Style t)) a inside in
      let place = numbered_there 0 (objects family.Style t) p.0 p.1 in
      let start : 0 + place.0 ≡ place.0 = omega arith in
      let here : place.0 ≡ a.1 = sym start ∙ sym place.1 ∙ ap (λ (q : Option Key × ℕ). q.1) p.2 in
      (p.0.1, ap (slice_get (objects family.Style t)) (sym here) ∙ place.2, ap (λ (q : Option Key × ℕ). q.0) p.2)

module _ {K : Type 0} (cmp : K → K → Bool) (laws : IsEquivalence cmp) where
  own_partner : (xs : List K) (i : ℕ) (x : K) → slice_get xs i ≡ Some x → slice_get (partners cmp xs xs) i ≡ Some (Some i)
  own_partner xs i x e =
      let low : i < length (occurrences cmp xs) = subst (λ n. i < n) (sym (occurrences_count cmp [] xs)) (slice_get_within xs i x e) in
      let p = at_low (occurrences cmp xs) i low in
      let itself : is_same_occurrence cmp p.0 p.0 ≡ true = and_from (cmp p.0.0 p.0.0) _ (laws.refl p.0.0) ((Decides-eqb p.0.1 p.0.1).1 refl) in
      let start : 0 + i ≡ i = omega arith in
      slice_get-map (place_from cmp 0 (occurrences cmp xs)) (occurrences cmp xs) i ∙ ap (option_map (place_from cmp 0 (occurrences cmp xs))) p.1
      ∙ ap Some (found_at cmp laws [] xs 0 i p.0 p.0 p.1 itself ∙ ap Some start)

not_told : (same : ℕ → ℕ → Bool) (a b : Option Key × ℕ) → same a.1 b.1 ≡ true → told_of_both same (Some a) (Some b) ≡ None
not_told same a b e = rw e refl

-- ---- two reports that mean the same

module _ (π ρ : Preference) (t u : Data) (alike : AreAlike π ρ t u) where
  key_there : (k : Option Key) → In k (map (λ (o : Placed). key_of π o.value) (objects family.Style t))
      → In k (map (λ (o : Placed). key_of ρ o.value) (objects family.Style u))
  key_there k h =
      let o = In-map_from (λ (o : Placed). key_of π o.value) (objects family.Style t) k h in
      let l = has_identifier π t (no_identity_fault π t alike.left.accepted) family.Style o.0 refl o.1 in
      let other = twin π ρ t u alike family.Style refl l.0 o.0 o.1 l.1 in
      subst (λ x. In x (map (λ (o : Placed). key_of ρ o.value) (objects family.Style u))) (other.key ∙ sym l.1 ∙ o.2)
      (In-map (λ (o : Placed). key_of ρ o.value) other.other (objects family.Style u) other.there)

keys_distinct : (π : Preference) (t : Data) → NoneOf (IdentityFault π t)
    → IsDistinct (eq_by_cmp (option_cmp key_cmp)) (map (λ (o : Placed). key_of π o.value) (objects family.Style t))
keys_distinct π t none = distinct_map (λ (o : Placed). key_of π o.value) (eq_by_cmp (option_cmp key_cmp)) (objects family.Style t)
    (objects_distinct π t none family.Style refl)

module _ (π ρ : Preference) (t u : Data) (alike : AreAlike π ρ t u) where
  abbrev ls : List (Option Key × ℕ)
  ls = rising_keys π t family.Style

  abbrev rs : List (Option Key × ℕ)
  rs = rising_keys ρ u family.Style

  keys_same : style_keys ls ≡ style_keys rs
  keys_same =
      keys_there π t
      ∙ one_order (option_cmp key_cmp) (options_total key_cmp_total) _ _ (keys_distinct π t (no_identity_fault π t alike.left.accepted))
      (keys_distinct ρ u (no_identity_fault ρ u alike.right.accepted)) (key_there π ρ t u alike) (key_there ρ π u t (turned alike))
      ∙ sym (keys_there ρ u)

  has_partner : (xs ys : List (Option Key)) → xs ≡ ys → (i : ℕ) → slice_get (partners is_one_key xs ys) i ≡ Some None → ⊥
  has_partner xs ys same i none =
      let x = stands is_one_key keys_alike xs ys i None none in
      let found = ap (λ zs. slice_get (partners is_one_key xs zs) i) (sym same) ∙ own_partner is_one_key keys_alike xs i x.0 x.1 in
      let clash : Some None ≡ Some (Some i) = sym none ∙ found in
      cc

  same_there : (a b : Option Key × ℕ) (i j : ℕ) → slice_get ls i ≡ Some a → slice_get rs j ≡ Some b → is_one_key b.0 a.0 ≡ true → is_same_ballot π t ρ u a.1 b.1
      ≡ true
  same_there a b i j left right one =
      let o = style_there π t i a left in
      let p = style_there ρ u j b right in
      let key : b.0 ≡ a.0 = options_exact key_cmp equal_keys b.0 a.0 one in
      (same_ballots_told π ρ t u o.0.value p.0.value a.1 b.1 (ap (option_map (λ (x : Placed). x.value)) o.1) (ap (option_map (λ (x : Placed). x.value)) p.1)).1
      (one_ballot π ρ t u alike o.0 p.0 (in_at (objects family.Style t) a.1 o.0 o.1) (in_at (objects family.Style u) b.1 p.0 p.1) (o.2 ∙ sym key ∙ sym p.2))

  none_of_both : (i j : ℕ) (s : StyleFound) → slice_get (partners is_one_key (style_keys ls) (style_keys rs)) i ≡ Some (Some j)
      → told_of_both (is_same_ballot π t ρ u) (slice_get ls i) (slice_get rs j) ≡ Some s → ⊥
  none_of_both i j s pair e =
      let both = one_thing is_one_key keys_alike (style_keys ls) (style_keys rs) i j pair in
      let a = option_map-Some (λ (p : Option Key × ℕ). p.0) (slice_get ls i) both.0
      (sym (slice_get-map (λ (p : Option Key × ℕ). p.0) ls i) ∙ both.2) in
      let b = option_map-Some (λ (p : Option Key × ℕ). p.0) (slice_get rs j) both.1
      (sym (slice_get-map (λ (p : Option Key × ℕ). p.0) rs j) ∙ both.3) in
      let same = same_there a.0 b.0 i j a.1 b.1 (ap₂ is_one_key b.2 a.2 ∙ both.4) in
      let none : told_of_both (is_same_ballot π t ρ u) (slice_get ls i) (slice_get rs j) ≡ None =
      ap₂ (told_of_both (is_same_ballot π t ρ u)) a.1 b.1 ∙ not_told (is_same_ballot π t ρ u) a.0 b.0 same in
      let clash : None ≡ Some s = sym none ∙ e in
      cc

  none_differs : (s : StyleFound) → IsDifferingStyle (is_same_ballot π t ρ u) ls rs s → ⊥
  none_differs s (inl (i, none, e)) = has_partner (style_keys ls) (style_keys rs) keys_same i none
  none_differs s (inr (inl (j, none, e))) = has_partner (style_keys rs) (style_keys ls) (sym keys_same) j none
  none_differs s (inr (inr (i, j, pair, e))) = none_of_both i j s pair e

  none_told : (found : List StyleFound) → AreBallotDifferences π t ρ u found → found ≡ []
  none_told [] are = refl
  none_told (s ∷ found) are = absurd (none_differs s ((styles_told π ρ t u (s ∷ found) are s).0 (contains_from_In s (s ∷ found) (inl refl))))

pub meanings_told : MeaningsTell
meanings_told π ρ t u left right same =
    let alike : AreAlike π ρ t u = record { left = left; right = right; same = same } in (
      λ o p i j key. (
        one_ballot π ρ t u alike o p (In-from_contains o (objects family.Style t) i) (In-from_contains p (objects family.Style u) j) key,
        told_alike π ρ t u alike o p (In-from_contains o (objects family.Style t) i) (In-from_contains p (objects family.Style u) j) key,
      ),
      none_told π ρ t u alike,
    )
