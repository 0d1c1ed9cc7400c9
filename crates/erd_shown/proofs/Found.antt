-- What is found by an `@id`, and the names of the selections of a contest by their positions.
use Rattle.erd_shown.proofs.Common.{◌≡◌, ℕ, ◌+◌, ◌<◌, ◌^◌, ◌==◌, Bool, true, false, cond, List, length, slice_get, Some, None, Option, codes, option_map}
use Rattle.erd_shown.proofs.Common.{option_and_then, sym, refl, ap, ◌∙◌, slice_get-map, slice_get_within, length-map, and_then-Some, option_map-Some, in_at}
use Rattle.erd_shown.proofs.Common.{In-all, Data, [], arith, entries_at, Family, family, family_number, has_keys, Preference, key_of, key_in, key_named}
use Rattle.erd_shown.proofs.Common.{name_named, name_of, FindsId, Placed, objects, contests, selections_of_contest, numbered_selections, IsBounded}
use Rattle.erd_shown.proofs.Common.{values-placed_entries, IsAccepted, IsTree, HasFittingNumbers, NameParts, Decides-eqb}
use Rattle.erd_meaning.specs.Lookups.{selections_before}
use Rattle.erd_meaning.specs.code.SelectionWalk.{if_of_contest}
use Rattle.erd_meaning.proofs.finding.OneObject.{owner_elsewhere, owner_here, owner_nowhere}
use Rattle.erd_meaning.proofs.selections.ContestSelections.{stand_from_start}
use Rattle.erd_meaning.proofs.selections.NamesTold.{numbered_at, placed_of_contests}
use Rattle.erd_shown.specs.code.Fitting.{IsSelection}
use Rattle.erd_shown.specs.code.Selections.{AreNamedFrom}
use Rattle.erd_shown.specs.code.Writing.{name_in}
use Rattle.erd_shown.proofs.fit.FitMembers.{selections_fit}

abbrev Numbered : Type 0
Numbered = ℕ × Placed

abbrev values_of : Option Placed → Option Data
values_of o = option_map (λ o. o.value) o

-- ---- keys

module _ (π : Preference) (t : Data) (f : Family) (keyed : has_keys f ≡ true) (id : List ℕ) where
  key_kept : (o : Option Placed) → option_and_then (λ (o : Placed). cond (has_keys f) (key_of π o.value) None) o ≡ option_and_then (key_of π) (values_of o)
  key_kept None = refl
  key_kept (Some o) = ap (λ b. cond b (key_of π o.value) None) keyed

  pub key_found : (g : Family) (i : ℕ) → FindsId t id (Some (g, i)) → (family_number g == family_number f) ≡ true → key_in π f t i ≡ key_named π t f id
  key_found g i finds same = key_kept (slice_get (objects f t) i) ∙ ap (λ o. option_and_then (key_of π) (values_of o)) (sym (owner_here t f id g i finds same))

  pub key_elsewhere : (g : Family) (i : ℕ) → FindsId t id (Some (g, i)) → (family_number g == family_number f) ≡ false → None ≡ key_named π t f id
  key_elsewhere g i finds other = ap (λ o. option_and_then (key_of π) (values_of o)) (sym (owner_elsewhere t f id g i finds other))

  pub key_nowhere : FindsId t id None → None ≡ key_named π t f id
  key_nowhere finds = ap (λ o. option_and_then (key_of π) (values_of o)) (sym (owner_nowhere t f id finds))

-- ---- names

module _ (π : Preference) (t : Data) (id : List ℕ) where
  name_kept : (s : Option Numbered) → option_map (λ (x : ℕ × NameParts). x.1)
      (option_and_then (λ (s : Numbered). option_map (λ (n : NameParts). (s.0, n)) (name_of π t s.1.value)) s)
      ≡ option_and_then (name_of π t) (values_of (option_map (λ (s : Numbered). s.1) s))
  name_kept None = refl
  name_kept (Some s) = at (name_of π t s.1.value)
    where
      at : (o : Option NameParts) → option_map (λ (x : ℕ × NameParts). x.1) (option_map (λ (n : NameParts). (s.0, n)) o) ≡ o
      at None = refl
      at (Some n) = refl

  pub name_at_position : (i : ℕ) → name_in π t i ≡ option_and_then (name_of π t) (values_of (slice_get (objects family.Selection t) i))
  name_at_position i = name_kept (slice_get (numbered_selections t) i) ∙ ap (λ o. option_and_then (name_of π t) (values_of o)) (numbered_at t i)

  pub name_found : (g : Family) (i : ℕ) → FindsId t id (Some (g, i)) → (family_number g == family_number family.Selection) ≡ true
      → name_in π t i ≡ name_named π t id
  name_found g i finds same = name_at_position i ∙ ap (λ o. option_and_then (name_of π t) (values_of o)) (sym (owner_here t family.Selection id g i finds same))

  pub name_elsewhere : (g : Family) (i : ℕ) → FindsId t id (Some (g, i)) → (family_number g == family_number family.Selection) ≡ false
      → None ≡ name_named π t id
  name_elsewhere g i finds other = ap (λ o. option_and_then (name_of π t) (values_of o)) (sym (owner_elsewhere t family.Selection id g i finds other))

  pub name_nowhere : FindsId t id None → None ≡ name_named π t id
  name_nowhere finds = ap (λ o. option_and_then (name_of π t) (values_of o)) (sym (owner_nowhere t family.Selection id finds))

-- ---- the selections of a contest

module _ (π : Preference) (t : Data) (accepted : IsAccepted π t) (tree : IsTree t) (fits : HasFittingNumbers t) (bounded : IsBounded t)
    (c : ℕ) (contest : Placed)
    (there : slice_get (contests t) c ≡ Some contest) where
  abbrev inside : List Data
  inside = entries_at (codes "ContestSelection") contest.value

  abbrev start : ℕ
  start = selections_before t c

  of_contest : (x : Numbered) (o : Placed) → if_of_contest c x ≡ Some o → (x.0 ≡ c) × (x.1 ≡ o)
  of_contest x o e = at (x.0 == c) refl e
    where
      at : (b : Bool) → (x.0 == c) ≡ b → cond b (Some x.1) None ≡ Some o → (x.0 ≡ c) × (x.1 ≡ o)
      at true is e = let same : x.1 ≡ o = cc in ((Decides-eqb x.0 c).0 is, same)
      at false is e = let clash : None ≡ Some o = e in absurd (cc clash)

  -- where a selection of the contest stands in the report
  pub standing : (j : ℕ) (d : Data) → slice_get inside j ≡ Some d → (x : Numbered) × (slice_get (numbered_selections t) (start + j) ≡ Some x) × (x.0 ≡ c)
      × (x.1.value ≡ d)
  standing j d e =
      let o = option_map-Some (λ (o : Placed). o.value) (slice_get (selections_of_contest contest) j) d
      (sym (slice_get-map (λ (o : Placed). o.value) (selections_of_contest contest) j)
      ∙ ap (λ xs. slice_get xs j) (values-placed_entries (codes "ContestSelection") contest) ∙ e) in
      let stands : option_and_then (if_of_contest c) (slice_get (numbered_selections t) (start + j)) ≡ Some o.0 =
      stand_from_start t c start refl j ∙ ap (option_and_then (λ (o : Placed). slice_get (selections_of_contest o) j)) there ∙ o.1 in
      let x = and_then-Some (if_of_contest c) (slice_get (numbered_selections t) (start + j)) o.0 stands in
      let one = of_contest x.0 o.0 x.2 in
      (x.0, x.1, one.0, ap (λ (o : Placed). o.value) one.1 ∙ o.2)

  counted : length {A = Numbered} (numbered_selections t) ≡ length (objects family.Selection t)
  counted = sym (length-map {A = Numbered} (numbered_selections t) (λ s. s.1)) ∙ ap length (placed_of_contests 0 (contests t))

  pub named_from_start : AreNamedFrom π t start inside
  named_from_start = record { named = named }
    where
      named : (j : ℕ) (d : Data) → slice_get inside j ≡ Some d → (n : NameParts) × (name_in π t (start + j) ≡ Some n)
          × (name_of π t d ≡ Some n) × (start + j < 2 ^ 64)
      named j d e =
          let x = standing j d e in
          let s : IsSelection π t d = In-all (IsSelection π t) d inside (selections_fit π t accepted tree fits contest (in_at (contests t) c contest there)).0
          (in_at inside j d e) in
          let name : name_in π t (start + j) ≡ name_of π t d =
          name_kept π t [] (slice_get (numbered_selections t) (start + j))
          ∙ ap (λ (y : Option Numbered). option_and_then (name_of π t) (values_of (option_map (λ (s : Numbered). s.1) y))) x.1
          ∙ ap (name_of π t) x.3 in
          let low : start + j < length {A = Numbered} (numbered_selections t) = slice_get_within (numbered_selections t) (start + j) x.0 x.1 in
          let few : length (objects family.Selection t) < 2 ^ 64 = bounded.few family.Selection in
          let same = counted in
          (s.name, name ∙ s.named, s.named, omega (arith, low, few, same))
