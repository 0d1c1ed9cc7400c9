-- The selection of a contest with a name, as it is found by its position in the report.
use Rattle.erd_shown.proofs.Common.{◌≡◌, ℕ, ◌+◌, List, slice_get, Some, None, Option, codes, option_map, option_and_then, sym, refl, ap, ◌∙◌, subst}
use Rattle.erd_shown.proofs.Common.{and_then-Some, option_map-Some, In, In-map, in_at, Data, entries_at, family, Preference, Placed, objects, contests}
use Rattle.erd_shown.proofs.Common.{selections_of_contest, numbered_selections, IsBounded, values-placed_entries, IsAccepted, IsTree, HasFittingNumbers}
use Rattle.erd_shown.proofs.Common.{NameParts, name_of, selection_in, position_of, role, has_float, false}
use Rattle.erd_meaning.specs.Lookups.{FindsSelection, selections_before}
use Rattle.erd_meaning.proofs.selections.NamesTold.{numbered_at, of_its_contest}
use Rattle.std.specs.Prelude.{IfSome}
use Rattle.erd_shown.specs.Laws.{IsTaken}
use Rattle.erd_shown.specs.SideValues.{selection_with_name}
use Rattle.erd_shown.proofs.Found.{standing}
use Rattle.erd_shown.proofs.Placed.{whole_there}
use Rattle.erd_shown.proofs.fit.FitMembers.{selections_fit}
use Rattle.erd_shown.proofs.told.Selections.{find_In, has_name, name_told, once, own, told_name}

abbrev Numbered : Type 0
Numbered = ℕ × Placed

abbrev Named : Type 0
Named = ℕ × NameParts

abbrev value_of : Placed → Data
value_of o = o.value

abbrev inside : Placed → List Data
inside contest = entries_at (codes "ContestSelection") contest.value

-- what stands at a position that has the number of a contest and a name
record IsThere (π : Preference) (t : Data) (c : ℕ) (n : NameParts) (i : ℕ) : Type 0 where
  selection : Placed
  stands : slice_get (objects family.Selection t) i ≡ Some selection
  contest : Placed
  at : slice_get (contests t) c ≡ Some contest
  first : selection_with_name π t n contest.value ≡ Some selection.value

module _ (π : Preference) (t : Data) (accepted : IsAccepted π t) (tree : IsTree t) (fits : HasFittingNumbers t) (bounded : IsBounded t) (c : ℕ)
    (n : NameParts) where
  abbrev with_name : Placed → Option Data
  with_name contest = selection_with_name π t n contest.value

  abbrev numbered_name : Numbered → Option Named
  numbered_name s = option_map (λ (m : NameParts). (s.0, m)) (name_of π t s.1.value)

  there : (i : ℕ) → selection_in π t i ≡ Some (c, n) → IsThere π t c n i
  there i e =
      let s = and_then-Some numbered_name (slice_get (numbered_selections t) i) (c, n) e in
      let m = option_map-Some (λ (m : NameParts). (s.0.0, m)) (name_of π t s.0.1.value) (c, n) s.2 in
      let number : s.0.0 ≡ c = ap (λ (p : Named). p.0) m.2 in
      let named : name_of π t s.0.1.value ≡ Some n = m.1 ∙ ap (λ (p : Named). Some p.1) m.2 in
      let a = of_its_contest t s.0 (in_at (numbered_selections t) i s.0 s.1) in
      let among : In s.0.1.value (inside a.contest) =
      subst (In s.0.1.value) (values-placed_entries (codes "ContestSelection") a.contest) (In-map value_of s.0.1 (selections_of_contest a.contest) a.inside) in
      let distinct = once π t n (inside a.contest) (selections_fit π t accepted tree fits a.contest a.there).1 in
      record {
        selection = s.0.1;
        stands = sym (numbered_at t i) ∙ ap (option_map (λ (x : Numbered). x.1)) s.1;
        contest = a.contest;
        at = subst (λ k. slice_get (contests t) k ≡ Some a.contest) number a.at;
        first = own (has_name π t n) (inside a.contest) s.0.1.value distinct among (told_name π t n s.0.1.value named);
      }

  abbrev at_position : ℕ → Option Data
  at_position i = option_map value_of (slice_get (objects family.Selection t) i)

  pub selection_found : (found : Option ℕ) → FindsSelection π t c n found → option_and_then at_position found
      ≡ option_and_then with_name (slice_get (contests t) c)
  selection_found (Some i) finds =
      let h = there i ((finds i).0 refl) in
      ap (option_map value_of) h.stands ∙ sym (ap (option_and_then with_name) h.at ∙ h.first)
  selection_found None finds = at (slice_get (contests t) c) refl
    where
      within : (contest : Placed) → slice_get (contests t) c ≡ Some contest → (o : Option Data) → with_name contest ≡ o → None ≡ o
      within contest is None none = refl
      within contest is (Some d) some =
          let i = find_In (has_name π t n) (inside contest) d some in
          let p = position_of (inside contest) d i.0 in
          let x = standing π t accepted tree fits bounded c contest is p.0 d p.1 in
          let named : name_of π t x.0.1.value ≡ Some n = ap (name_of π t) x.3 ∙ name_told π t n d i.1 in
          let number : Some (x.0.0, n) ≡ Some (c, n) = ap (λ (k : ℕ). Some (k, n)) x.2 in
          let here : selection_in π t (selections_before t c + p.0) ≡ Some (c, n) =
          ap (option_and_then numbered_name) x.1 ∙ ap (option_map (λ (m : NameParts). (x.0.0, m))) named ∙ number in
          let clash : None ≡ Some (selections_before t c + p.0) = (finds (selections_before t c + p.0)).1 here in
          absurd (cc clash)

      at : (o : Option Placed) → slice_get (contests t) c ≡ o → None ≡ option_and_then with_name o
      at None is = refl
      at (Some contest) is = within contest is (with_name contest) refl

-- the value of a selection has no number that is not whole
pub found_whole : (π : Preference) (t : Data) (given : IsTaken π t) (bounded : IsBounded t) {A : Type 0} (data_of : A → Data) (r : Option A) (i : ℕ)
    → option_map data_of r ≡ option_map value_of (slice_get (objects family.Selection t) i) → IfSome r (λ v. has_float (data_of v) ≡ false)
found_whole π t given bounded data_of None i e = tt
found_whole π t given bounded data_of (Some v) i e =
    let o = option_map-Some value_of (slice_get (objects family.Selection t) i) (data_of v) (sym e) in
    subst (λ x. has_float x ≡ false) o.2 (whole_there π t given bounded (role.OfFamily family.Selection) i o.0 o.1)
