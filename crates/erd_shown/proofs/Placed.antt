-- The objects of a report by role and position: where they stand, that their numbers are whole, and that their selections are
-- named.
use Rattle.erd_shown.proofs.Common.{◌≡◌, ℕ, zero, suc, true, false, List, [], slice_get, Some, None, codes, sym, refl, ap, ◌∙◌, subst, true≢false, in_at}
use Rattle.erd_shown.proofs.Common.{contains_from_In, Data, null, object, Members, no_members, member, get_member, get_member-first, get_member-later}
use Rattle.erd_shown.proofs.Common.{has_float, Class, Family, family, Role, role, kind, kind_of_member, role_of_class, entries_of, entries_at, class_of_object}
use Rattle.erd_shown.proofs.Common.{class_role, is_selections, selections_name, selections_family, AreMembers, IsBounded, Preference, Placed, objects}
use Rattle.erd_shown.proofs.Common.{report_of, objects_with_role}
use Rattle.std.specs.Option.{option_map_or}
use Rattle.erd_meaning.specs.Lookups.{selections_before}
use Rattle.erd_shown.specs.ContentData.{members_in}
use Rattle.erd_shown.specs.Shown.{holder_key, object_data, object_data_in, object_in_class, placed_in}
use Rattle.erd_shown.specs.Laws.{IsTaken, StandsAs}
use Rattle.erd_shown.specs.code.Selections.{AreNamedFrom, HoldNamed}
use Rattle.erd_shown.proofs.Found.{named_from_start}
use Rattle.erd_shown.proofs.fit.FitMembers.{fitting_whole, no_selections}
use Rattle.erd_shown.proofs.fit.ExactTexts.{within-fitting}
use Rattle.erd_shown.proofs.told.Laws.{taken}

pub placed_stands : (t : Data) (r : Role) (i : ℕ) (o : Placed) → placed_in t r i ≡ Some o → StandsAs t r o
placed_stands t role.Report zero o e = let same : report_of t ≡ o = cc in sym same
placed_stands t role.Report (suc i) o e = cc
placed_stands t r i o e = contains_from_In o (objects_with_role r t) (in_at (objects_with_role r t) i o e)

-- ---- what is written for it

pub data_there : (π : Preference) (t : Data) (r : Role) (i : ℕ) (o : Placed) (c : Class) → placed_in t r i ≡ Some o → class_of_object r o.value ≡ Some c
    → object_data_in π t r i ≡ object_in_class π t (holder_key π t r o) o.value c
data_there π t r i o c e is =
    ap (λ x. option_map_or (object_data π t r) x null) e ∙ ap (λ x. option_map_or (object_in_class π t (holder_key π t r o) o.value) x null) is

pub no_data_there : (π : Preference) (t : Data) (r : Role) (i : ℕ) → placed_in t r i ≡ None → object_data_in π t r i ≡ null
no_data_there π t r i e = ap (λ x. option_map_or (object_data π t r) x null) e

pub no_class_there : (π : Preference) (t : Data) (r : Role) (i : ℕ) (o : Placed) → placed_in t r i ≡ Some o → class_of_object r o.value ≡ None
    → object_data_in π t r i ≡ null
no_class_there π t r i o e is = ap (λ x. option_map_or (object_data π t r) x null) e
    ∙ ap (λ x. option_map_or (object_in_class π t (holder_key π t r o) o.value) x null) is

-- ---- its selections

all_named : (π : Preference) (t : Data) (s : ℕ) (c : Class) (ms : Members) → AreMembers ms
    → ((k : List ℕ) (d : Data) → get_member k ms ≡ Some d → kind_of_member c k ≡ kind.Keyed family.Selection → AreNamedFrom π t s (entries_of d))
    → HoldNamed π t s c ms
all_named π t s c no_members rise each = tt
all_named π t s c (member k d ms) rise each =
    (each k d (get_member-first k d ms), all_named π t s c ms rise.2 (λ l v found is. each l v (get_member-later k l d v ms rise found) is))

module _ (π : Preference) (t : Data) (given : IsTaken π t) (bounded : IsBounded t) where
  pub whole_there : (r : Role) (i : ℕ) (o : Placed) → placed_in t r i ≡ Some o → has_float o.value ≡ false
  whole_there r i o e =
      let a = taken π t given r o (placed_stands t r i o e) in
      subst (λ x. has_float x ≡ false) (sym a.object_there.is_object)
      (fitting_whole (object a.object_there.ms) (within-fitting t _ given.fits a.object_there.at.inside))

  -- the object of the family of contests at the position
  contest_named : (f : Family) (i : ℕ) (o : Placed) → f ≡ family.Contest → slice_get (objects f t) i ≡ Some o → AreNamedFrom π t (selections_before t i)
      (entries_at (codes "ContestSelection") o.value)
  contest_named f i o is e = named_from_start π t given.accepted given.is_tree given.fits bounded i o (subst (λ g. slice_get (objects g t) i ≡ Some o) is e)

  holding : (r : Role) (i : ℕ) (o : Placed) (c : Class) → placed_in t r i ≡ Some o → role_of_class c ≡ r
      → is_selections (kind_of_member c (codes "ContestSelection")) ≡ true
      → AreNamedFrom π t (selections_before t i) (entries_at (codes "ContestSelection") o.value)
  holding (role.OfFamily f) i o c e of_role is = contest_named f i o (selections_family c f of_role is) e
  holding r i o c e of_role is = absurd (true≢false (sym is ∙ no_selections π t given.accepted given.is_tree given.fits r c of_role refl))

  pub named_there : (r : Role) (i : ℕ) (o : Placed) (c : Class) → placed_in t r i ≡ Some o → class_of_object r o.value ≡ Some c
      → HoldNamed π t (selections_before t i) c (members_in o.value)
  named_there r i o c e is =
      let a = taken π t given r o (placed_stands t r i o e) in
      let ms : Members = a.object_there.ms in
      subst (λ x. HoldNamed π t (selections_before t i) c (members_in x)) (sym a.object_there.is_object)
      (all_named π t (selections_before t i) c ms a.tree (λ k d found kinds.
      let flag : is_selections (kind_of_member c k) ≡ true = ap is_selections kinds in
      let named : k ≡ codes "ContestSelection" = selections_name c k flag in
      let here = holding r i o c e (class_role r o.value c is) (subst (λ n. is_selections (kind_of_member c n) ≡ true) named flag) in
      let entries : entries_at (codes "ContestSelection") o.value ≡ entries_of d =
      ap (entries_at (codes "ContestSelection")) a.object_there.is_object ∙ ap (λ n. option_map_or entries_of (get_member n ms) []) (sym named)
      ∙ ap (λ x. option_map_or entries_of x []) found in
      subst (AreNamedFrom π t (selections_before t i)) entries here))
