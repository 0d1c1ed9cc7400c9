-- The members of two objects are written alike if and only if they mean the same, the selections of contests among them.
use Rattle.erd_text.proofs.Common.{◌≡◌, ℕ, Bool, true, false, cond, List, [], ◌∷◌, map, Some, None, Option, option_and_then, option_map, sym, refl, ap, ◌∙◌}
use Rattle.erd_text.proofs.Common.{fun_ext, subst, codes, string, member, no_members, Data, null, object, items_of, Members, get_member, MemberKind, kind}
use Rattle.erd_text.proofs.Common.{Class, family, AllByRecursion, rising_list, class_of_object, entries_of}
use Rattle.std.specs.Prelude.{◌↔◌}
use Rattle.std.specs.Option.{option_map_or}
use Rattle.erd_tables.specs.Classes.{text_of_class}
use Rattle.erd_tables.specs.Table.{kind_of_member}
use Rattle.erd_check.specs.Trees.{AreMembers, AreTrees, IsTree}
use Rattle.erd_check.proofs.Shapes.{get_member-tree, members_unique}
use Rattle.erd_text.proofs.RisingOrders.{all_rising}
use Rattle.erd_meaning.specs.Keys.{Preference}
use Rattle.erd_meaning.specs.Meaning.{MemberValue, PlainValue, a_plain, a_selection_map}
use Rattle.erd_meaning.specs.Records.{is_in_envelope, member_of_class, member_value, plain_value, selection_map, unless_empty}
use Rattle.erd_meaning.specs.SelectionNames.{name_of, selection_role}
use Rattle.erd_shown.specs.Shown.{record_data, selection_record_data, shown_selections, shown_in, shown_member, shown_members, shown_plain, shown_value}
use Rattle.erd_shown.proofs.told.Values.{Held, held, none, some, unless}
use Rattle.erd_shown.proofs.told.Records.{all_rise, by_name, envelope, one_name, outside, rise_on}
use Rattle.erd_shown.proofs.told.Selections.{by_name as by_selection_name, selections_tell}
use Rattle.erd_shown.proofs.told.Trees.{name_tree, shown_tree, unless_tree}
use Rattle.erd_shown.specs.code.Fitting.{AreFitMembers, AreSelections, IsFit, IsFitMember, IsSelection, AllMembersTell}

-- ---- selections are trees

module _ (π : Preference) (t : Data) where
  abbrev record_of : Members → Class → Data
  record_of ms c =
      object (member (codes "class") (string (text_of_class c)) (member (codes "members") (object (shown_members (shown_plain π t c) ms)) no_members))

  class_tree : (ms : Members) → (o : Option Class) → ((c : Class) → o ≡ Some c → AreMembers (shown_members (shown_plain π t c) ms))
      → IsTree (option_map_or (record_of ms) o null)
  class_tree ms None each = tt
  class_tree ms (Some c) each = (refl, tt, (tt, each c refl, tt))

  object_tree : (ms : Members) → ((c : Class) → class_of_object selection_role (object ms) ≡ Some c → AreMembers (shown_members (shown_plain π t c) ms))
      → IsTree (record_data (shown_plain π t) selection_role (object ms))
  object_tree ms each = class_tree ms (class_of_object selection_role (object ms)) each

  selection_tree : (d : Data) → IsSelection π t d → IsTree (selection_record_data π t d)
  selection_tree d s = (
    refl,
    name_tree (name_of π t d),
    (
      tt,
      subst (λ x. IsTree (record_data (shown_plain π t) selection_role x)) (sym s.is_object)
          (object_tree s.ms (λ c is. all_rise π t c s.ms s.rise (s.fit c is))),
      tt,
    ),
  )

  each_tree : (ds : List Data) → AllByRecursion (IsSelection π t) ds → AreTrees (items_of (map (selection_record_data π t) ds))
  each_tree [] h = tt
  each_tree (d ∷ ds) h = (selection_tree d h.0, each_tree ds h.1)

  selections_tree : (ds : List Data) → AreSelections π t ds → IsTree (shown_selections π t ds)
  selections_tree ds h = each_tree (rising_list (by_selection_name π t) ds) (all_rising (IsSelection π t) (by_selection_name π t) ds h.0)

  hidden_tree : (b : Bool) (k : MemberKind) (d v : Data) → IsTree d → IsFit π t k d → cond b None (shown_value π t k d) ≡ Some v → IsTree v
  hidden_tree true k d v h g e = cc
  hidden_tree false k d v h g e = shown_tree π t k d v h g e

  in_tree : (b : Bool) (k : MemberKind) (d v : Data) → IsTree d → IsFitMember π t k d → shown_in π t b k d ≡ Some v → IsTree v
  in_tree b (kind.Keyed family.Selection) d v h g e = unless_tree d (shown_selections π t (entries_of d)) v (selections_tree (entries_of d) g) e
  in_tree b k d v h g e = hidden_tree b k d v h g e

-- ---- under one name

module _ (π ρ : Preference) (t u : Data) where
  -- the members of a contest that hold its selections
  abbrev left_map : Data → Option MemberValue
  left_map d = unless_empty (a_selection_map (selection_map π t (entries_of d))) d

  abbrev right_map : Data → Option MemberValue
  right_map d = unless_empty (a_selection_map (selection_map ρ u (entries_of d))) d

  lone : {V : Type 0} (d x : Data) (v : V) → Held V d → (unless_empty x d ≡ None) ↔ (unless_empty v d ≡ None)
  lone d x v (none p q) = (λ e. q v, λ e. p x)
  lone d x v (some p q) = (λ e. let w : Some x ≡ None = sym (p x) ∙ e in cc, λ e. let w : Some v ≡ None = sym (q v) ∙ e in cc)

  selections_here : (o p : Option Data) → ((d : Data) → o ≡ Some d → AreSelections π t (entries_of d))
      → ((d : Data) → p ≡ Some d → AreSelections ρ u (entries_of d))
      → (option_and_then (λ d. unless_empty (shown_selections π t (entries_of d)) d) o
      ≡ option_and_then (λ d. unless_empty (shown_selections ρ u (entries_of d)) d) p)
      ↔ (option_and_then left_map o ≡ option_and_then right_map p)
  selections_here None None g h = (λ e. refl, λ e. refl)
  selections_here None (Some e) g h =
      let a = lone e (shown_selections ρ u (entries_of e)) (a_selection_map (selection_map ρ u (entries_of e))) (held e) in
      (λ x. sym (a.0 (sym x)), λ x. sym (a.1 (sym x)))
  selections_here (Some d) None g h = lone d (shown_selections π t (entries_of d)) (a_selection_map (selection_map π t (entries_of d))) (held d)
  selections_here (Some d) (Some e) g h =
      unless a_selection_map (λ a b s. cc) d e _ _ (selection_map π t (entries_of d)) (selection_map ρ u (entries_of e))
      (selections_tell π ρ t u (entries_of d) (entries_of e) (g d refl) (h e refl))

  plainly : {x y : Option Data} (v w : Option PlainValue) → (x ≡ y) ↔ (v ≡ w) → (x ≡ y) ↔ (option_map a_plain v ≡ option_map a_plain w)
  plainly {x} {y} v w h = (λ e. ap (option_map a_plain) (h.0 e), λ e. h.1 (at v w e))
    where
      at : (v w : Option PlainValue) → option_map a_plain v ≡ option_map a_plain w → v ≡ w
      at None None e = refl
      at None (Some b) e = cc
      at (Some a) None e = cc
      at (Some a) (Some b) e = let same : a ≡ b = cc in ap Some same

  plain_here : (b : Bool) (k : MemberKind) (o p : Option Data) → ((d : Data) → o ≡ Some d → IsFit π t k d) → ((d : Data) → p ≡ Some d → IsFit ρ u k d)
      → (option_and_then (λ d. cond b None (shown_value π t k d)) o ≡ option_and_then (λ d. cond b None (shown_value ρ u k d)) p)
      ↔ (option_map a_plain (cond b None (option_and_then (plain_value π t k) o)) ≡ option_map a_plain (cond b None (option_and_then (plain_value ρ u k) p)))
  plain_here b k o p g h =
      let r = plainly (cond b None (option_and_then (plain_value π t k) o)) (cond b None (option_and_then (plain_value ρ u k) p))
      (envelope b _ _ _ _ (one_name π ρ t u k o p g h)) in (
        λ e. r.0 (sym (outside b (shown_value π t k) o) ∙ e ∙ outside b (shown_value ρ u k) p),
        λ e. outside b (shown_value π t k) o ∙ r.1 e ∙ sym (outside b (shown_value ρ u k) p),
      )

  here : (b : Bool) (k : MemberKind) (o p : Option Data) → ((d : Data) → o ≡ Some d → IsFitMember π t k d) → ((d : Data) → p ≡ Some d → IsFitMember ρ u k d)
      → (option_and_then (shown_in π t b k) o ≡ option_and_then (shown_in ρ u b k) p)
      ↔ (member_value π t k o (cond b None (option_and_then (plain_value π t k) o)) ≡ member_value ρ u k p
      (cond b None (option_and_then (plain_value ρ u k) p)))
  here b (kind.Keyed family.Selection) o p g h = selections_here o p g h
  here b k o p g h = plain_here b k o p g h

-- ---- the law

module _ (π : Preference) (t : Data) (c : Class) (ms : Members) (rise : AreMembers ms) (fit : AreFitMembers π t c ms) where
  all_members_rise : AreMembers (shown_members (shown_member π t c) ms)
  all_members_rise =
      rise_on (shown_member π t c) ms rise
      (λ name d v found is. in_tree π t (is_in_envelope c name) (kind_of_member c name) d v (get_member-tree name d ms rise found) (fit name d found) is)

-- the members with one name
pub one_member : (π ρ : Preference) (t u : Data) (c : Class) (ms ns : Members) → AreFitMembers π t c ms → AreFitMembers ρ u c ns → (name : List ℕ)
    → (option_and_then (shown_member π t c name) (get_member name ms) ≡ option_and_then (shown_member ρ u c name) (get_member name ns))
    ↔ (member_of_class π t (object ms) c name ≡ member_of_class ρ u (object ns) c name)
one_member π ρ t u c ms ns fit fit' name =
    here π ρ t u (is_in_envelope c name) (kind_of_member c name) (get_member name ms) (get_member name ns) (λ d. fit name d) (λ d. fit' name d)

pub all_members_tell : AllMembersTell
all_members_tell π ρ t u c ms ns rise rise' fit fit' = (
  λ e. fun_ext (λ name. (each name).0 (sym (by_name (shown_member π t c) name ms rise) ∙ ap (get_member name) e ∙ by_name (shown_member ρ u c) name ns rise')),
  λ e. members_unique _ _ (all_members_rise π t c ms rise fit) (all_members_rise ρ u c ns rise' fit')
      (λ name. by_name (shown_member π t c) name ms rise ∙ (each name).1 (ap (λ (f : List ℕ → Option MemberValue). f name) e)
      ∙ sym (by_name (shown_member ρ u c) name ns rise')),
)
  where
    each : (name : List ℕ) → (option_and_then (shown_member π t c name) (get_member name ms) ≡ option_and_then (shown_member ρ u c name) (get_member name ns))
        ↔ (member_of_class π t (object ms) c name ≡ member_of_class ρ u (object ns) c name)
    each = one_member π ρ t u c ms ns fit fit'
