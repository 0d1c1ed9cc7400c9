-- The canonical style suits an accepted report: so the report that is written in it says what the report says.
use Rattle.erd_normal.proofs.Common.{asked, scope, ObjectAt, ObjectIn, object_in, Within, is_envelope, id_of_key, has_keys, key_of, ◌≡◌, ℕ, Bool, true, false}
use Rattle.erd_normal.proofs.Common.{cond, ◌||◌, ◌&&◌, inl, inr, List, [], map, is_some, Some, None, codes, Option, option_map, option_map_or, bytes_eq, sym}
use Rattle.erd_normal.proofs.Common.{refl, ap, ◌∙◌, subst, and_parts, AllByRecursion, Data, null, string, array, object, Items, Members, get_member, get_item}
use Rattle.erd_normal.proofs.Common.{get, role_of_class, family_of_class, kind_of_member, is_required, Class, class, Family, family, Role, role, MemberKind}
use Rattle.erd_normal.proofs.Common.{kind, IsTree, In, text_exact, class_role, ShapeFault, NoneOf, entries_of, class_of_object, scope_inside, want_of_kind}
use Rattle.erd_normal.proofs.Common.{is_report_class, member_want, want_of_name, entry_want, Asked, asked_at, Within-root, Want, Carried, ClassText, Member}
use Rattle.erd_normal.proofs.Common.{Object, Status, Preference, Placed, objects, family_of_role, skeleton_of_shape, Skeleton, election_entries, entries_at}
use Rattle.erd_meaning.specs.code.Spots.{member_name}
use Rattle.erd_normal.proofs.inside.Homes.{holds, home, is_home, is_report_role, report_part, election_part}
use Rattle.erd_normal.proofs.lists.Lists.{IsPart}
use Rattle.erd_normal.proofs.canonical.NormalKeys.{selection_values}
use Rattle.erd_normal.proofs.same.Related.{Stands, entry_stands, member_stands, stands_tree, entry_has}
use Rattle.erd_normal.proofs.same.IdsOfObjects.{value_placed, part_at}
use Rattle.erd_normal.proofs.same.IdsOfObjects.{IsPart as IsPartOf}
use Rattle.erd_normal.proofs.view.Views.{is_put, view-tree, GoesInward}
use Rattle.erd_normal.proofs.view.AskedInViews.{IsViewOf, asked_viewed, is_flat}
use Rattle.erd_normal.specs.code.View.{whole, style_of, puts_of, id_given, as_member}

-- ---- what stands in a report, given the object that holds it: selections in their contest

abbrev pub OfContest : Data → Data → Want → Data → Type 0
OfContest t o (Object (role.OfFamily family.Selection)) d = (c : Placed) × In c (objects family.Contest t) × (o ≡ c.value) × In d (selection_values c)
OfContest t o (Member (kind.Keyed family.Selection) r) d = (c : Placed) × In c (objects family.Contest t) × (o ≡ c.value)
    × (get (codes "ContestSelection") c.value ≡ Some d)
OfContest t o (Member (kind.Keyed f) r) d = IsPart (entries_of d) (map (λ (p : Placed). p.value) (objects f t))
OfContest t o (Member kind.Elections r) d = entries_of d ≡ entries_at (codes "Election") t
OfContest t o w d = Unit {0}

abbrev pub AtContest : Data → Data → Option Want → Data → Type 0
AtContest t o None d = Unit {0}
AtContest t o (Some w) d = OfContest t o w d

pub record IsHeld (t o : Data) (w : Want) (d : Data) : Type 0 where
  pub stands : Stands t w d
  pub contest : OfContest t o w d

pub part_of : (t : Data) (w : Want) (d : Data) → Stands t w d → IsPartOf t w d
part_of t w d h = part_at t h.inside.place (record { want = w; value = d; repeated = h.repeated }) h.inside.is

entry_contest : (t o : Data) (w : Want) (ds : Items) (i : ℕ) (x : Data) → OfContest t o w (array ds) → get_item i ds ≡ Some x → AtContest t o (entry_want w) x
entry_contest t o (Member (kind.Keyed family.Selection) r) ds i x h found =
    (h.0, h.1, h.2, subst (λ (a : Option Data). In x (option_map_or entries_of a [])) (sym h.3) (entry_has ds i x found))
entry_contest t o w ds i x h found = tt

contest_home : (r : Role) → holds r family.Selection ≡ true → r ≡ role.OfFamily family.Contest
contest_home (role.OfFamily family.Contest) h = refl
contest_home r h = cc

report_keyed : (f : Family) → holds role.Report f ≡ true → kind_of_member class.ElectionReport (member_name f) ≡ kind.Keyed f
report_keyed family.Unit h = refl
report_keyed family.Party h = refl
report_keyed family.Person h = refl
report_keyed family.Office h = refl
report_keyed family.Header h = refl
report_keyed f h = cc

election_keyed : (f : Family) → holds role.Election f ≡ true → kind_of_member class.Election (member_name f) ≡ kind.Keyed f
election_keyed family.Candidate h = refl
election_keyed family.Contest h = refl
election_keyed family.Style h = refl
election_keyed f h = cc

module _ (t : Data) (clean : NoneOf (ShapeFault t)) (ms : Members) (x : Data) where
  abbrev s : Skeleton t
  s = skeleton_of_shape t clean

  keyed_part : (r : Role) (f : Family) → has_keys f ≡ true → holds r f ≡ true → IsPartOf t (Object r) (object ms) → get_member (member_name f) ms ≡ Some x
      → IsPart (entries_of x) (map (λ (p : Placed). p.value) (objects f t))
  keyed_part role.Report f keyed h part found =
      let whole : object ms ≡ object s.ms = part ∙ s.is_object in let same : ms ≡ s.ms = cc in
      report_part t s f x (report_keyed f h) (ap (get_member (member_name f)) (sym same) ∙ found)
  keyed_part role.Election f keyed h part found = election_part t s (object ms) ms (subst (λ xs. In (object ms) xs) (election_entries t s) part) refl f x
      (election_keyed f h) found
  keyed_part (role.OfFamily family.Contest) family.Selection keyed h part found = cc
  keyed_part r f keyed h part found = cc

  top_elections : (r : Role) → is_report_role r ≡ true → IsPartOf t (Object r) (object ms) → get_member (codes "Election") ms ≡ Some x → entries_of x
      ≡ entries_at (codes "Election") t
  top_elections role.Report h part found = ap (λ o. option_map_or entries_of o []) (sym found ∙ ap (get (codes "Election")) part)
  top_elections r h part found = cc

  kind_contest : (r : Role) (c : Class) (n : List ℕ) (k : MemberKind) (required : Bool) → role_of_class c ≡ r → is_home c n k ≡ true
      → IsPartOf t (Object r) (object ms) → get_member n ms ≡ Some x → OfContest t (object ms) (want_of_kind k required) x
  kind_contest r c n (kind.Keyed family.Selection) required its at part found =
      let b = and_parts (holds (role_of_class c) family.Selection) (bytes_eq n (codes "ContestSelection")) at in
      let contest : r ≡ role.OfFamily family.Contest = contest_home r (subst (λ q. holds q family.Selection ≡ true) its b.0) in
      let p = value_placed family.Contest t (object ms) (subst (λ q. IsPartOf t (Object q) (object ms)) contest part) in
      (p.0, p.1, sym p.2, ap (get (codes "ContestSelection")) p.2 ∙ subst (λ z. get_member z ms ≡ Some x) (text_exact n (codes "ContestSelection") b.1) found)
  kind_contest r c n (kind.Keyed f) required its at part found =
      let b = and_parts (holds (role_of_class c) f) (bytes_eq n (member_name f)) at in
      keyed_part r f refl (subst (λ q. holds q f ≡ true) its b.0) part (subst (λ z. get_member z ms ≡ Some x) (text_exact n (member_name f) b.1) found)
  kind_contest r c n kind.Elections required its at part found =
      let b = and_parts (is_report_role (role_of_class c)) (bytes_eq n (codes "Election")) at in
      top_elections r (subst (λ q. is_report_role q ≡ true) its b.0) part (subst (λ z. get_member z ms ≡ Some x) (text_exact n (codes "Election") b.1) found)
  kind_contest r c n k required its at part found = tt

  member_contest : (r : Role) (c : Class) (n : List ℕ) → role_of_class c ≡ r → IsPartOf t (Object r) (object ms) → get_member n ms ≡ Some x
      → OfContest t (object ms) (member_want c n) x
  member_contest r c n its part found = at (is_report_class c && bytes_eq n (codes "Status"))
    where
      at : (b : Bool) → OfContest t (object ms) (cond b Status (want_of_kind (kind_of_member c n) (is_required c n))) x
      at true = tt
      at false = kind_contest r c n (kind_of_member c n) (is_required c n) its (home c n) part found

  class_contest : (r : Role) (n : List ℕ) (o : Option Class) → class_of_object r (object ms) ≡ o → IsPartOf t (Object r) (object ms) → get_member n ms ≡ Some x
      → AtContest t (object ms) (want_of_name (scope.Members r o) n) x
  class_contest r n o among part found = at (bytes_eq n (codes "@type")) o among
    where
      at : (b : Bool) (o : Option Class) → class_of_object r (object ms) ≡ o
          → AtContest t (object ms) (cond b (Some (ClassText r)) (option_map (λ c. member_want c n) o)) x
      at true o among = tt
      at false None among = tt
      at false (Some c) among = member_contest r c n (class_role r (object ms) c among) part found

  carried_contest : (b : Bool) → OfContest t (object ms) (cond b (Member kind.StrangeIdentity false) Carried) x
  carried_contest true = tt
  carried_contest false = tt

  name_contest : (w : Want) (n : List ℕ) → IsPartOf t w (object ms) → get_member n ms ≡ Some x
      → AtContest t (object ms) (want_of_name (scope_inside w (object ms)) n) x
  name_contest (Object r) n part found = class_contest r n (class_of_object r (object ms)) refl part found
  name_contest (Member kind.Label required) n part found = class_contest role.Label n (class_of_object role.Label (object ms)) refl tt found
  name_contest Carried n part found = carried_contest _
  name_contest w n part found = tt

pub goes_inward : (t : Data) → NoneOf (ShapeFault t) → IsTree t → GoesInward (IsHeld t)
goes_inward t clean tree = record {
  entries = λ o w v ds i x h asks found.
      record {
        stands = entry_stands t w v (array ds) asks h.stands x (entry_has ds i x found);
        contest = subst (λ a. AtContest t o a x) asks (entry_contest t o w ds i x h.contest found);
      };
  members = λ o w v ms k x h asks found.
      record {
        stands = member_stands t w ms h.stands k v x asks found;
        contest = subst (λ a. AtContest t (object ms) a x) asks (name_contest t clean ms x w k (part_of t w (object ms) h.stands) found);
      };
  trees = λ o w d h. stands_tree t w d tree h.stands;
}

pub root_held : (t : Data) → IsHeld t null (Object role.Report) t
root_held t = record { stands = record { repeated = false; inside = Within-root t }; contest = tt }

-- ---- objects of a class

pub record Classed (t : Data) (r : Role) (ms : Members) : Type 0 where
  pub class : Class
  pub role : role_of_class class ≡ r
  pub at : ObjectAt t (Object r) r class ms

pub classed : (t : Data) → NoneOf (ShapeFault t) → (r : Role) (ms : Members) → Within t (asked (Object r) (object ms)) → Classed t r ms
classed t clean r ms w =
    let i : ObjectIn t r (object ms) = object_in t clean r (object ms) w in
    let whole : object ms ≡ object i.ms = i.is_object in
    let same : i.ms ≡ ms = cc in
    record { class = i.class; role = i.role; at = subst (ObjectAt t (Object r) r i.class) same i.at }

-- nothing in an object that is not a report is of the envelope
pub apart : (r : Role) (c : Class) (name : List ℕ) → role_of_class c ≡ r → (r ≡ role.Report → ⊥) → is_envelope (scope.Members r (Some c)) name ≡ false
apart r class.ElectionReport name is other = absurd (other (sym is))
apart r c name is other = refl

-- the `@id` given by the key
pub given_by_key : (π : Preference) (t o : Data) (f : Family) (d : Data) → has_keys f ≡ true → id_given π t o f d ≡ id_of_key π t f (key_of π d)
given_by_key π t o family.Selection d keyed = cc
given_by_key π t o f d keyed = refl

-- ---- which object holds an `@id`

pub record HoldsId (w : Want) (n : List ℕ) : Type 0 where
  pub its_family : Family
  pub asks : w ≡ Object (role.OfFamily its_family)
  pub named : n ≡ codes "@id"

of_role_id : (r : Role) (n : List ℕ) → is_some (family_of_role r) ≡ true → n ≡ codes "@id" → HoldsId (Object r) n
of_role_id (role.OfFamily f) n h named = record { its_family = f; asks = refl; named = named }
of_role_id r n h named = cc

kind_id : (r : Role) (c : Class) (n : List ℕ) (k : MemberKind) (required q : Bool) → role_of_class c ≡ r → is_home c n k ≡ true → want_of_kind k required
    ≡ Member kind.Identity q → HoldsId (Object r) n
kind_id r c n kind.Identity required q its at e =
    let b = and_parts (is_some (family_of_class c)) (bytes_eq n (codes "@id")) at in
    of_role_id r n (subst (λ z. is_some (family_of_role z) ≡ true) its b.0) (text_exact n (codes "@id") b.1)
kind_id r c n k required q its at e = cc

class_id : (r : Role) (n : List ℕ) (q : Bool) (d : Data) (o : Option Class) → class_of_object r d ≡ o → want_of_name (scope.Members r o) n
    ≡ Some (Member kind.Identity q) → HoldsId (Object r) n
class_id r n q d o among e = at (bytes_eq n (codes "@type")) o among e
  where
    inside : (c : Class) (b : Bool) → role_of_class c ≡ r → cond b Status (want_of_kind (kind_of_member c n) (is_required c n))
        ≡ Member kind.Identity q → HoldsId (Object r) n
    inside c true its e = cc
    inside c false its e = kind_id r c n (kind_of_member c n) (is_required c n) q its (home c n) e

    at : (b : Bool) (o : Option Class) → class_of_object r d ≡ o → cond b (Some (ClassText r)) (option_map (λ c. member_want c n) o)
        ≡ Some (Member kind.Identity q) → HoldsId (Object r) n
    at true o among e = cc
    at false None among e = cc
    at false (Some c) among e = inside c (is_report_class c && bytes_eq n (codes "Status")) (class_role r d c among)
        (let same : member_want c n ≡ Member kind.Identity q = cc in same)

pub holds_id : (w : Want) (ms : Members) (n : List ℕ) (q : Bool) → want_of_name (scope_inside w (object ms)) n ≡ Some (Member kind.Identity q) → HoldsId w n
holds_id (Object r) ms n q e = class_id r n q (object ms) (class_of_object r (object ms)) refl e
holds_id (Member kind.Label required) ms n q e = absurd (no_label (class_id role.Label n q (object ms) (class_of_object role.Label (object ms)) refl e))
  where
    no_label : HoldsId (Object role.Label) n → ⊥
    no_label h = let e : Object role.Label ≡ Object (role.OfFamily h.its_family) = h.asks in cc
holds_id Carried ms n q e = absurd (at (bytes_eq n (codes "@id") || Rattle.erd_tables.specs.Table.is_reference_name n) e)
  where
    at : (b : Bool) → Some (cond b (Member kind.StrangeIdentity false) Carried) ≡ Some (Member kind.Identity q) → ⊥
    at true e = cc
    at false e = cc
holds_id w ms n q e = cc

-- ---- what is put in

pub put_id : (q : Option (List ℕ)) (k : List ℕ) (v : Data) → In (k, v) (as_member q) → (id : List ℕ) × (q ≡ Some id) × (k ≡ codes "@id") × (v ≡ string id)
put_id (Some id) k v (inl is) = (id, refl, sym (ap (λ (p : List ℕ × Data). p.0) is), sym (ap (λ (p : List ℕ × Data). p.1) is))
put_id (Some id) k v (inr h) = absurd h
put_id None k v h = absurd h

flat_id : (q : Option (List ℕ)) → AllByRecursion (λ (p : List ℕ × Data). is_flat p.1 ≡ true) (as_member q)
flat_id (Some id) = (refl, tt)
flat_id None = tt

tree_id : (q : Option (List ℕ)) → AllByRecursion (λ (p : List ℕ × Data). IsTree p.1) (as_member q)
tree_id (Some id) = (tt, tt)
tree_id None = tt

no_type_id : (q : Option (List ℕ)) → is_put (as_member q) (codes "@type") ≡ false
no_type_id (Some id) = refl
no_type_id None = refl

pub puts_flat : (π : Preference) (t o : Data) (w : Want) (d : Data) → AllByRecursion (λ (p : List ℕ × Data). is_flat p.1 ≡ true) (puts_of π t o w d)
puts_flat π t o (Object role.Report) d = (refl, (refl, (refl, (refl, (refl, (refl, (refl, tt)))))))
puts_flat π t o (Object (role.OfFamily f)) d = flat_id (id_given π t o f d)
puts_flat π t o w d = tt

pub puts_trees : (π : Preference) (t o : Data) (w : Want) (d : Data) → AllByRecursion (λ (p : List ℕ × Data). IsTree p.1) (puts_of π t o w d)
puts_trees π t o (Object role.Report) d = (tt, (tt, (tt, (tt, (tt, (tt, (tt, tt)))))))
puts_trees π t o (Object (role.OfFamily f)) d = tree_id (id_given π t o f d)
puts_trees π t o w d = tt

pub puts_no_type : (π : Preference) (t o : Data) (w : Want) (d : Data) → is_put (puts_of π t o w d) (codes "@type") ≡ false
puts_no_type π t o (Object role.Report) d = refl
puts_no_type π t o (Object (role.OfFamily f)) d = no_type_id (id_given π t o f d)
puts_no_type π t o w d = refl

pub viewed_tree : (π : Preference) (t : Data) → IsTree t → IsTree (whole (style_of π t) t)
viewed_tree π t tree = view-tree (style_of π t) (puts_trees π t) null (Some (Object role.Report)) t tree

-- whatever is asked in the report that is written
pub asked_in_form : (π : Preference) (t : Data) → NoneOf (ShapeFault t) → IsTree t → (p : List Rattle.erd_tables.specs.declared.place.Step.Step) (a : Asked)
    → asked_at (whole (style_of π t) t) p ≡ Some a → IsViewOf (style_of π t) (IsHeld t) a.want a.value
asked_in_form π t clean tree = asked_viewed (style_of π t) (IsHeld t) (goes_inward t clean tree) (puts_no_type π t) (puts_flat π t) t (root_held t)
