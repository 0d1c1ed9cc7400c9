-- The objects of a report, family by family, and their `@id`s.
use Rattle.erd_normal.proofs.Common.{◌≡◌, ℕ, false, List, map, codes, flat_map, bytes_eq, Less, Equal, sym, ap, ◌∙◌, subst, tied_itself, Data, kind_of_member}
use Rattle.erd_normal.proofs.Common.{class, Family, family, kind, entries_at, values-placed_entries, values-placed_flat, IsBefore, Placed, placed_entries}
use Rattle.erd_normal.proofs.Common.{report_of, elections, contests, objects, Class, Role, MemberKind, role, is_in_envelope, role_of_class, report_class}
use Rattle.erd_normal.proofs.Common.{election_class, contest_selections, is_envelope_name, refl, In, In-map, In-map_from, Bool, true, cond, ◌&&◌, [], is_some}
use Rattle.erd_normal.proofs.Common.{Some, None, Option, option_map, option_and_then, and_parts, AllByRecursion, option_map_or, string, array, object, Items}
use Rattle.erd_normal.proofs.Common.{Members, get_member, get_item, as_str, family_of_role, family_of_class, is_required, Step, At, string_from_text}
use Rattle.erd_normal.proofs.Common.{text_exact, Within-step, wanted_within, Within, list_of_items, entries_of, class_of_object, scope_inside, want_of_kind}
use Rattle.erd_normal.proofs.Common.{is_report_class, member_want, want_of_name, entry_want, Asked, asked, is_repeated, asked_at, scope, Want, Carried}
use Rattle.erd_normal.proofs.Common.{ClassText, Member, Object, Reference, Status, no_shape_fault, owned, unrepeated_reference, class_role, IsAccepted}
use Rattle.erd_normal.proofs.Common.{has_keys, Preference, owner, slice_get, find, IsDistinct, position_of, no_identity_fault, find-Some, has_id-Some}
use Rattle.erd_normal.proofs.Common.{has_id-from, one_id, distinct_from_one_place, distinct_map, id_in, id_of, has_id, In-flat_map}
use Rattle.erd_meaning.specs.code.Spots.{member_name}
use Rattle.erd_tables.specs.Places.{place_cmp}
use Rattle.erd_tables.proofs.PlaceOrder.{place_cmp_total}
use Rattle.erd_normal.proofs.lists.Matched.{Matched, matched_flat, find_values}
use Rattle.erd_normal.proofs.inside.Entries.{all_items}
use Rattle.erd_normal.proofs.inside.Homes.{holds, home, is_home, is_report_role}
use Rattle.erd_normal.proofs.same.Related.{entry_has}
use Rattle.erd_normal.proofs.inside.Walks.{all_inside}

-- ---- the values of a report's objects, family by family, without their places

-- the values of the objects of a family
abbrev pub family_values : Family → Data → List Data
family_values family.Unit t = entries_at (codes "GpUnit") t
family_values family.Party t = entries_at (codes "Party") t
family_values family.Person t = entries_at (codes "Person") t
family_values family.Office t = entries_at (codes "Office") t
family_values family.Header t = entries_at (codes "Header") t
family_values family.Candidate t = flat_map (entries_at (codes "Candidate")) (entries_at (codes "Election") t)
family_values family.Contest t = flat_map (entries_at (codes "Contest")) (entries_at (codes "Election") t)
family_values family.Style t = flat_map (entries_at (codes "BallotStyle")) (entries_at (codes "Election") t)
family_values family.Selection t = flat_map (entries_at (codes "ContestSelection")) (flat_map (entries_at (codes "Contest")) (entries_at (codes "Election") t))

pub election_values_are : (t : Data) → map (λ o. o.value) (elections t) ≡ entries_at (codes "Election") t
election_values_are t = values-placed_entries (codes "Election") (report_of t)

values_in_elections : (t : Data) (name : List ℕ) → map (λ o. o.value) (flat_map (placed_entries name) (elections t)) ≡ flat_map (entries_at name)
    (entries_at (codes "Election") t)
values_in_elections t name = values-placed_flat name (elections t) ∙ ap (flat_map (entries_at name)) (election_values_are t)

pub object_values : (f : Family) (t : Data) → map (λ o. o.value) (objects f t) ≡ family_values f t
object_values family.Unit t = values-placed_entries (codes "GpUnit") (report_of t)
object_values family.Party t = values-placed_entries (codes "Party") (report_of t)
object_values family.Person t = values-placed_entries (codes "Person") (report_of t)
object_values family.Office t = values-placed_entries (codes "Office") (report_of t)
object_values family.Header t = values-placed_entries (codes "Header") (report_of t)
object_values family.Candidate t = values_in_elections t (codes "Candidate")
object_values family.Contest t = values_in_elections t (codes "Contest")
object_values family.Style t = values_in_elections t (codes "BallotStyle")
object_values family.Selection t =
    values-placed_flat (codes "ContestSelection") (contests t) ∙ ap (flat_map (entries_at (codes "ContestSelection"))) (values_in_elections t (codes "Contest"))

-- the place of a value that stands among a family's objects
pub value_placed : (f : Family) (t d : Data) → In d (family_values f t) → (o : Placed) × In o (objects f t) × (o.value ≡ d)
value_placed f t d h = In-map_from (λ (o : Placed). o.value) (objects f t) d (subst (λ ds. In d ds) (sym (object_values f t)) h)

pub placed_value : (f : Family) (t : Data) (o : Placed) → In o (objects f t) → In o.value (family_values f t)
placed_value f t o h = subst (λ ds. In o.value ds) (object_values f t) (In-map (λ (o : Placed). o.value) o (objects f t) h)

-- no object stands before itself
pub not_before_itself : (o p : Placed) → o ≡ p → IsBefore o p → ⊥
not_before_itself o p e h = let g : Less ≡ Equal = sym h ∙ ap (λ (x : Placed). place_cmp x.place p.place) e ∙ tied_itself place_cmp_total p.place in cc

-- ---- where the objects of a family stand

-- in an array_matched of the report
pub record InReport (f : Family) (name : List ℕ) : Type 0 where
  pub other : bytes_eq name (codes "@type") ≡ false
  pub keyed : kind_of_member class.ElectionReport name ≡ kind.Keyed f
  pub are : (t : Data) → objects f t ≡ placed_entries name (report_of t)

-- in an array_matched of each election
pub record InElections (f : Family) (name : List ℕ) : Type 0 where
  pub other : bytes_eq name (codes "@type") ≡ false
  pub keyed : kind_of_member class.Election name ≡ kind.Keyed f
  pub are : (t : Data) → objects f t ≡ flat_map (placed_entries name) (elections t)

-- ---- the objects of two reports whose arrays of objects are matched

-- a member of this kind, outside the envelope
abbrev pub IsOfKind : List ℕ → MemberKind → Class → Type 0
IsOfKind name k c = (kind_of_member c name ≡ k) × (is_in_envelope c name ≡ false)

-- an object that is not the report has no envelope
pub outside : (r : Role) (c : Class) (name : List ℕ) → role_of_class c ≡ r → (r ≡ role.Report → ⊥) → is_in_envelope c name ≡ false
outside r class.ElectionReport name is other = absurd (other (sym is))
outside r c name is other = refl

module _ (t u : Data) (R : Role → Data → Data → Type 0)
    (array_matched : (r : Role) (d e : Data) → R r d e → (f : Family) (name : List ℕ) → bytes_eq name (codes "@type") ≡ false
    → ((c : Class) → role_of_class c ≡ r → IsOfKind name (kind.Keyed f) c) → Matched (R (role.OfFamily f)) (entries_at name d) (entries_at name e)) where
  pub in_election : (d e : Data) → R role.Election d e → (f : Family) (name : List ℕ) → bytes_eq name (codes "@type") ≡ false
      → kind_of_member class.Election name ≡ kind.Keyed f → Matched (R (role.OfFamily f)) (entries_at name d) (entries_at name e)
  in_election d e related f name other keyed = array_matched role.Election d e related f name other
      (λ c is. subst (IsOfKind name (kind.Keyed f)) (sym (election_class c is)) (keyed, refl))

  -- the selections of contests that are related
  pub chosen_matched : (x y : Data) → R (role.OfFamily family.Contest) x y → Matched (R (role.OfFamily family.Selection))
      (entries_at (codes "ContestSelection") x) (entries_at (codes "ContestSelection") y)
  chosen_matched x y r =
      array_matched (role.OfFamily family.Contest) x y r family.Selection (codes "ContestSelection") refl
      (λ c is. (contest_selections c is, outside (role.OfFamily family.Contest) c (codes "ContestSelection") is (λ x. cc)))

  module _ (root : R role.Report t u) where
    pub in_report : (f : Family) (name : List ℕ) → bytes_eq name (codes "@type") ≡ false → is_envelope_name name ≡ false
        → kind_of_member class.ElectionReport name ≡ kind.Keyed f → Matched (R (role.OfFamily f)) (entries_at name t) (entries_at name u)
    in_report f name other apart keyed = array_matched role.Report t u root f name other
        (λ c is. subst (IsOfKind name (kind.Keyed f)) (sym (report_class c is)) (keyed, apart))

    module _ (elections : Matched (R role.Election) (entries_at (codes "Election") t) (entries_at (codes "Election") u)) where
      in_elections : (f : Family) (name : List ℕ) → bytes_eq name (codes "@type") ≡ false → kind_of_member class.Election name ≡ kind.Keyed f
          → Matched (R (role.OfFamily f)) (flat_map (entries_at name) (entries_at (codes "Election") t))
          (flat_map (entries_at name) (entries_at (codes "Election") u))
      in_elections f name other keyed = matched_flat (entries_at name) (entries_at name) (λ x y h r. in_election x y r f name other keyed) elections

      pub families_matched : (f : Family) → Matched (R (role.OfFamily f)) (family_values f t) (family_values f u)
      families_matched family.Unit = in_report family.Unit (codes "GpUnit") refl refl refl
      families_matched family.Party = in_report family.Party (codes "Party") refl refl refl
      families_matched family.Person = in_report family.Person (codes "Person") refl refl refl
      families_matched family.Office = in_report family.Office (codes "Office") refl refl refl
      families_matched family.Header = in_report family.Header (codes "Header") refl refl refl
      families_matched family.Candidate = in_elections family.Candidate (codes "Candidate") refl refl
      families_matched family.Contest = in_elections family.Contest (codes "Contest") refl refl
      families_matched family.Style = in_elections family.Style (codes "BallotStyle") refl refl
      families_matched family.Selection =
          matched_flat (entries_at (codes "ContestSelection")) (entries_at (codes "ContestSelection")) (λ x y h r. chosen_matched x y r)
          (in_elections family.Contest (codes "Contest") refl refl)

-- ---- the `@id`s of a report: what shares one, what a text names, and which texts are `@id`s

-- an object of the report writes this `@id`
pub record IsId (t : Data) (id : List ℕ) : Type 0 where
  pub family : Family
  pub value : Data
  pub stands : In value (family_values family t)
  pub is : id_of value ≡ Some id

-- the two values write one `@id`
abbrev pub have_one_id : Data → Data → Bool
have_one_id d e = option_map_or (λ id. has_id id e) (id_of d) false

pub id_of_both : (d e : Data) → have_one_id d e ≡ true → (id : List ℕ) × (id_of d ≡ Some id) × (id_of e ≡ Some id)
id_of_both d e h = at (id_of d) refl h
  where
    at : (o : Option (List ℕ)) → id_of d ≡ o → option_map_or (λ id. has_id id e) o false ≡ true → (id : List ℕ) × (id_of d ≡ Some id) × (id_of e ≡ Some id)
    at None is h = cc
    at (Some x) is h = (x, is, has_id-Some x e h)

pub by_one_id : (d e : Data) (id : List ℕ) → id_of d ≡ Some id → id_of e ≡ Some id → have_one_id d e ≡ true
by_one_id d e id a b = rw a (has_id-from id e b)

-- ---- what a text names

-- what a text names is found among the values of the family
pub owner_found : (t : Data) (f : Family) (id : List ℕ) → owner t f id ≡ find (has_id id) (family_values f t)
owner_found t f id = find_values (has_id id) (λ (o : Placed). o.value) (objects f t) ∙ ap (find (has_id id)) (object_values f t)

pub owner_stands : (t : Data) (f : Family) (id : List ℕ) (o : Data) → owner t f id ≡ Some o → In o (family_values f t) × (id_of o ≡ Some id)
owner_stands t f id o e = let x = find-Some (has_id id) (family_values f t) o (sym (owner_found t f id) ∙ e) in (x.0, has_id-Some id o x.1)

-- a text that names an object is an `@id` of the report
pub owned_id : (t : Data) (f : Family) (id : List ℕ) (o : Data) → owner t f id ≡ Some o → IsId t id
owned_id t f id o e = let x = owner_stands t f id o e in record { family = f; value = o; stands = x.0; is = x.1 }

-- ---- an accepted report

module _ (π : Preference) (t : Data) (accepted : IsAccepted π t) where
  id_at : (f : Family) (i : ℕ) (o : Placed) (id : List ℕ) → slice_get (objects f t) i ≡ Some o → id_of o.value ≡ Some id → id_in f t i ≡ Some id
  id_at f i o id at is = ap (option_and_then (λ (o : Placed). id_of o.value)) at ∙ is

  -- no two objects of a family share one
  pub ids_distinct : (f : Family) → IsDistinct have_one_id (family_values f t)
  ids_distinct f =
      subst (IsDistinct have_one_id) (object_values f t)
      (distinct_map (λ (o : Placed). o.value) have_one_id (objects f t)
      (distinct_from_one_place (λ o p. have_one_id o.value p.value) (objects f t) (λ i j o p a b e.
      let s = id_of_both o.value p.value e in
      (one_id π t s.0 f f i j (no_identity_fault π t accepted) (id_at f i o s.0 a s.1) (id_at f j p s.0 b s.2)).1)))

  -- and objects that do are of one family
  pub one_family : (f g : Family) (d e : Data) (id : List ℕ) → In d (family_values f t) → In e (family_values g t) → id_of d ≡ Some id
      → id_of e ≡ Some id → f ≡ g
  one_family f g d e id h k a b =
      let o = value_placed f t d h in
      let p = value_placed g t e k in
      let i = position_of (objects f t) o.0 o.1 in
      let j = position_of (objects g t) p.0 p.1 in
      (one_id π t id f g i.0 j.0 (no_identity_fault π t accepted) (id_at f i.0 o.0 id i.1 (ap id_of o.2 ∙ a)) (id_at g j.0 p.0 id j.1 (ap id_of p.2 ∙ b))).0

-- ---- a reference of an accepted report names an object of its family

-- a text that names an object of the family
abbrev pub Refers : Data → Family → Data → Type 0
Refers t f d = (s : List ℕ) × (d ≡ string s) × ((o : Data) × (owner t f s ≡ Some o))

module _ (π : Preference) (t : Data) (accepted : IsAccepted π t) where
  pub reference_refers : (f : Family) (d : Data) → Within t (asked (Reference f) d) → Refers t f d
  reference_refers f d w =
      let s = string_from_text d (wanted_within t (no_shape_fault π t accepted) (asked (Reference f) d) w) in
      (s.0, s.1, owned π t accepted f s.0 (subst (λ x. Within t (asked (Reference f) x)) s.1 w))

  pub references_refer : (f : Family) (r : Bool) (ds : Items) → Within t (asked (Member (kind.Many f) r) (array ds))
      → AllByRecursion (Refers t f) (list_of_items ds)
  references_refer f r ds w =
      all_items (Refers t f) ds
      (λ i d e. reference_refers f d (unrepeated_reference π t accepted f d (is_repeated ds i d)
      (Within-step t (asked (Member (kind.Many f) r) (array ds)) (record { want = Reference f; value = d; repeated = is_repeated ds i d })
      (At i) w (rw e refl))))

-- ---- what a value is, by what the table asks of it: so an `@id` that it asks for is that of an object of a family

abbrev pub IsPart : Data → Want → Data → Type 0
IsPart t (Object role.Report) d = d ≡ t
IsPart t (Object role.Election) d = In d (entries_at (codes "Election") t)
IsPart t (Object (role.OfFamily f)) d = In d (family_values f t)
IsPart t (Member (kind.Keyed f) required) d = (x : Data) → In x (entries_of d) → In x (family_values f t)
IsPart t (Member kind.Elections required) d = (x : Data) → In x (entries_of d) → In x (entries_at (codes "Election") t)
IsPart t (Member kind.Identity required) d = (s : List ℕ) → d ≡ string s → IsId t s
IsPart t (Member (kind.Many f) required) d = has_keys f ≡ true
IsPart t w d = Unit {0}

found_entry : (name : List ℕ) (ms : Members) (x y : Data) → get_member name ms ≡ Some x → In y (entries_of x) → In y (entries_at name (object ms))
found_entry name ms x y found h = subst (λ o. In y (option_map_or entries_of o [])) (sym found) h

-- the same, where something is asked
abbrev PartOf : Data → Option Want → Data → Type 0
PartOf t None x = Unit {0}
PartOf t (Some w) x = IsPart t w x

module _ (t : Data) (ms : Members) (x : Data) where
  top_entry : (name : List ℕ) → object ms ≡ t → get_member name ms ≡ Some x → (y : Data) → In y (entries_of x) → In y (entries_at name t)
  top_entry name part found y h = subst (λ z. In y (entries_at name z)) part (found_entry name ms x y found h)

  nested_entry : (name : List ℕ) (ds : List Data) → In (object ms) ds → get_member name ms ≡ Some x → (y : Data) → In y (entries_of x)
      → In y (flat_map (entries_at name) ds)
  nested_entry name ds part found y h = In-flat_map (entries_at name) y (object ms) ds part (found_entry name ms x y found h)

  home_entry : (r : Role) (f : Family) → holds r f ≡ true → IsPart t (Object r) (object ms) → get_member (member_name f) ms ≡ Some x → (y : Data)
      → In y (entries_of x) → In y (family_values f t)
  home_entry role.Report family.Unit p part found = top_entry (codes "GpUnit") part found
  home_entry role.Report family.Party p part found = top_entry (codes "Party") part found
  home_entry role.Report family.Person p part found = top_entry (codes "Person") part found
  home_entry role.Report family.Office p part found = top_entry (codes "Office") part found
  home_entry role.Report family.Header p part found = top_entry (codes "Header") part found
  home_entry role.Election family.Candidate p part found = nested_entry (codes "Candidate") (entries_at (codes "Election") t) part found
  home_entry role.Election family.Contest p part found = nested_entry (codes "Contest") (entries_at (codes "Election") t) part found
  home_entry role.Election family.Style p part found = nested_entry (codes "BallotStyle") (entries_at (codes "Election") t) part found
  home_entry (role.OfFamily family.Contest) family.Selection p part found = nested_entry (codes "ContestSelection") (family_values family.Contest t) part found
  home_entry r f p part found = cc

  elections_part : (r : Role) → is_report_role r ≡ true → IsPart t (Object r) (object ms) → get_member (codes "Election") ms ≡ Some x → (y : Data)
      → In y (entries_of x) → In y (entries_at (codes "Election") t)
  elections_part role.Report p part found = top_entry (codes "Election") part found
  elections_part r p part found = cc

  id_part : (r : Role) → is_some (family_of_role r) ≡ true → IsPart t (Object r) (object ms) → get_member (codes "@id") ms ≡ Some x → (s : List ℕ)
      → x ≡ string s → IsId t s
  id_part (role.OfFamily f) p part found s e = record { family = f; value = object ms; stands = part; is = ap (option_and_then as_str) (found ∙ ap Some e) }
  id_part r p part found s e = cc

  -- a member of this kind
  kind_part : (r : Role) (c : Class) (n : List ℕ) (k : MemberKind) (required : Bool) → role_of_class c ≡ r → is_home c n k ≡ true
      → IsPart t (Object r) (object ms) → get_member n ms ≡ Some x → IsPart t (want_of_kind k required) x
  kind_part r c n (kind.One f) required role at part found = tt
  kind_part r c n kind.Carried required role at part found = tt
  kind_part r c n (kind.Keyed f) required role at part found =
      let b = and_parts (holds (role_of_class c) f) (bytes_eq n (member_name f)) at in
      home_entry r f (subst (λ q. holds q f ≡ true) role b.0) part (subst (λ z. get_member z ms ≡ Some x) (text_exact n (member_name f) b.1) found)
  kind_part r c n kind.Elections required role at part found =
      let b = and_parts (is_report_role (role_of_class c)) (bytes_eq n (codes "Election")) at in
      elections_part r (subst (λ q. is_report_role q ≡ true) role b.0) part (subst (λ z. get_member z ms ≡ Some x) (text_exact n (codes "Election") b.1) found)
  kind_part r c n kind.Identity required role at part found =
      let b = and_parts (is_some (family_of_class c)) (bytes_eq n (codes "@id")) at in
      id_part r (subst (λ q. is_some (family_of_role q) ≡ true) role b.0) part (subst (λ z. get_member z ms ≡ Some x) (text_exact n (codes "@id") b.1) found)
  kind_part r c n (kind.Many f) required role at part found = at
  kind_part r c n k required role at part found = tt

  member_part : (r : Role) (c : Class) (n : List ℕ) → role_of_class c ≡ r → bytes_eq n (codes "@type") ≡ false → IsPart t (Object r) (object ms)
      → get_member n ms ≡ Some x → IsPart t (member_want c n) x
  member_part r c n role no_type part found = at (is_report_class c && bytes_eq n (codes "Status"))
    where
      at : (b : Bool) → IsPart t (cond b Status (want_of_kind (kind_of_member c n) (is_required c n))) x
      at true = tt
      at false = kind_part r c n (kind_of_member c n) (is_required c n) role (home c n) part found

  class_part : (r : Role) (n : List ℕ) (o : Option Class) → class_of_object r (object ms) ≡ o → IsPart t (Object r) (object ms) → get_member n ms ≡ Some x
      → PartOf t (want_of_name (scope.Members r o) n) x
  class_part r n o among part found = at (bytes_eq n (codes "@type")) refl o among
    where
      at : (b : Bool) → bytes_eq n (codes "@type") ≡ b → (o : Option Class) → class_of_object r (object ms) ≡ o
          → PartOf t (cond b (Some (ClassText r)) (option_map (λ c. member_want c n) o)) x
      at true is o among = tt
      at false is None among = tt
      at false is (Some c) among = member_part r c n (class_role r (object ms) c among) is part found

  carried_part : (b : Bool) → IsPart t (cond b (Member kind.StrangeIdentity false) Carried) x
  carried_part true = tt
  carried_part false = tt

  name_part : (w : Want) (n : List ℕ) → IsPart t w (object ms) → get_member n ms ≡ Some x → PartOf t (want_of_name (scope_inside w (object ms)) n) x
  name_part (Object r) n part found = class_part r n (class_of_object r (object ms)) refl part found
  name_part (Member kind.Label required) n part found = class_part role.Label n (class_of_object role.Label (object ms)) refl tt found
  name_part Carried n part found = carried_part _
  name_part w n part found = tt

entry_part : (t : Data) (w : Want) (ds : Items) (i : ℕ) (x : Data) → IsPart t w (array ds) → get_item i ds ≡ Some x → PartOf t (entry_want w) x
entry_part t (Member (kind.Keyed f) required) ds i x part found = part x (entry_has ds i x found)
entry_part t (Member kind.Elections required) ds i x part found = part x (entry_has ds i x found)
entry_part t w ds i x part found = tt

pub part_at : (t : Data) (p : List Step) (a : Asked) → asked_at t p ≡ Some a → IsPart t a.want a.value
part_at t p a stands =
    all_inside (IsPart t) (λ w ms n v x part asks found. subst (λ o. PartOf t o x) asks (name_part t ms x w n part found))
    (λ w ds i v x part asks found. subst (λ o. PartOf t o x) asks (entry_part t w ds i x part found)) (asked (Object role.Report) t) p a refl stands

-- the text where an `@id` is asked for is the `@id` of an object
pub asked_id : (t : Data) (p : List Step) (a : Asked) (required : Bool) (s : List ℕ) → asked_at t p ≡ Some a → a.want ≡ Member kind.Identity required
    → a.value ≡ string s → IsId t s
asked_id t p a required s stands want text =
    let part : IsPart t (Member kind.Identity required) a.value = subst (λ w. IsPart t w a.value) want (part_at t p a stands) in
    part s text
