-- The report that is written in the canonical style says what the report says.
use Rattle.erd_normal.proofs.Common.{◌≡◌, ℕ, Bool, true, false, List, Some, None, codes, Option, option_and_then, option_map_or, sym, refl, ap, ◌∙◌, subst}
use Rattle.erd_normal.proofs.Common.{same_Some, subst, Data, null, string, object, Members, get_member, as_str, class, Family, family, Role, role, kind, IsTree}
use Rattle.erd_normal.proofs.Common.{In, In-all, In-map_from, string_from_text, wanted_within, report_class, want_by_kind, ShapeFault, NoneOf, class_of_object}
use Rattle.erd_normal.proofs.Common.{scope_inside, want_of_name, asked, is_reference, unrepeated, unrepeated_reference, scope, Want, Member, Object, Reference}
use Rattle.erd_normal.proofs.Common.{IsAccepted, no_shape_fault, has_keys, Preference, key_of, Placed, selections_of_contest, id_of, IsBounded, Sides, IsUnused}
use Rattle.erd_normal.proofs.Common.{is_envelope, Same, SaysTheSame, an_id, of_the_envelope, an_unused_id, MayBeAbsent, is_envelope_name, envelope_values}
use Rattle.erd_normal.proofs.Common.{id_of_key, id_of_selection}
use Rattle.erd_normal.proofs.inside.Homes.{kind_of_family_id}
use Rattle.erd_normal.proofs.canonical.NormalKeys.{listed}
use Rattle.erd_normal.proofs.same.Lookups.{Aligned, both_there, not_both, lacks_none, lacks_one, asked_of_name}
use Rattle.erd_normal.proofs.same.Related.{Stands}
use Rattle.erd_normal.proofs.same.IdsOfObjects.{family_values, value_placed, Refers, reference_refers}
use Rattle.erd_normal.proofs.view.NewIds.{NewId, of_family, of_contest, new_exact, stands_for, new_text, old_text, pair_of, Renamed, renamed_reference}
use Rattle.erd_normal.proofs.view.NewIds.{renamed_selection, style_unused, free_from}
use Rattle.erd_normal.proofs.view.Views.{said, is_put, Suits}
use Rattle.erd_normal.proofs.view.AskedInViews.{IsViewOf, of_value, of_put}
use Rattle.erd_normal.proofs.view.CanonicalStyles.{Classed, classed, IsHeld, part_of, goes_inward, root_held, HoldsId, holds_id, put_id, puts_trees}
use Rattle.erd_normal.proofs.view.CanonicalStyles.{asked_in_form}
use Rattle.erd_normal.specs.code.View.{view, whole, style_of, puts_of, id_given, text_of_reference}

-- an object whose canonical `@id` is given, with its place
pub record Given (π : Preference) (t : Data) (f : Family) (d : Data) (id : List ℕ) : Type 0 where
  pub placed : Placed
  pub value : placed.value ≡ d
  pub new : NewId π t f placed id

given_keyed : (π : Preference) (t : Data) (f : Family) (d : Data) (id : List ℕ) → has_keys f ≡ true → In d (family_values f t) → id_of_key π t f (key_of π d)
    ≡ Some id → Given π t f d id
given_keyed π t f d id keyed h is = let p = value_placed f t d h in
    record { placed = p.0; value = p.2; new = of_family keyed p.1 (ap (λ x. id_of_key π t f (key_of π x)) p.2 ∙ is) }

pub given : (π : Preference) (t o : Data) (f : Family) (d : Data) (id : List ℕ) → IsHeld t o (Object (role.OfFamily f)) d → id_given π t o f d
    ≡ Some id → Given π t f d id
given π t o family.Selection d id h is =
    let c = h.contest in
    let s = In-map_from (λ (p : Placed). p.value) (selections_of_contest c.0) d (subst (λ xs. In d xs) (sym (listed c.0)) c.3) in
    let its : id_of_selection π t o d ≡ id = same_Some (id_of_selection π t o d) id is in
    record {
      placed = s.0;
      value = s.2;
      new = of_contest c.0 refl c.1 s.1 (sym its ∙ ap (λ x. id_of_selection π t x d) c.2
          ∙ ap (id_of_selection π t c.0.value) (sym s.2));
    }
given π t o f d id h is = given_keyed π t f d id refl (part_of t (Object (role.OfFamily f)) d h.stands) is

abbrev pub is_of_member : Want → Bool
is_of_member (Member kind.Identity r) = true
is_of_member (Member kind.Word r) = true
is_of_member (Member kind.Whole r) = true
is_of_member w = false

module _ (π : Preference) (t : Data) (accepted : IsAccepted π t) (tree : IsTree t) where
  abbrev pub clean : NoneOf (ShapeFault t)
  clean = no_shape_fault π t accepted

  abbrev u : Data
  u = whole (style_of π t) t

  abbrev pub m : Sides
  m = record { left = t; right = whole (style_of π t) t; there = new_text π t; back = old_text π t }

  -- ---- classes

  pub known : (r : Role) (ms : Members) → Stands t (Object r) (object ms) → Classed t r ms
  known r ms h = classed t clean r ms (unrepeated t clean (Object r) (object ms) h.repeated refl h.inside)

  pub report_among : (ms : Members) → Stands t (Object role.Report) (object ms) → class_of_object role.Report (object ms) ≡ Some class.ElectionReport
  report_among ms h = let k = known role.Report ms h in k.at.among ∙ ap Some (report_class k.class k.role)

  pub wants_id : (f : Family) (ms : Members) → Stands t (Object (role.OfFamily f)) (object ms)
      → want_of_name (scope_inside (Object (role.OfFamily f)) (object ms)) (codes "@id") ≡ Some (Member kind.Identity false)
  wants_id f ms h =
      let k = known (role.OfFamily f) ms h in
      ap (λ o. want_of_name (scope.Members (role.OfFamily f) o) (codes "@id")) k.at.among ∙ (asked_of_name (role.OfFamily f) k.class (codes "@id") refl
      ∙ ap Some (want_by_kind k.class (codes "@id") kind.Identity (kind_of_family_id k.class f k.role) refl))

  id_text : (o : Data) (f : Family) (ms : Members) (v : Data) → IsHeld t o (Object (role.OfFamily f)) (object ms) → get_member (codes "@id") ms ≡ Some v
      → (s : List ℕ) × (v ≡ string s)
  id_text o f ms v h found =
      let its = (goes_inward t clean tree).members o (Object (role.OfFamily f)) (Member kind.Identity false) ms (codes "@id") v h
      (wants_id f ms h.stands) found in
      string_from_text v
      (wanted_within t clean (asked (Member kind.Identity false) v)
      (unrepeated t clean (Member kind.Identity false) v its.stands.repeated refl its.stands.inside))

  -- ---- members alone are asked of what is put in

  pub put_wants : (o : Data) (w v : Want) (ms : Members) (k : List ℕ) (x : Data) → IsHeld t o w (object ms) → In (k, x) (puts_of π t o w (object ms))
      → want_of_name (scope_inside w (object ms)) k ≡ Some v → is_of_member v ≡ true
  put_wants o (Object role.Report) v ms k x h put asks =
      let all = In-all (λ (p : List ℕ × Data). option_map_or is_of_member (want_of_name (scope.Members role.Report (Some class.ElectionReport)) p.0) true
      ≡ true) (k, x) envelope_values (refl, (refl, (refl, (refl, (refl, (refl, (refl, tt))))))) put in
      subst (λ a. option_map_or is_of_member a true ≡ true) (ap (λ o. want_of_name (scope.Members role.Report o) k) (sym (report_among ms h.stands)) ∙ asks) all
  put_wants o (Object (role.OfFamily f)) v ms k x h put asks =
      let p = put_id (id_given π t o f (object ms)) k x put in
      let same : Some (Member kind.Identity false) ≡ Some v =
      sym (wants_id f ms h.stands) ∙ ap (want_of_name (scope_inside (Object (role.OfFamily f)) (object ms))) (sym p.2) ∙ asks in
      let one : Member kind.Identity false ≡ v = cc in
      ap is_of_member (sym one)
  put_wants o w v ms k x h put asks = absurd put

  module _ (bounded : IsBounded t) where
    -- ---- references

    refers : (f : Family) (d : Data) → Stands t (Reference f) d → Refers t f d
    refers f d h = reference_refers π t accepted f d (unrepeated_reference π t accepted f d h.repeated h.inside)

    no_style : (s : List ℕ) → Stands t (Reference family.Style) (string s) → ⊥
    no_style s h =
        let e : false ≡ true = free_from (asked (Object role.Report) t) h.inside.place
        (record { want = Reference family.Style; value = string s; repeated = h.repeated }) refl h.inside.is in
        cc

    own_text : (s s' id : List ℕ) → string s ≡ string s' → Renamed π t s' id → Renamed π t s id
    own_text s s' id is r = let one : s' ≡ s = cc in subst (λ x. Renamed π t x id) one r

    renamed_text : (f : Family) (s : List ℕ) → Stands t (Reference f) (string s) → Renamed π t s (text_of_reference π t f s)
    renamed_text family.Style s h = absurd (no_style s h)
    renamed_text family.Selection s h = let r = refers family.Selection (string s) h in
        own_text s r.0 _ r.1 (renamed_selection π t accepted tree bounded (string s) r)
    renamed_text f s h = let r = refers f (string s) h in own_text s r.0 _ r.1 (renamed_reference π t accepted tree bounded f refl (string s) r)

    -- what is asked as a reference in the report that is written
    pub reference_written : (f : Family) (x : Data) → IsViewOf (style_of π t) (IsHeld t) (Reference f) x → (s : List ℕ) × (id : List ℕ)
        × Renamed π t s id × (x ≡ string id)
    reference_written f x (of_value o d h read is) =
        let r = refers f d h.stands in
        let r' = renamed_text f r.0 (subst (Stands t (Reference f)) r.1 h.stands) in
        (r.0, text_of_reference π t f r.0, r', is ∙ ap (view (style_of π t) o (Some (Reference f))) r.1)
    reference_written f x (of_put o w ms k h put asks) = let no : false ≡ true = put_wants o w (Reference f) ms k x h put asks in cc

    written_text : (w : Want) (x : Data) → is_reference w ≡ true → IsViewOf (style_of π t) (IsHeld t) w x → (s : List ℕ) × (id : List ℕ)
        × Renamed π t s id × (x ≡ string id)
    written_text (Reference f) x is h = reference_written f x h
    written_text w x is h = cc

    -- nothing in the report that is written refers to an object without `@id`
    new_unused : (f : Family) (o : Placed) (id : List ℕ) → NewId π t f o id → id_of o.value ≡ None → IsUnused u id
    new_unused f o id new none p a stands refers value =
        let r = written_text a.want a.value refers (asked_in_form π t clean tree p a stands) in
        let texts : string r.1 ≡ string id = sym r.3 ∙ value in
        let same : r.1 ≡ id = cc in
        let one : r.2.object ≡ o = new_exact π t accepted bounded r.2.its_family f r.2.object o id
        (subst (NewId π t r.2.its_family r.2.object) same r.2.new) new in
        let owns : Some r.0 ≡ None = sym r.2.own ∙ ap (λ (x : Placed). id_of x.value) one ∙ none in
        cc

    -- ---- what is put in

    id_aligned : (o : Data) (f : Family) (ms : Members) (id : List ℕ) → IsHeld t o (Object (role.OfFamily f)) (object ms) → Given π t f (object ms) id
        → (found : Option Data) → get_member (codes "@id") ms ≡ found
        → Aligned m (scope_inside (Object (role.OfFamily f)) (object ms)) (codes "@id") found (Some (string id))
    id_aligned o f ms id h g None is =
        not_both (lacks_none t (scope_inside (Object (role.OfFamily f)) (object ms)) (codes "@id"))
        (lacks_one u (scope_inside (Object (role.OfFamily f)) (object ms)) (codes "@id") (string id)
        (an_unused_id id false (wants_id f ms h.stands) refl (new_unused f g.placed id g.new (ap id_of g.value ∙ ap (option_and_then as_str) is))))
    id_aligned o f ms id h g (Some v) is =
        let s = id_text o f ms v h is in
        let own : id_of g.placed.value ≡ Some s.0 = ap id_of g.value ∙ ap (option_and_then as_str) is ∙ ap as_str s.1 in
        subst (λ x. Aligned m (scope_inside (Object (role.OfFamily f)) (object ms)) (codes "@id") (Some x) (Some (string id))) (sym s.1)
        (both_there (subst (λ w. Same m w (string s.0) (string id)) (sym (wants_id f ms h.stands))
        (an_id refl (stands_for π t accepted bounded f g.placed s.0 id g.new own))))

    puts_aligned : (o : Data) (w : Want) (ms : Members) (k : List ℕ) (v : Data) → IsHeld t o w (object ms) → In (k, v) (puts_of π t o w (object ms))
        → Aligned m (scope_inside w (object ms)) k (get_member k ms) (Some v)
    puts_aligned o (Object role.Report) ms k v h put =
        let named = In-all (λ (p : List ℕ × Data). is_envelope_name p.0 ≡ true) (k, v) envelope_values
        (refl, (refl, (refl, (refl, (refl, (refl, (refl, tt))))))) put in
        let inside : is_envelope (scope_inside (Object role.Report) (object ms)) k ≡ true =
        ap (λ c. is_envelope (scope.Members role.Report c) k) (report_among ms h.stands) ∙ named in
        not_both (record { each = λ d e. of_the_envelope inside }) (record { each = λ d e. of_the_envelope inside })
    puts_aligned o (Object (role.OfFamily f)) ms k v h put =
        let p = put_id (id_given π t o f (object ms)) k v put in
        subst (λ x. Aligned m (scope_inside (Object (role.OfFamily f)) (object ms)) x (get_member x ms) (Some v)) (sym p.2)
        (subst (λ x. Aligned m (scope_inside (Object (role.OfFamily f)) (object ms)) (codes "@id") (get_member (codes "@id") ms) (Some x)) (sym p.3)
        (id_aligned o f ms p.0 h (given π t o f (object ms) p.0 h p.1) (get_member (codes "@id") ms) refl))
    puts_aligned o w ms k v h put = absurd put

    -- ---- what is left out: a style's `@id` alone

    abbrev IsLost : Data → Members → Data → Want → List ℕ → Type 0
    IsLost o ms d w k = IsHeld t o w (object ms) → get_member k ms ≡ Some d → is_put (puts_of π t o w (object ms)) k ≡ false
        → MayBeAbsent t (scope_inside w (object ms)) k d

    lost_id : (o : Data) (f : Family) (ms : Members) (d : Data) → IsLost o ms d (Object (role.OfFamily f)) (codes "@id")
    lost_id o family.Style ms d h found none =
        let s = id_text o family.Style ms d h found in
        let p = value_placed family.Style t (object ms) (part_of t (Object (role.OfFamily family.Style)) (object ms) h.stands) in
        an_unused_id s.0 false (wants_id family.Style ms h.stands) s.1
        (style_unused π t accepted p.0 s.0 p.1 (ap id_of p.2 ∙ ap (option_and_then as_str) found ∙ ap as_str s.1))
    lost_id o f ms d h found none = let no : true ≡ false = none in cc

    lost : (o : Data) (w : Want) (ms : Members) (k : List ℕ) (d : Data) (r : Bool) → IsHeld t o w (object ms) → get_member k ms ≡ Some d
        → want_of_name (scope_inside w (object ms)) k ≡ Some (Member kind.Identity r)
        → is_put (puts_of π t o w (object ms)) k ≡ false → MayBeAbsent t (scope_inside w (object ms)) k d
    lost o w ms k d r h found asks none =
        let x : HoldsId w k = holds_id w ms k r asks in
        subst (λ v. IsLost o ms d v k) (sym x.asks) (subst (IsLost o ms d (Object (role.OfFamily x.its_family))) (sym x.named) (lost_id o x.its_family ms d)) h
        found none

    pub suits : Suits (style_of π t) m (IsHeld t)
    suits = record {
      texts = λ o f s h. pair_of π t accepted tree bounded s (text_of_reference π t f s) (renamed_text f s h.stands);
      puts = puts_aligned;
      lost = lost;
    }

    pub report_said : Same m (Some (Object role.Report)) t u
    report_said = said (style_of π t) m (IsHeld t) (goes_inward t clean tree) suits (puts_trees π t) null (Some (Object role.Report)) t (root_held t) refl

    pub view_says : SaysTheSame t (whole (style_of π t) t)
    view_says = record { there = new_text π t; back = old_text π t; same = report_said }
