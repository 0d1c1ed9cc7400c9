-- Objects and accepted reports that mean the same say the same, and so two preferences agree.
use Rattle.erd_normal.proofs.Common.{◌⊎◌, ◌≡◌, ℕ, Bool, true, false, List, [], ◌∷◌, map, is_some, if◌then◌else◌, Some, None, codes, Option, option_map}
use Rattle.erd_normal.proofs.Common.{option_and_then, bytes_eq, sym, refl, ap, ◌∙◌, subst, ⊎_elim, Data, string, array, object, Members, get_member, as_str}
use Rattle.erd_normal.proofs.Common.{role_of_class, family_of_class, kind_of_identity, kind_of_member, is_required, Class, class, Family, family, Role, role}
use Rattle.erd_normal.proofs.Common.{kind, entries_in, string_from_text, object_in, is_filled_array, keyed_list, MayBeArray, ObjectAt, ObjectIn, wanted_within}
use Rattle.erd_normal.proofs.Common.{member_within, within-tree, Within, kind_of_id, is_word, want_by_kind, no_strange, entries_at, class_of_object}
use Rattle.erd_normal.proofs.Common.{want_of_kind, want_of_name, asked, Scope, scope, Want, Member, Object, no_shape_fault, skeleton, values-placed_entries}
use Rattle.erd_normal.proofs.Common.{election_stands, election_object, Skeleton, stands, contest_selections, IsAccepted, has_keys, Preference, SelectionRecord}
use Rattle.erd_normal.proofs.Common.{ObjectRecord, Placed, placed_entries, report_of, elections, contests, selections_of_contest, objects, id_of}
use Rattle.erd_normal.proofs.Common.{is_in_envelope, plain_member, selection_record, member_of_class, object_record, selection_role, Sides, IsUnused}
use Rattle.erd_normal.proofs.Common.{of_the_envelope, an_unused_id, an_id, Same, In, In-flat_map, zero, suc, length, arith, null, Step, At, Name, is_reference}
use Rattle.erd_normal.proofs.Common.{Asked, asked_inside, asked_from, asked_at, one_object, PreferencesAgree}
use Rattle.erd_normal.proofs.inside.Homes.{kind_of_family_id}
use Rattle.erd_normal.proofs.lists.Matched.{Matched, matched_mapped}
use Rattle.erd_normal.proofs.same.Lookups.{Aligned, both_there, lacks_none, lacks_one, not_both, asked_of_name}
use Rattle.erd_normal.proofs.same.Related.{matched_within_both, same_back, turned}
use Rattle.erd_normal.proofs.same.complete.Contents.{sets_aligned}
use Rattle.erd_normal.proofs.same.complete.Counterparts.{ElectionsAlike, ObjectsAlike, elections_matched, family_matched, held_matched, selections_matched}
use Rattle.erd_normal.proofs.same.complete.Counterparts.{MeanOne}
use Rattle.erd_normal.proofs.same.complete.Values.{apart_cases, apart_named, is_apart, leaves, leaves_out, left_out, meant_unless_apart, object_says}
use Rattle.erd_normal.proofs.same.complete.Values.{plain_from_value}
use Rattle.erd_normal.proofs.same.complete.Texts.{Counterpart, by_key, by_name, ids_stand, sides, texts_tied, Couple, counterpart_back, couple_back}
use Rattle.erd_normal.proofs.same.complete.Texts.{one_counterpart, one_family, back, there}
use Rattle.erd_normal.proofs.meaning.MatchedMeanings.{class_of_record, members_in}
use Rattle.erd_normal.proofs.same.IdsOfObjects.{InElections, InReport}
use Rattle.erd_normal.proofs.same.InTurn.{CameFrom, reference_came_from, OtherText, id_text, reference_is_id}
use Rattle.erd_normal.proofs.same.means.Meanings.{saying_the_same_means_the_same}
use Rattle.erd_normal.specs.SameForms.{MeaningTheSameSaysTheSame, SayingAndMeaningAgree}

-- ---- objects of families, elections and reports that mean the same say the same

id_is_text : (π : Preference) (t : Data) → IsAccepted π t → (b : Bool) (r : Bool) (v : Data)
    → Within t (asked (want_of_kind (if b then kind.Identity else kind.StrangeIdentity) r) v) → Some v ≡ option_map string (as_str v)
id_is_text π t accepted true r v w = let s = string_from_text v (wanted_within t (no_shape_fault π t accepted) (asked (Member kind.Identity false) v) w) in
    rw s.1
id_is_text π t accepted false r v w = absurd (no_strange t (no_shape_fault π t accepted) v false w)

identity_no_word : (b : Bool) → is_word (if b then kind.Identity else kind.StrangeIdentity) ≡ false
identity_no_word true = refl
identity_no_word false = refl

-- what is asked of an `@id`
id_within : (π : Preference) (t : Data) → IsAccepted π t → (w : Want) (r : Role) (c : Class) (ms : Members) → ObjectAt t w r c ms → (v : Data)
    → get_member (codes "@id") ms ≡ Some v → Within t (asked (want_of_kind (kind_of_identity c) (is_required c (codes "@id"))) v)
id_within π t accepted w r c ms a v e =
    subst (λ x. Within t (asked x v)) (want_by_kind c (codes "@id") (kind_of_identity c) (kind_of_id c) (identity_no_word (is_some (family_of_class c))))
    (member_within t (no_shape_fault π t accepted) w r ms c (codes "@id") v a.asks a.among refl a.inside e)

-- an object's `@id` is a text, where it stands
id_member : (π : Preference) (t : Data) → IsAccepted π t → (w : Want) (r : Role) (c : Class) (ms : Members) → ObjectAt t w r c ms → get_member (codes "@id") ms
    ≡ option_map string (id_of (object ms))
id_member π t accepted w r c ms a = at (get_member (codes "@id") ms) refl
  where
    at : (o : Option Data) → get_member (codes "@id") ms ≡ o → o ≡ option_map string (option_and_then as_str o)
    at None e = refl
    at (Some v) e = id_is_text π t accepted (is_some (family_of_class c)) (is_required c (codes "@id")) v (id_within π t accepted w r c ms a v e)

-- an object of a class that has no family has no `@id`
no_id : (π : Preference) (t : Data) → IsAccepted π t → (w : Want) (q : Role) (c : Class) (ms : Members) → ObjectAt t w q c ms → is_some (family_of_class c)
    ≡ false → id_of (object ms) ≡ None
no_id π t accepted w q c ms a h = at (get_member (codes "@id") ms) refl
  where
    at : (o : Option Data) → get_member (codes "@id") ms ≡ o → option_and_then as_str (get_member (codes "@id") ms) ≡ None
    at None e = ap (option_and_then as_str) e
    at (Some v) e =
        let strange : kind_of_identity c ≡ kind.StrangeIdentity = rw h in
        absurd (no_strange t (no_shape_fault π t accepted) v false
        (subst (λ k. Within t (asked (want_of_kind k (is_required c (codes "@id"))) v)) strange (id_within π t accepted w q c ms a v e)))

-- two objects of one class
pub record Two (t u : Data) (q : Role) (d e : Data) : Type 0 where
  pub ms : Members
  pub ns : Members
  pub class : Class
  pub role : role_of_class class ≡ q
  pub is : d ≡ object ms
  pub is' : e ≡ object ns
  pub at : ObjectAt t (Object q) q class ms
  pub at' : ObjectAt u (Object q) q class ns

pub two_objects : (π : Preference) (t u : Data) → IsAccepted π t → IsAccepted π u → (q : Role) (d e : Data) → Within t (asked (Object q) d)
    → Within u (asked (Object q) e) → class_of_object q d ≡ class_of_object q e → Two t u q d e
two_objects π t u accepted accepted' q d e w w' same =
    let a : ObjectIn t q d = object_in t (no_shape_fault π t accepted) q d w in
    let b : ObjectIn u q e = object_in u (no_shape_fault π u accepted') q e w' in
    let both : Some b.class ≡ Some a.class = sym b.at.among ∙ ap (class_of_object q) (sym b.is_object) ∙ sym same
    ∙ ap (class_of_object q) a.is_object ∙ a.at.among in
    let one : b.class ≡ a.class = cc in
    record {
      ms = a.ms;
      ns = b.ms;
      class = a.class;
      role = a.role;
      is = a.is_object;
      is' = b.is_object;
      at = a.at;
      at' = subst (λ c. ObjectAt u (Object q) q c b.ms) one b.at;
    }

-- an `@id` of the one report is unused in l if its object's counterpart has none, and one of the other in r
pub record AloneUnused (π : Preference) (t u l r : Data) : Type 0 where
  pub left : (f : Family) (o p : Placed) (a : List ℕ) → In o (objects f t) → In p (objects f u) → Counterpart π t u f o p → id_of o.value ≡ Some a
      → id_of p.value ≡ None → IsUnused l a
  pub right : (f : Family) (o p : Placed) (b : List ℕ) → In o (objects f t) → In p (objects f u) → Counterpart π t u f o p → id_of o.value ≡ None
      → id_of p.value ≡ Some b → IsUnused r b

module _ (π : Preference) (t u : Data) (both : MeanOne π t u) (default : List ℕ) (l r : Data) (alone : AloneUnused π t u l r) where
  abbrev m : Sides
  m = sides π t u both default l r

  abbrev AlignedIn : (q : Role) (c : Class) (ms ns : Members) → List ℕ → Type 0
  AlignedIn q c ms ns k = Aligned m (scope.Members q (Some c)) k (get_member k ms) (get_member k ns)

  -- ---- `@id`s

  id_asked : (f : Family) (c : Class) → role_of_class c ≡ role.OfFamily f → want_of_name (scope.Members (role.OfFamily f) (Some c)) (codes "@id")
      ≡ Some (Member kind.Identity false)
  id_asked f c role = ap Some (want_by_kind c (codes "@id") kind.Identity (kind_of_family_id c f role) refl)

  ids_aligned : (f : Family) (c : Class) (o p : Placed) → role_of_class c ≡ role.OfFamily f → In o (objects f t) → In p (objects f u) → Counterpart π t u f o p
      → Aligned m (scope.Members (role.OfFamily f) (Some c)) (codes "@id") (option_map string (id_of o.value)) (option_map string (id_of p.value))
  ids_aligned f c o p plays h k related = at (id_of o.value) (id_of p.value) refl refl
    where
      s : Scope
      s = scope.Members (role.OfFamily f) (Some c)

      at : (x y : Option (List ℕ)) → id_of o.value ≡ x → id_of p.value ≡ y → Aligned m s (codes "@id") (option_map string x) (option_map string y)
      at (Some a) (Some b) is is' =
          both_there (subst (λ w. Same m w (string a) (string b)) (sym (id_asked f c plays))
          (an_id refl (ids_stand π t u both default l r f o p a b h k related is is')))
      at (Some a) None is is' =
          not_both (lacks_one l s (codes "@id") (string a) (an_unused_id a false (id_asked f c plays) refl (alone.left f o p a h k related is is')))
          (lacks_none r s (codes "@id"))
      at None (Some b) is is' =
          not_both (lacks_none l s (codes "@id"))
          (lacks_one r s (codes "@id") (string b) (an_unused_id b false (id_asked f c plays) refl (alone.right f o p b h k related is is')))
      at None None is is' = not_both (lacks_none l s (codes "@id")) (lacks_none r s (codes "@id"))

  pub within_t : (f : Family) (o : Placed) → In o (objects f t) → Within t (asked (Object (role.OfFamily f)) o.value)
  within_t f o h = record { place = o.place; is = stands π t both.left f o h }

  pub within_u : (f : Family) (o : Placed) → In o (objects f u) → Within u (asked (Object (role.OfFamily f)) o.value)
  within_u f o h = record { place = o.place; is = stands π u both.right f o h }

  -- two objects of one class, whose records leave out these names
  pub two_say : (names : List (List ℕ)) (q : Role) (d e : Data) → Within t (asked (Object q) d) → Within u (asked (Object q) e) → class_of_object q d
      ≡ class_of_object q e → ((c : Class) → role_of_class c ≡ q → leaves_out names c ≡ true)
      → ((two : Two t u q d e) → AlignedIn q two.class two.ms two.ns (codes "@id"))
      → ((two : Two t u q d e) (k : List ℕ) → In k names → AlignedIn q two.class two.ms two.ns k)
      → ((two : Two t u q d e) (k : List ℕ) → is_apart two.class k ≡ false → plain_member π t (object two.ms) two.class k
      ≡ plain_member π u (object two.ns) two.class k) → Same m (Some (Object q)) d e
  two_say names q d e w w' classes plain ids given same =
      let two : Two t u q d e = two_objects π t u both.left both.right q d e w w' classes in
      subst (λ x. Same m (Some (Object q)) x e) (sym two.is) (subst (Same m (Some (Object q)) (object two.ms)) (sym two.is')
      (object_says π t u m both.left both.right (texts_tied π t u both default l r) q two.class two.ms two.ns two.at two.at'
      (within-tree t (asked (Object q) (object two.ms)) both.left_tree two.at.inside)
      (within-tree u (asked (Object q) (object two.ns)) both.right_tree two.at'.inside) (ids two)
      (λ n f g i. given two n (left_out names two.class n (plain two.class two.role) f g i)) (same two)))

  -- two objects of a family
  family_says : (names : List (List ℕ)) (f : Family) (o p : Placed) → In o (objects f t) → In p (objects f u) → Counterpart π t u f o p
      → class_of_object (role.OfFamily f) o.value ≡ class_of_object (role.OfFamily f) p.value
      → ((c : Class) → role_of_class c ≡ role.OfFamily f → leaves_out names c ≡ true)
      → ((two : Two t u (role.OfFamily f) o.value p.value) (k : List ℕ) → In k names → AlignedIn (role.OfFamily f) two.class two.ms two.ns k)
      → ((two : Two t u (role.OfFamily f) o.value p.value) (k : List ℕ) → is_apart two.class k ≡ false → plain_member π t (object two.ms) two.class k
      ≡ plain_member π u (object two.ns) two.class k) → Same m (Some (Object (role.OfFamily f))) o.value p.value
  family_says names f o p h k related classes plain =
      two_say names (role.OfFamily f) o.value p.value (within_t f o h) (within_u f p k) classes plain
      (λ two.
      subst (λ x. Aligned m (scope.Members (role.OfFamily f) (Some two.class)) (codes "@id") x (get_member (codes "@id") two.ns))
      (ap (λ d. option_map string (id_of d)) two.is ∙ sym (id_member π t both.left (Object (role.OfFamily f)) (role.OfFamily f) two.class two.ms two.at))
      (subst (Aligned m (scope.Members (role.OfFamily f) (Some two.class)) (codes "@id") (option_map string (id_of o.value)))
      (ap (λ d. option_map string (id_of d)) two.is' ∙ sym (id_member π u both.right (Object (role.OfFamily f)) (role.OfFamily f) two.class two.ns two.at'))
      (ids_aligned f two.class o p two.role h k related)))

  pub members_value : (q : Role) (c : Class) (ms ns : Members) → ObjectAt t (Object q) q c ms → ObjectAt u (Object q) q c ns → object_record π t q (object ms)
      ≡ object_record π u q (object ns)
      → (k : List ℕ) → is_apart c k ≡ false → plain_member π t (object ms) c k ≡ plain_member π u (object ns) c k
  members_value q c ms ns a b e k plain =
      plain_from_value π t u (kind_of_member c k) (get_member k ms) (get_member k ns) _ _ (meant_unless_apart c k plain)
      (rw (a.among, b.among) at (ap (λ r. members_in r k) e))

  -- ---- selections and contests

  selection_says : (o p : Placed) → In o (objects family.Selection t) → In p (objects family.Selection u) → Counterpart π t u family.Selection o p
      → selection_record π t o.value ≡ selection_record π u p.value → Same m (Some (Object selection_role)) o.value p.value
  selection_says o p h k related alike =
      family_says [] family.Selection o p h k related
      (sym (class_of_record (plain_member π t o.value) selection_role o.value) ∙ ap (option_map (λ (x : SelectionRecord). x.class)) alike
      ∙ class_of_record (plain_member π u p.value) selection_role p.value)
      (leaves family.Selection) (λ two k i. elim i [ ])
      (λ two k g. rw (two.at.among, two.at'.among) at
      (ap (λ x. members_in x k) (sym (ap (selection_record π t) two.is) ∙ alike ∙ ap (selection_record π u) two.is')))

  pub classes_same : (q : Role) (d e : Data) → object_record π t q d ≡ object_record π u q e → class_of_object q d ≡ class_of_object q e
  classes_same q d e records = sym (class_of_record (member_of_class π t d) q d) ∙ ap (option_map (λ (x : ObjectRecord). x.class)) records
      ∙ class_of_record (member_of_class π u e) q e

  -- ---- arrays of objects of a family

  keyed_aligned : (q : Role) (c : Class) (ms ns : Members) → ObjectAt t (Object q) q c ms → ObjectAt u (Object q) q c ns → (f : Family) (name : List ℕ)
      → bytes_eq name (codes "@type") ≡ false → kind_of_member c name ≡ kind.Keyed f
      → (d e : Placed) → d.value ≡ object ms → e.value ≡ object ns → Matched (λ o p. Same m (Some (Object (role.OfFamily f))) o.value p.value)
      (placed_entries name d) (placed_entries name e) → AlignedIn q c ms ns name
  keyed_aligned q c ms ns a b f name other keyed d e is is' matched =
      sets_aligned m (scope.Members q (Some c)) name (kind.Keyed f) false
      (asked_of_name q c name other ∙ ap Some (want_by_kind c name (kind.Keyed f) keyed refl)) refl _ _ (get_member name ms) (get_member name ns) refl
      (keyed_list t (no_shape_fault π t both.left) (Object q) q c ms a f name other keyed (get_member name ms) refl)
      (keyed_list u (no_shape_fault π u both.right) (Object q) q c ns b f name other keyed (get_member name ns) refl)
      (subst (λ xs. Matched (Same m (Some (Object (role.OfFamily f)))) xs (entries_in (get_member name ns)))
      (values-placed_entries name d ∙ ap (entries_at name) is)
      (subst (Matched (Same m (Some (Object (role.OfFamily f)))) (map (λ (o : Placed). o.value) (placed_entries name d)))
      (values-placed_entries name e ∙ ap (entries_at name) is')
      (matched_mapped (λ (o : Placed). o.value) (λ (o : Placed). o.value) (λ x y h. h) matched)))

  contest_says : (o p : Placed) → In o (objects family.Contest t) → In p (objects family.Contest u) → ObjectsAlike π t u family.Contest o p
      → Same m (Some (Object (role.OfFamily family.Contest))) o.value p.value
  contest_says o p h k alike =
      family_says (codes "ContestSelection" ∷ []) family.Contest o p h k (by_key refl alike.key)
      (classes_same (role.OfFamily family.Contest) o.value p.value alike.record_same) (leaves family.Contest)
      (λ two n i. ⊎_elim (λ e. subst (AlignedIn (role.OfFamily family.Contest) two.class two.ms two.ns) e (listed two)) (λ j. elim j [ ]) i)
      (λ two k g. members_value (role.OfFamily family.Contest) two.class two.ms two.ns two.at two.at'
      (sym (ap (object_record π t (role.OfFamily family.Contest)) two.is) ∙ alike.record_same ∙ ap (object_record π u (role.OfFamily family.Contest)) two.is') k
      g)
    where
      listed : (two : Two t u (role.OfFamily family.Contest) o.value p.value) → AlignedIn (role.OfFamily family.Contest) two.class two.ms two.ns
          (codes "ContestSelection")
      listed two =
          keyed_aligned (role.OfFamily family.Contest) two.class two.ms two.ns two.at two.at' family.Selection (codes "ContestSelection") refl
          (contest_selections two.class two.role) o p two.is two.is'
          (matched_within_both (λ x y. Same m (Some (Object selection_role)) x.value y.value)
          (λ x y i j s. selection_says x y (In-flat_map selections_of_contest x o (contests t) h i) (In-flat_map selections_of_contest y p (contests u) k j)
          (by_name refl o p h k alike.key i j s.name) s.record_same)
          (selections_matched π t u both o p h k alike))

  other_says : (f : Family) → has_keys f ≡ true → ((c : Class) → role_of_class c ≡ role.OfFamily f → leaves_out [] c ≡ true) → (o p : Placed)
      → In o (objects f t) → In p (objects f u) → ObjectsAlike π t u f o p → Same m (Some (Object (role.OfFamily f))) o.value p.value
  other_says f keyed plain o p h k alike =
      family_says [] f o p h k (by_key keyed alike.key) (classes_same (role.OfFamily f) o.value p.value alike.record_same) plain (λ two n i. elim i [ ])
      (λ two k g. members_value (role.OfFamily f) two.class two.ms two.ns two.at two.at'
      (sym (ap (object_record π t (role.OfFamily f)) two.is) ∙ alike.record_same ∙ ap (object_record π u (role.OfFamily f)) two.is') k g)

  -- ---- what has no `@id`

  pub none_aligned : (q : Role) (c : Class) (ms ns : Members) → ObjectAt t (Object q) q c ms → ObjectAt u (Object q) q c ns → id_of (object ms) ≡ None
      → id_of (object ns) ≡ None → AlignedIn q c ms ns (codes "@id")
  none_aligned q c ms ns a b none none' =
      let s : Scope = scope.Members q (Some c) in
      let left : get_member (codes "@id") ms ≡ None = id_member π t both.left (Object q) q c ms a ∙ ap (option_map string) none in
      let right : get_member (codes "@id") ns ≡ None = id_member π u both.right (Object q) q c ns b ∙ ap (option_map string) none' in
      subst (λ x. Aligned m s (codes "@id") x (get_member (codes "@id") ns)) (sym left)
      (subst (Aligned m s (codes "@id") None) (sym right) (not_both (lacks_none l s (codes "@id")) (lacks_none r s (codes "@id"))))

  -- what holds of each of these names holds of one of them
  each_name : {A : Type 0} (P : List ℕ → Type 0) (n k : List ℕ) → P n → (A → P k) → (n ≡ k) ⊎ A → P k
  each_name P n k h rest i = ⊎_elim (λ e. subst P e h) rest i

  -- ---- elections

  abbrev election_names : List (List ℕ)
  election_names = codes "Candidate" ∷ codes "Contest" ∷ codes "BallotStyle" ∷ []

  election_says : (d e : Placed) → In d (elections t) → In e (elections u) → ElectionsAlike π t u d e → Same m (Some (Object role.Election)) d.value e.value
  election_says d e h k alike =
      let x = election_object t (no_shape_fault π t both.left) d.value (record { place = d.place; is = election_stands t (skeleton π t both.left) d h }) in
      let y = election_object u (no_shape_fault π u both.right) e.value (record { place = e.place; is = election_stands u (skeleton π u both.right) e k }) in
      subst (λ z. Same m (Some (Object role.Election)) z e.value) (sym x.1) (subst (Same m (Some (Object role.Election)) (object x.0)) (sym y.1)
      (object_says π t u m both.left both.right (texts_tied π t u both default l r) role.Election class.Election x.0 y.0 x.2 y.2
      (within-tree t (asked (Object role.Election) (object x.0)) both.left_tree x.2.inside)
      (within-tree u (asked (Object role.Election) (object y.0)) both.right_tree y.2.inside)
      (none_aligned role.Election class.Election x.0 y.0 x.2 y.2 (no_id π t both.left (Object role.Election) role.Election class.Election x.0 x.2 refl)
      (no_id π u both.right (Object role.Election) role.Election class.Election y.0 y.2 refl))
      (λ n f g i. by_name_in x.0 y.0 x.1 y.1 x.2 y.2 n (left_out election_names class.Election n refl f g i))
      (members_value role.Election class.Election x.0 y.0 x.2 y.2
      (sym (ap (object_record π t role.Election) x.1) ∙ alike.record_same ∙ ap (object_record π u role.Election) y.1))))
    where
      held : (f : Family) (name : List ℕ) → has_keys f ≡ true → InElections f name
          → ((o p : Placed) → In o (objects f t) → In p (objects f u) → ObjectsAlike π t u f o p → Same m (Some (Object (role.OfFamily f))) o.value p.value)
          → (ms ns : Members) → d.value ≡ object ms → e.value ≡ object ns → ObjectAt t (Object role.Election) role.Election class.Election ms
          → ObjectAt u (Object role.Election) role.Election class.Election ns → AlignedIn role.Election class.Election ms ns name
      held f name keyed home says ms ns is is' a b =
          keyed_aligned role.Election class.Election ms ns a b f name home.other home.keyed d e is is'
          (matched_within_both (λ x y. Same m (Some (Object (role.OfFamily f))) x.value y.value)
          (λ x y i j s. says x y (subst (λ os. In x os) (sym (home.are t)) (In-flat_map (placed_entries name) x d (elections t) h i))
          (subst (λ os. In y os) (sym (home.are u)) (In-flat_map (placed_entries name) y e (elections u) k j)) s)
          (held_matched π t u both f name keyed home d e h k alike))

      by_name_in : (ms ns : Members) → d.value ≡ object ms → e.value ≡ object ns → ObjectAt t (Object role.Election) role.Election class.Election ms
          → ObjectAt u (Object role.Election) role.Election class.Election ns
          → (n : List ℕ) → In n election_names → AlignedIn role.Election class.Election ms ns n
      by_name_in ms ns is is' a b n =
          each_name (AlignedIn role.Election class.Election ms ns) (codes "Candidate") n
          (held family.Candidate (codes "Candidate") refl (record { other = refl; keyed = refl; are = λ t. refl })
          (other_says family.Candidate refl (leaves family.Candidate)) ms ns is is' a b)
          (each_name (AlignedIn role.Election class.Election ms ns) (codes "Contest") n
          (held family.Contest (codes "Contest") refl (record { other = refl; keyed = refl; are = λ t. refl }) contest_says ms ns is is' a b)
          (each_name (AlignedIn role.Election class.Election ms ns) (codes "BallotStyle") n
          (held family.Style (codes "BallotStyle") refl (record { other = refl; keyed = refl; are = λ t. refl })
          (other_says family.Style refl (leaves family.Style)) ms ns is is' a b)
          (λ i. absurd i)))

  -- ---- the report

  abbrev report_names : List (List ℕ)
  report_names = codes "GpUnit" ∷ codes "Party" ∷ codes "Person" ∷ codes "Office" ∷ codes "Header" ∷ codes "Election" ∷ []

  module _ (a : Skeleton t) (b : Skeleton u) where
    abbrev InReportAligned : List ℕ → Type 0
    InReportAligned = AlignedIn role.Report class.ElectionReport a.ms b.ms

    listed_in_report : (f : Family) (name : List ℕ) → has_keys f ≡ true → ((c : Class) → role_of_class c ≡ role.OfFamily f → leaves_out [] c ≡ true)
        → InReport f name → InReportAligned name
    listed_in_report f name keyed plain home =
        keyed_aligned role.Report class.ElectionReport a.ms b.ms a.report b.report f name home.other home.keyed (report_of t)
        (report_of u) a.is_object b.is_object
        (subst (λ xs. Matched (λ (o p : Placed). Same m (Some (Object (role.OfFamily f))) o.value p.value) xs (placed_entries name (report_of u))) (home.are t)
        (subst (Matched (λ (o p : Placed). Same m (Some (Object (role.OfFamily f))) o.value p.value) (objects f t)) (home.are u)
        (matched_within_both (λ o p. Same m (Some (Object (role.OfFamily f))) o.value p.value) (other_says f keyed plain) (family_matched π t u both f keyed))))

    elections_listed : InReportAligned (codes "Election")
    elections_listed =
        sets_aligned m (scope.Members role.Report (Some class.ElectionReport)) (codes "Election") kind.Elections false refl refl
        (λ ds. Within t (asked (Member kind.Elections false) (array ds))) (λ ds. Within u (asked (Member kind.Elections false) (array ds)))
        (get_member (codes "Election") a.ms) (get_member (codes "Election") b.ms) refl
        (subst (MayBeArray (λ ds. Within t (asked (Member kind.Elections false) (array ds)))) (sym a.listed) (is_filled_array a.inside))
        (subst (MayBeArray (λ ds. Within u (asked (Member kind.Elections false) (array ds)))) (sym b.listed) (is_filled_array b.inside))
        (subst (λ xs. Matched (Same m (Some (Object role.Election))) xs (entries_in (get_member (codes "Election") b.ms)))
        (values-placed_entries (codes "Election") (report_of t) ∙ ap (entries_at (codes "Election")) a.is_object)
        (subst (Matched (Same m (Some (Object role.Election))) (map (λ (o : Placed). o.value) (elections t)))
        (values-placed_entries (codes "Election") (report_of u) ∙ ap (entries_at (codes "Election")) b.is_object)
        (matched_mapped (λ (o : Placed). o.value) (λ (o : Placed). o.value) (λ x y h. h)
        (matched_within_both (λ d e. Same m (Some (Object role.Election)) d.value e.value) election_says (elections_matched π t u both)))))

    by_name_in_report : (n : List ℕ) → In n report_names → InReportAligned n
    by_name_in_report n =
        each_name InReportAligned (codes "GpUnit") n (listed_in_report family.Unit (codes "GpUnit") refl (leaves family.Unit)
        (record { other = refl; keyed = refl; are = λ t. refl }))
        (each_name InReportAligned (codes "Party") n (listed_in_report family.Party (codes "Party") refl (leaves family.Party)
        (record { other = refl; keyed = refl; are = λ t. refl }))
        (each_name InReportAligned (codes "Person") n (listed_in_report family.Person (codes "Person") refl (leaves family.Person)
        (record { other = refl; keyed = refl; are = λ t. refl }))
        (each_name InReportAligned (codes "Office") n (listed_in_report family.Office (codes "Office") refl (leaves family.Office)
        (record { other = refl; keyed = refl; are = λ t. refl }))
        (each_name InReportAligned (codes "Header") n (listed_in_report family.Header (codes "Header") refl (leaves family.Header)
        (record { other = refl; keyed = refl; are = λ t. refl }))
        (each_name InReportAligned (codes "Election") n elections_listed (λ i. absurd i))))))

    -- a member of the envelope may be absent
    in_envelope : (n : List ℕ) (o p : Option Data) → is_in_envelope class.ElectionReport n ≡ true
        → Aligned m (scope.Members role.Report (Some class.ElectionReport)) n o p
    in_envelope n o p e = not_both (record { each = λ d i. of_the_envelope e }) (record { each = λ d i. of_the_envelope e })

    report_says : Same m (Some (Object role.Report)) t u
    report_says =
        subst (λ z. Same m (Some (Object role.Report)) z u) (sym a.is_object) (subst (Same m (Some (Object role.Report)) (object a.ms)) (sym b.is_object)
        (object_says π t u m both.left both.right (texts_tied π t u both default l r) role.Report class.ElectionReport a.ms b.ms a.report b.report
        (within-tree t (asked (Object role.Report) (object a.ms)) both.left_tree a.report.inside)
        (within-tree u (asked (Object role.Report) (object b.ms)) both.right_tree b.report.inside)
        (none_aligned role.Report class.ElectionReport a.ms b.ms a.report b.report
        (no_id π t both.left (Object role.Report) role.Report class.ElectionReport a.ms a.report refl)
        (no_id π u both.right (Object role.Report) role.Report class.ElectionReport b.ms b.report refl))
        (λ n f g i. ⊎_elim (in_envelope n (get_member n a.ms) (get_member n b.ms))
        (λ plain. by_name_in_report n (apart_named report_names class.ElectionReport n f g refl plain)) (apart_cases class.ElectionReport n i))
        (members_value role.Report class.ElectionReport a.ms b.ms a.report b.report
        (sym (ap (object_record π t role.Report) a.is_object) ∙ ap (λ x. x.report) both.same ∙ ap (object_record π u role.Report) b.is_object))))

  pub all_says : Same m (Some (Object role.Report)) t u
  all_says = report_says (skeleton π t both.left) (skeleton π u both.right)

-- ---- to an `@id` whose object's counterpart has none nothing refers: each reference comes from one of the other report

-- in what is no report nothing is used
nothing_used : (id : List ℕ) → IsUnused null id
nothing_used id p a stands is text = at p stands
  where
    none : (s : Step) → asked_inside (Object role.Report) null s ≡ None
    none (Name n) = refl
    none (At i) = refl

    at : (p : List Step) → asked_at null p ≡ Some a → ⊥
    at [] e = let one : asked (Object role.Report) null ≡ a = cc in let x : false ≡ true = subst (λ (x : Asked). is_reference x.want ≡ true) (sym one) is in cc
    at (s ∷ ss) e = let x : None ≡ Some a = sym (ap (option_and_then (λ b. asked_from b ss)) (none s)) ∙ e in cc

-- a text that is not this one
other_than : List ℕ → List ℕ
other_than s = zero ∷ s

other_than_itself : (s : List ℕ) → s ≡ other_than s → ⊥
unfolding other_than
other_than_itself s e = let n : length s ≡ suc (length s) = ap length e in omega arith

module _ (π : Preference) (t u : Data) (both : MeanOne π t u) where
  abbrev idle : List ℕ → Sides
  idle default = sides π t u both default null null

  idle_says : (default : List ℕ) → Same (idle default) (Some (Object role.Report)) t u
  idle_says default =
      all_says π t u both default null null
      (record { left = λ f o p a h k related is is'. nothing_used a; right = λ f o p b h k related is is'. nothing_used b })

  -- the couple of an object, by its `@id`
  left_couple : (f : Family) (o p : Placed) (a : List ℕ) → In o (objects f t) → In p (objects f u) → Counterpart π t u f o p → id_of o.value ≡ Some a
      → (c : Couple π t u) → c.text ≡ a → c.other ≡ p
  left_couple f o p a h k related is c e =
      let one : c.one ≡ o = one_object π t both.left c.family f c.one o a c.one_stands h (c.is ∙ ap Some e) is in
      let family : c.family ≡ f = one_family π t both.left c.family f o (subst (λ z. In z (objects c.family t)) one c.one_stands) h in
      one_counterpart π t u both.left both.right f o c.other p (subst (λ g. In c.other (objects g u)) family c.other_stands) k
      (subst (λ g. Counterpart π t u g o c.other) family (subst (λ x. Counterpart π t u c.family x c.other) one c.related)) related

  alone_left : (f : Family) (o p : Placed) (a : List ℕ) → In o (objects f t) → In p (objects f u) → Counterpart π t u f o p → id_of o.value ≡ Some a
      → id_of p.value ≡ None → IsUnused t a
  alone_left f o p a h k related is is' place asked_there stands reference text =
      let m : Sides = idle (other_than a) in
      let from : CameFrom (turned m) u asked_there = reference_came_from (turned m) u t both.right_tree both.left_tree (same_back m (idle_says (other_than a)))
      place asked_there stands reference in
      let x : OtherText m a from.of.value = id_text m a (same_back (turned m) from.same) (reference_is_id asked_there.want reference) text in
      let c = couple_back π t u both (other_than a) a x.other x.pair.1 (other_than_itself a) in
      let other : c.0.other ≡ p = left_couple f o p a h k related is c.0 c.1 in
      let e : Some c.0.other_text ≡ None = sym c.0.other_is ∙ ap (λ (z : Placed). id_of z.value) other ∙ is' in
      cc

pub alone_unused : (π : Preference) (t u : Data) → MeanOne π t u → AloneUnused π t u t u
alone_unused π t u both =
    let back : MeanOne π u t =
    record { left_tree = both.right_tree; right_tree = both.left_tree; left = both.right; right = both.left; same = sym both.same } in
    record {
      left = alone_left π t u both;
      right = λ f o p b h k related is is'. alone_left π u t back f p o b k h (counterpart_back π t u f o p related) is' is;
    }

-- ---- accepted reports that mean the same say the same, and so two preferences agree on which mean the same

pub meaning_says : MeaningTheSameSaysTheSame
meaning_says π t u tree tree' accepted accepted' same =
    let both : MeanOne π t u = record { left_tree = tree; right_tree = tree'; left = accepted; right = accepted'; same = same } in
    record { there = there π t u both []; back = back π t u both []; same = all_says π t u both [] t u (alone_unused π t u both) }

pub says_and_means : SayingAndMeaningAgree
says_and_means π t u tree tree' accepted accepted' =
    (meaning_says π t u tree tree' accepted accepted', λ same. sym (saying_the_same_means_the_same π t u tree tree' accepted same))

pub preferences_agree : PreferencesAgree
preferences_agree π ρ t u tree tree' one other one' other' = (
  λ same. sym (saying_the_same_means_the_same ρ t u tree tree' one' (meaning_says π t u tree tree' one other same)),
  λ same. sym (saying_the_same_means_the_same π t u tree tree' one (meaning_says ρ t u tree tree' one' other' same)),
)
