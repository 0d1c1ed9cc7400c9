-- Canonical reports that mean the same are equal, since they say the same.
use Rattle.erd_normal.proofs.Common.{◌≡◌, ℕ, Bool, true, false, List, [], Some, None, sym, refl, ap, ◌∙◌, subst, Data, array, Family, family, Role, role}
use Rattle.erd_normal.proofs.Common.{MemberKind, kind, Step, list_of_items_exact, position_of, Within-root, wanted_within, unrepeated, within-tree, Within}
use Rattle.erd_normal.proofs.Common.{ShapeFault, NoneOf, entries_of, Asked, asked, asked_at, Want, Member, Object, Reference, no_shape_fault, one_object}
use Rattle.erd_normal.proofs.Common.{has_keys, Preference, Placed, contests, selections_of_contest, objects, IsObject, id_of, key_set, content_of}
use Rattle.erd_normal.proofs.Common.{object_record, keys_named, kind_wanted, IsCanonical, ReferencesAgree, ObjectsAgree, CanonicalIsUnique, MeanAlike, Sides}
use Rattle.erd_normal.proofs.Common.{NamesAgree, HaveSameNames, In-flat_map, In-flat_map_from, In-from_contains, contains_from_In}
use Rattle.erd_normal.proofs.same.complete.Complete.{all_says, classes_same, members_value, none_aligned, two_say, within_t, within_u}
use Rattle.erd_normal.proofs.same.complete.Counterparts.{MeanOne, references_matched, TextsTied}
use Rattle.erd_normal.proofs.unique.SameTrees.{same_equal, entries_equal, sets_equal, ids_alike, none_alone, referring_to_all, closed_sides, one_text}
use Rattle.erd_normal.proofs.same.complete.Values.{leaves}
use Rattle.erd_normal.proofs.lists.Matched.{paired_equal}
use Rattle.erd_normal.proofs.same.Related.{entries_paired, Stands, matched_within_both, paired_within_both}
use Rattle.erd_normal.proofs.same.complete.Contents.{content_says}
use Rattle.erd_normal.proofs.same.complete.Texts.{by_name, texts_tied}

pub mean_one : (π : Preference) (t u : Data) → MeanAlike π t u → MeanOne π t u
mean_one π t u alike =
    record { left_tree = alike.left_tree; right_tree = alike.right_tree; left = alike.left.accepted; right = alike.right.accepted; same = alike.same }

stands_root : (t : Data) → Stands t (Object role.Report) t
stands_root t = record { repeated = false; inside = Within-root t }

-- canonical trees that mean the same are equal
pub unique : CanonicalIsUnique
unique π t u alike =
    let both : MeanOne π t u = mean_one π t u alike in
    same_equal π t u alike.left alike.right both (Object role.Report) t u (stands_root t) (stands_root u)
    (all_says π t u both [] (referring_to_all t) (referring_to_all u) (none_alone π t u alike.left alike.right both))

-- ---- in two canonical reports that mean the same, objects with equal records and equal `@id` texts are equal

-- a selection has an `@id`
selection_id : (π : Preference) (t : Data) → IsCanonical π t → (o : Placed) → IsObject t family.Selection o → (s : List ℕ) × (id_of o.value ≡ Some s)
selection_id π t canonical o h =
    let c = In-flat_map_from selections_of_contest (contests t) o (In-from_contains o (objects family.Selection t) h) in
    let i = position_of (selections_of_contest c.0) o c.2 in
    (_, canonical.ids.selections i.0 c.0 o (contains_from_In c.0 (contests t) c.1) i.1)

abbrev style_role : Role
style_role = role.OfFamily family.Style

module _ (π : Preference) (t u : Data) (alike : MeanAlike π t u) where
  both : MeanOne π t u
  both = mean_one π t u alike

  -- objects with one `@id` are one
  one_by_id : (f : Family) (one other : Placed) → IsObject t f one → IsObject u f other → id_of one.value ≡ id_of other.value → {s : List ℕ} → id_of one.value
      ≡ Some s → one.value ≡ other.value
  one_by_id f one other h k ids {s} is =
      ap (λ o. o.value) (one_object π t alike.left.accepted f f one other s (In-from_contains one (objects f t) h)
      (In-from_contains other (objects f t) (subst (λ x. IsObject x f other) (sym (unique π t u alike)) k)) is (sym ids ∙ is))

  -- styles have no `@id`, and their records leave out nothing
  style_alike : (one other : Placed) → IsObject t family.Style one → IsObject u family.Style other → object_record π t style_role one.value
      ≡ object_record π u style_role other.value → id_of one.value ≡ None → id_of other.value ≡ None → one.value ≡ other.value
  style_alike one other h k records none none' =
      let alone = none_alone π t u alike.left alike.right both in
      let l = referring_to_all t in
      let r = referring_to_all u in
      let w = within_t π t u both [] l r alone family.Style one (In-from_contains one (objects family.Style t) h) in
      let w' = within_u π t u both [] l r alone family.Style other (In-from_contains other (objects family.Style u) k) in
      same_equal π t u alike.left alike.right both (Object style_role) one.value other.value (record { repeated = false; inside = w })
      (record { repeated = false; inside = w' })
      (two_say π t u both [] l r alone [] style_role one.value other.value w w' (classes_same π t u both [] l r alone style_role one.value other.value records)
      (leaves family.Style)
      (λ two. none_aligned π t u both [] l r alone style_role two.class two.ms two.ns two.at two.at' (ap id_of (sym two.is) ∙ none)
      (ap id_of (sym two.is') ∙ none'))
      (λ two n i. elim i [ ])
      (λ two n g. members_value π t u both [] l r alone style_role two.class two.ms two.ns two.at two.at'
      (sym (ap (object_record π t style_role) two.is) ∙ records ∙ ap (object_record π u style_role) two.is') n g))

  object_alike : (f : Family) (one other : Placed) → has_keys f ≡ true → IsObject t f one → IsObject u f other
      → object_record π t (role.OfFamily f) one.value ≡ object_record π u (role.OfFamily f) other.value → id_of one.value ≡ id_of other.value
      → one.value ≡ other.value
  object_alike family.Style one other keyed h k records ids =
      let none : id_of one.value ≡ None = alike.left.ids.families family.Style one keyed h in style_alike one other h k records none (sym ids ∙ none)
  object_alike family.Selection one other keyed h k records ids = cc
  object_alike f one other keyed h k records ids = one_by_id f one other h k ids (alike.left.ids.families f one keyed h)

pub objects_agree : ObjectsAgree
objects_agree π t u alike = record {
  objects = object_alike π t u alike;
  selections = λ one other h k records ids. one_by_id π t u alike family.Selection one other h k ids (selection_id π t alike.left one h).1;
}

-- ---- two canonical reports that mean the same write references, sets of them and contents alike

-- what is asked of a member of a kind
pub member_wanted : (w : Want) (k : MemberKind) → kind_wanted w ≡ Some k → (r : Bool) × (w ≡ Member k r)
member_wanted (Member l r) k e = let h : l ≡ k = cc in (r, ap (λ x. Member x r) h)
member_wanted _ k e = cc

-- a member of a kind repeats nothing
within_kind : (t : Data) → NoneOf (ShapeFault t) → (p : List Step) (a : Asked) (k : MemberKind) → asked_at t p ≡ Some a → kind_wanted a.want ≡ Some k
    → (r : Bool) × Within t (asked (Member k r) a.value)
within_kind t clean p a k is e =
    let m = member_wanted a.want k e in
    let stands : Within t (record { want = a.want; value = a.value; repeated = a.repeated }) = record { place = p; is = is } in (
      m.0,
      unrepeated t clean (Member k m.0) a.value a.repeated refl
          (subst (λ w. Within t (record { want = w; value = a.value; repeated = a.repeated })) m.1 stands),
    )

module _ (π : Preference) (t u : Data) (alike : MeanAlike π t u) where
  abbrev m : Sides
  m = closed_sides π t u alike.left alike.right (mean_one π t u alike)

  tied : TextsTied π t u m
  tied = texts_tied π t u (mean_one π t u alike) [] (referring_to_all t) (referring_to_all u)

  set_alike : (f : Family) (r r' : Bool) (v w : Data) → has_keys f ≡ true → Within t (asked (Member (kind.Many f) r) v)
      → Within u (asked (Member (kind.Many f) r') w) → key_set (keys_named π t f (entries_of v)) ≡ key_set (keys_named π u f (entries_of w)) → v ≡ w
  set_alike f r r' (array ds) (array es) h inside inside' same =
      let st : Stands t (Member (kind.Many f) r) (array ds) = record { repeated = false; inside = inside } in
      let st' : Stands u (Member (kind.Many f) r') (array es) = record { repeated = false; inside = inside' } in
      ap array (sets_equal π t u alike.left alike.right (mean_one π t u alike) (Member (kind.Many f) r) (Member (kind.Many f) r') (kind.Many f) r r' ds
      es refl refl refl st st'
      (matched_within_both (λ x y. x ≡ y) (entries_equal π t u alike.left alike.right (mean_one π t u alike) (Member (kind.Many f) r) (Member (kind.Many f) r')
      (Reference f) ds es refl refl st st')
      (references_matched π t u m alike.left.accepted alike.right.accepted tied f h r r' ds es inside inside' same)))
  set_alike f r r' v w h inside inside' same =
      let x = wanted_within t (no_shape_fault π t alike.left.accepted) (asked (Member (kind.Many f) r) v) inside in
      let y = wanted_within u (no_shape_fault π u alike.right.accepted) (asked (Member (kind.Many f) r') w) inside' in
      cc

  content_alike : (r r' : Bool) (v w : Data) → Within t (asked (Member kind.Content r) v) → Within u (asked (Member kind.Content r') w) → content_of π t v
      ≡ content_of π u w → v ≡ w
  content_alike r r' (array ds) (array es) inside inside' same =
      ap array (list_of_items_exact ds es (paired_equal (λ x y e. e) (paired_within_both (λ x y. x ≡ y)
      (entries_equal π t u alike.left alike.right (mean_one π t u alike) (Member kind.Content r) (Member kind.Content r') (Object role.Content) ds es refl refl
      (record { repeated = false; inside = inside }) (record { repeated = false; inside = inside' }))
      (entries_paired m (content_says π t u m alike.left.accepted alike.right.accepted tied r r' ds es
      (within-tree t (asked (Member kind.Content r) (array ds)) alike.left_tree inside)
      (within-tree u (asked (Member kind.Content r') (array es)) alike.right_tree inside') inside inside' same)))))
  content_alike r r' v w inside inside' same =
      let x = wanted_within t (no_shape_fault π t alike.left.accepted) (asked (Member kind.Content r) v) inside in
      let y = wanted_within u (no_shape_fault π u alike.right.accepted) (asked (Member kind.Content r') w) inside' in
      cc

pub references_agree : ReferencesAgree
references_agree π t u alike = record {
  references = λ f a b k h e g. one_text π t u alike.left alike.right (mean_one π t u alike) a b ((tied π t u alike).objects f a b k h e g);
  sets = λ f p q a b h is is' e g same.
      let w = within_kind t (no_shape_fault π t alike.left.accepted) p a (kind.Many f) is e in
      let w' = within_kind u (no_shape_fault π u alike.right.accepted) q b (kind.Many f) is' g in
      set_alike π t u alike f w.0 w'.0 a.value b.value h w.1 w'.1 same;
  selections = λ k n one other a b.
      let c = In-from_contains a.contest (objects family.Contest t) a.contest_stands in
      let d = In-from_contains b.contest (objects family.Contest u) b.contest_stands in
      let x = In-from_contains one (selections_of_contest a.contest) a.stands in
      let y = In-from_contains other (selections_of_contest b.contest) b.stands in
      ids_alike π t u alike.left alike.right (mean_one π t u alike) family.Selection one other
      (In-flat_map selections_of_contest one a.contest (contests t) c x) (In-flat_map selections_of_contest other b.contest (contests u) d y)
      (by_name refl a.contest b.contest c d (a.contest_key ∙ sym b.contest_key) x y (a.its_name ∙ sym b.its_name));
  contents = λ p q a b is is' e g same.
      let w = within_kind t (no_shape_fault π t alike.left.accepted) p a kind.Content is e in
      let w' = within_kind u (no_shape_fault π u alike.right.accepted) q b kind.Content is' g in
      content_alike π t u alike w.0 w'.0 a.value b.value w.1 w'.1 same;
}

-- canonical reports that mean the same have the same keys, names and `@id` texts, in the same order
pub names_agree : NamesAgree
names_agree π t u alike = subst (HaveSameNames π t) (unique π t u alike) (record { election_keys = refl; keys = λ f h. refl; names = refl; ids = λ f. refl })
