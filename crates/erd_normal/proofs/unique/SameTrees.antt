-- Canonical reports that mean the same: their `@id`s are one, and where they say the same they are equal.
use Rattle.erd_normal.proofs.Common.{◌≡◌, ℕ, zero, suc, true, false, List, [], map, slice_get, Some, None, codes, Option, option_map, find, filter_map}
use Rattle.erd_normal.proofs.Common.{option_and_then, bytes_eq, is_lt, Ordering, sym, refl, ap, ◌∙◌, subst, options_total, IsStrictlySortedBy, option_cmp}
use Rattle.erd_normal.proofs.Common.{option_map_or, Data, get_member, as_str, Class, class, Family, family, role, kind, object_in, ObjectIn, position_of}
use Rattle.erd_normal.proofs.Common.{member_within, Within, want_by_kind, entries_of, entries_at, class_of_object, asked, Member, Object, no_shape_fault}
use Rattle.erd_normal.proofs.Common.{values-placed_entries, stands, contest_selections, one_named, has_id-Some, has_keys, key_cmp, Preference, key_of, rank_of}
use Rattle.erd_normal.proofs.Common.{Placed, selections_of_contest, objects, id_of, has_id, rising_list, key_named, keys_named, keys_of_selection, is_write_in}
use Rattle.erd_normal.proofs.Common.{order_of_selection, label_of_selection, selection_role, name_of, name_cmp, name_cmp_total, Key, canonical_id}
use Rattle.erd_normal.proofs.Common.{canonical_selection_id, IsCanonical, Bool, ◌∷◌, flat_map, same_Some, null, string, array, object, Items, no_items, item}
use Rattle.erd_normal.proofs.Common.{no_members, member, items_of, text_of_class, families, At, Name, list_of_items-place, text_exact, text_itself}
use Rattle.erd_normal.proofs.Common.{list_of_items-items_of, list_of_items, is_repeated, Reference, Sides, NameOneThing, IsUnused, In, In-flat_map}
use Rattle.erd_normal.proofs.Common.{In-from_contains, In-map, contains_from_In, in_at, ◌≤◌, arith, IsTotalOrder, Members, depth, items_depth, members_depth}
use Rattle.erd_normal.proofs.Common.{get, is_envelope_name, MemberKind, list_of_items_exact, members_unique, get_member-depth, rising_unique, is_empty_array}
use Rattle.erd_normal.proofs.Common.{AreMembers, scope_inside, want_of_name, entry_want, is_table_set, Want, compact_cmp, key_cmp_total, compact_cmp_total}
use Rattle.erd_normal.proofs.Common.{kind_wanted, RisesAs, HasCanonicalEnvelope, is_envelope, an_empty_array, of_the_envelope, an_unused_id, a_null, a_flag}
use Rattle.erd_normal.proofs.Common.{a_number, a_text, an_id, a_list, a_set, an_object, MayBeAbsent, Same, SameMembers, IsPermutation-sym, In-all, reordered-In}
use Rattle.std.proofs.lemmas.Simd.{map-map}
use Rattle.erd_normal.proofs.lists.Matched.{AtMostOne, Matched, apart_distinct, matched_count, matched_find, matched_mapped, one_if_apart, said_same}
use Rattle.erd_normal.proofs.lists.Matched.{matched_rising, Paired, none, more, matched_equal, paired_equal}
use Rattle.erd_normal.proofs.same.IdsOfObjects.{family_values, object_values, by_one_id, have_one_id, ids_distinct, owner_found, IsId, asked_id, part_at}
use Rattle.erd_normal.proofs.same.IdsOfObjects.{IsPart}
use Rattle.erd_normal.proofs.same.Related.{matched_within_both, Stands, entry_stands, member_stands, stands_tree, entries_matched, paired_within_both}
use Rattle.erd_normal.proofs.same.Related.{entries_paired}
use Rattle.erd_normal.proofs.same.complete.Counterparts.{SelectionsAlike, alike_by_key, family_matched, name_at, selection_name, selections_matched, MeanOne}
use Rattle.erd_normal.proofs.same.complete.Counterparts.{entry_key}
use Rattle.erd_normal.proofs.same.complete.Texts.{Counterpart, by_key, by_name, Couple, couple_back, couple_there, sides}
use Rattle.erd_normal.proofs.lists.Lists.{is_family, listed_depth}
use Rattle.erd_normal.proofs.same.complete.Complete.{AloneUnused}
use Rattle.erd_normal.proofs.same.Lookups.{Aligned, both_there, not_both, lookups, scope_same, steady_same, of_report}
use Rattle.erd_normal.proofs.inside.Homes.{of_envelope}

-- ---- counterparts in canonical reports that mean the same have one `@id`, and so a text names one key in both

-- the fellow of an entry of a paired list
fellow_at : {A B : Type 0} (R : A → B → Type 0) {xs : List A} {ys : List B} → Paired R xs ys → (i : ℕ) (x : A) → slice_get xs i ≡ Some x → (y : B)
    × (slice_get ys i ≡ Some y) × R x y
fellow_at R none i x e = cc
fellow_at R (more {x = z} {y = y} r rest) zero x e = let same : z ≡ x = cc in (y, refl, subst (λ a. R a y) same r)
fellow_at R (more r rest) (suc i) x e = fellow_at R rest i x e

nothing_rises : {K : Type 0} (cmp : K → K → Ordering) → IsStrictlySortedBy cmp []
unfolding IsStrictlySortedBy
nothing_rises cmp = tt

-- the selections of a contest rise by their names
names_rise : (π : Preference) (t : Data) → IsCanonical π t → (c : Placed) → In c (objects family.Contest t) → IsStrictlySortedBy (option_cmp name_cmp)
    (map (name_at π t) (selections_of_contest c))
names_rise π t canonical c h =
    subst (IsStrictlySortedBy (option_cmp name_cmp))
    (sym (sym (map-map (name_of π t) (λ (x : Placed). x.value) (selections_of_contest c))
    ∙ ap (map (name_of π t)) (values-placed_entries (codes "ContestSelection") c ∙ ap (entries_at (codes "ContestSelection")) o.is_object)))
    (at (get_member (codes "ContestSelection") o.ms) refl)
  where
    o : ObjectIn t (role.OfFamily family.Contest) c.value
    o = object_in t (no_shape_fault π t canonical.accepted) (role.OfFamily family.Contest) c.value
        (record { place = c.place; is = stands π t canonical.accepted family.Contest c h })

    at : (x : Option Data) → get_member (codes "ContestSelection") o.ms ≡ x → IsStrictlySortedBy (option_cmp name_cmp)
        (map (name_of π t) (option_map_or entries_of x []))
    at None e = nothing_rises (option_cmp name_cmp)
    at (Some v) e =
        let w : Within t (asked (Member (kind.Keyed family.Selection) false) v) =
        subst (λ x. Within t (asked x v)) (want_by_kind o.class (codes "ContestSelection") (kind.Keyed family.Selection)
        (contest_selections o.class o.role) refl)
        (member_within t (no_shape_fault π t canonical.accepted) (Object (role.OfFamily family.Contest)) (role.OfFamily family.Contest) o.ms o.class
        (codes "ContestSelection") v o.at.asks o.at.among refl o.at.inside e) in
        canonical.in_order w.place (asked (Member (kind.Keyed family.Selection) false) v) (kind.Keyed family.Selection) w.is refl

module _ (π : Preference) (t u : Data) (canonical : IsCanonical π t) (canonical' : IsCanonical π u) (both : MeanOne π t u) where
  -- a key has one rank in both
  one_rank : (f : Family) → has_keys f ≡ true → (k l : Option Key) → k ≡ l → rank_of π t f k ≡ rank_of π u f l
  one_rank f keyed k l same =
      ap (rank_of π t f) same
      ∙ matched_count (λ (x : Placed). is_lt (option_cmp key_cmp (key_of π x.value) l)) (λ (x : Placed). is_lt (option_cmp key_cmp (key_of π x.value) l))
      (λ x y r. ap (λ k. is_lt (option_cmp key_cmp k l)) r.key) (family_matched π t u both f keyed)

  pub ids_alike : (f : Family) (o p : Placed) → In o (objects f t) → In p (objects f u) → Counterpart π t u f o p → id_of o.value ≡ id_of p.value
  ids_alike f o p h k (by_key keyed same) =
      canonical.ids.families f o keyed (contains_from_In o (objects f t) h) ∙ ap (canonical_id f) (one_rank f keyed _ _ same)
      ∙ sym (canonical'.ids.families f p keyed (contains_from_In p (objects f u) k))
  ids_alike f o p h k (by_name is c d i j keys x y names) =
      let paired : Paired (SelectionsAlike π t u) (selections_of_contest c) (selections_of_contest d) =
      matched_rising (option_cmp name_cmp) (options_total name_cmp_total) (name_at π t) (name_at π u) (λ x y r. r.name) (selections_of_contest c)
      (selections_of_contest d)
      (names_rise π t canonical c i) (names_rise π u canonical' d j)
      (selections_matched π t u both c d i j (alike_by_key π t u both family.Contest refl c d i j keys)) in
      let n = position_of (selections_of_contest c) o x in
      let q = fellow_at (SelectionsAlike π t u) paired n.0 o n.1 in
      let name = selection_name π u both.right d p j y in
      let one : q.0 ≡ p = one_named π u both.right d q.0 p name.0 j (in_at (selections_of_contest d) n.0 q.0 q.1) y (sym q.2.name ∙ names ∙ name.1) name.1 in
      canonical.ids.selections n.0 c o (contains_from_In c (objects family.Contest t) i) n.1 ∙ ap (λ r. Some (canonical_selection_id r n.0))
      (one_rank family.Contest refl _ _ keys)
      ∙ sym (canonical'.ids.selections n.0 d q.0 (contains_from_In d (objects family.Contest u) j) q.1) ∙ ap (λ (z : Placed). id_of z.value) one

  -- ---- what texts name

  -- two values with one `@id` and one key
  abbrev NamedAlike : Data → Data → Type 0
  NamedAlike d e = (id_of d ≡ id_of e) × (key_of π d ≡ key_of π e)

  values_alike : (f : Family) → has_keys f ≡ true → Matched NamedAlike (family_values f t) (family_values f u)
  values_alike f keyed =
      subst (λ ds. Matched NamedAlike ds (family_values f u)) (object_values f t)
      (subst (Matched NamedAlike (map (λ (o : Placed). o.value) (objects f t))) (object_values f u)
      (matched_mapped (λ (o : Placed). o.value) (λ (o : Placed). o.value) (λ x y h. h)
      (matched_within_both (λ o p. NamedAlike o.value p.value) (λ o p i j alike. (ids_alike f o p i j (by_key keyed alike.key), alike.key))
      (family_matched π t u both f keyed))))

  pub one_key : (f : Family) (s : List ℕ) → has_keys f ≡ true → key_named π t f s ≡ key_named π u f s
  one_key f s keyed =
      let few : AtMostOne (has_id s) (family_values f t) =
      one_if_apart (has_id s) (family_values f t)
      (apart_distinct (has_id s) have_one_id (family_values f t) (λ x y h k. by_one_id x y s (has_id-Some s x h) (has_id-Some s y k))
      (ids_distinct π t canonical.accepted f)) in
      ap (option_and_then (key_of π)) (owner_found t f s)
      ∙ said_same (key_of π) (key_of π) (λ x y h. h.1) (find (has_id s) (family_values f t)) (find (has_id s) (family_values f u))
      (matched_find (has_id s) (has_id s) (λ x y h. ap (λ o. option_map_or (bytes_eq s) o false) h.0) (values_alike f keyed) few)
      ∙ sym (ap (option_and_then (key_of π)) (owner_found u f s))

  keys_alike : (f : Family) → has_keys f ≡ true → (ds : List Data) → keys_named π t f ds ≡ keys_named π u f ds
  keys_alike f keyed ds = λ i. filter_map (λ r. option_and_then (λ s. one_key f s keyed i) (as_str r)) ds

  selection_keys : (c : Class) (d : Data) → keys_of_selection (key_named π t) c d ≡ keys_of_selection (key_named π u) c d
  selection_keys class.CandidateSelection d = keys_alike family.Candidate refl (entries_at (codes "CandidateIds") d)
  selection_keys class.PartySelection d = keys_alike family.Party refl (entries_at (codes "PartyIds") d)
  selection_keys c d = refl

  -- and so a selection has one name in both
  pub one_name : (d : Data) → name_of π t d ≡ name_of π u d
  one_name d =
      λ i. option_map
      (λ c. record {
        class = c;
        keys = rising_list key_cmp (selection_keys c d i);
        write_in = is_write_in c d;
        order = order_of_selection d;
        label = label_of_selection c d;
        identifier = key_of π d;
      })
      (class_of_object selection_role d)

-- ---- what canonical form closes: texts that stand for one another are equal, and no `@id` may be absent

-- the `@id` of an object as a reference
abbrev reference_to : Data → Data
reference_to d = option_map_or string (id_of d) null

abbrev references_to_all : Data → List Data
references_to_all t = flat_map (λ f. map reference_to (family_values f t)) families

-- a report with one unit, which is made of all that t has
pub referring_to_all : Data → Data
referring_to_all t =
    object (member (codes "@type") (string (text_of_class class.ElectionReport)) (member (codes "GpUnit") (array (item
    (object (member (codes "@type") (string (text_of_class class.ReportingUnit))
    (member (codes "ComposingGpUnitIds") (array (items_of (references_to_all t))) no_members))) no_items)) no_members))

pub all_used : (t : Data) (s : List ℕ) → IsId t s → IsUnused (referring_to_all t) s → ⊥
unfolding referring_to_all
all_used t s id unused =
    let r : In (reference_to id.value) (references_to_all t) =
    In-flat_map (λ f. map reference_to (family_values f t)) (reference_to id.value) id.family families
    (In-from_contains id.family families (is_family id.family)) (In-map reference_to id.value (family_values id.family t) id.stands) in
    let ds : Items = items_of (references_to_all t) in
    let listed : In (string s) (list_of_items ds) = subst (λ d. In d (list_of_items ds)) (ap (λ o. option_map_or string o null) id.is)
    (subst (λ xs. In (reference_to id.value) xs) (sym (list_of_items-items_of (references_to_all t))) r) in
    let p = list_of_items-place ds (string s) listed in
    unused (Name (codes "GpUnit") ∷ At 0 ∷ Name (codes "ComposingGpUnitIds") ∷ At p.0 ∷ [])
    (record { want = Reference family.Unit; value = string s; repeated = is_repeated ds p.0 (string s) }) (rw p.1) refl refl

-- ---- two canonical reports

module _ (π : Preference) (t u : Data) (canonical : IsCanonical π t) (canonical' : IsCanonical π u) (both : MeanOne π t u) where
  -- the two reports, by functions of texts that leave each `@id` as it is, and with none of them unused
  abbrev pub closed_sides : Sides
  closed_sides = sides π t u both [] (referring_to_all t) (referring_to_all u)

  one_couple : (c : Couple π t u) → c.text ≡ c.other_text
  one_couple c =
      same_Some c.text c.other_text (sym c.is ∙ ids_alike π t u canonical canonical' both c.family c.one c.other c.one_stands c.other_stands
      c.related ∙ c.other_is)

  other_than : (s s' : List ℕ) → bytes_eq s s' ≡ false → s ≡ s' → ⊥
  other_than s s' e h = let x : true ≡ false = sym (text_itself s) ∙ ap (bytes_eq s) h ∙ e in cc

  pub one_text : (s s' : List ℕ) → NameOneThing closed_sides s s' → s ≡ s'
  one_text s s' h = at (bytes_eq s []) refl (bytes_eq s' []) refl
    where
      at : (a : Bool) → bytes_eq s [] ≡ a → (b : Bool) → bytes_eq s' [] ≡ b → s ≡ s'
      at true e true f = text_exact s [] e ∙ sym (text_exact s' [] f)
      at false e b f = let c = couple_back π t u both [] s s' h.1 (other_than s [] e) in sym c.1 ∙ one_couple c.0 ∙ c.2
      at true e false f = let c = couple_there π t u both [] s s' h.0 (other_than s' [] f) in sym c.1 ∙ one_couple c.0 ∙ c.2

  -- an object has an `@id` if its counterpart has
  pub none_alone : AloneUnused π t u (referring_to_all t) (referring_to_all u)
  none_alone = record {
    left = λ f o p a h k related is is'. let e : Some a ≡ None = sym is ∙ ids_alike π t u canonical canonical' both f o p h k related ∙ is' in cc;
    right = λ f o p b h k related is is'. let e : Some b ≡ None = sym is' ∙ sym (ids_alike π t u canonical canonical' both f o p h k related) ∙ is in cc;
  }

-- ---- the envelopes of canonical reports are equal, member by member

pub envelope_equal : (t u : Data) → HasCanonicalEnvelope t → HasCanonicalEnvelope u → (k : List ℕ) → is_envelope_name k ≡ true → get k t ≡ get k u
envelope_equal t u a b =
    of_envelope (λ k. get k t ≡ get k u) (a.format ∙ sym b.format) (a.date ∙ sym b.date) (a.issuer ∙ sym b.issuer) (a.abbreviation ∙ sym b.abbreviation)
    (a.application ∙ sym b.application) (a.notes ∙ sym b.notes)
    (a.start ∙ sym b.start) (a.end ∙ sym b.end) (a.identifiers ∙ sym b.identifiers)

-- ---- canonical reports that say the same are equal

-- outside its envelope a canonical report has no member that may be absent, if each `@id` is used
none_absent : (π : Preference) (t l : Data) → IsCanonical π t → ((s : List ℕ) → IsId t s → IsUnused l s → ⊥) → (w : Want) (ms : Members)
    → Stands t w (object ms) → (n : List ℕ) (d : Data) → get_member n ms ≡ Some d
    → is_envelope (scope_inside w (object ms)) n ≡ false → MayBeAbsent l (scope_inside w (object ms)) n d → ⊥
none_absent π t l canonical used w ms st n d found other (an_empty_array k r asks is e) =
    let x = member_stands t w ms st n (Member k r) d asks found in
    let full : is_empty_array d ≡ false = canonical.no_empty_array x.inside.place (record { want = Member k r; value = d; repeated = x.repeated }) k x.inside.is
    refl in
    let empty : true ≡ false = sym (ap is_empty_array e) ∙ full in
    cc
none_absent π t l canonical used w ms st n d found other (of_the_envelope e) = let h : true ≡ false = sym e ∙ other in cc
none_absent π t l canonical used w ms st n d found other (an_unused_id id r asks e unused) =
    let x = member_stands t w ms st n (Member kind.Identity r) d asks found in
    used id (asked_id t x.inside.place (record { want = Member kind.Identity r; value = d; repeated = x.repeated }) r id x.inside.is refl e) unused

-- ---- sets

-- equal entries in some order stand in one order, where both lists rise by one key
by_one_order : {K : Type 0} (cmp : K → K → Ordering) → IsTotalOrder cmp → (key key' : Data → K) → ((d : Data) → key d ≡ key' d) → (xs ys : List Data)
    → IsStrictlySortedBy cmp (map key xs) → IsStrictlySortedBy cmp (map key' ys) → Matched (λ x y. x ≡ y) xs ys → xs ≡ ys
by_one_order cmp order key key' same xs ys rise rise' h =
    paired_equal (λ x y e. e) (matched_rising cmp order key key' (λ x y e. same x ∙ ap key' e) xs ys rise rise' h)

by_texts : (xs ys : List Data) → IsStrictlySortedBy compact_cmp xs → IsStrictlySortedBy compact_cmp ys → Matched (λ x y. x ≡ y) xs ys → xs ≡ ys
by_texts xs ys rise rise' h =
    let r = matched_equal (λ x y e. e) h in rising_unique compact_cmp compact_cmp_total xs ys rise rise' (λ d i. reordered-In d r i)
    (λ d i. reordered-In d (IsPermutation-sym _ _ r) i)

module _ (π : Preference) (t u : Data) (canonical : IsCanonical π t) (canonical' : IsCanonical π u) (both : MeanOne π t u) where
  by_keys : (xs ys : List Data) → IsStrictlySortedBy (option_cmp key_cmp) (map (key_of π) xs) → IsStrictlySortedBy (option_cmp key_cmp) (map (key_of π) ys)
      → Matched (λ x y. x ≡ y) xs ys → xs ≡ ys
  by_keys = by_one_order (option_cmp key_cmp) (options_total key_cmp_total) (key_of π) (key_of π) (λ d. refl)

  in_order : (k : MemberKind) (r : Bool) (xs ys : List Data) → is_table_set (Member k r) ≡ true → ((f : Family) → k ≡ kind.Many f → has_keys f ≡ true)
      → RisesAs π t k xs → RisesAs π u k ys → Matched (λ x y. x ≡ y) xs ys → xs ≡ ys
  in_order (kind.Keyed family.Selection) r xs ys set keyed rise rise' h =
      by_one_order (option_cmp name_cmp) (options_total name_cmp_total) (name_of π t) (name_of π u)
      (one_name π t u canonical canonical' both) xs ys rise rise' h
  in_order (kind.Keyed f) r xs ys set keyed rise rise' h = by_keys xs ys rise rise' h
  in_order kind.Elections r xs ys set keyed rise rise' h = by_keys xs ys rise rise' h
  in_order kind.Identifiers r xs ys set keyed rise rise' h = by_texts xs ys rise rise' h
  in_order kind.Languages r xs ys set keyed rise rise' h = by_texts xs ys rise rise' h
  in_order (kind.Many f) r xs ys set keyed rise rise' h =
      by_one_order (option_cmp key_cmp) (options_total key_cmp_total) (entry_key π t f) (entry_key π u f)
      (λ d i. option_and_then (λ s. one_key π t u canonical canonical' both f s (keyed f refl) i) (as_str d)) xs ys rise rise' h
  in_order k r xs ys set keyed rise rise' h = cc

  -- what the table asks of references to a family
  many_keyed : (w : Want) (d : Data) → Stands t w d → (k : MemberKind) (r : Bool) → w ≡ Member k r → (f : Family) → k ≡ kind.Many f → has_keys f ≡ true
  many_keyed w d st k r is f e = subst (λ x. IsPart t x d) (is ∙ ap (λ x. Member x r) e)
      (part_at t st.inside.place (record { want = w; value = d; repeated = st.repeated }) st.inside.is)

  -- sets of equal entries are equal
  pub sets_equal : (w w' : Want) (k : MemberKind) (r r' : Bool) (ds es : Items) → w ≡ Member k r → w' ≡ Member k r' → is_table_set w ≡ true
      → Stands t w (array ds) → Stands u w' (array es) → Matched (λ x y. x ≡ y) (list_of_items ds) (list_of_items es) → ds ≡ es
  sets_equal w w' k r r' ds es is is' set st st' h =
      list_of_items_exact ds es (in_order k r (list_of_items ds) (list_of_items es) (subst (λ x. is_table_set x ≡ true) is set)
      (many_keyed w (array ds) st k r is)
      (canonical.in_order st.inside.place (record { want = w; value = array ds; repeated = st.repeated }) k st.inside.is (ap kind_wanted is))
      (canonical'.in_order st'.inside.place (record { want = w'; value = array es; repeated = st'.repeated }) k st'.inside.is (ap kind_wanted is'))
      h)

  set_kind : (w : Want) → is_table_set w ≡ true → (k : MemberKind) × (r : Bool) × (w ≡ Member k r)
  set_kind (Member k r) set = (k, r, refl)
  set_kind w set = cc

  -- ---- values

  abbrev m : Sides
  m = closed_sides π t u canonical canonical' both

  -- values nested less deep that say the same are equal
  abbrev Below : ℕ → Type 0
  Below n = (w : Want) (d e : Data) → suc (depth d) ≤ n → Stands t w d → Stands u w e → Same m (Some w) d e → d ≡ e

  entry_equal : (n : ℕ) → Below n → (w w' : Want) (o : Option Want) → entry_want w ≡ o → entry_want w' ≡ o → (ds es : Items) → suc (items_depth ds) ≤ n
      → Stands t w (array ds) → Stands u w' (array es)
      → (x y : Data) → In x (list_of_items ds) → In y (list_of_items es) → Same m o x y → x ≡ y
  entry_equal n below w w' None asks asks' ds es small st st' x y i j h = steady_same m h refl
  entry_equal n below w w' (Some v) asks asks' ds es small st st' x y i j h =
      let low : depth x ≤ items_depth ds = In-all (λ d. depth d ≤ items_depth ds) x (list_of_items ds) (listed_depth ds (items_depth ds) (omega arith)) i in
      below v x y (omega (arith, low, small)) (entry_stands t w v (array ds) asks st x i) (entry_stands u w' v (array es) asks' st' y j) h

  module _ (n : ℕ) (below : Below n) (w : Want) (ms ns : Members) (small : suc (members_depth ms) ≤ n) (st : Stands t w (object ms))
      (st' : Stands u w (object ns)) (scopes : scope_inside w (object ms) ≡ scope_inside w (object ns)) where
    value_at : (k : List ℕ) (o : Option Want) → want_of_name (scope_inside w (object ms)) k ≡ o → (d e : Data) → get_member k ms ≡ Some d → get_member k ns
        ≡ Some e → Same m o d e → d ≡ e
    value_at k None asks d e is is' h = steady_same m h refl
    value_at k (Some v) asks d e is is' h =
        let low : depth d ≤ members_depth ms = get_member-depth k d ms is in
        below v d e (omega (arith, low, small)) (member_stands t w ms st k v d asks is)
        (member_stands u w ns st' k v e (ap (λ s. want_of_name s k) (sym scopes) ∙ asks) is') h

    aligned_equal : (k : List ℕ) (o p : Option Data) → get_member k ms ≡ o → get_member k ns ≡ p → is_envelope (scope_inside w (object ms)) k ≡ false
        → Aligned m (scope_inside w (object ms)) k o p → o ≡ p
    aligned_equal k (Some d) (Some e) is is' other (both_there h) = ap Some (value_at k (want_of_name (scope_inside w (object ms)) k) refl d e is is' h)
    aligned_equal k None None is is' other (not_both h h') = refl
    aligned_equal k (Some d) p is is' other (not_both h h') =
        absurd (none_absent π t (referring_to_all t) canonical (all_used t) w ms st k d is other (h.each d refl))
    aligned_equal k None (Some e) is is' other (not_both h h') =
        absurd (none_absent π u (referring_to_all u) canonical' (all_used u) w ns st' k e is' (ap (λ s. is_envelope s k) (sym scopes) ∙ other)
        (subst (λ s. MayBeAbsent (referring_to_all u) s k e) scopes (h'.each e refl)))

    is_left : w ≡ Object role.Report → object ms ≡ t
    is_left is =
        subst (λ x. IsPart t x (object ms)) is (part_at t st.inside.place (record { want = w; value = object ms; repeated = st.repeated }) st.inside.is)

    is_right : w ≡ Object role.Report → object ns ≡ u
    is_right is =
        subst (λ x. IsPart u x (object ns)) is (part_at u st'.inside.place (record { want = w; value = object ns; repeated = st'.repeated }) st'.inside.is)

    pub members_equal : SameMembers m (scope_inside w (object ms)) ms ns → AreMembers ms → AreMembers ns → (k : List ℕ) → get_member k ms ≡ get_member k ns
    members_equal h tree tree' k = at (is_envelope (scope_inside w (object ms)) k) refl
      where
        at : (b : Bool) → is_envelope (scope_inside w (object ms)) k ≡ b → get_member k ms ≡ get_member k ns
        at true e = let r = of_report w ms k e in ap (get k) (is_left r.report) ∙ envelope_equal t u canonical.envelope canonical'.envelope k r.name
            ∙ ap (get k) (sym (is_right r.report))
        at false e = aligned_equal k (get_member k ms) (get_member k ns) refl refl e (lookups m k h tree tree')

  value_equal : (n : ℕ) → Below n → (w : Want) (d e : Data) → depth d ≤ n → Stands t w d → Stands u w e → Same m (Some w) d e → d ≡ e
  value_equal n below w d e small st st' a_null = refl
  value_equal n below w d e small st st' a_flag = refl
  value_equal n below w d e small st st' a_number = refl
  value_equal n below w d e small st st' (a_text is) = refl
  value_equal n below w d e small st st' (an_id {s = s} {s' = s'} is h) = ap string (one_text π t u canonical canonical' both s s' h)
  value_equal n below w d e small st st' (a_list {ds = ds} {es = es} is h) =
      ap array (list_of_items_exact ds es
      (paired_equal (λ x y e. e) (paired_within_both (λ x y. x ≡ y) (entry_equal n below w w (entry_want w) refl refl ds es small st st')
      (entries_paired m h))))
  value_equal n below w d e small st st' (a_set {ds = ds} {es = es} fs is p h) =
      let k = set_kind w is in
      ap array (sets_equal w w k.0 k.1 k.1 ds es k.2 k.2 is st st'
      (matched_within_both (λ x y. x ≡ y) (entry_equal n below w w (entry_want w) refl refl ds es small st st')
      (entries_matched m w (a_set {es = es} fs is p h))))
  value_equal n below w d e small st st' (an_object {ms = ms} {ns = ns} h) =
      let tree : AreMembers ms = stands_tree t w (object ms) both.left_tree st in
      let tree' : AreMembers ns = stands_tree u w (object ns) both.right_tree st' in
      ap object (members_unique ms ns tree tree' (members_equal n below w ms ns small st st' (scope_same m w ms ns h) h tree tree'))

  all_below : (n : ℕ) → Below n
  all_below zero w d e small st st' h = absurd (omega arith)
  all_below (suc n) w d e small st st' h = value_equal n (all_below n) w d e (omega (arith, small)) st st' h

  -- values of both reports that say the same are equal
  pub same_equal : (w : Want) (d e : Data) → Stands t w d → Stands u w e → Same m (Some w) d e → d ≡ e
  same_equal w d e st st' h = all_below (suc (depth d)) w d e (omega arith) st st' h

  -- and so are the entries of two arrays
  pub entries_equal : (w w' v : Want) (ds es : Items) → entry_want w ≡ Some v → entry_want w' ≡ Some v → Stands t w (array ds) → Stands u w' (array es)
      → (x y : Data) → In x (list_of_items ds) → In y (list_of_items es) → Same m (Some v) x y → x ≡ y
  entries_equal w w' v ds es asks asks' st st' x y i j h = same_equal v x y (entry_stands t w v (array ds) asks st x i)
      (entry_stands u w' v (array es) asks' st' y j) h
