-- A rearranged report is accepted as it was, says the same and so means the same.
use Rattle.erd_normal.proofs.Common.{◌≡◌, ℕ, true, false, List, [], ◌∷◌, Some, None, Option, sym, refl, subst, Data, string, object, get_member, role, Name}
use Rattle.erd_normal.proofs.Common.{Within-step, Within-root, Within, IsTree, scope_inside, want_of_name, Asked, asked, Scope, Want, Object, is_id_text, Sides}
use Rattle.erd_normal.proofs.Common.{SaysTheSame, map, IsTrue, Contains, option_map, bytes_eq, unwrap_or, ap, ◌∙◌, Family, kind, Step, text_exact, text_itself}
use Rattle.erd_normal.proofs.Common.{asked_at, Member, Reference, unrepeated_reference, find-any, distinct_one, IsAccepted, Preference, objects, id_of}
use Rattle.erd_normal.proofs.Common.{Renaming, replaced_text, renamed, exchanged, IsRenaming, ExchangedSaysTheSame, RenamedSaysTheSame, In, In-from_contains}
use Rattle.erd_normal.proofs.Common.{In-map, In-map_from, any_at, contains_from_In, true≢false, false_from_ne_true, IsDistinct, no_shape_fault, HasDistinctIds}
use Rattle.erd_normal.proofs.Common.{is_envelope_name, Reason, object_in, report_class, ObjectIn, is_shape_fault, asked_of_member, asked_inside, asked_from}
use Rattle.erd_normal.proofs.Common.{scope, RearrangedMeansTheSame, Change, a_renaming, an_exchange, IsAllowed, changed, IsRearrangement, RearrangedSaysTheSame}
use Rattle.erd_normal.proofs.Common.{HasSoundEnvelope, is_envelope, ⊎_elim, and_then-Some, HasEntries}
use Rattle.erd_normal.proofs.lists.Matched.{IsEven, Matched, distinct_matched, matched_back, Both, both}
use Rattle.erd_normal.proofs.same.Related.{says_itself, Alike, alike_leaf, alike_object, alike_same, as_it_is, members_same}
use Rattle.erd_normal.proofs.same.IdsOfObjects.{value_placed, reference_refers, asked_id, owned_id, IsId, family_values, object_values, not_before_itself}
use Rattle.erd_normal.proofs.same.IdsOfObjects.{placed_value, ids_distinct, one_family, by_one_id, id_of_both, have_one_id}
use Rattle.erd_normal.proofs.same.Lookups.{scope_same, of_report}
use Rattle.erd_normal.proofs.same.InTurn.{envelope_quiet, is_quiet, quiet_step, says_in_turn}
use Rattle.erd_normal.proofs.same.accepted.RequiredMembers.{IsSound}
use Rattle.erd_normal.proofs.same.accepted.AcceptedShape.{no_fault_at, AskedAgain, HasSoundMembers, again_from, none_asked}
use Rattle.erd_normal.proofs.same.accepted.Accepted.{same_is_accepted}
use Rattle.erd_normal.proofs.same.means.Meanings.{saying_the_same_means_the_same}
use Rattle.erd_normal.proofs.rearranged.Alike.{Related, alike_member, alike_tree, exchanged_alike, family_matched, id_came_back, renamed_alike}

-- ---- an exchange

abbrev sides_exchanged : Data → Data → Sides
sides_exchanged t u = record { left = t; right = u; there = as_it_is; back = as_it_is }

exchanged_report : (t : Data) (p : List Step) (i j : ℕ) → HasEntries t p i j → Alike (sides_exchanged t (exchanged p i j t))
    (Some (Object role.Report)) t (exchanged p i j t)
exchanged_report t p i j h = exchanged_alike (sides_exchanged t (exchanged p i j t)) (λ s. (refl, refl)) t p i j h

pub exchanged_says : ExchangedSaysTheSame
exchanged_says t p i j tree h = record { there = as_it_is; back = as_it_is; same = alike_same (exchanged_report t p i j h) }

-- ---- a renaming

-- the pair that replaces a text
record Replaces (pairs : Renaming) (s : List ℕ) : Type 0 where
  pair : List ℕ × List ℕ
  stands : In pair pairs
  old : pair.0 ≡ s
  new : replaced_text pairs s ≡ pair.1

replacing_pair : (pairs : Renaming) (s : List ℕ) → In s (map (λ (pair : List ℕ × List ℕ). pair.0) pairs) → Replaces pairs s
replacing_pair pairs s among =
    let p = In-map_from (λ (pair : List ℕ × List ℕ). pair.0) pairs s among in
    let passes : bytes_eq p.0.0 s ≡ true = subst (λ x. bytes_eq x s ≡ true) (sym p.2) (text_itself s) in
    let q = find-any (λ pair. bytes_eq pair.0 s) pairs (any_at (λ pair. bytes_eq pair.0 s) p.0 pairs p.1 passes) in
    record {
      pair = q.0;
      stands = q.3;
      old = text_exact q.0.0 s q.2;
      new = ap (λ o. unwrap_or (option_map (λ pair. pair.1) o) s) q.1;
    }

abbrev flipped : List ℕ × List ℕ → List ℕ × List ℕ
flipped p = (p.1, p.0)

abbrev turned_back : Renaming → Renaming
turned_back pairs = map flipped pairs

firsts_flipped : (pairs : Renaming) (p : List ℕ × List ℕ) → In p pairs → In p.1 (map (λ (q : List ℕ × List ℕ). q.0) (turned_back pairs))
firsts_flipped pairs p h = In-map (λ (q : List ℕ × List ℕ). q.0) (flipped p) (turned_back pairs) (In-map flipped p pairs h)

equal_texts : (a b : List ℕ) → a ≡ b → bytes_eq a b ≡ true
equal_texts a b e = subst (λ x. bytes_eq a x ≡ true) e (text_itself a)

comes_back : (t : Data) (pairs : Renaming) → IsRenaming t pairs → (s : List ℕ) → Contains (map (λ (pair : List ℕ × List ℕ). pair.0) pairs) s
    → replaced_text (turned_back pairs) (replaced_text pairs s) ≡ s
comes_back t pairs h s among =
    let p = replacing_pair pairs s (In-from_contains s (map (λ (pair : List ℕ × List ℕ). pair.0) pairs) among) in
    let q = replacing_pair (turned_back pairs) (replaced_text pairs s)
    (subst (λ x. In x (map (λ (z : List ℕ × List ℕ). z.0) (turned_back pairs))) (sym p.new) (firsts_flipped pairs p.pair p.stands)) in
    let r = In-map_from flipped pairs q.pair q.stands in
    let tied : p.pair.1 ≡ r.0.1 = sym p.new ∙ sym q.old ∙ ap (λ (z : List ℕ × List ℕ). z.0) (sym r.2) in
    let pair : p.pair ≡ r.0 = distinct_one (λ (z : List ℕ × List ℕ). z.1) bytes_eq pairs h.right p.pair r.0 p.stands r.1 (equal_texts p.pair.1 r.0.1 tied)
    (equal_texts r.0.1 p.pair.1 (sym tied)) in
    q.new ∙ ap (λ (z : List ℕ × List ℕ). z.1) (sym r.2) ∙ ap (λ (z : List ℕ × List ℕ). z.0) (sym pair) ∙ p.old

-- each text where an `@id` or a reference is asked for stands on the left of a pair
abbrev CoversTexts : Data → Renaming → Type 0
CoversTexts t pairs =
    (p : List Step) (a : Asked) (s : List ℕ) → asked_at t p ≡ Some a → IsTrue (is_id_text a.want) → a.value ≡ string s
    → Contains (map (λ (pair : List ℕ × List ℕ). pair.0) pairs) s

abbrev sides_renamed : Data → Renaming → Sides
sides_renamed t pairs = record { left = t; right = renamed pairs t; there = replaced_text pairs; back = replaced_text (turned_back pairs) }

renamed_report : (t : Data) (pairs : Renaming) → IsTree t → CoversTexts t pairs → IsRenaming t pairs
    → Alike (sides_renamed t pairs) (Some (Object role.Report)) t (renamed pairs t)
renamed_report t pairs tree covers h =
    renamed_alike pairs (sides_renamed t pairs)
    (λ w s st is.
    (refl, sym (comes_back t pairs h s (covers st.inside.place (record { want = w; value = string s; repeated = st.repeated }) s st.inside.is is refl))))
    tree

-- ---- an accepted report with its `@id`s renamed says the same

id_covered : (t : Data) (pairs : Renaming) → IsRenaming t pairs → (s : List ℕ) → IsId t s → Contains (map (λ (pair : List ℕ × List ℕ). pair.0) pairs) s
id_covered t pairs renames s is =
    let o = value_placed is.family t is.value is.stands in
    renames.all is.family o.0 s (contains_from_In o.0 (objects is.family t) o.1) (ap id_of o.2 ∙ is.is)

module _ (π : Preference) (t : Data) (accepted : IsAccepted π t) (pairs : Renaming) (renames : IsRenaming t pairs) where
  reference_covered : (f : Family) (a : Asked) (s : List ℕ) → Within t a → a.want ≡ Reference f → a.value ≡ string s → IsId t s
  reference_covered f a s inside want text =
      let here : Within t (record { want = Reference f; value = string s; repeated = a.repeated }) =
      subst (λ v. Within t (record { want = Reference f; value = v; repeated = a.repeated })) text
      (subst (λ w. Within t (record { want = w; value = a.value; repeated = a.repeated })) want inside) in
      let x = reference_refers π t accepted f (string s) (unrepeated_reference π t accepted f (string s) a.repeated here) in
      let same : s ≡ x.0 = let e = x.1 in cc in
      subst (IsId t) (sym same) (owned_id t f x.0 x.2.0 x.2.1)

  covers : CoversTexts t pairs
  covers p a s stands is text = at a.want refl is
    where
      at : (w : Want) → a.want ≡ w → is_id_text w ≡ true → Contains (map (λ (pair : List ℕ × List ℕ). pair.0) pairs) s
      at (Reference f) want h = id_covered t pairs renames s (reference_covered f a s (record { place = p; is = stands }) want text)
      at (Member kind.Identity required) want h = id_covered t pairs renames s (asked_id t p a required s stands want text)
      at w want h = cc

pub renamed_says_the_same : RenamedSaysTheSame
renamed_says_the_same π t pairs tree accepted renames =
    record {
      there = replaced_text pairs;
      back = replaced_text (turned_back pairs);
      same = alike_same (renamed_report t pairs tree (covers π t accepted pairs renames) renames);
    }

-- ---- no two objects of a report that is alike to an accepted one have one `@id`, where the function of texts tells `@id`s apart

have_one_id_even : IsEven have_one_id
have_one_id_even d e h = false_from_ne_true (have_one_id e d) (λ g. let s = id_of_both e d g in true≢false (sym (by_one_id d e s.0 s.2 s.1) ∙ h))

module _ (π : Preference) (m : Sides) (alike : Alike m (Some (Object role.Report)) m.left m.right) (accepted : IsAccepted π m.left) where
  -- related objects of a family
  abbrev Kin : Family → Data → Data → Type 0
  Kin f = Related m (Object (role.OfFamily f))

  matched : (f : Family) → Matched (Kin f) (family_values f m.left) (family_values f m.right)
  matched = family_matched m (no_shape_fault π m.left accepted) alike

  -- the `@id` that the one of a related object stands for
  old_id : (f : Family) (d e : Data) (id : List ℕ) → Kin f d e → id_of e ≡ Some id → id_of d ≡ Some (m.back id)
  old_id f d e id r is = id_came_back m (no_shape_fault π m.left accepted) f d e r ∙ ap (option_map m.back) is

  -- no two objects of a family have one
  ids_told : (f : Family) → IsDistinct have_one_id (family_values f m.right)
  ids_told f = distinct_matched have_one_id have_one_id have_one_id_even told (matched f) (ids_distinct π m.left accepted f)
    where
      told : (x x' y y' : Data) → In x (family_values f m.left) → In x' (family_values f m.left) → Kin f x y → Kin f x' y' → have_one_id y y' ≡ true
          → have_one_id x x' ≡ true
      told x x' y y' i j r r' h = let s = id_of_both y y' h in by_one_id x x' (m.back s.0) (old_id f x y s.0 r s.1) (old_id f x' y' s.0 r' s.2)

  -- and objects that have one are of one family
  one_family_still : (f g : Family) (d e : Data) (id : List ℕ) → In d (family_values f m.right) → In e (family_values g m.right) → id_of d ≡ Some id
      → id_of e ≡ Some id → f ≡ g
  one_family_still f g d e id h k is is_too =
      let o = matched_back d (matched f) h in
      let q = matched_back e (matched g) k in
      one_family π m.left accepted f g o.0 q.0 (m.back id) o.1 q.1 (old_id f o.0 d id o.2 is) (old_id g q.0 e id q.2 is_too)

  alike_ids : HasDistinctIds m.right
  alike_ids p r =
      let later = In-from_contains r.later (objects r.family m.right) r.later_stands in
      let earlier = In-from_contains r.earlier (objects r.earlier_family m.right) r.earlier_stands in
      let same : r.earlier_family ≡ r.family =
      one_family_still r.earlier_family r.family r.earlier.value r.later.value r.id (placed_value r.earlier_family m.right r.earlier earlier)
      (placed_value r.family m.right r.later later) r.earlier_id r.later_id in
      let one : r.earlier ≡ r.later =
      distinct_one (λ x. x.value) have_one_id (objects r.family m.right)
      (subst (IsDistinct have_one_id) (sym (object_values r.family m.right)) (ids_told r.family)) r.earlier r.later
      (subst (λ f. In r.earlier (objects f m.right)) same earlier) later
      (by_one_id r.earlier.value r.later.value r.id r.earlier_id r.later_id) (by_one_id r.later.value r.earlier.value r.id r.later_id r.earlier_id) in
      not_before_itself r.earlier r.later one r.before

-- ---- a report that is alike to an accepted one has no fault of shape in its envelope: each of its members says the same as
-- that of the other one

module _ (π : Preference) (m : Sides) (alike : Alike m (Some (Object role.Report)) m.left m.right) (tree : IsTree m.left) (accepted : IsAccepted π m.left) where
  right_tree : IsTree m.right
  right_tree = alike_tree m alike tree

  top : ObjectIn m.left role.Report m.left
  top = object_in m.left (no_shape_fault π m.left accepted) role.Report m.left (Within-root m.left)

  -- what is asked of the report under a name
  abbrev here : Scope
  here = scope_inside (Object role.Report) (object top.ms)

  names_envelope : (n : List ℕ) → is_envelope here n ≡ is_envelope_name n
  names_envelope n = ap (λ c. is_envelope (scope.Members role.Report c) n) (top.at.among ∙ ap Some (report_class top.class top.role))

  -- what stands in the envelope is asked again, and nothing in it may be absent
  record FoundAsked (c : Asked) : Type 0 where
    again : AskedAgain m c
    quiet : is_quiet c.want ≡ true

  found_at : (n : List ℕ) → is_envelope_name n ≡ true → (c : Asked) → asked_inside (Object role.Report) m.right (Name n) ≡ Some c → FoundAsked c
  found_at n inside c stands = from (subst (λ x. Alike m (Some (Object role.Report)) x m.right) top.is_object alike) stands
    where
      at : (v : Option Want) (o p : Option Data) → want_of_name here n ≡ v → get_member n top.ms ≡ o → Both (Alike m v) o p → asked_of_member v p
          ≡ Some c → FoundAsked c
      at None o p asks found h e = cc
      at (Some v) o None asks found h e = cc
      at (Some v) None (Some f) asks found h e = elim h [ ]
      at (Some v) (Some d) (Some f) asks found (both r) e =
          let one : asked v f ≡ c = cc in
          let step : asked_inside (Object role.Report) m.left (Name n) ≡ Some (asked v d) = ap (λ x. asked_inside (Object role.Report) x (Name n)) top.is_object
          ∙ rw (asks, found) refl in
          let stands : Within m.left (asked v d) = Within-step m.left (asked (Object role.Report) m.left) (asked v d) (Name n) (Within-root m.left) step in
          subst FoundAsked one (record {
            again = record {
              of = asked v d;
              inside = stands;
              want = refl;
              same = alike_same r;
              first = refl;
            };
            quiet = envelope_quiet here n v (names_envelope n ∙ inside) asks;
          })

      from : {x : Data} → Alike m (Some (Object role.Report)) (object top.ms) x → asked_inside (Object role.Report) x (Name n) ≡ Some c → FoundAsked c
      from (alike_leaf leaf h) is = cc
      from (alike_object {ns = ns} h) is =
          at (want_of_name here n) (get_member n top.ms) (get_member n ns) refl refl (alike_member m h n)
          (ap (λ s. asked_of_member (want_of_name s n) (get_member n ns)) (scope_same m (Object role.Report) top.ms ns (members_same h)) ∙ is)

  -- there is no report inside the envelope
  no_report : (b : Asked) → Within m.right b → is_quiet b.want ≡ true → HasSoundMembers b
  no_report b inside quiet ns n v f is asks found h =
      let o = of_report b.want ns n h in
      let e : false ≡ true = ap is_quiet (sym o.report) ∙ quiet in cc

  no_fault : (n : List ℕ) (b c : Asked) → Within m.right b → FoundAsked b → (ss : List Step) → asked_from b ss ≡ Some c → Within m.right c → (r : Reason)
      → is_shape_fault c r ≡ false
  no_fault n b c inside f ss e there r =
      ⊎_elim (no_fault_at m tree right_tree π accepted c r there) (λ (sound : IsSound c). sound.no_fault r)
      (again_from m tree right_tree π accepted (λ x. is_quiet x.want ≡ true) (λ x y s h found. quiet_step x.want x.value s y h found) no_report ss b
      inside f.quiet f.again c e)

  alike_envelope : HasSoundEnvelope m.right
  alike_envelope (Name n ∷ ss) r inside fault =
      none_asked m.right (λ a. is_shape_fault a r) (Name n ∷ ss) (λ c is.
      let b = and_then-Some (λ x. asked_from x ss) (asked_inside (Object role.Report) m.right (Name n)) c is in
      no_fault n b.0 c (Within-step m.right (asked (Object role.Report) m.right) b.0 (Name n) (Within-root m.right) b.1) (found_at n inside b.0 b.1) ss b.2
      (record { place = Name n ∷ ss; is = is }) r) fault
  alike_envelope d r inside fault = cc

-- ---- a rearranged report is a tree, is accepted as it was, says the same and so means the same: by each change, and so by all

-- the report is as good as an accepted one, and says the same
record IsAsGood (π : Preference) (t u : Data) : Type 0 where
  tree : IsTree u
  accepted : IsAccepted π u
  says : SaysTheSame t u

-- a report that is alike to an accepted one
as_good : (π : Preference) (t u : Data) (there back : List ℕ → List ℕ) → Alike (record { left = t; right = u; there = there; back = back })
    (Some (Object role.Report)) t u → IsTree t → IsAccepted π t → IsAsGood π t u
as_good π t u there back alike tree accepted =
    let m : Sides = record { left = t; right = u; there = there; back = back } in
    let right : IsTree u = alike_tree m alike tree in
    let says : SaysTheSame t u = record { there = there; back = back; same = alike_same alike } in
    record {
      tree = right;
      accepted = same_is_accepted π t u tree right accepted says (alike_envelope π m alike tree accepted) (alike_ids π m alike accepted);
      says = says;
    }

changed_as_good : (π : Preference) (t : Data) (c : Change) → IsTree t → IsAccepted π t → IsAllowed t c → IsAsGood π t (changed c t)
changed_as_good π t (a_renaming pairs) tree accepted allowed =
    as_good π t (renamed pairs t) (replaced_text pairs) (replaced_text (turned_back pairs))
    (renamed_report t pairs tree (covers π t accepted pairs allowed) allowed) tree accepted
changed_as_good π t (an_exchange p i j) tree accepted allowed =
    as_good π t (exchanged p i j t) as_it_is as_it_is (exchanged_report t p i j allowed) tree accepted

-- ---- one after another

rearranged_as_good : (π : Preference) (t u : Data) (changes : List Change) → IsTree t → IsAccepted π t → IsRearrangement changes t u → IsAsGood π t u
rearranged_as_good π t u [] tree accepted same = subst (IsAsGood π t) same (record { tree = tree; accepted = accepted; says = says_itself t })
rearranged_as_good π t u (c ∷ cs) tree accepted h =
    let one = changed_as_good π t c tree accepted h.0 in
    let rest = rearranged_as_good π (changed c t) u cs one.tree one.accepted h.1 in
    record { tree = rest.tree; accepted = rest.accepted; says = says_in_turn t (changed c t) u tree one.tree rest.tree one.says rest.says }

pub rearranged_says_the_same : RearrangedSaysTheSame
rearranged_says_the_same π t u changes tree accepted h = (rearranged_as_good π t u changes tree accepted h).says

pub rearranged_means_the_same : RearrangedMeansTheSame
rearranged_means_the_same π t u changes tree accepted h =
    let g = rearranged_as_good π t u changes tree accepted h in
    (g.accepted, saying_the_same_means_the_same π t u tree g.tree accepted g.says)
