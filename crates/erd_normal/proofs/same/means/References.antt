-- References, labels and selections of two reports that say the same: they mean the same and have one name.
use Rattle.erd_normal.proofs.Common.{◌≡◌, ℕ, List, [], ◌∷◌, map, Some, Option, option_and_then, unwrap_or, refl, ap, ◌∙◌, subst, ap₂, Data, string, Items}
use Rattle.erd_normal.proofs.Common.{as_str, Family, wanted_within, list_of_items, Want, Reference, no_shape_fault, key_cmp, Preference, key_set, rising_list}
use Rattle.erd_normal.proofs.Common.{key_named, keys_named, IsUsed, Sides, NameOneThing, an_id, no_entry, one_entry, Same, SameEntries, string_from_text, sym}
use Rattle.erd_normal.proofs.Common.{a_text, a_set, Bool, true, false, cond, ◌||◌, None, codes, bytes_eq, array, object, Members, get, compact_text}
use Rattle.erd_normal.proofs.Common.{kind_of_member, is_required, class, role, kind, of_label, unrepeated, classed, Classed, entries_at, class_of_object}
use Rattle.erd_normal.proofs.Common.{scope_inside, Member, Object, translated, label_of, with_rising_text, a_list, an_object, SameMembers, fun_ext}
use Rattle.erd_normal.proofs.Common.{IsPermutation, In, inl, inr, option_map, as_bool, as_number, as_integer, Class, family, member_want, owner, is_in_envelope}
use Rattle.erd_normal.proofs.Common.{keys_of_selection, is_write_in, order_of_selection, label_of_selection, name_in_class, selection_role, name_of, name_named}
use Rattle.erd_normal.proofs.lists.Matched.{Matched, paired_kept, matched_equal, said_same}
use Rattle.erd_normal.proofs.lists.Lists.{rising_keys_named-reordered}
use Rattle.erd_normal.proofs.meaning.MatchedMeanings.{keys_named-reordered, json_set-reordered}
use Rattle.erd_normal.proofs.same.Owners.{keys_named_same, owners_related, related_key}
use Rattle.erd_normal.proofs.same.Related.{Stands, stands_tree, Related}
use Rattle.erd_normal.proofs.same.means.Members.{TwoReports, HaveMembers, both_members, told_entries, told_plain, BothObjects, Told, both_told, both_objects}
use Rattle.erd_normal.proofs.same.means.Members.{steady_nothing, none_told}
use Rattle.erd_normal.proofs.same.InTurn.{id_text}
use Rattle.erd_normal.proofs.same.Labels.{label_text, plain_beside, steady_beside}
use Rattle.erd_normal.proofs.same.Lookups.{steady_same, plain_of_kind, is_steady_kind, is_plain}
use Rattle.erd_normal.proofs.inside.RisingLabels.{label_class}

-- ---- references and labels of two reports that say the same mean the same

-- a reference is in use
pub used : (t : Data) (f : Family) (d : Data) (s : List ℕ) → Stands t (Reference f) d → d ≡ string s → IsUsed t s
used t f d s st text =
    record {
      place = st.inside.place;
      asked = record { want = Reference f; value = d; repeated = st.repeated };
      stands = st.inside.is;
      reference = refl;
      text = text;
    }

module _ (m : Sides) (f : Family) {A : Type 0} (left right : List ℕ → Option A)
    (alike : (s s' : List ℕ) → NameOneThing m s s' → IsUsed m.left s → IsUsed m.right s' → left s ≡ right s') where
  texts_alike : {d e : Data} → Same m (Some (Reference f)) d e → Stands m.left (Reference f) d → Stands m.right (Reference f) e
      → option_and_then left (as_str d) ≡ option_and_then right (as_str e)
  texts_alike (an_id {s = s} {s' = s'} is pair) l r = alike s s' pair (used m.left f (string s) s l refl) (used m.right f (string s') s' r refl)
  texts_alike (a_text is) l r = cc
  texts_alike (a_set fs is p h) l r = cc
  texts_alike h l r = refl

  -- what is said alike of texts that stand for one another is said alike of references
  pub said_alike : (d e : Data) → Related m (Reference f) d e → option_and_then left (as_str d) ≡ option_and_then right (as_str e)
  said_alike d e r = texts_alike r.same r.left r.right

  -- and of those in a list, one by one
  pub said_in_turn : {o : Option Want} {ds es : Items} → o ≡ Some (Reference f) → SameEntries m o ds es
      → ((x : Data) → In x (list_of_items ds) → Stands m.left (Reference f) x)
      → ((x : Data) → In x (list_of_items es) → Stands m.right (Reference f) x)
      → map (λ r. option_and_then left (as_str r)) (list_of_items ds) ≡ map (λ r. option_and_then right (as_str r)) (list_of_items es)
  said_in_turn asks no_entry l r = refl
  said_in_turn asks (one_entry {d = d} {e = e} h rest) l r =
      ap₂ ◌∷◌ (said_alike d e (record { left = l d (inl refl); right = r e (inl refl); same = subst (λ o. Same m o d e) asks h }))
      (said_in_turn asks rest (λ x i. l x (inr i)) (λ x i. r x (inr i)))

module _ (m : Sides) (π : Preference) (g : TwoReports m π) where
  named_alike : (f : Family) (s s' : List ℕ) → NameOneThing m s s' → IsUsed m.left s → IsUsed m.right s' → key_named π m.left f s ≡ key_named π m.right f s'
  named_alike f s s' pair l r = keys_named_same m g.left_tree g.right_tree π g.accepted g.root f s s' pair l r

  -- a reference names an object with the same key
  pub key_alike : (f : Family) (d e : Data) → Related m (Reference f) d e → option_and_then (key_named π m.left f) (as_str d)
      ≡ option_and_then (key_named π m.right f) (as_str e)
  key_alike f d e r = said_alike m f (key_named π m.left f) (key_named π m.right f) (named_alike f) d e r

  pub keys_set_alike : (f : Family) (xs ys : List Data) → Matched (Related m (Reference f)) xs ys → key_set (keys_named π m.left f xs)
      ≡ key_set (keys_named π m.right f ys)
  keys_set_alike f xs ys h =
      ap key_set (paired_kept (λ r. option_and_then (key_named π m.left f) (as_str r)) (λ r. option_and_then (key_named π m.right f) (as_str r))
      (key_alike f) h.paired) ∙ keys_named-reordered π m.right f h.reordered

  pub keys_list_alike : (f : Family) (xs ys : List Data) → Matched (Related m (Reference f)) xs ys → rising_list key_cmp (keys_named π m.left f xs)
      ≡ rising_list key_cmp (keys_named π m.right f ys)
  keys_list_alike f xs ys h =
      ap (rising_list key_cmp) (paired_kept (λ r. option_and_then (key_named π m.left f) (as_str r)) (λ r. option_and_then (key_named π m.right f) (as_str r))
      (key_alike f) h.paired) ∙ rising_keys_named-reordered π m.right f h.reordered

  -- a reference is a text
  pub key_alike_text : (f : Family) (d e : Data) → Related m (Reference f) d e → key_named π m.left f (unwrap_or (as_str d) []) ≡ key_named π m.right f
      (unwrap_or (as_str e) [])
  key_alike_text f d e r =
      let s = string_from_text d
      (wanted_within m.left (no_shape_fault π m.left g.accepted) (record { want = Reference f; value = d; repeated = r.left.repeated }) r.left.inside) in
      let o = id_text m s.0 r.same refl s.1 in
      ap (λ x. key_named π m.left f (unwrap_or (as_str x) [])) s.1 ∙ named_alike f s.0 o.other o.pair (used m.left f d s.0 r.left s.1)
      (used m.right f e o.other r.right o.is) ∙ sym (ap (λ x. key_named π m.right f (unwrap_or (as_str x) [])) o.is)

-- ---- labels that say the same mean the same, and have one text with their translations in rising order

module _ (m : Sides) where
  -- labels of the class
  same_beside : (d e : Data) → HaveMembers m class.InternationalizedText d e → (k : List ℕ) → bytes_eq k (codes "@type") ≡ false → bytes_eq k (codes "Text")
      ≡ false → get k d ≡ get k e
  same_beside d e h k typed text =
      let c = class.InternationalizedText in
      told_plain m c k (get k d) (get k e) (plain_of_kind (kind_of_member c k) (is_required c k) (plain_beside k typed text))
      (steady_beside k typed text) refl (h k typed)

  same_translations : (d e : Data) → HaveMembers m class.InternationalizedText d e → IsPermutation (entries_at (codes "Text") d) (entries_at (codes "Text") e)
  same_translations d e h =
      matched_equal (λ x y r. steady_same m r.same refl)
      (told_entries m class.InternationalizedText (codes "Text") (Member kind.Languages true) (Object role.Language) (get (codes "Text") d)
      (get (codes "Text") e) refl refl refl refl (h (codes "Text") refl))

  meaning_of_members : (ms ns : Members) → HaveMembers m class.InternationalizedText (object ms) (object ns) → label_of (object ms) ≡ label_of (object ns)
  meaning_of_members ms ns h =
      ap₂ translated (fun_ext (λ k. at k (bytes_eq k (codes "@type")) refl (bytes_eq k (codes "Text")) refl))
      (json_set-reordered (same_translations (object ms) (object ns) h))
    where
      at : (k : List ℕ) (a : Bool) → bytes_eq k (codes "@type") ≡ a → (b : Bool) → bytes_eq k (codes "Text") ≡ b → cond (a || b) None (get k (object ms))
          ≡ cond (a || b) None (get k (object ns))
      at k true typed b text = refl
      at k false typed true text = refl
      at k false typed false text = same_beside (object ms) (object ns) h k typed text

module _ (m : Sides) (π : Preference) (g : TwoReports m π) where
  among : (required : Bool) (ms : Members) → Stands m.left (Member kind.Label required) (object ms) → class_of_object role.Label (object ms)
      ≡ Some class.InternationalizedText
  among required ms l =
      let w : Want = Member kind.Label required in
      let c : Classed role.Label (object ms) = classed m.left (no_shape_fault π m.left g.accepted) w role.Label (object ms) of_label refl
      (unrepeated m.left (no_shape_fault π m.left g.accepted) w (object ms) l.repeated refl l.inside) in
      c.among ∙ ap Some (label_class c.class c.role)

  members_of : (required : Bool) (ms ns : Members) → SameMembers m (scope_inside (Member kind.Label required) (object ms)) ms ns
      → Stands m.left (Member kind.Label required) (object ms)
      → Stands m.right (Member kind.Label required) (object ns) → HaveMembers m class.InternationalizedText (object ms) (object ns)
  members_of required ms ns h l r =
      both_members m g.left_tree g.right_tree (Member kind.Label required) role.Label class.InternationalizedText ms ns of_label (among required ms l) h l r

  label_at : (required : Bool) {d e : Data} → Same m (Some (Member kind.Label required)) d e → Stands m.left (Member kind.Label required) d
      → Stands m.right (Member kind.Label required) e → label_of d ≡ label_of e
  label_at required (an_object {ms = ms} {ns = ns} h) l r = meaning_of_members m ms ns (members_of required ms ns h l r)
  label_at required (an_id is h) l r = cc
  label_at required (a_set fs is p h) l r = cc
  label_at required h l r = refl

  pub label_alike : (required : Bool) (d e : Data) → Related m (Member kind.Label required) d e → label_of d ≡ label_of e
  label_alike required d e r = label_at required r.same r.left r.right

  text_at : (required : Bool) {d e : Data} → Same m (Some (Member kind.Label required)) d e → Stands m.left (Member kind.Label required) d
      → Stands m.right (Member kind.Label required) e → compact_text (with_rising_text d) ≡ compact_text (with_rising_text e)
  text_at required (a_list {ds = ds} is h) l r = let x = wanted_within m.left (no_shape_fault π m.left g.accepted)
      (record { want = Member kind.Label required; value = array ds; repeated = l.repeated }) l.inside in cc
  text_at required (an_object {ms = ms} {ns = ns} h) l r =
      label_text m required ms (object ns) (among required ms l) (stands_tree m.left (Member kind.Label required) (object ms) g.left_tree l)
      (stands_tree m.right (Member kind.Label required) (object ns) g.right_tree r) (an_object h)
  text_at required (an_id is h) l r = cc
  text_at required (a_set fs is p h) l r = cc
  text_at required h l r = refl

  pub label_text_alike : (required : Bool) (d e : Data) → Related m (Member kind.Label required) d e → compact_text (with_rising_text d)
      ≡ compact_text (with_rising_text e)
  label_text_alike required d e r = text_at required r.same r.left r.right

-- ---- selections that say the same have one name

module _ (m : Sides) (π : Preference) (g : TwoReports m π) where
  -- ---- the six parts

  keys_same : (c : Class) (d e : Data) → HaveMembers m c d e → rising_list key_cmp (keys_of_selection (key_named π m.left) c d) ≡ rising_list key_cmp
      (keys_of_selection (key_named π m.right) c e)
  keys_same class.CandidateSelection d e h =
      let name = codes "CandidateIds" in
      keys_list_alike m π g family.Candidate (entries_at name d) (entries_at name e)
      (told_entries m class.CandidateSelection name (Member (kind.Many family.Candidate) false) (Reference family.Candidate) (get name d) (get name e) refl refl
      refl refl (h name refl))
  keys_same class.PartySelection d e h =
      let name = codes "PartyIds" in
      keys_list_alike m π g family.Party (entries_at name d) (entries_at name e)
      (told_entries m class.PartySelection name (Member (kind.Many family.Party) true) (Reference family.Party) (get name d) (get name e) refl refl
      refl refl (h name refl))
  keys_same c d e h = refl

  write_in_same : (c : Class) (d e : Data) → HaveMembers m c d e → is_write_in c d ≡ is_write_in c e
  write_in_same class.CandidateSelection d e h =
      let name = codes "IsWriteIn" in
      ap (λ o. unwrap_or (option_and_then as_bool o) false) (told_plain m class.CandidateSelection name (get name d) (get name e) refl refl refl (h name refl))
  write_in_same c d e h = refl

  plain_order : (c : Class) → is_plain (member_want c (codes "SequenceOrder")) ≡ true
  plain_order class.ElectionReport = refl
  plain_order c = refl

  steady_order : (c : Class) → is_steady_kind (kind_of_member c (codes "SequenceOrder")) ≡ true
  steady_order class.ElectionReport = refl
  steady_order c = refl

  order_inside : (c : Class) → is_in_envelope c (codes "SequenceOrder") ≡ false
  order_inside class.ElectionReport = refl
  order_inside c = refl

  order_same : (c : Class) (d e : Data) → HaveMembers m c d e → order_of_selection d ≡ order_of_selection e
  order_same c d e h =
      let name = codes "SequenceOrder" in
      ap (λ o. option_and_then as_integer (option_and_then as_number o))
      (told_plain m c name (get name d) (get name e) (plain_order c) (steady_order c) (order_inside c) (h name refl))

  text_same : (o p : Option Data) → Told m class.BallotMeasureSelection (codes "Selection") o p → option_map (λ v. compact_text (with_rising_text v)) o
      ≡ option_map (λ v. compact_text (with_rising_text v)) p
  text_same (Some d) (Some e) (both_told r) = ap Some (label_text_alike m π g false d e r)
  text_same o p (none_told k l) =
      let c = class.BallotMeasureSelection in
      ap (option_map (λ v. compact_text (with_rising_text v)))
      (steady_nothing c (codes "Selection") o refl refl k ∙ sym (steady_nothing c (codes "Selection") p refl refl l))

  label_same : (c : Class) (d e : Data) → HaveMembers m c d e → label_of_selection c d ≡ label_of_selection c e
  label_same class.BallotMeasureSelection d e h = text_same (get (codes "Selection") d) (get (codes "Selection") e) (h (codes "Selection") refl)
  label_same c d e h = refl

  -- ---- names

  pub name_alike : (d e : Data) → Related m (Object (role.OfFamily family.Selection)) d e → name_of π m.left d ≡ name_of π m.right e
  name_alike d e r =
      let o : BothObjects m selection_role d e = both_objects m g.left_tree g.right_tree (no_shape_fault π m.left g.accepted) selection_role d e r in
      let keys = keys_same o.class d e o.members in
      let write_in = write_in_same o.class d e o.members in
      let order = order_same o.class d e o.members in
      let label = label_same o.class d e o.members in
      let identifier = related_key m g.left_tree g.right_tree (no_shape_fault π m.left g.accepted) π family.Selection d e r in
      let same : name_in_class π (key_named π m.left) o.class d ≡ name_in_class π (key_named π m.right) o.class e =
      λ i. record { class = o.class; keys = keys i; write_in = write_in i; order = order i; label = label i; identifier = identifier i } in
      ap (option_map (λ c. name_in_class π (key_named π m.left) c d)) o.left ∙ ap Some same
      ∙ sym (ap (option_map (λ c. name_in_class π (key_named π m.right) c e)) o.right)

  -- texts that stand for one another name selections of one name
  pub name_named_alike : (s s' : List ℕ) → NameOneThing m s s' → IsUsed m.left s → IsUsed m.right s' → name_named π m.left s ≡ name_named π m.right s'
  name_named_alike s s' pair l r =
      said_same (name_of π m.left) (name_of π m.right) name_alike (owner m.left family.Selection s) (owner m.right family.Selection s')
      (owners_related m g.left_tree g.right_tree π g.accepted g.root family.Selection s s' pair l r)
