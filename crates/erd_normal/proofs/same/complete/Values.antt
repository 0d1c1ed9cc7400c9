-- Members that mean the same say the same, and so do the objects that have them.
use Rattle.erd_check.specs.Wants.{may_need_entry}
use Rattle.erd_normal.proofs.Common.{◌&&◌, ◌≡◌, ℕ, suc, Bool, true, false, not, ◌||◌, List, [], length, ◌==◌, Some, None, codes, Option, option_and_then, sym}
use Rattle.erd_normal.proofs.Common.{refl, ap, ◌∙◌, subst, arith, Data, string, array, object, Items, no_items, item, Members, get_member, text_of_class}
use Rattle.erd_normal.proofs.Common.{role_of_class, Class, class, Family, role, reason, MemberKind, kind, array_from, get_member-tree, of_label, faultless}
use Rattle.erd_normal.proofs.Common.{wanted_within, lacks_none, classed, member_within, Classed, Within, is_simple_class, no_strange, no_unknown, is_text}
use Rattle.erd_normal.proofs.Common.{is_array, is_object, is_empty_array, IsTree, AreTrees, AreMembers, list_of_items, class_of_object, want_of_kind}
use Rattle.erd_normal.proofs.Common.{want_of_name, asked, Scope, scope, Want, Member, Object, Reference, no_shape_fault, IsAccepted, has_keys, Preference}
use Rattle.erd_normal.proofs.Common.{Label, untranslated, Content, no_content, PlainValue, a_label, a_json_set, a_key, a_key_set, a_content, label_of}
use Rattle.erd_normal.proofs.Common.{unless_empty, plain_value, Key, Sides, is_array_kind, a_text, an_object, no_entry, Same, SameEntries, SameMembers}
use Rattle.erd_normal.proofs.Common.{IsPermutation, ◌⊎◌, ◌∷◌, is_some, option_map, bytes_eq, inl, inr, ⊎_elim, not-true, and_parts, list_all, list_any, null}
use Rattle.erd_normal.proofs.Common.{family_of_role, family_of_class, rows_of_class, kind_of_member, is_required, family, Role, text_exact, ObjectAt}
use Rattle.erd_normal.proofs.Common.{kind_of_name, want_unless_status, is_report_class, member_want, ClassText, Status, a_json, MemberValue, a_plain}
use Rattle.erd_normal.proofs.Common.{is_in_envelope, plain_member, member_value, In, In-any}
use Rattle.erd_normal.proofs.lists.Matched.{Matched, matched_none, paired_self}
use Rattle.erd_normal.proofs.same.Related.{entries_paired, set_says, list_says, json_sets_reordered}
use Rattle.erd_normal.proofs.same.Labels.{Translations, labels_say, plain_self, equal_aligned}
use Rattle.erd_normal.proofs.same.Lookups.{Aligned, both_there, not_both, lacks_none as lacks_nothing, asked_of_name, merged, AllPlain, is_plain}
use Rattle.erd_normal.proofs.same.complete.Contents.{left_empty, right_empty, content_says}
use Rattle.erd_normal.proofs.same.complete.Counterparts.{entry_key, named_by, reference_says, references_matched, values_apart, values_sound, TextsTied}
use Rattle.erd_normal.proofs.inside.RisingLabels.{label_class}
use Rattle.erd_normal.proofs.inside.Homes.{status_kind}

-- ---- members that mean the same by themselves say the same

-- the kinds of members that mean something by themselves, or never stand in an accepted report but as an empty array
abbrev pub means_itself : MemberKind → Bool
means_itself kind.ClassText = false
means_itself kind.Identity = false
means_itself (kind.One f) = has_keys f
means_itself (kind.Many f) = has_keys f
means_itself kind.Languages = false
means_itself (kind.Keyed f) = false
means_itself kind.Elections = false
means_itself kind.Ordered = false
means_itself k = true

-- ---- labels

pub language_simple : (c : Class) → role_of_class c ≡ role.Language → is_simple_class c ≡ true
language_simple class.LanguageString e = refl
language_simple c e = cc

pub identifier_simple : (c : Class) → role_of_class c ≡ role.Identifier → is_simple_class c ≡ true
identifier_simple class.ExternalIdentifier e = refl
identifier_simple c e = cc

-- an accepted label that is an object
record LabelParts (ms : Members) : Type 0 where
  among : class_of_object role.Label (object ms) ≡ Some class.InternationalizedText
  typed : get_member (codes "@type") ms ≡ Some (string (text_of_class class.InternationalizedText))
  translations : Translations ms

module _ (π : Preference) (t : Data) (accepted : IsAccepted π t) (r : Bool) (ms : Members) (tree : AreMembers ms)
    (w : Within t (asked (Member kind.Label r) (object ms))) where
  cl : Classed role.Label (object ms)
  cl = classed t (no_shape_fault π t accepted) (Member kind.Label r) role.Label (object ms) of_label refl w

  is_label : cl.class ≡ class.InternationalizedText
  is_label = label_class cl.class cl.role

  label_among : class_of_object role.Label (object ms) ≡ Some class.InternationalizedText
  label_among = cl.among ∙ ap Some is_label

  translated_by : (v : Data) → get_member (codes "Text") ms ≡ Some v → Translations ms
  translated_by v e =
      let inside : Within t (asked (Member kind.Languages true) v) =
      member_within t (no_shape_fault π t accepted) (Member kind.Label r) role.Label ms class.InternationalizedText (codes "Text") v of_label
      label_among refl w e in
      let ds = array_from v (wanted_within t (no_shape_fault π t accepted) (asked (Member kind.Languages true) v) inside) in
      let inside' : Within t (asked (Member kind.Languages true) (array ds.0)) = subst (λ x. Within t (asked (Member kind.Languages true) x)) ds.1 inside in
      let found : get_member (codes "Text") ms ≡ Some (array ds.0) = e ∙ ap Some ds.1 in
      let trees : AreTrees ds.0 = get_member-tree (codes "Text") (array ds.0) ms tree found in
      record {
        items = ds.0;
        stands = found;
        sound = values_sound π t accepted kind.Languages true role.Language ds.0 inside' refl refl language_simple trees;
        apart = values_apart π t accepted kind.Languages true role.Language ds.0 inside' refl refl language_simple trees;
      }

  label_parts : LabelParts ms
  label_parts = record { among = label_among; typed = typed; translations = at (get_member (codes "Text") ms) refl }
    where
      typed : get_member (codes "@type") ms ≡ Some (string (text_of_class class.InternationalizedText))
      typed = cl.text ∙ ap (λ c. Some (string (text_of_class c))) is_label

      at : (o : Option Data) → get_member (codes "Text") ms ≡ o → Translations ms
      at None e = absurd (lacks_none t (no_shape_fault π t accepted) (asked (Member kind.Label r) (object ms)) (codes "Text") w (rw typed refl) e)
      at (Some v) e = translated_by v e

-- an accepted label is a text or an object
pub data LabelView : Data → Type 0 where
  text_view : {s : List ℕ} → LabelView (string s)
  object_view : {ms : Members} → LabelView (object ms)

pub label_view : (v : Data) → is_text v || is_object v ≡ true → LabelView v
label_view (string s) h = text_view
label_view (object ms) h = object_view
label_view _ h = cc

-- ---- values

abbrev pub label_in : Option PlainValue → Label
label_in (Some (a_label l)) = l
label_in o = untranslated []

abbrev pub keys_meant : Option PlainValue → Key → Bool
keys_meant (Some (a_key_set ks)) = ks
keys_meant o = λ k. false

abbrev pub json_in : Option PlainValue → Data → Bool
json_in (Some (a_json_set ds)) = ds
json_in o = λ d. false

abbrev pub content_in : Option PlainValue → Content
content_in (Some (a_content c)) = c
content_in o = no_content

-- what holds of two arrays with one meaning, if it holds of empty ones and of those that mean something
of_arrays : (P : Items → Items → Type 0) (x y : PlainValue) (ds es : Items) → unless_empty x (array ds) ≡ unless_empty y (array es) → P no_items no_items
    → (Some x ≡ Some y → P ds es) → P ds es
of_arrays P x y no_items no_items same empty full = empty
of_arrays P x y (item d ds) (item e es) same empty full = full same
of_arrays P x y ds es same empty full = cc

unless_none : (x : PlainValue) (v : Data) → unless_empty x v ≡ None → v ≡ array no_items
unless_none x (array no_items) e = refl
unless_none x v e = cc

empty_array : (v : Data) → not (is_empty_array v) ≡ false → v ≡ array no_items
empty_array (array no_items) e = refl
empty_array (array (item d ds)) e =
    let some : (suc (length (list_of_items ds)) == 0) ≡ false = grind arith in
    let h : true ≡ false = sym (ap not some) ∙ e in
    cc
empty_array d e = let h : true ≡ false = e in cc

pub all_plain : (o : Option Want) (w : Want) → o ≡ Some w → is_plain w ≡ true → AllPlain o
all_plain o w e h = subst AllPlain (sym e) h

-- a member that means nothing is an empty array
record Nothing (k : MemberKind) (r : Bool) (v : Data) : Type 0 where
  array_kind : is_array_kind k ≡ true
  empty : v ≡ array no_items
  wanted : want_of_kind k r ≡ Member k (may_need_entry k && r)

means_nothing : (π : Preference) (t : Data) → IsAccepted π t → (k : MemberKind) (r : Bool) (v : Data) → means_itself k ≡ true
    → Within t (asked (want_of_kind k r) v) → plain_value π t k v ≡ None → Nothing k r v
means_nothing π t accepted (kind.Many f) r v h w e = record { array_kind = refl; empty = unless_none _ v e; wanted = refl }
means_nothing π t accepted kind.Identifiers r v h w e = record { array_kind = refl; empty = unless_none _ v e; wanted = refl }
means_nothing π t accepted kind.Content r v h w e = record { array_kind = refl; empty = unless_none _ v e; wanted = refl }
means_nothing π t accepted kind.Outside r v h w e =
    record {
      array_kind = refl;
      empty = empty_array v (faultless t (no_shape_fault π t accepted) (asked (Member kind.Outside false) v) reason.OutsideProfile w);
      wanted = refl;
    }
means_nothing π t accepted kind.StrangeReference r v h w e = absurd (no_unknown t (no_shape_fault π t accepted) v false w)
means_nothing π t accepted kind.StrangeIdentity r v h w e = absurd (no_strange t (no_shape_fault π t accepted) v false w)
means_nothing π t accepted k r v h w e = cc

module _ (π : Preference) (t u : Data) (m : Sides) (accepted : IsAccepted π t) (accepted' : IsAccepted π u) (tied : TextsTied π t u m) where
  same_label : (r r' : Bool) (v w : Data) → LabelView v → LabelView w → IsTree v → IsTree w → Within t (asked (Member kind.Label r) v)
      → Within u (asked (Member kind.Label r') w) → label_of v ≡ label_of w → Same m (Some (Member kind.Label r)) v w
  same_label r r' v w (text_view {s = a}) (text_view {s = b}) tree tree' inside inside' same =
      let h : untranslated a ≡ untranslated b = same in let e : a ≡ b =
      cc in subst (λ x. Same m (Some (Member kind.Label r)) (string a) (string x)) e (a_text refl)
  same_label r r' v w (object_view {ms = ms}) (object_view {ms = ns}) tree tree' inside inside' same =
      let a = label_parts π t accepted r ms tree inside in
      let b = label_parts π u accepted' r' ns tree' inside' in
      an_object (subst (λ o. SameMembers m (scope.Members role.Label o) ms ns) (sym a.among)
      (labels_say m ms ns tree tree' a.translations b.translations (a.typed ∙ sym b.typed) same))
  same_label r r' v w a b tree tree' inside inside' same = cc

  -- arrays of a kind
  same_array : (k : MemberKind) (r : Bool) (v w : Data) → is_array v ≡ true → is_array w ≡ true → IsTree v → IsTree w → Within t (asked (Member k r) v)
      → Within u (asked (Member k r) w)
      → ((ds es : Items) → AreTrees ds → AreTrees es → Within t (asked (Member k r) (array ds)) → Within u (asked (Member k r) (array es))
      → plain_value π t k (array ds) ≡ plain_value π u k (array es) → Same m (Some (Member k r)) (array ds) (array es))
      → plain_value π t k v ≡ plain_value π u k w → Same m (Some (Member k r)) v w
  same_array k r (array ds) (array es) h h' tree tree' inside inside' arrays same = arrays ds es tree tree' inside inside' same
  same_array k r v w h h' tree tree' inside inside' arrays same = cc

  same_references : (f : Family) (r : Bool) (ds es : Items) → has_keys f ≡ true → Within t (asked (Member (kind.Many f) r) (array ds))
      → Within u (asked (Member (kind.Many f) r) (array es))
      → plain_value π t (kind.Many f) (array ds) ≡ plain_value π u (kind.Many f) (array es) → Same m (Some (Member (kind.Many f) r)) (array ds) (array es)
  same_references f r ds es keyed w w' same =
      set_says m (Member (kind.Many f) r) ds es refl
      (of_arrays (λ x y. Matched (Same m (Some (Reference f))) (list_of_items x) (list_of_items y)) _ _ ds es same (matched_none _)
      (λ e. references_matched π t u m accepted accepted' tied f keyed r r ds es w w' (ap keys_meant e)))

  same_identifiers : (r : Bool) (ds es : Items) → AreTrees ds → AreTrees es → Within t (asked (Member kind.Identifiers r) (array ds))
      → Within u (asked (Member kind.Identifiers r) (array es)) → plain_value π t kind.Identifiers (array ds) ≡ plain_value π u kind.Identifiers (array es)
      → Same m (Some (Member kind.Identifiers r)) (array ds) (array es)
  same_identifiers r ds es trees trees' w w' same =
      set_says m (Member kind.Identifiers r) ds es refl
      (of_arrays (λ x y. Matched (Same m (Some (Object role.Identifier))) (list_of_items x) (list_of_items y)) _ _ ds es same (matched_none _)
      (λ e. in_some_order (json_sets_reordered (list_of_items ds) (list_of_items es)
      (values_sound π t accepted kind.Identifiers r role.Identifier ds w refl refl identifier_simple trees)
      (values_sound π u accepted' kind.Identifiers r role.Identifier es w' refl refl identifier_simple trees')
      (values_apart π t accepted kind.Identifiers r role.Identifier ds w refl refl identifier_simple trees)
      (values_apart π u accepted' kind.Identifiers r role.Identifier es w' refl refl identifier_simple trees')
      (ap json_in e))))
    where
      in_some_order : {xs ys : List Data} → IsPermutation xs ys → Matched (Same m (Some (Object role.Identifier))) xs ys
      in_some_order {xs} h =
          record {
            middle = xs;
            paired = paired_self xs (λ x. plain_self m (Some (Object role.Identifier)) x (all_plain _ (Object role.Identifier) refl refl));
            reordered = h;
          }

  same_content : (r : Bool) (ds es : Items) → AreTrees ds → AreTrees es → Within t (asked (Member kind.Content r) (array ds))
      → Within u (asked (Member kind.Content r) (array es))
      → plain_value π t kind.Content (array ds) ≡ plain_value π u kind.Content (array es) → Same m (Some (Member kind.Content r)) (array ds) (array es)
  same_content r ds es trees trees' w w' same =
      list_says m (Member kind.Content r) ds es refl
      (entries_paired m (of_arrays (λ x y. SameEntries m (Some (Object role.Content)) x y) _ _ ds es same no_entry
      (λ e. content_says π t u m accepted accepted' tied r r ds es trees trees' w w' (ap content_in e))))

  same_value : (k : MemberKind) (r : Bool) (v w : Data) → means_itself k ≡ true → IsTree v → IsTree w → Within t (asked (want_of_kind k r) v)
      → Within u (asked (want_of_kind k r) w) → plain_value π t k v ≡ plain_value π u k w → Same m (Some (want_of_kind k r)) v w
  same_value kind.Label r v w h tree tree' inside inside' same =
      same_label false false v w (label_view v (wanted_within t (no_shape_fault π t accepted) (asked (Member kind.Label false) v) inside))
      (label_view w (wanted_within u (no_shape_fault π u accepted') (asked (Member kind.Label false) w) inside'))
      tree tree' inside inside' (ap label_in same)
  same_value (kind.One f) r v w h tree tree' inside inside' same =
      reference_says π t u m accepted accepted' tied f h v w (named_by π t accepted f h v inside) (named_by π u accepted' f h w inside')
      (one_key (entry_key π t f v) (entry_key π u f w) same)
    where
      one_key : (k l : Option Key) → Some (a_key k) ≡ Some (a_key l) → k ≡ l
      one_key k l e = cc
  same_value (kind.Many f) r v w h tree tree' inside inside' same =
      same_array (kind.Many f) r v w (wanted_within t (no_shape_fault π t accepted) (asked (Member (kind.Many f) r) v) inside)
      (wanted_within u (no_shape_fault π u accepted') (asked (Member (kind.Many f) r) w) inside') tree tree' inside inside'
      (λ ds es trees trees' i i' e. same_references f r ds es h i i' e) same
  same_value kind.Identifiers r v w h tree tree' inside inside' same =
      same_array kind.Identifiers false v w (wanted_within t (no_shape_fault π t accepted) (asked (Member kind.Identifiers false) v) inside)
      (wanted_within u (no_shape_fault π u accepted') (asked (Member kind.Identifiers false) w) inside') tree tree' inside inside'
      (same_identifiers false) same
  same_value kind.Content r v w h tree tree' inside inside' same =
      same_array kind.Content false v w (wanted_within t (no_shape_fault π t accepted) (asked (Member kind.Content false) v) inside)
      (wanted_within u (no_shape_fault π u accepted') (asked (Member kind.Content false) w) inside') tree tree' inside inside'
      (same_content false) same
  same_value kind.Outside r v w h tree tree' inside inside' same =
      let a = means_nothing π t accepted kind.Outside r v refl inside refl in
      let b = means_nothing π u accepted' kind.Outside r w refl inside' refl in
      subst (Same m (Some (Member kind.Outside false)) v) (a.empty ∙ sym b.empty) (plain_self m _ v (all_plain _ (Member kind.Outside false) refl refl))
  same_value kind.StrangeReference r v w h tree tree' inside inside' same = absurd (no_unknown t (no_shape_fault π t accepted) v false inside)
  same_value kind.StrangeIdentity r v w h tree tree' inside inside' same = absurd (no_strange t (no_shape_fault π t accepted) v false inside)
  same_value k r v w h tree tree' inside inside' same = let one : v ≡ w =
      cc in subst (Same m (Some (want_of_kind k r)) v) one (plain_self m (Some (want_of_kind k r)) v cc)

  -- members that mean the same by themselves
  pub plain_aligned : (s : Scope) (n : List ℕ) (k : MemberKind) (r : Bool) (o p : Option Data) → want_of_name s n ≡ Some (want_of_kind k r)
      → means_itself k ≡ true
      → ((v : Data) → o ≡ Some v → IsTree v) → ((v : Data) → p ≡ Some v → IsTree v)
      → ((v : Data) → o ≡ Some v → Within t (asked (want_of_kind k r) v)) → ((v : Data) → p ≡ Some v → Within u (asked (want_of_kind k r) v))
      → option_and_then (plain_value π t k) o ≡ option_and_then (plain_value π u k) p → Aligned m s n o p
  plain_aligned s n k r None None asks h tree tree' inside inside' same = not_both (lacks_nothing m.left s n) (lacks_nothing m.right s n)
  plain_aligned s n k r None (Some w) asks h tree tree' inside inside' same =
      let x = means_nothing π u accepted' k r w h (inside' w refl) (sym same) in
      right_empty m s n k (may_need_entry k && r) (asks ∙ ap Some x.wanted) x.array_kind (Some w) (ap Some x.empty)
  plain_aligned s n k r (Some v) None asks h tree tree' inside inside' same =
      let x = means_nothing π t accepted k r v h (inside v refl) same in left_empty m s n k (may_need_entry k && r) (asks ∙ ap Some x.wanted) x.array_kind
      (Some v) (ap Some x.empty)
  plain_aligned s n k r (Some v) (Some w) asks h tree tree' inside inside' same =
      both_there (subst (λ x. Same m x v w) (sym asks) (same_value k r v w h (tree v refl) (tree' w refl) (inside v refl) (inside' w refl) same))

-- ---- what records leave out

-- a name whose member is in the envelope, or means nothing by itself
abbrev pub is_apart : Class → List ℕ → Bool
is_apart c name = is_in_envelope c name || not (means_itself (kind_of_member c name))

pub not_apart : (a b : Bool) → a || not b ≡ false → (a ≡ false) × (b ≡ true)
not_apart false true e = (refl, refl)
not_apart a b e = cc

pub meant_unless_apart : (c : Class) (k : List ℕ) → is_apart c k ≡ false → means_itself (kind_of_member c k) ≡ true
meant_unless_apart c k e = (not_apart (is_in_envelope c k) (means_itself (kind_of_member c k)) e).1

-- all members of the class mean something by themselves but these
abbrev pub are_apart : List (List ℕ) → Class → Bool
are_apart names c = list_all (λ m. means_itself m.kind || list_any (bytes_eq m.name) names) (rows_of_class c)

or_false : (a b : Bool) → a || b ≡ true → a ≡ false → b ≡ true
or_false a b e h = rw h at e

pub apart_named : (names : List (List ℕ)) (c : Class) (k : List ℕ) → bytes_eq k (codes "@type") ≡ false → bytes_eq k (codes "@id") ≡ false
    → are_apart names c ≡ true → means_itself (kind_of_member c k) ≡ false → In k names
apart_named names c k e f all plain =
    let r = In-any (bytes_eq k) names (or_false (means_itself (kind_of_member c k)) _
    (kind_of_name (λ m. means_itself m.kind || list_any (bytes_eq m.name) names) (λ x. means_itself x || list_any (bytes_eq k) names) c k e f all
    (λ m h g. subst (λ n. means_itself m.kind || list_any (bytes_eq n) names ≡ true) (sym (text_exact k m.name g)) h) refl refl)
    plain) in
    subst (λ z. In z names) (sym (text_exact k r.0 r.2)) r.1

pub apart_cases : (c : Class) (k : List ℕ) → is_apart c k ≡ true → (is_in_envelope c k ≡ true) ⊎ (means_itself (kind_of_member c k) ≡ false)
apart_cases c k e = at (is_in_envelope c k) (means_itself (kind_of_member c k)) e
  where
    at : (a b : Bool) → a || not b ≡ true → (a ≡ true) ⊎ (b ≡ false)
    at true b h = inl refl
    at false true h = cc
    at false false h = inr refl

no_envelope : (c : Class) (k : List ℕ) → is_report_class c ≡ false → is_in_envelope c k ≡ false
no_envelope class.ElectionReport k h = cc
no_envelope _ k h = refl

-- a class whose records leave out these names alone
abbrev pub leaves_out : List (List ℕ) → Class → Bool
leaves_out names c = not (is_report_class c) && are_apart names c

-- what the records of a family's objects leave out
abbrev pub left_of : Option Family → List (List ℕ)
left_of (Some family.Contest) = codes "ContestSelection" ∷ []
left_of f = []

class_leaves : (c : Class) → is_some (family_of_class c) ≡ true → leaves_out (left_of (family_of_class c)) c ≡ true
class_leaves class.ElectionReport h = cc
class_leaves c h = cc

pub leaves : (f : Family) (c : Class) → role_of_class c ≡ role.OfFamily f → leaves_out (left_of (Some f)) c ≡ true
leaves f c e =
    let g : family_of_class c ≡ Some f = ap family_of_role e in
    subst (λ o. leaves_out (left_of o) c ≡ true) g (class_leaves c (ap is_some g))

pub left_out : (names : List (List ℕ)) (c : Class) (k : List ℕ) → leaves_out names c ≡ true → bytes_eq k (codes "@type") ≡ false → bytes_eq k (codes "@id")
    ≡ false → is_apart c k ≡ true → In k names
left_out names c k h e f g =
    let both = and_parts (not (is_report_class c)) (are_apart names c) h in
    ⊎_elim (λ i. let x : false ≡ true = sym (no_envelope c k (not-true (is_report_class c) both.0)) ∙ i in cc)
    (λ i. apart_named names c k e f both.1 i) (apart_cases c k g)

-- ---- what the records of objects with selections say

plain_of_value : Option MemberValue → Option PlainValue
plain_of_value (Some (a_plain p)) = Some p
plain_of_value o = None

member_value-plain : (π : Preference) (t : Data) (k : MemberKind) (o : Option Data) (p : Option PlainValue) → means_itself k ≡ true
    → member_value π t k o p ≡ option_map a_plain p
member_value-plain π t (kind.Keyed f) o p h = cc
member_value-plain π t _ o p h = refl

plain_again : (p : Option PlainValue) → plain_of_value (option_map a_plain p) ≡ p
unfolding plain_of_value
plain_again None = refl
plain_again (Some p) = refl

pub plain_from_value : (π : Preference) (t u : Data) (k : MemberKind) (o o' : Option Data) (p q : Option PlainValue) → means_itself k ≡ true
    → member_value π t k o p ≡ member_value π u k o' q → p ≡ q
plain_from_value π t u k o o' p q h e = sym (plain_again p) ∙ ap plain_of_value (sym (member_value-plain π t k o p h) ∙ e ∙ member_value-plain π u k o' q h)
    ∙ plain_again q

-- ---- `Status` is a word

json_of : Option PlainValue → Data
json_of (Some (a_json d)) = d
json_of o = null

pub word_same : (π : Preference) (t u : Data) (o p : Option Data) → option_and_then (plain_value π t kind.Word) o
    ≡ option_and_then (plain_value π u kind.Word) p → o ≡ p
unfolding json_of
word_same π t u None None e = refl
word_same π t u (Some v) (Some w) e = ap Some (ap json_of e)
word_same π t u o p e = cc

-- ---- objects

module _ (π : Preference) (t u : Data) (m : Sides) (accepted : IsAccepted π t) (accepted' : IsAccepted π u) (tied : TextsTied π t u m) where
  module _ (q : Role) (c : Class) (ms ns : Members) (a : ObjectAt t (Object q) q c ms) (b : ObjectAt u (Object q) q c ns) where
    abbrev pub AlignedAt : List ℕ → Type 0
    AlignedAt k = Aligned m (scope.Members q (Some c)) k (get_member k ms) (get_member k ns)

    asks_status : (k : List ℕ) → (is_report_class c && bytes_eq k (codes "Status")) ≡ true → member_want c k ≡ Status
    asks_status k e = rw e refl

    plain_at : AreMembers ms → AreMembers ns → (k : List ℕ) → bytes_eq k (codes "@type") ≡ false → means_itself (kind_of_member c k) ≡ true
        → option_and_then (plain_value π t (kind_of_member c k)) (get_member k ms) ≡ option_and_then (plain_value π u (kind_of_member c k)) (get_member k ns)
        → (s : Bool) → (is_report_class c && bytes_eq k (codes "Status")) ≡ s → AlignedAt k
    plain_at tree tree' k e plain means true status =
        equal_aligned m (scope.Members q (Some c)) k (get_member k ms) (get_member k ns)
        (all_plain _ Status (asked_of_name q c k e ∙ ap Some (asks_status k status)) refl)
        (word_same π t u (get_member k ms) (get_member k ns)
        (subst (λ x. option_and_then (plain_value π t x) (get_member k ms) ≡ option_and_then (plain_value π u x) (get_member k ns))
        (status_kind c k status) means))
    plain_at tree tree' k e plain means false other =
        plain_aligned π t u m accepted accepted' tied (scope.Members q (Some c)) k (kind_of_member c k) (is_required c k) (get_member k ms) (get_member k ns)
        (asked_of_name q c k e ∙ ap Some (want_unless_status c k other)) plain
        (λ v i. get_member-tree k v ms tree i) (λ v i. get_member-tree k v ns tree' i)
        (λ v i. subst (λ x. Within t (asked x v)) (want_unless_status c k other)
        (member_within t (no_shape_fault π t accepted) (Object q) q ms c k v a.asks a.among e a.inside i))
        (λ v i. subst (λ x. Within u (asked x v)) (want_unless_status c k other)
        (member_within u (no_shape_fault π u accepted') (Object q) q ns c k v b.asks b.among e b.inside i))
        means

    pub object_says : AreMembers ms → AreMembers ns → AlignedAt (codes "@id")
        → ((k : List ℕ) → bytes_eq k (codes "@type") ≡ false → bytes_eq k (codes "@id") ≡ false → is_apart c k ≡ true → AlignedAt k)
        → ((k : List ℕ) → is_apart c k ≡ false → plain_member π t (object ms) c k ≡ plain_member π u (object ns) c k)
        → Same m (Some (Object q)) (object ms) (object ns)
    object_says tree tree' ids given same =
        an_object (subst (λ o. SameMembers m (scope.Members q o) ms ns) (sym a.among)
        (merged m (scope.Members q (Some c)) ms ns tree tree'
        (λ k. at k (bytes_eq k (codes "@type")) refl (bytes_eq k (codes "@id")) refl (is_apart c k) refl)))
      where
        at : (k : List ℕ) (x : Bool) → bytes_eq k (codes "@type") ≡ x → (y : Bool) → bytes_eq k (codes "@id") ≡ y → (z : Bool) → is_apart c k ≡ z → AlignedAt k
        at k true e y f z g =
            subst AlignedAt (sym (text_exact k (codes "@type") e))
            (equal_aligned m (scope.Members q (Some c)) (codes "@type") (get_member (codes "@type") ms) (get_member (codes "@type") ns)
            (all_plain _ (ClassText q) refl refl) (a.typed ∙ sym b.typed))
        at k false e true f z g = subst AlignedAt (sym (text_exact k (codes "@id") f)) ids
        at k false e false f true g = given k e f g
        at k false e false f false g =
            let h = not_apart (is_in_envelope c k) (means_itself (kind_of_member c k)) g in
            plain_at tree tree' k e h.1 (rw h.0 at (same k g)) (is_report_class c && bytes_eq k (codes "Status")) refl
