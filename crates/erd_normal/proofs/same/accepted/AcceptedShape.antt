-- A report that says the same as an accepted one has no fault of shape, where its envelope has none.
use Rattle.erd_normal.proofs.Common.{◌≡◌, ℕ, Bool, true, false, not, ◌&&◌, ◌⊎◌, List, [], ◌∷◌, IsSomeAnd, IsTrue, Some, Option, option_map, option_and_then}
use Rattle.erd_normal.proofs.Common.{bytes_eq, sym, refl, ap, ◌∙◌, subst, ap₂, inl, inr, false_from_ne_true, Data, string, array, object, Items, Members}
use Rattle.erd_normal.proofs.Common.{get_member, get_item, Family, role, reason, kind, Step, At, Name, string_from_text, list_of_items-place}
use Rattle.erd_normal.proofs.Common.{list_of_items-tree, text_itself, is_same_exact, Within-step, Within-root, not_within, faultless, wanted_within}
use Rattle.erd_normal.proofs.Common.{within-tree, Within, is_reference, is_shape_fault, IsTree, is_same_json, list_of_items, scope_inside, want_of_name}
use Rattle.erd_normal.proofs.Common.{entry_want, is_compared_set, Asked, asked, is_repeated, asked_of_member, asked_inside, asked_from, asked_at, Want, Member}
use Rattle.erd_normal.proofs.Common.{Object, Reference, no_shape_fault, no_reference_fault, unrepeated_distinct, IsAccepted, Preference, is_reference_fault}
use Rattle.erd_normal.proofs.Common.{HasSoundEnvelope, Sides, is_envelope, Same, ⊎_elim, true≢false, None, In, reordered-In, length, is_none, ◌==◌, codes}
use Rattle.erd_normal.proofs.Common.{list_any, option_map_or, as_number, is_float, class_in_role, Reason, MemberKind, is_empty_array, lacks, has_kind}
use Rattle.erd_normal.proofs.Common.{has_wanted_kind, names_wanted, is_wrong_class, wants_whole, is_outside, is_other_status, wants_entry, ShapeFault, NoneOf}
use Rattle.erd_normal.proofs.Common.{is_elections, ClassText, Status, an_id, a_list, a_set, an_object, SameMembers}
use Rattle.erd_normal.proofs.same.IdsOfObjects.{IsPart, part_at}
use Rattle.erd_normal.proofs.same.accepted.RequiredMembers.{IsSoundInside, quiet_lone, IsSound, absent_sound, required_stays}
use Rattle.erd_normal.proofs.lists.Matched.{Matched, distinct-paired, distinct-reordered, matched_length}
use Rattle.erd_normal.proofs.lists.Lists.{items_again}
use Rattle.erd_normal.proofs.inside.Entries.{AreUnlike, same_turned, unlike_unrepeated}
use Rattle.erd_normal.proofs.same.InTurn.{id_text, from_array, CameFrom, came_along, envelope_quiet, quiet_from}
use Rattle.erd_normal.proofs.same.Related.{entries_matched, matched_within_both}
use Rattle.erd_normal.proofs.same.Lookups.{steady_same, is_plain, of_report, Aligned, both_there, not_both, MayLack, lookups, scope_same, text_same}
use Rattle.erd_meaning.proofs.references.ReferenceWalks.{asked_from-append}

-- ---- members of the envelope

module _ (u : Data) (sound : HasSoundEnvelope u) where
  under_root : (b : Asked) (n : List ℕ) (c : Asked) → Within u b → b.want ≡ Object role.Report → asked_inside b.want b.value (Name n) ≡ Some c
      → asked_at u (Name n ∷ []) ≡ Some c
  under_root b n c inside report step =
      let same : b.value ≡ u = subst (λ w. IsPart u w b.value) report (part_at u inside.place b inside.is) in
      let here : asked_inside (Object role.Report) u (Name n) ≡ Some c = ap₂ (λ w d. asked_inside w d (Name n)) (sym report) (sym same) ∙ step in
      ap (option_and_then (λ x. asked_from x [])) here

  further : (n : List ℕ) (ss : List Step) (c x : Asked) → asked_at u (Name n ∷ []) ≡ Some c → asked_from c ss ≡ Some x → asked_at u (Name n ∷ ss) ≡ Some x
  further n ss c x stands rest = asked_from-append (asked (Object role.Report) u) (Name n ∷ []) ss ∙ ap (option_and_then (λ y. asked_from y ss)) stands ∙ rest

  -- a member of the envelope has no fault
  pub envelope_sound : (b : Asked) (ns : Members) (n : List ℕ) (v : Want) (d : Data) → Within u b → b.value ≡ object ns
      → want_of_name (scope_inside b.want (object ns)) n ≡ Some v
      → get_member n ns ≡ Some d → is_envelope (scope_inside b.want (object ns)) n ≡ true → IsSoundInside (asked v d)
  envelope_sound b ns n v d inside value asks found h ss x e =
      let o = of_report b.want ns n h in
      let stands : asked_at u (Name n ∷ []) ≡ Some (asked v d) = under_root b n (asked v d) inside o.report (rw (value, asks, found) refl) in
      let place : asked_at u (Name n ∷ ss) ≡ Some x = further n ss (asked v d) x stands e in
      record {
        no_fault = λ r. false_from_ne_true (is_shape_fault x r)
            (λ fault. sound (Name n ∷ ss) r o.name (subst (λ y. IsSomeAnd y (λ a. IsTrue (is_shape_fault a r))) (sym place) fault));
        lone = quiet_lone x.want (quiet_from (asked v d) ss x (envelope_quiet (scope_inside b.want (object ns)) n v h asks) e);
      }

-- ---- all that is asked in the right report is asked in the left one of a value that says the same and repeats no other, or
-- has no fault of shape

-- it is asked in the left report of a value that says the same, and does not repeat one
pub record AskedAgain (m : Sides) (b : Asked) : Type 0 where
  pub of : Asked
  pub inside : Within m.left of
  pub want : of.want ≡ b.want
  pub same : Same m (Some b.want) of.value b.value
  pub first : b.repeated ≡ false

-- the members of the envelope that stand in it have no fault
abbrev pub HasSoundMembers : Asked → Type 0
HasSoundMembers b =
    (ns : Members) (n : List ℕ) (v : Want) (f : Data) → b.value ≡ object ns → want_of_name (scope_inside b.want (object ns)) n ≡ Some v
    → get_member n ns ≡ Some f → is_envelope (scope_inside b.want (object ns)) n ≡ true → IsSoundInside (asked v f)

-- a fault that nothing has stands at no place
pub none_asked : (u : Data) (test : Asked → Bool) (p : List Step) → ((b : Asked) → asked_at u p ≡ Some b → test b ≡ false)
    → IsSomeAnd (asked_at u p) (λ a. IsTrue (test a)) → ⊥
none_asked u test p none = at (asked_at u p) refl
  where
    at : (o : Option Asked) → asked_at u p ≡ o → IsSomeAnd o (λ a. IsTrue (test a)) → ⊥
    at None is h = h
    at (Some b) is h = true≢false (sym h ∙ none b is)

-- ---- nothing is repeated in an accepted report

flags_false : (b c : Bool) → b && not c ≡ false → b && c ≡ false → b ≡ false
flags_false true true h k = k
flags_false true false h k = h
flags_false false c h k = refl

pub none_repeated : (π : Preference) (t : Data) → IsAccepted π t → (a : Asked) → Within t a → a.repeated ≡ false
none_repeated π t accepted a inside =
    flags_false a.repeated (is_reference a.want) (faultless t (no_shape_fault π t accepted) a reason.Repeated inside)
    (false_from_ne_true _ (not_within t a (λ x. IsTrue (is_reference_fault t x reason.Repeated)) inside
    (no_reference_fault π t accepted inside.place reason.Repeated)))

-- ---- entries of sets

-- the entries of a set whose entries are compared: references, or what is plain
plain_or_reference : (w v : Want) → entry_want w ≡ Some v → is_compared_set w ≡ true → (is_plain v ≡ true) ⊎ ((f : Family) × (v ≡ Reference f))
plain_or_reference (Member (kind.Many f) required) v e set = let h : v ≡ Reference f = cc in inr (f, h)
plain_or_reference (Member kind.Identifiers required) v e set = let h : Object role.Identifier ≡ v = cc in inl (ap is_plain (sym h))
plain_or_reference (Member kind.Languages required) v e set = let h : Object role.Language ≡ v = cc in inl (ap is_plain (sym h))
plain_or_reference w v e set = cc

-- as `and` says it
pub flag_clear : (set r : Bool) → ((set ≡ true) → r ≡ false) → set && r ≡ false
flag_clear true r h = h refl
flag_clear false r h = refl

member_first : (v : Option Want) (p : Option Data) (c : Asked) → asked_of_member v p ≡ Some c → c.repeated ≡ false
member_first (Some v) (Some f) c e = let one : asked v f ≡ c = cc in ap (λ (x : Asked). x.repeated) (sym one)
member_first v p c e = cc

entry_first : (v : Option Want) (o : Option Data) (set : Bool) (es : Items) (i : ℕ) (c : Asked)
    → ((w : Want) (f : Data) → v ≡ Some w → o ≡ Some f → set && is_repeated es i f ≡ false)
    → option_and_then {U = Asked} (λ w. option_map (λ d. record { want = w; value = d; repeated = set && is_repeated es i d }) o) v
    ≡ Some c → c.repeated ≡ false
entry_first (Some v) (Some f) set es i c each e =
    let one : ◌≡◌ {A = Asked} (record { want = v; value = f; repeated = set && is_repeated es i f }) c =
    cc in ap (λ (x : Asked). x.repeated) (sym one) ∙ each v f refl refl
entry_first v o set es i c each e = cc

module _ (m : Sides) (left_tree : IsTree m.left) (right_tree : IsTree m.right) (π : Preference) (accepted : IsAccepted π m.left) where
  -- texts for one thing are one text
  one_text : (f : Family) (x x' y y' : Data) → Within m.left (asked (Reference f) x) → Within m.left (asked (Reference f) x') → Same m (Some (Reference f)) x y
      → Same m (Some (Reference f)) x' y' → y' ≡ y → is_same_json x' x ≡ true
  one_text f x x' y y' inside inside' same same' one =
      let s = string_from_text x (wanted_within m.left (no_shape_fault π m.left accepted) (asked (Reference f) x) inside) in
      let s' = string_from_text x' (wanted_within m.left (no_shape_fault π m.left accepted) (asked (Reference f) x') inside') in
      let o = id_text m s.0 same refl s.1 in
      let o' = id_text m s'.0 same' refl s'.1 in
      let texts : string o'.other ≡ string o.other = sym o'.is ∙ one ∙ o.is in
      let other : o'.other ≡ o.other = cc in
      let text : s'.0 ≡ s.0 = o'.pair.1 ∙ ap m.back other ∙ sym o.pair.1 in
      ap₂ is_same_json s'.1 s.1 ∙ ap (λ z. bytes_eq z s.0) text ∙ text_itself s.0

  record Entry (v : Want) (x y : Data) : Type 0 where
    same : Same m (Some v) x y
    inside : Within m.left (asked v x)
    tree : IsTree y

  entry_within : (a : Asked) (ds : Items) (v : Want) → Within m.left a → a.value ≡ array ds → entry_want a.want ≡ Some v → (x : Data) → In x (list_of_items ds)
      → Within m.left (asked v x)
  entry_within a ds v inside value asks x h =
      let j = list_of_items-place ds x h in
      let b : Asked = record { want = v; value = x; repeated = is_compared_set a.want && is_repeated ds j.0 x } in
      let stands : Within m.left b = Within-step m.left a b (At j.0) inside (rw (value, asks, j.1) refl) in
      subst (λ r. Within m.left (record { want = v; value = x; repeated = r })) (none_repeated π m.left accepted b stands) stands

  one_entry : (a : Asked) (v : Want) → entry_want a.want ≡ Some v → is_compared_set a.want ≡ true → (x x' y y' : Data) → Entry v x y → Entry v x' y'
      → is_same_json y' y ≡ true → is_same_json x' x ≡ true
  one_entry a v asks set x x' y y' e e' h = at (plain_or_reference a.want v asks set)
    where
      at : (is_plain v ≡ true) ⊎ ((f : Family) × (v ≡ Reference f)) → is_same_json x' x ≡ true
      at (inl plain) =
          subst (λ z. is_same_json z x ≡ true) (sym (steady_same m e'.same plain)) (subst (λ z. is_same_json y' z ≡ true) (sym (steady_same m e.same plain)) h)
      at (inr o) =
          one_text o.0 x x' y y' (subst (λ w. Within m.left (asked w x)) o.1 e.inside) (subst (λ w. Within m.left (asked w x')) o.1 e'.inside)
          (subst (λ w. Same m (Some w) x y) o.1 e.same) (subst (λ w. Same m (Some w) x' y') o.1 e'.same) (is_same_exact y' y e'.tree e.tree h)

  -- the entries of the set in the left report are unlike, so those in the right one are
  unlike : (a : Asked) (ds es : Items) (v : Want) → Within m.left a → a.value ≡ array ds → entry_want a.want ≡ Some v → is_compared_set a.want ≡ true
      → IsTree (array es) → Matched (Same m (Some v)) (list_of_items ds) (list_of_items es) → AreUnlike (list_of_items es)
  unlike a ds es v inside value asks set trees matched =
      let entries : Matched (Entry v) (list_of_items ds) (list_of_items es) =
      matched_within_both (Entry v)
      (λ x y i j k. record { same = k; inside = entry_within a ds v inside value asks x i; tree = list_of_items-tree es y trees j }) matched in
      let turned = λ (d f : Data) (i : In d entries.middle) (j : In f entries.middle) (h : is_same_json f d ≡ false).
      same_turned d f (list_of_items-tree es d trees (reordered-In d entries.reordered i))
      (list_of_items-tree es f trees (reordered-In f entries.reordered j)) h in
      distinct-reordered (λ d f. is_same_json f d) entries.reordered turned
      (distinct-paired (λ d f. is_same_json f d) (λ d f. is_same_json f d) (λ x x' y y' i j e e' h. one_entry a v asks set x x' y y' e e' h) entries.paired
      (unrepeated_distinct ds (λ i d found. each i d found)))
    where
      each : (i : ℕ) (d : Data) → get_item i ds ≡ Some d → is_repeated ds i d ≡ false
      each i d found =
          let here_asked : Asked = record { want = v; value = d; repeated = is_repeated ds i d } in
          none_repeated π m.left accepted here_asked (Within-step m.left a here_asked (At i) inside (rw (value, asks, found, set) refl))

  first_of_set : (a : Asked) (ds es : Items) (v : Want) (i : ℕ) (f : Data) → Within m.left a → a.value ≡ array ds → entry_want a.want
      ≡ Some v → IsTree (array es)
      → Matched (Same m (Some v)) (list_of_items ds) (list_of_items es) → get_item i es ≡ Some f → is_compared_set a.want && is_repeated es i f ≡ false
  first_of_set a ds es v i f inside value asks trees matched found =
      flag_clear (is_compared_set a.want) (is_repeated es i f)
      (λ set.
      subst (λ x. is_repeated x i f ≡ false) (items_again es)
      (unlike_unrepeated (list_of_items es) i f (unlike a ds es v inside value asks set trees matched)
      (subst (λ x. get_item i x ≡ Some f) (sym (items_again es)) found)))

  -- ---- one step

  first_step : (a : Asked) (e : Data) (s : Step) → Within m.left a → Same m (Some a.want) a.value e → IsTree e → (c : Asked) → asked_inside a.want e s
      ≡ Some c → c.repeated ≡ false
  first_step a (object ns) (Name n) inside same tree c found = member_first (want_of_name (scope_inside a.want (object ns)) n) (get_member n ns) c found
  first_step a (array es) (At i) inside same tree c found =
      let f = from_array m a.want a.value es same in
      entry_first (entry_want a.want) (get_item i es) (is_compared_set a.want) es i c
      (λ v d asks stands. first_of_set a f.ds es v i d inside f.is asks tree
      (subst (λ o. Matched (Same m o) (list_of_items f.ds) (list_of_items es)) asks
      (entries_matched m a.want (subst (λ x. Same m (Some a.want) x (array es)) f.is same))) stands) found
  first_step a e s inside same tree c found = cc

  -- ---- all places

  -- from what is asked again on, as long as the members of envelopes have no fault
  module _ (P : Asked → Type 0) (keeps : (b x : Asked) (s : Step) → P b → asked_inside b.want b.value s ≡ Some x → P x)
      (envelope : (b : Asked) → Within m.right b → P b → HasSoundMembers b) where
    pub again_from : (ss : List Step) (b : Asked) → Within m.right b → P b → AskedAgain m b → (c : Asked) → asked_from b ss ≡ Some c
        → AskedAgain m c ⊎ IsSound c
    again_from ss b inside p from c e =
        ⊎_elim (λ (f : CameFrom m m.left c × (c.repeated ≡ false)). inl
        (record { of = f.0.of; inside = f.0.inside; want = f.0.want; same = f.0.same; first = f.1 })) inr
        (came_along m m.left m.right left_tree right_tree IsSound P (λ x. x.repeated ≡ false) keeps
        (λ b inside p from ms ns n v f value here scopes lacks there asks may.
        let known : scope_inside b.want (object ns) ≡ scope_inside from.of.want (object ms) = sym (scopes ∙ ap (λ w. scope_inside w (object ns)) from.want) in
        absent_sound m.left m.right (no_shape_fault π m.left accepted) from.of ms n from.inside value lacks v f asks
        (λ h. envelope b inside p ns n v f here (ap (λ s. want_of_name s n) known ∙ asks) there (ap (λ s. is_envelope s n) known ∙ h)) may)
        (λ b x s inside from found.
        first_step from.of b.value s from.inside (subst (λ w. Same m (Some w) from.of.value b.value) (sym from.want) from.same)
        (within-tree m.right b right_tree inside) x
        (ap (λ w. asked_inside w b.value s) from.want ∙ found))
        b ss c inside p (record { of = from.of; inside = from.inside; want = from.want; same = from.same }) from.first e)

  pub asked_again : HasSoundEnvelope m.right → Same m (Some (Object role.Report)) m.left m.right → (p : List Step) (c : Asked) → asked_at m.right p ≡ Some c
      → AskedAgain m c ⊎ IsSound c
  asked_again sound same p c e =
      again_from (λ b. Unit {0}) (λ b x s h found. tt) (λ b inside h ns n v f. envelope_sound m.right sound b ns n v f inside) p
      (asked (Object role.Report) m.right) (Within-root m.right) tt
      (record { of = asked (Object role.Report) m.left; inside = Within-root m.left; want = refl; same = same; first = refl }) c e

-- ---- tests of values that say the same

module _ (m : Sides) (w : Want) where
  -- a test that sees no more than the kind of a JSON value, truth values, numbers and how long an array is
  abbrev SeesKind : {A : Type 0} → (Data → A) → Type 0
  SeesKind test = ((s s' : List ℕ) → test (string s) ≡ test (string s'))
      × ((ds es : _) → length (list_of_items ds) ≡ length (list_of_items es) → test (array ds) ≡ test (array es))
      × ((ms ns : _) → test (object ms) ≡ test (object ns))

  pub same_kind : {A : Type 0} (test : Data → A) → SeesKind test → (d e : Data) → Same m (Some w) d e → test d ≡ test e
  same_kind test sees d e (an_id {s = s} {s' = s'} is h) = sees.0 s s'
  same_kind test sees d e (a_list {ds = ds} {es = es} is h) = sees.1 ds es (matched_length (entries_matched m w (a_list is h)))
  same_kind test sees d e (a_set {ds = ds} {es = es} fs is p h) = sees.1 ds es (matched_length (entries_matched m w (a_set fs is p h)))
  same_kind test sees d e (an_object {ms = ms} {ns = ns} h) = sees.2 ms ns
  same_kind test sees d e h = refl

  same_number : (d e : Data) → Same m (Some w) d e → as_number d ≡ as_number e
  same_number = same_kind as_number (λ s s'. refl, λ ds es l. refl, λ ms ns. refl)

  same_empty : (d e : Data) → Same m (Some w) d e → is_empty_array d ≡ is_empty_array e
  same_empty = same_kind is_empty_array (λ s s'. refl, λ ds es l. ap (λ n. n == 0) l, λ ms ns. refl)

-- ---- faults, but for members that are lacking

kind_seen : (m : Sides) (w : Want) (k : MemberKind) → SeesKind m w (has_kind k)
kind_seen m w kind.Identity = (λ s s'. refl, λ ds es l. refl, λ ms ns. refl)
kind_seen m w k = (λ s s'. refl, λ ds es l. refl, λ ms ns. refl)

want_seen : (m : Sides) (v w : Want) → SeesKind m v (has_wanted_kind w)
want_seen m v (Member k required) = kind_seen m v k
want_seen m v w = (λ s s'. refl, λ ds es l. refl, λ ms ns. refl)

wanted_same : (m : Sides) (w : Want) (d e : Data) → Same m (Some w) d e → has_wanted_kind w d ≡ has_wanted_kind w e
wanted_same m w d e h = same_kind m w (has_wanted_kind w) (want_seen m w w) d e h

class_text_same : (m : Sides) (w : Want) (d e : Data) → Same m (Some w) d e → is_wrong_class w d ≡ is_wrong_class w e
class_text_same m (ClassText r) d e h =
    ap (λ o. option_map_or (λ s. is_none (class_in_role r s)) o false) (text_same m h refl)
class_text_same m w d e h = refl

status_same : (m : Sides) (w : Want) (d e : Data) → Same m (Some w) d e → is_other_status w d ≡ is_other_status w e
status_same m Status d e h =
    ap (λ o. option_map_or (λ s. not (bytes_eq s (codes "pre-election"))) o false) (text_same m h refl)
status_same m w d e h = refl

-- what repeats an earlier value, and what lacks a member, is judged apart
abbrev is_apart : Reason → Bool
is_apart reason.Repeated = true
is_apart (reason.MissingMember name) = true
is_apart r = false

fault_same : (m : Sides) (w : Want) (d e : Data) (b c : Bool) (r : Reason) → is_apart r ≡ false → Same m (Some w) d e
    → is_shape_fault (record { want = w; value = d; repeated = b }) r ≡ is_shape_fault (record { want = w; value = e; repeated = c }) r
fault_same m w d e b c reason.WrongKind other h = ap not (wanted_same m w d e h)
fault_same m w d e b c (reason.MissingMember name) other h = cc
fault_same m w d e b c reason.WrongClassText other h = class_text_same m w d e h
fault_same m w d e b c reason.NotWhole other h = ap (λ o. wants_whole w && option_map_or is_float o false) (same_number m w d e h)
fault_same m w d e b c reason.OutsideProfile other h = ap (λ x. is_outside w && not x) (same_empty m w d e h)
fault_same m w d e b c reason.NotPreElection other h = status_same m w d e h
fault_same m w d e b c reason.ElectionCount other h = ap (λ x. is_elections w && x) (same_empty m w d e h)
fault_same m w d e b c reason.EmptyArray other h = ap (λ x. wants_entry w && x) (same_empty m w d e h)
fault_same m w d e b c reason.Repeated other h = cc
fault_same m w d e b c r other h = refl

-- ---- the report

module _ (m : Sides) (left_tree : IsTree m.left) (right_tree : IsTree m.right) (π : Preference) (accepted : IsAccepted π m.left) where
  -- a member that is wanted stands in the right object, since it stands in the left one
  aligned_stands : (a : Asked) (ms : Members) (n : List ℕ) (o p : Option Data) → Within m.left a → a.value ≡ object ms
      → list_any (bytes_eq n) (names_wanted (scope_inside a.want (object ms))) ≡ true
      → get_member n ms ≡ o → Aligned m (scope_inside a.want (object ms)) n o p → is_none p ≡ false
  aligned_stands a ms n (Some d) (Some e) inside value named found (both_there h) = refl
  aligned_stands a ms n o p inside value named found (not_both l r) =
      absurd (required_stays m.left (no_shape_fault π m.left accepted) a ms n inside value named
      (subst (MayLack m.left (scope_inside a.want (object ms)) n) (sym found) l))

  object_lacks : (a : Asked) (ms ns : Members) (n : List ℕ) → Within m.left a → a.value ≡ object ms → IsTree (object ns)
      → SameMembers m (scope_inside a.want (object ms)) ms ns
      → list_any (bytes_eq n) (names_wanted (scope_inside a.want (object ns))) && lacks (object ns) n ≡ false
  object_lacks a ms ns n inside value tree h =
      let left : IsTree (object ms) = subst IsTree value (within-tree m.left a left_tree inside) in
      let scopes = scope_same m a.want ms ns h in
      flag_clear (list_any (bytes_eq n) (names_wanted (scope_inside a.want (object ns)))) (lacks (object ns) n)
      (λ named. aligned_stands a ms n (get_member n ms) (get_member n ns) inside value (ap (λ s. list_any (bytes_eq n) (names_wanted s)) scopes ∙ named) refl
      (lookups m n h left tree))

  none_lacks : (a : Asked) (w : Want) (d e : Data) (n : List ℕ) → Within m.left a → a.want ≡ w → a.value ≡ d → IsTree e → Same m (Some w) d e
      → list_any (bytes_eq n) (names_wanted (scope_inside w e)) && lacks e n ≡ false
  none_lacks a w d e n inside want value tree (an_object {ms = ms} {ns = ns} h) =
      subst (λ x. list_any (bytes_eq n) (names_wanted (scope_inside x (object ns))) && lacks (object ns) n ≡ false) want
      (object_lacks a ms ns n inside value tree (subst (λ x. SameMembers m (scope_inside x (object ms)) ms ns) (sym want) h))
  none_lacks a w d e n inside want value tree h = refl

  same_asked : (a : Asked) (w : Want) → a.want ≡ w → (r : Reason) → is_shape_fault a r ≡ false
      → is_shape_fault (record { want = w; value = a.value; repeated = a.repeated }) r ≡ false
  same_asked a w e r h = subst (λ x. is_shape_fault (record { want = x; value = a.value; repeated = a.repeated }) r ≡ false) e h

  pub no_fault_at : (b : Asked) (r : Reason) → Within m.right b → AskedAgain m b → is_shape_fault b r ≡ false
  no_fault_at b r inside from = at (is_apart r) refl
    where
      apart : (r : Reason) → is_apart r ≡ true → is_shape_fault b r ≡ false
      apart reason.Repeated e = ap (λ x. x && not (is_reference b.want)) from.first
      apart (reason.MissingMember n) e = none_lacks from.of b.want from.of.value b.value n from.inside from.want refl
          (within-tree m.right b right_tree inside) from.same
      apart r e = cc

      at : (c : Bool) → is_apart r ≡ c → is_shape_fault b r ≡ false
      at true is = apart r is
      at false is =
          sym (fault_same m b.want from.of.value b.value from.of.repeated b.repeated r is from.same)
          ∙ same_asked from.of b.want from.want r (faultless m.left (no_shape_fault π m.left accepted) from.of r from.inside)

  -- no value of the right report has a fault of shape
  pub same_shape : HasSoundEnvelope m.right → Same m (Some (Object role.Report)) m.left m.right → NoneOf (ShapeFault m.right)
  same_shape sound same p r =
      none_asked m.right (λ b. is_shape_fault b r) p (λ b is.
      ⊎_elim (no_fault_at b r (record { place = p; is = is })) (λ (alone : IsSound b). alone.no_fault r)
      (asked_again m left_tree right_tree π accepted sound same p b is))
