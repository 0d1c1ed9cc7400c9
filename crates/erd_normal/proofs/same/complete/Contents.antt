-- The order of ballots: what it refers to, and that it says the same where it means the same.
use Rattle.erd_normal.proofs.Common.{◌≡◌, ℕ, true, false, ◌⊎◌, List, Some, None, codes, Option, bytes_eq, sym, refl, ap, ◌∙◌, subst, inl, inr, Data, string}
use Rattle.erd_normal.proofs.Common.{array, object, Items, Members, get_member, role_of_class, Class, class, family, role, kind, string_from_text, array_from}
use Rattle.erd_normal.proofs.Common.{object_in, is_absent, is_filled_array, MayBeArray, ObjectAt, ObjectIn, of_role, wanted_within, lacks_none, member_within}
use Rattle.erd_normal.proofs.Common.{Within, has_wanted_kind, entries_at, text_of, member_want, asked, Want, Member, Object, Reference, no_shape_fault}
use Rattle.erd_normal.proofs.Common.{IsAccepted, Preference, is_selection_in, owner, In, In-all, zero, suc, ◌≤◌, max, Bool, cond, [], ◌∷◌, map, option_and_then}
use Rattle.erd_normal.proofs.Common.{arith, no_items, item, depth, items_depth, members_depth, get_item, as_str, kind_of_member, is_required, Family}
use Rattle.erd_normal.proofs.Common.{MemberKind, At, entries_in, text_exact, get_member-tree, get_member-depth, Within-step, kind_of_unlisted_has, no_strange}
use Rattle.erd_normal.proofs.Common.{no_unknown, IsTree, AreTrees, AreMembers, want_of_kind, want_of_name, entry_want, is_table_set, Scope, scope, ClassText}
use Rattle.erd_normal.proofs.Common.{resolves, has_keys, key_of, JsonMap, Content, no_content, Node, a_contest, a_header, NameParts, if_carried}
use Rattle.erd_normal.proofs.Common.{carried_members, contest_node, header_node, nodes_of, node_of, content_inside, key_named, name_named, Key, Sides}
use Rattle.erd_normal.proofs.Common.{NameOneThing, is_array_kind, an_empty_array, a_text, an_id, an_object, no_entry, one_entry, Same, SameEntries, SameMembers}
use Rattle.erd_normal.proofs.canonical.CanonicalIds.{IsChosen, contest_named, entries_chosen, list_name}
use Rattle.erd_meaning.proofs.meanings.InnerContent.{content_at, content_inside-get}
use Rattle.erd_normal.proofs.lists.Matched.{Matched, matched_back, matched_on, Paired, none, more}
use Rattle.erd_normal.proofs.same.Related.{entries_paired, set_says, list_says}
use Rattle.erd_normal.proofs.same.Lookups.{Aligned, both_there, not_both, lacks_none as lacks_nothing, lacks_one, merged, AllPlain, is_plain_kind}
use Rattle.erd_normal.proofs.same.Lookups.{plain_of_kind}
use Rattle.erd_normal.proofs.same.Labels.{equal_aligned}
use Rattle.erd_normal.proofs.same.complete.Counterparts.{TextsTied}

-- ---- the contests and headers of the ballots of an accepted report: what they refer to, and the arrays inside them

abbrev pub inner_name : List ℕ
inner_name = codes "OrderedContent"

pub content_class : (c : Class) → role_of_class c ≡ role.Content → (c ≡ class.OrderedContest) ⊎ (c ≡ class.OrderedHeader)
content_class class.OrderedContest e = inl refl
content_class class.OrderedHeader e = inr refl
content_class c e = cc

-- an object of a ballot's content, of this class
abbrev pub NodeAt : Data → Class → Members → Type 0
NodeAt t c ms = ObjectAt t (Object role.Content) role.Content c ms

-- a text that is the `@id` of a selection of the contest
abbrev pub IsSelected : Data → Data → Type 0
IsSelected a d = (r : List ℕ) × (d ≡ string r) × (is_selection_in a r ≡ true)

-- one of this class, which names an object of the family under this name
pub record NamedNode (t : Data) (c : Class) (f : Family) (name : List ℕ) (ms : Members) : Type 0 where
  pub at : NodeAt t c ms
  pub id : List ℕ
  pub named : get_member name ms ≡ Some (string id)
  pub refers : Within t (asked (Reference f) (string id))

-- a contest on a ballot
pub record ContestNode (t : Data) (ms : Members) : Type 0 where
  pub node : NamedNode t class.OrderedContest family.Contest (codes "ContestId") ms
  pub meant : Data
  pub is : owner t family.Contest node.id ≡ Some meant
  pub list : MayBeArray (λ ds. Unit {0}) (get_member list_name ms)
  pub chosen : (d : Data) → In d (entries_at list_name (object ms)) → IsSelected meant d

-- a header on a ballot
pub record HeaderNode (t : Data) (ms : Members) : Type 0 where
  pub node : NamedNode t class.OrderedHeader family.Header (codes "HeaderId") ms
  pub list : MayBeArray (λ ds. Within t (asked (Member kind.Content false) (array ds))) (get_member inner_name ms)

-- what an entry of a ballot's content is
pub data NodeView (t : Data) : Data → Type 0 where
  contest_view : {ms : Members} → ContestNode t ms → NodeView t (object ms)
  header_view : {ms : Members} → HeaderNode t ms → NodeView t (object ms)

module _ (π : Preference) (t : Data) (accepted : IsAccepted π t) where
  -- a member that may be absent and of which an array is asked
  array_within : (w : Want) → ((v : Data) → has_wanted_kind w v ≡ true → (ds : Items) × (v ≡ array ds)) → (P : Items → Type 0) (o : Option Data)
      → ((v : Data) → o ≡ Some v → Within t (asked w v))
      → ((ds : Items) → o ≡ Some (array ds) → P ds) → MayBeArray P o
  array_within w is P None inside each = is_absent
  array_within w is P (Some v) inside each =
      let ds = is v (wanted_within t (no_shape_fault π t accepted) (asked w v) (inside v refl)) in
      subst (λ x. MayBeArray P (Some x)) (sym ds.1) (is_filled_array (each ds.0 (ap Some ds.1)))

  member_at : (c : Class) (ms : Members) → NodeAt t c ms → (name : List ℕ) → bytes_eq name (codes "@type") ≡ false → (v : Data) → get_member name ms ≡ Some v
      → Within t (asked (member_want c name) v)
  member_at c ms a name other v e = member_within t (no_shape_fault π t accepted) (Object role.Content) role.Content ms c name v of_role
      a.among other a.inside e

  contest_node_of : (ms : Members) → NodeAt t class.OrderedContest ms → ContestNode t ms
  contest_node_of ms a =
      let c = contest_named π t accepted ms a.inside a.among in
      let named : get_member (codes "ContestId") ms ≡ Some (string c.2.0) = c.1 ∙ ap Some c.2.1 in
      record {
        node = record { at = a; id = c.2.0; named = named; refers = member_at class.OrderedContest ms a (codes "ContestId") refl (string c.2.0) named };
        meant = c.2.2.0;
        is = c.2.2.1;
        list = array_within (Member kind.Ordered false) array_from (λ ds. Unit {0}) (get_member list_name ms)
            (λ v e. member_at class.OrderedContest ms a list_name refl v e) (λ ds e. tt);
        chosen = λ d h.
            let k = In-all (IsChosen π t accepted ms a.inside a.among) d (entries_at list_name (object ms))
            (entries_chosen π t accepted ms a.inside a.among) h in
            (k.0.0, k.0.1, ap (λ x. is_selection_in c.2.2.0 (text_of x)) (sym k.0.1) ∙ k.1);
      }

  header_node_of : (ms : Members) → NodeAt t class.OrderedHeader ms → HeaderNode t ms
  header_node_of ms a =
      let r = named_header (get_member (codes "HeaderId") ms) refl in
      let inside = λ (v : Data) (e : get_member inner_name ms ≡ Some v). member_at class.OrderedHeader ms a inner_name refl v e in
      record {
        node = record { at = a; id = r.0; named = r.1; refers = r.2 };
        list = array_within (Member kind.Content false) array_from (λ ds. Within t (asked (Member kind.Content false) (array ds))) (get_member inner_name ms)
            inside (λ ds e. inside (array ds) e);
      }
    where
      named_header : (o : Option Data) → get_member (codes "HeaderId") ms ≡ o → (r : List ℕ) × (get_member (codes "HeaderId") ms ≡ Some (string r))
          × Within t (asked (Reference family.Header) (string r))
      named_header None e =
          absurd (lacks_none t (no_shape_fault π t accepted) (asked (Object role.Content) (object ms)) (codes "HeaderId") a.inside (rw a.among refl) e)
      named_header (Some v) e =
          let w : Within t (asked (Reference family.Header) v) = member_at class.OrderedHeader ms a (codes "HeaderId") refl v e in
          let s = string_from_text v (wanted_within t (no_shape_fault π t accepted) (asked (Reference family.Header) v) w) in
          (s.0, e ∙ ap Some s.1, subst (λ x. Within t (asked (Reference family.Header) x)) s.1 w)

  -- each entry of a ballot's content is a contest or a header
  pub node_view : (d : Data) → Within t (asked (Object role.Content) d) → NodeView t d
  node_view d w = at (object_in t (no_shape_fault π t accepted) role.Content d w)
    where
      by_class : (c : Class) (ms : Members) → (c ≡ class.OrderedContest) ⊎ (c ≡ class.OrderedHeader) → NodeAt t c ms → NodeView t (object ms)
      by_class c ms (inl e) a = contest_view (contest_node_of ms (subst (λ x. NodeAt t x ms) e a))
      by_class c ms (inr e) a = header_view (header_node_of ms (subst (λ x. NodeAt t x ms) e a))

      at : ObjectIn t role.Content d → NodeView t d
      at o = subst (NodeView t) (sym o.is_object) (by_class o.class o.ms (content_class o.class o.role) o.at)

-- ---- arrays whose entries say the same say the same, and so do an absent one and an empty one

module _ (m : Sides) where
  module _ (s : Scope) (n : List ℕ) (k : MemberKind) (r : Bool) (asks : want_of_name s n ≡ Some (Member k r)) (kind : is_array_kind k ≡ true) where
    -- an empty array may be absent
    pub left_empty : (o : Option Data) → o ≡ Some (array no_items) → Aligned m s n o None
    left_empty o e = subst (λ x. Aligned m s n x None) (sym e)
        (not_both (lacks_one m.left s n (array no_items) (an_empty_array k r asks kind refl)) (lacks_nothing m.right s n))

    pub right_empty : (o : Option Data) → o ≡ Some (array no_items) → Aligned m s n None o
    right_empty o e =
        subst (Aligned m s n None) (sym e) (not_both (lacks_nothing m.left s n) (lacks_one m.right s n (array no_items) (an_empty_array k r asks kind refl)))

    there_both : (ds es : Items) → Same m (Some (Member k r)) (array ds) (array es) → Aligned m s n (Some (array ds)) (Some (array es))
    there_both ds es h = both_there (subst (λ w. Same m w (array ds) (array es)) (sym asks) h)

    -- members that are absent or sets, with matched entries
    pub sets_aligned : (P Q : Items → Type 0) (o p : Option Data) → is_table_set (Member k r) ≡ true
        → MayBeArray P o → MayBeArray Q p → Matched (Same m (entry_want (Member k r))) (entries_in o) (entries_in p) → Aligned m s n o p
    sets_aligned P Q o p set is_absent is_absent h = not_both (lacks_nothing m.left s n) (lacks_nothing m.right s n)
    sets_aligned P Q o p set is_absent (is_filled_array {ds = no_items} q) h = right_empty _ refl
    sets_aligned P Q o p set is_absent (is_filled_array {ds = item e es} q) h = elim (matched_back e h (inl refl)).1 [ ]
    sets_aligned P Q o p set (is_filled_array {ds = no_items} q) is_absent h = left_empty _ refl
    sets_aligned P Q o p set (is_filled_array {ds = item d ds} q) is_absent h = elim (matched_on d h (inl refl)).1 [ ]
    sets_aligned P Q o p set (is_filled_array {ds = ds} q) (is_filled_array {ds = es} q') h = there_both ds es (set_says m (Member k r) ds es set h)

    -- and lists, with paired ones
    pub lists_aligned : (P Q : Items → Type 0) (o p : Option Data) → is_table_set (Member k r) ≡ false
        → MayBeArray P o → MayBeArray Q p → Paired (Same m (entry_want (Member k r))) (entries_in o) (entries_in p) → Aligned m s n o p
    lists_aligned P Q o p list is_absent is_absent h = not_both (lacks_nothing m.left s n) (lacks_nothing m.right s n)
    lists_aligned P Q o p list is_absent (is_filled_array {ds = no_items} q) h = right_empty _ refl
    lists_aligned P Q o p list is_absent (is_filled_array {ds = item e es} q) h = elim h [ ]
    lists_aligned P Q o p list (is_filled_array {ds = no_items} q) is_absent h = left_empty _ refl
    lists_aligned P Q o p list (is_filled_array {ds = item d ds} q) is_absent h = elim h [ ]
    lists_aligned P Q o p list (is_filled_array {ds = ds} q) (is_filled_array {ds = es} q') h = there_both ds es (list_says m (Member k r) ds es list h)

-- ---- contents of ballots that mean the same say the same, headers inside headers included

-- a member of a ballot's node that neither refers nor has content
abbrev is_rest : MemberKind → Bool
is_rest kind.Carried = true
is_rest kind.StrangeReference = true
is_rest kind.StrangeIdentity = true
is_rest k = false

rest_same : (π : Preference) (t u : Data) → IsAccepted π t → IsAccepted π u → (k : MemberKind) (r : Bool) (o p : Option Data) → is_rest k ≡ true
    → ((v : Data) → o ≡ Some v → Within t (asked (want_of_kind k r) v)) → ((v : Data) → p ≡ Some v → Within u (asked (want_of_kind k r) v)) → if_carried k o
    ≡ if_carried k p → o ≡ p
rest_same π t u accepted accepted' kind.Carried r o p rest inside inside' same = same
rest_same π t u accepted accepted' kind.StrangeReference r None None rest inside inside' same = refl
rest_same π t u accepted accepted' kind.StrangeReference r (Some v) p rest inside inside' same =
    absurd (no_unknown t (no_shape_fault π t accepted) v false (inside v refl))
rest_same π t u accepted accepted' kind.StrangeReference r None (Some w) rest inside inside' same =
    absurd (no_unknown u (no_shape_fault π u accepted') w false (inside' w refl))
rest_same π t u accepted accepted' kind.StrangeIdentity r None None rest inside inside' same = refl
rest_same π t u accepted accepted' kind.StrangeIdentity r (Some v) p rest inside inside' same =
    absurd (no_strange t (no_shape_fault π t accepted) v false (inside v refl))
rest_same π t u accepted accepted' kind.StrangeIdentity r None (Some w) rest inside inside' same =
    absurd (no_strange u (no_shape_fault π u accepted') w false (inside' w refl))
rest_same π t u accepted accepted' k r o p rest inside inside' same = cc

abbrev node_key : Node → Option Key
node_key (a_contest k ns others) = k
node_key (a_header k inside others) = k

abbrev node_names : Node → List (Option NameParts)
node_names (a_contest k ns others) = ns
node_names (a_header k inside others) = []

abbrev node_inside : Node → Content
node_inside (a_contest k ns others) = no_content
node_inside (a_header k inside others) = inside

abbrev node_others : Node → JsonMap
node_others (a_contest k ns others) = others
node_others (a_header k inside others) = others

contest_rest : (k : List ℕ) → bytes_eq k (codes "@type") ≡ false → bytes_eq k (codes "ContestId") ≡ false → bytes_eq k (codes "OrderedContestSelectionIds")
    ≡ false → is_rest (kind_of_member class.OrderedContest k) ≡ true
contest_rest k e f g = rw (f, g) (kind_of_unlisted_has is_rest class.OrderedContest k e refl refl refl)

header_rest : (k : List ℕ) → bytes_eq k (codes "@type") ≡ false → bytes_eq k (codes "HeaderId") ≡ false → bytes_eq k (codes "OrderedContent") ≡ false
    → is_rest (kind_of_member class.OrderedHeader k) ≡ true
header_rest k e f g = rw (f, g) (kind_of_unlisted_has is_rest class.OrderedHeader k e refl refl refl)

-- lists with the same values, entry by entry
paired_by : {A B C : Type 0} (R : A → B → Type 0) (f : A → C) (g : B → C) (xs : List A) (ys : List B)
    → ((x : A) (y : B) → In x xs → In y ys → f x ≡ g y → R x y) → map f xs ≡ map g ys → Paired R xs ys
paired_by R f g [] [] each e = none
paired_by R f g (x ∷ xs) (y ∷ ys) each e =
    let first : f x ≡ g y = cc in
    let rest : map f xs ≡ map g ys = cc in
    more (each x y (inl refl) (inl refl) first) (paired_by R f g xs ys (λ a b i j. each a b (inr i) (inr j)) rest)
paired_by R f g xs ys each e = cc

abbrev entry_name : Preference → Data → Data → Option NameParts
entry_name π t d = option_and_then (name_named π t) (as_str d)

-- a kind that neither refers nor has content is plain
rest_plain : (k : MemberKind) → is_rest k ≡ true → is_plain_kind k ≡ true
rest_plain kind.Carried h = refl
rest_plain k h = cc

module _ (π : Preference) (t u : Data) (m : Sides) (accepted : IsAccepted π t) (accepted' : IsAccepted π u) (tied : TextsTied π t u m) where
  abbrev in_class : Class → Scope
  in_class c = scope.Members role.Content (Some c)

  -- ---- one member

  by_name : (s : Scope) (ms ns : Members) (k name : List ℕ) → bytes_eq k name ≡ true → Aligned m s name (get_member name ms) (get_member name ns)
      → Aligned m s k (get_member k ms) (get_member k ns)
  by_name s ms ns k name e h = subst (λ n. Aligned m s n (get_member n ms) (get_member n ns)) (sym (text_exact k name e)) h

  types_aligned : (c : Class) (ms ns : Members) → NodeAt t c ms → NodeAt u c ns → Aligned m (in_class c) (codes "@type") (get_member (codes "@type") ms)
      (get_member (codes "@type") ns)
  types_aligned c ms ns a b = rw (a.typed, b.typed) (both_there (a_text refl))

  -- references to objects with one key
  ids_aligned : (c : Class) (f : Family) (name a b : List ℕ) (o p : Option Data) → want_of_name (in_class c) name ≡ Some (Reference f) → has_keys f ≡ true
      → o ≡ Some (string a) → p ≡ Some (string b)
      → Within t (asked (Reference f) (string a)) → key_named π t f a ≡ key_named π u f b → Aligned m (in_class c) name o p
  ids_aligned c f name a b o p asks keyed left right w same =
      let k = resolves π t accepted f a keyed w in
      let stand : NameOneThing m a b = tied.objects f a b k.0 keyed k.1 (sym same ∙ k.1) in
      let said : Same m (want_of_name (in_class c) name) (string a) (string b) = subst (λ x. Same m x (string a) (string b)) (sym asks) (an_id refl stand) in
      rw (left, right) (both_there said)

  -- a member that neither refers nor has content
  rest_aligned : (c : Class) (ms ns : Members) → NodeAt t c ms → NodeAt u c ns → carried_members (Some c) (object ms) ≡ carried_members (Some c)
      (object ns) → (k : List ℕ)
      → member_want c k ≡ want_of_kind (kind_of_member c k) (is_required c k) → bytes_eq k (codes "@type") ≡ false → is_rest (kind_of_member c k) ≡ true
      → Aligned m (in_class c) k (get_member k ms) (get_member k ns)
  rest_aligned c ms ns a b same k wants other rest =
      equal_aligned m (in_class c) k (get_member k ms) (get_member k ns) plain
      (rest_same π t u accepted accepted' (kind_of_member c k) (is_required c k) (get_member k ms) (get_member k ns) rest
      (λ v e. subst (λ x. Within t (asked x v)) wants (member_within t (no_shape_fault π t accepted) (Object role.Content) role.Content ms c k v of_role
      a.among other a.inside e))
      (λ v e. subst (λ x. Within u (asked x v)) wants (member_within u (no_shape_fault π u accepted') (Object role.Content) role.Content ns c k v of_role
      b.among other b.inside e))
      (ap (λ others. others k) same))
    where
      asks : want_of_name (in_class c) k ≡ Some (want_of_kind (kind_of_member c k) (is_required c k))
      asks = ap (λ b. cond b (Some (ClassText role.Content)) (Some (member_want c k))) other ∙ ap Some wants

      plain : AllPlain (want_of_name (in_class c) k)
      plain = subst AllPlain (sym asks) (plain_of_kind (kind_of_member c k) (is_required c k) (rest_plain (kind_of_member c k) rest))

  -- two that name objects with one key, with lists that say the same
  nodes_alike : (c : Class) (f : Family) (name list : List ℕ) → want_of_name (in_class c) name ≡ Some (Reference f) → has_keys f ≡ true
      → ((k : List ℕ) → member_want c k ≡ want_of_kind (kind_of_member c k) (is_required c k))
      → ((k : List ℕ) → bytes_eq k (codes "@type") ≡ false → bytes_eq k name ≡ false → bytes_eq k list ≡ false → is_rest (kind_of_member c k) ≡ true)
      → (ms ns : Members) (a : NamedNode t c f name ms) (b : NamedNode u c f name ns) → AreMembers ms → AreMembers ns
      → key_named π t f a.id ≡ key_named π u f b.id
      → carried_members (Some c) (object ms) ≡ carried_members (Some c) (object ns) → Aligned m (in_class c) list (get_member list ms) (get_member list ns)
      → Same m (Some (Object role.Content)) (object ms) (object ns)
  nodes_alike c f name list asks keyed wants rest ms ns a b tree tree' keys others listed =
      an_object
      (subst (λ x. SameMembers m (scope.Members role.Content x) ms ns) (sym a.at.among)
      (merged m (in_class c) ms ns tree tree' (λ k. at k (bytes_eq k (codes "@type")) refl (bytes_eq k name) refl (bytes_eq k list) refl)))
    where
      at : (k : List ℕ) (x : Bool) → bytes_eq k (codes "@type") ≡ x → (y : Bool) → bytes_eq k name ≡ y → (z : Bool) → bytes_eq k list ≡ z
          → Aligned m (in_class c) k (get_member k ms) (get_member k ns)
      at k true is y its z listed_too = by_name (in_class c) ms ns k (codes "@type") is (types_aligned c ms ns a.at b.at)
      at k false is true its z listed_too = by_name (in_class c) ms ns k name its
          (ids_aligned c f name a.id b.id (get_member name ms) (get_member name ns) asks keyed a.named b.named a.refers keys)
      at k false is false its true listed_too = by_name (in_class c) ms ns k list listed_too listed
      at k false is false its false other = rest_aligned c ms ns a.at b.at others k (wants k) is (rest k is its other)

  -- ---- the list of a contest

  chosen_says : (ms ns : Members) (a : ContestNode t ms) (b : ContestNode u ns) → key_named π t family.Contest a.node.id
      ≡ key_named π u family.Contest b.node.id → (d e : Data) → IsSelected a.meant d → IsSelected b.meant e
      → entry_name π t d ≡ entry_name π u e → Same m (Some (Reference family.Selection)) d e
  chosen_says ms ns a b same d e h k named =
      let key = resolves π t accepted family.Contest a.node.id refl a.node.refers in
      let left = sym (ap (option_and_then (key_of π)) a.is) ∙ key.1 in
      let right = sym (ap (option_and_then (key_of π)) b.is) ∙ sym same ∙ key.1 in
      let both : name_named π t h.0 ≡ name_named π u k.0 = sym (ap (entry_name π t) h.1) ∙ named ∙ ap (entry_name π u) k.1 in
      subst (λ x. Same m (Some (Reference family.Selection)) x e) (sym h.1)
      (subst (Same m (Some (Reference family.Selection)) (string h.0)) (sym k.1)
      (an_id refl (tied.selections a.node.id b.node.id a.meant b.meant key.0 h.0 k.0 a.is b.is left right h.2 k.2 both)))

  -- contests that mean the same say the same
  contests_say : (ms ns : Members) → ContestNode t ms → ContestNode u ns → AreMembers ms → AreMembers ns → contest_node π t (object ms)
      ≡ contest_node π u (object ns) → Same m (Some (Object role.Content)) (object ms) (object ns)
  contests_say ms ns a b tree tree' same =
      nodes_alike class.OrderedContest family.Contest (codes "ContestId") list_name refl refl (λ k. refl) contest_rest ms ns a.node b.node tree tree' keys
      (rw (a.node.at.among, b.node.at.among) at (ap node_others same))
      (lists_aligned m (in_class class.OrderedContest) list_name kind.Ordered false refl refl (λ ds. Unit {0}) (λ ds. Unit {0}) (get_member list_name ms)
      (get_member list_name ns) refl a.list b.list
      (paired_by (Same m (Some (Reference family.Selection))) (entry_name π t) (entry_name π u) (entries_in (get_member list_name ms))
      (entries_in (get_member list_name ns))
      (λ x y i j e. chosen_says ms ns a b keys x y (a.chosen x i) (b.chosen y j) e) (ap node_names same)))
    where
      keys : key_named π t family.Contest a.node.id ≡ key_named π u family.Contest b.node.id
      keys = rw (a.node.named, b.node.named) at (ap node_key same)

  -- ---- headers

  abbrev node_of_header : Preference → Data → Members → Node
  node_of_header π t ms = header_node π t (object ms) (content_inside π t ms)

  headers_say : (ms ns : Members) → HeaderNode t ms → HeaderNode u ns → AreMembers ms → AreMembers ns → node_of_header π t ms ≡ node_of_header π u ns
      → Aligned m (in_class class.OrderedHeader) inner_name (get_member inner_name ms) (get_member inner_name ns) → Same m (Some (Object role.Content))
      (object ms) (object ns)
  headers_say ms ns a b tree tree' same inside =
      nodes_alike class.OrderedHeader family.Header (codes "HeaderId") inner_name refl refl (λ k. refl) header_rest ms ns a.node b.node tree tree'
      (rw (a.node.named, b.node.named) at (ap node_key same)) (rw (a.node.at.among, b.node.at.among) at (ap node_others same)) inside

  -- ---- contents, headers inside headers included

  abbrev Entries : Data → Items → Type 0
  Entries t ds = (i : ℕ) (d : Data) → get_item i ds ≡ Some d → Within t (asked (Object role.Content) d)

  entries_within : (t : Data) (r : Bool) (ds : Items) → Within t (asked (Member kind.Content r) (array ds)) → Entries t ds
  entries_within t r ds w i d e = Within-step t (asked (Member kind.Content r) (array ds)) (asked (Object role.Content) d) (At i) w (rw e)

  -- contents nested at most so deep say the same if they mean the same
  abbrev Nodes : ℕ → Type 0
  Nodes n = (ds es : Items) → items_depth ds ≤ n → AreTrees ds → AreTrees es → Entries t ds → Entries u es → nodes_of π t ds ≡ nodes_of π u es
      → SameEntries m (Some (Object role.Content)) ds es

  abbrev IsContent : Data → Items → Type 0
  IsContent t ds = Within t (asked (Member kind.Content false) (array ds))

  inside_paired : (n : ℕ) → Nodes n → (o p : Option Data) → ((v : Data) → o ≡ Some v → depth v ≤ suc n) → ((v : Data) → o ≡ Some v → IsTree v)
      → ((v : Data) → p ≡ Some v → IsTree v)
      → MayBeArray (IsContent t) o → MayBeArray (IsContent u) p → content_at π t o ≡ content_at π u p → Paired (Same m (Some (Object role.Content)))
      (entries_in o) (entries_in p)
  inside_paired n deeper o p small tree tree' is_absent is_absent same = none
  inside_paired n deeper o p small tree tree' is_absent (is_filled_array {ds = no_items} w) same = none
  inside_paired n deeper o p small tree tree' (is_filled_array {ds = no_items} w) is_absent same = none
  inside_paired n deeper o p small tree tree' (is_filled_array {ds = ds} w) (is_filled_array {ds = es} w') same =
      let low : suc (items_depth ds) ≤ suc n = small (array ds) refl in
      entries_paired m (deeper ds es (omega arith) (tree (array ds) refl) (tree' (array es) refl) (entries_within t false ds w)
      (entries_within u false es w') same)
  inside_paired n deeper o p small tree tree' a b same = cc

  inside_aligned : (n : ℕ) → Nodes n → (ms ns : Members) → members_depth ms ≤ suc n → AreMembers ms → AreMembers ns → HeaderNode t ms → HeaderNode u ns
      → content_inside π t ms ≡ content_inside π u ns
      → Aligned m (in_class class.OrderedHeader) inner_name (get_member inner_name ms) (get_member inner_name ns)
  inside_aligned n deeper ms ns small tree tree' a b same =
      lists_aligned m (in_class class.OrderedHeader) inner_name kind.Content false refl refl (IsContent t) (IsContent u) (get_member inner_name ms)
      (get_member inner_name ns) refl a.list b.list
      (inside_paired n deeper (get_member inner_name ms) (get_member inner_name ns)
      (λ v f. let g : depth v ≤ members_depth ms = get_member-depth inner_name v ms f in omega arith)
      (λ v f. get_member-tree inner_name v ms tree f) (λ v f. get_member-tree inner_name v ns tree' f) a.list b.list
      (sym (content_inside-get π t ms) ∙ same ∙ content_inside-get π u ns))

  node_of-contest : (t : Data) (ms : Members) → ContestNode t ms → node_of π t (object ms) ≡ contest_node π t (object ms)
  node_of-contest t ms a = rw a.node.at.among

  node_of-header : (t : Data) (ms : Members) → HeaderNode t ms → node_of π t (object ms) ≡ node_of_header π t ms
  node_of-header t ms a = rw a.node.at.among

  -- a contest or a header
  node_says : (n : ℕ) → Nodes n → (d e : Data) → depth d ≤ suc (suc n) → IsTree d → IsTree e → NodeView t d → NodeView u e → node_of π t d ≡ node_of π u e
      → Same m (Some (Object role.Content)) d e
  node_says n deeper d e small tree tree' (contest_view {ms = ms} a) (contest_view {ms = ns} b) same =
      contests_say ms ns a b tree tree' (sym (node_of-contest t ms a) ∙ same ∙ node_of-contest u ns b)
  node_says n deeper d e small tree tree' (contest_view {ms = ms} a) (header_view {ms = ns} b) same =
      let h : contest_node π t (object ms) ≡ node_of_header π u ns = sym (node_of-contest t ms a) ∙ same ∙ node_of-header u ns b in cc
  node_says n deeper d e small tree tree' (header_view {ms = ms} a) (contest_view {ms = ns} b) same =
      let h : node_of_header π t ms ≡ contest_node π u (object ns) = sym (node_of-header t ms a) ∙ same ∙ node_of-contest u ns b in cc
  node_says n deeper d e small tree tree' (header_view {ms = ms} a) (header_view {ms = ns} b) same =
      let h : node_of_header π t ms ≡ node_of_header π u ns = sym (node_of-header t ms a) ∙ same ∙ node_of-header u ns b in
      headers_say ms ns a b tree tree' h (inside_aligned n deeper ms ns (omega arith) tree tree' a b (ap node_inside h))

  nodes_say_at : (n : ℕ) → Nodes n → Nodes (suc (suc n))
  nodes_say_at n deeper no_items no_items small tree tree' each each' same = no_entry
  nodes_say_at n deeper (item d ds) (item e es) small tree tree' each each' same =
      let first : node_of π t d ≡ node_of π u e = cc in
      let rest : nodes_of π t ds ≡ nodes_of π u es = cc in
      let low : max (depth d) (items_depth ds) ≤ suc (suc n) = small in
      one_entry (node_says n deeper d e (omega arith) tree.0 tree'.0 (node_view π t accepted d (each zero d refl))
      (node_view π u accepted' e (each' zero e refl)) first)
      (nodes_say_at n deeper ds es (omega arith) tree.1 tree'.1 (λ i. each (suc i)) (λ i. each' (suc i)) rest)
  nodes_say_at n deeper ds es small tree tree' each each' same = cc

  node_deep : (d : Data) → NodeView t d → depth d ≤ 0 → ⊥
  node_deep d (contest_view a) small = omega arith
  node_deep d (header_view a) small = omega arith

  nodes_say : (n : ℕ) → Nodes n
  nodes_say zero no_items no_items small tree tree' each each' same = no_entry
  nodes_say zero no_items (item e es) small tree tree' each each' same = cc
  nodes_say zero (item d ds) es small tree tree' each each' same =
      let low : max (depth d) (items_depth ds) ≤ 0 = small in
      absurd (node_deep d (node_view π t accepted d (each zero d refl)) (omega arith))
  nodes_say (suc n) ds es small tree tree' each each' same = nodes_say_at n (nodes_say n) ds es (omega arith) tree tree' each each' same

  -- two contents that mean the same say the same
  pub content_says : (r r' : Bool) (ds es : Items) → AreTrees ds → AreTrees es → Within t (asked (Member kind.Content r) (array ds))
      → Within u (asked (Member kind.Content r') (array es)) → nodes_of π t ds ≡ nodes_of π u es → SameEntries m (Some (Object role.Content)) ds es
  content_says r r' ds es tree tree' w w' same = nodes_say (items_depth ds) ds es (omega arith) tree tree' (entries_within t r ds w)
      (entries_within u r' es w') same
