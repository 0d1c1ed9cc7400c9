-- The orders of ballots and the objects of two reports that say the same: they mean the same and have one record.
use Rattle.erd_normal.proofs.Common.{◌≡◌, ℕ, Bool, true, false, cond, ◌⊎◌, List, [], map, Some, None, codes, Option, option_and_then, bytes_eq, nat_cmp, is_eq}
use Rattle.erd_normal.proofs.Common.{Ordering, Equal, unwrap_or, sym, refl, ap, ◌∙◌, subst, ap₂, inl, inr, is_eq-slice_cmp, slice_cmp, list_any, option_map_or}
use Rattle.erd_normal.proofs.Common.{match_ordering, Data, array, object, Items, Members, member, get_member, get, as_str, kind_of_member, required_names}
use Rattle.erd_normal.proofs.Common.{Class, class, Family, family, MemberKind, kind, text_exact, get_member-before, of_role, wanted_within, lacks_none}
use Rattle.erd_normal.proofs.Common.{text_from_equal, want_by_kind, is_object, names_wanted, AreMembers, list_of_items, entries_of, entries_at, text_at}
use Rattle.erd_normal.proofs.Common.{scope_inside, member_want, want_of_name, entry_want, is_table_set, Scope, scope, Want, Carried, Member, Object, Reference}
use Rattle.erd_normal.proofs.Common.{no_shape_fault, kind_of_type, Preference, Content, no_content, first_node, a_contest, a_header, if_carried}
use Rattle.erd_normal.proofs.Common.{carried_members, class_of_node, is_header_class, contest_node, header_node, content_of, nodes_of, node_of, content_inside}
use Rattle.erd_normal.proofs.Common.{is_in_envelope, key_named, name_named, Sides, a_list, a_set, an_object, no_entry, one_entry, no_member, in_both, left_only}
use Rattle.erd_normal.proofs.Common.{right_only, MayBeAbsent, Same, SameEntries, SameMembers, fun_ext, not_asked, In, ◌&&◌, no_items, is_required, role}
use Rattle.erd_normal.proofs.Common.{want_unless_status, want_of_kind, is_report_class, Status, a_json, a_label, a_json_set, a_key, a_key_set, a_content}
use Rattle.erd_normal.proofs.Common.{plain_value, plain_member, selection_record, selection_role, is_array_kind}
use Rattle.erd_meaning.proofs.meanings.InnerContent.{content_at, content_inside-get}
use Rattle.erd_normal.proofs.canonical.CanonicalIds.{list_name}
use Rattle.erd_normal.proofs.same.complete.Contents.{content_class, inner_name}
use Rattle.erd_normal.proofs.same.Related.{Stands, entry_stands, stands_tree, Related}
use Rattle.erd_normal.proofs.same.Lookups.{is_steady_kind, is_plain, steady_same}
use Rattle.erd_normal.proofs.same.means.Members.{BothObjects, HaveMembers, TwoReports, Told, both_told, absent_nothing, both_objects, member_there}
use Rattle.erd_normal.proofs.same.means.Members.{nothing_empty, steady_nothing, told_plain, nothing_cases, none_told, MeansNothing, related_entries_of}
use Rattle.erd_normal.proofs.same.means.Members.{unless_empty_same}
use Rattle.erd_normal.proofs.same.means.References.{name_named_alike, key_alike_text, said_in_turn, key_alike, keys_set_alike, label_alike}
use Rattle.erd_normal.proofs.lists.Matched.{matched_equal}
use Rattle.erd_normal.proofs.meaning.MatchedMeanings.{nothing_of, record_alike, json_set-reordered}
use Rattle.erd_normal.proofs.inside.Homes.{status_kind}

-- ---- carried members

-- a member of a kind whose name is another than `@type`
other_name : (c : Class) (name : List ℕ) (k : MemberKind) → kind_of_member c name ≡ k → (kind.ClassText ≡ k → ⊥) → bytes_eq name (codes "@type") ≡ false
other_name c name k is apart = at (bytes_eq name (codes "@type")) refl
  where
    at : (b : Bool) → bytes_eq name (codes "@type") ≡ b → bytes_eq name (codes "@type") ≡ false
    at true e = absurd (apart (sym (kind_of_type c) ∙ sym (ap (kind_of_member c) (text_exact name (codes "@type") e)) ∙ is))
    at false e = e

module _ (m : Sides) (c : Class) (d e : Data) (h : HaveMembers m c d e) (inside : (name : List ℕ) → is_in_envelope c name ≡ false) where
  carried_at : (name : List ℕ) (k : MemberKind) → kind_of_member c name ≡ k → if_carried k (get name d) ≡ if_carried k (get name e)
  carried_at name kind.Carried is =
      let asks : member_want c name ≡ Carried = want_by_kind c name kind.Carried is refl in
      told_plain m c name (get name d) (get name e) (ap is_plain asks) (ap is_steady_kind is) (inside name)
      (h name (other_name c name kind.Carried is (λ x. cc)))
  carried_at name k is = refl

  carried_same : carried_members (Some c) d ≡ carried_members (Some c) e
  carried_same = fun_ext (λ name. carried_at name (kind_of_member c name) refl)

-- ---- the member inside a header

none_inside : (π : Preference) (t : Data) (ms : Members) → get_member inner_name ms ≡ None → content_inside π t ms ≡ no_content
none_inside π t ms e = content_inside-get π t ms ∙ ap (content_at π t) e

absent_content : (π : Preference) (t : Data) (s : Scope) (k : List ℕ) (d : Data) → s ≡ scope.Members role.Content (Some class.OrderedHeader) → inner_name ≡ k
    → MayBeAbsent t s k d → content_of π t d ≡ no_content
absent_content π t s k d is named h =
    nothing_cases (λ o. content_at π t o ≡ no_content) class.OrderedHeader inner_name (Some d) refl
    (absent_nothing t role.Content class.OrderedHeader inner_name d refl
    (subst (λ z. MayBeAbsent t z inner_name d) is (subst (λ n. MayBeAbsent t s n d) (sym named) h))) (λ e. cc) refl (λ k. refl)

-- what is asked of it
inner_asked : (s : Scope) (k : List ℕ) → s ≡ scope.Members role.Content (Some class.OrderedHeader) → inner_name ≡ k → want_of_name s k
    ≡ Some (Member kind.Content false)
inner_asked s k is named = ap (λ n. want_of_name s n) (sym named) ∙ ap (λ x. want_of_name x inner_name) is

-- what stands under the name
abbrev InnerStands : Data → Option Data → Type 0
InnerStands t o = (d : Data) → o ≡ Some d → Stands t (Member kind.Content false) d

module _ (π : Preference) (t : Data) where
  one_at : (k : List ℕ) (d : Data) (ms : Members) (c : Content) (o : Ordering) → slice_cmp nat_cmp inner_name k ≡ o → AreMembers (member k d ms)
      → InnerStands t (match_ordering o (get_member inner_name ms) (Some d) (get_member inner_name ms)) → (inner_name ≡ k → content_of π t d ≡ no_content)
      → (InnerStands t (get_member inner_name ms) → content_inside π t ms ≡ c) → cond (is_eq o) (content_of π t d) (content_inside π t ms) ≡ c
  one_at k d ms c Equal is tree l empty rest =
      let named : inner_name ≡ k = text_from_equal inner_name k is in
      let gone : get_member inner_name ms ≡ None = ap (λ x. get_member x ms) named ∙ get_member-before k ms tree.2 tree.0 in
      empty named ∙ sym (none_inside π t ms gone) ∙ rest (λ x found. let e : None ≡ Some x = sym gone ∙ found in cc)
  one_at k d ms c e is tree l empty rest = rest l

module _ (π : Preference) (t u : Data) where
  both_at : (k : List ℕ) (d e : Data) (ms ns : Members) (o : Ordering) → slice_cmp nat_cmp inner_name k ≡ o
      → InnerStands t (match_ordering o (get_member inner_name ms) (Some d) (get_member inner_name ms))
      → InnerStands u (match_ordering o (get_member inner_name ns) (Some e) (get_member inner_name ns))
      → (inner_name ≡ k → Stands t (Member kind.Content false) d → Stands u (Member kind.Content false) e → content_of π t d ≡ content_of π u e)
      → (InnerStands t (get_member inner_name ms) → InnerStands u (get_member inner_name ns) → content_inside π t ms ≡ content_inside π u ns)
      → cond (is_eq o) (content_of π t d) (content_inside π t ms) ≡ cond (is_eq o) (content_of π u e) (content_inside π u ns)
  both_at k d e ms ns Equal is l r same rest = same (text_from_equal inner_name k is) (l d refl) (r e refl)
  both_at k d e ms ns x is l r same rest = rest l r

module _ (m : Sides) (π : Preference) (g : TwoReports m π) where
  -- ---- a contest or a header

  key_found : (f : Family) (c : Class) (name : List ℕ) (o p : Option Data) → member_want c name ≡ Reference f → is_steady_kind (kind_of_member c name) ≡ true
      → is_in_envelope c name ≡ false → (o ≡ None → ⊥)
      → Told m c name o p → key_named π m.left f (unwrap_or (option_and_then as_str o) []) ≡ key_named π m.right f (unwrap_or (option_and_then as_str p) [])
  key_found f c name (Some d) (Some e) asks steady inside some (both_told r) = key_alike_text m π g f d e (subst (λ w. Related m w d e) asks r)
  key_found f c name o p asks steady inside some (none_told k l) = absurd (some (steady_nothing c name o steady inside k))

  chosen_in_turn : {d e : Data} → Same m (Some (Member kind.Ordered false)) d e → Stands m.left (Member kind.Ordered false) d
      → Stands m.right (Member kind.Ordered false) e
      → map (λ r. option_and_then (name_named π m.left) (as_str r)) (entries_of d) ≡ map (λ r. option_and_then (name_named π m.right) (as_str r)) (entries_of e)
  chosen_in_turn (a_list {ds = ds} {es = es} is h) l r =
      said_in_turn m family.Selection (name_named π m.left) (name_named π m.right) (name_named_alike m π g) refl h
      (λ x i. entry_stands m.left (Member kind.Ordered false) (Reference family.Selection) (array ds) refl l x i)
      (λ x i. entry_stands m.right (Member kind.Ordered false) (Reference family.Selection) (array es) refl r x i)
  chosen_in_turn (a_set fs is p h) l r = cc
  chosen_in_turn h l r = refl

  names_found : (o p : Option Data) → Told m class.OrderedContest list_name o p
      → map (λ r. option_and_then (name_named π m.left) (as_str r)) (option_map_or entries_of o [])
      ≡ map (λ r. option_and_then (name_named π m.right) (as_str r)) (option_map_or entries_of p [])
  names_found (Some d) (Some e) (both_told r) = chosen_in_turn r.same r.left r.right
  names_found o p (none_told k l) =
      ap (map (λ r. option_and_then (name_named π m.left) (as_str r))) (nothing_empty class.OrderedContest list_name o refl refl k)
      ∙ sym (ap (map (λ r. option_and_then (name_named π m.right) (as_str r))) (nothing_empty class.OrderedContest list_name p refl refl l))

  others_same : (d e : Data) (c : Class) → HaveMembers m c d e → ((name : List ℕ) → is_in_envelope c name ≡ false) → class_of_node d ≡ Some c
      → class_of_node e ≡ Some c → carried_members (class_of_node d) d ≡ carried_members (class_of_node e) e
  others_same d e c h inside left right = ap (λ o. carried_members o d) left ∙ carried_same m c d e h inside ∙ sym (ap (λ o. carried_members o e) right)

  module _ (ms ns : Members) (r : Related m (Object role.Content) (object ms) (object ns)) where
    stands_in : (c : Class) (name : List ℕ) → class_of_node (object ms) ≡ Some c → list_any (bytes_eq name) (required_names c) ≡ true
        → get_member name ms ≡ None → ⊥
    stands_in c name among needed e =
        lacks_none m.left (no_shape_fault π m.left g.accepted) (record { want = Object role.Content; value = object ms; repeated = r.left.repeated }) name
        r.left.inside
        (ap (λ x. list_any (bytes_eq name) (names_wanted (scope.Members role.Content x))) among ∙ needed) e

    contest_alike : HaveMembers m class.OrderedContest (object ms) (object ns) → class_of_node (object ms) ≡ Some class.OrderedContest
        → class_of_node (object ns) ≡ Some class.OrderedContest → contest_node π m.left (object ms) ≡ contest_node π m.right (object ns)
    contest_alike h left right =
        let c = class.OrderedContest in
        let name = codes "ContestId" in
        let key : key_named π m.left family.Contest (text_at name (object ms)) ≡ key_named π m.right family.Contest (text_at name (object ns)) =
        key_found family.Contest c name (get_member name ms) (get_member name ns) refl refl refl (stands_in c name left refl) (h name refl) in
        let names = names_found (get_member list_name ms) (get_member list_name ns) (h list_name refl) in
        ap₂ (λ k l. a_contest k l (carried_members (class_of_node (object ms)) (object ms))) key names
        ∙ ap (a_contest (key_named π m.right family.Contest (text_at name (object ns)))
        (map (λ x. option_and_then (name_named π m.right) (as_str x)) (entries_at list_name (object ns))))
        (others_same (object ms) (object ns) c h (λ n. refl) left right)

    header_alike : (x y : Content) → HaveMembers m class.OrderedHeader (object ms) (object ns) → class_of_node (object ms) ≡ Some class.OrderedHeader
        → class_of_node (object ns) ≡ Some class.OrderedHeader → x ≡ y → header_node π m.left (object ms) x ≡ header_node π m.right (object ns) y
    header_alike x y h left right same =
        let c = class.OrderedHeader in
        let name = codes "HeaderId" in
        let key : key_named π m.left family.Header (text_at name (object ms)) ≡ key_named π m.right family.Header (text_at name (object ns)) =
        key_found family.Header c name (get_member name ms) (get_member name ns) refl refl refl (stands_in c name left refl) (h name refl) in
        ap₂ (λ k z. a_header k z (carried_members (class_of_node (object ms)) (object ms))) key same
        ∙ ap (a_header (key_named π m.right family.Header (text_at name (object ns))) y) (others_same (object ms) (object ns) c h (λ n. refl) left right)

    node_by_class : (class_of_node (object ms) ≡ Some class.OrderedHeader → class_of_node (object ns) ≡ Some class.OrderedHeader → content_inside π m.left ms
        ≡ content_inside π m.right ns) → node_of π m.left (object ms) ≡ node_of π m.right (object ns)
    node_by_class inside = at (content_class o.class o.role)
      where
        o : BothObjects m role.Content (object ms) (object ns)
        o = both_objects m g.left_tree g.right_tree (no_shape_fault π m.left g.accepted) role.Content (object ms) (object ns) r

        by_class : (t : Data) (ms : Members) (c : Class) → class_of_node (object ms) ≡ Some c
            → node_of π t (object ms) ≡ cond (is_header_class (Some c)) (header_node π t (object ms) (content_inside π t ms)) (contest_node π t (object ms))
        by_class t ms c among = ap (λ x. cond (is_header_class x) (header_node π t (object ms) (content_inside π t ms)) (contest_node π t (object ms))) among

        at : (o.class ≡ class.OrderedContest) ⊎ (o.class ≡ class.OrderedHeader) → node_of π m.left (object ms) ≡ node_of π m.right (object ns)
        at (inl is) =
            let left : class_of_node (object ms) ≡ Some class.OrderedContest = o.left ∙ ap Some is in
            let right : class_of_node (object ns) ≡ Some class.OrderedContest = o.right ∙ ap Some is in
            by_class m.left ms class.OrderedContest left ∙ contest_alike (subst (λ c. HaveMembers m c (object ms) (object ns)) is o.members) left right
            ∙ sym (by_class m.right ns class.OrderedContest right)
        at (inr is) =
            let left : class_of_node (object ms) ≡ Some class.OrderedHeader = o.left ∙ ap Some is in
            let right : class_of_node (object ns) ≡ Some class.OrderedHeader = o.right ∙ ap Some is in
            by_class m.left ms class.OrderedHeader left
            ∙ header_alike (content_inside π m.left ms) (content_inside π m.right ns) (subst (λ c. HaveMembers m c (object ms) (object ns)) is o.members) left
            right (inside left right) ∙ sym (by_class m.right ns class.OrderedHeader right)

  -- ---- contents at every depth

  no_node : (d : Data) → Stands m.left (Object role.Content) d → is_object d ≡ true
  no_node d l = wanted_within m.left (no_shape_fault π m.left g.accepted) (record { want = Object role.Content; value = d; repeated = l.repeated }) l.inside

  mutual
    content_same : (required : Bool) {o : Option Want} {d e : Data} → o ≡ Some (Member kind.Content required) → Same m o d e
        → Stands m.left (Member kind.Content required) d → Stands m.right (Member kind.Content required) e → content_of π m.left d ≡ content_of π m.right e
    content_same required asks (a_list {w = w} {ds = ds} {es = es} is h) l r =
        let want : w ≡ Member kind.Content required = cc in
        nodes_same (ap entry_want want) h (λ x i. entry_stands m.left (Member kind.Content required) (Object role.Content) (array ds) refl l x i)
        (λ x i. entry_stands m.right (Member kind.Content required) (Object role.Content) (array es) refl r x i)
    content_same required asks (a_set {w = w} fs is p h) l r =
        let want : w ≡ Member kind.Content required = cc in let no : true ≡ false = sym is ∙ ap is_table_set want in cc
    content_same required asks not_asked l r = cc
    content_same required asks h l r = refl

    nodes_same : {o : Option Want} {ds es : Items} → o ≡ Some (Object role.Content) → SameEntries m o ds es
        → ((x : Data) → In x (list_of_items ds) → Stands m.left (Object role.Content) x)
        → ((x : Data) → In x (list_of_items es) → Stands m.right (Object role.Content) x) → nodes_of π m.left ds ≡ nodes_of π m.right es
    nodes_same asks no_entry l r = refl
    nodes_same asks (one_entry {d = d} {e = e} h rest) l r =
        ap₂ first_node (node_same asks h (l d (inl refl)) (r e (inl refl))) (nodes_same asks rest (λ x i. l x (inr i)) (λ x i. r x (inr i)))

    node_same : {o : Option Want} {d e : Data} → o ≡ Some (Object role.Content) → Same m o d e → Stands m.left (Object role.Content) d
        → Stands m.right (Object role.Content) e → node_of π m.left d ≡ node_of π m.right e
    node_same asks (an_object {w = w} {ms = ms} {ns = ns} h) l r =
        let want : w ≡ Object role.Content = cc in
        node_by_class ms ns (record { left = l; right = r; same = subst (λ o. Same m o (object ms) (object ns)) asks (an_object h) })
        (λ left right.
        inside_same h (ap (λ x. scope_inside x (object ms)) want ∙ ap (scope.Members role.Content) left)
        (stands_tree m.left (Object role.Content) (object ms) g.left_tree l) (stands_tree m.right (Object role.Content) (object ns) g.right_tree r)
        (λ d found. member_there m m.left (Object role.Content) role.Content class.OrderedHeader ms inner_name d of_role left refl l found)
        (λ d found. member_there m m.right (Object role.Content) role.Content class.OrderedHeader ns inner_name d of_role right refl r found))
    node_same asks not_asked l r = cc
    node_same {d = d} asks h l r = let x = no_node d l in cc

    inside_same : {s : Scope} {ms ns : Members} → SameMembers m s ms ns → s ≡ scope.Members role.Content (Some class.OrderedHeader)
        → AreMembers ms → AreMembers ns
        → InnerStands m.left (get_member inner_name ms) → InnerStands m.right (get_member inner_name ns) → content_inside π m.left ms
        ≡ content_inside π m.right ns
    inside_same no_member is tree tree' l r = refl
    inside_same (in_both {s = s} {k = k} {d = d} {e = e} {ms = ms} {ns = ns} h rest) is tree tree' l r =
        ap (λ b. cond b (content_of π m.left d) (content_inside π m.left ms)) (sym (is_eq-slice_cmp inner_name k))
        ∙ both_at π m.left m.right k d e ms ns (slice_cmp nat_cmp inner_name k) refl l r
        (λ named x y. content_same false (inner_asked s k is named) h x y) (λ x y. inside_same rest is tree.2 tree'.2 x y)
        ∙ ap (λ b. cond b (content_of π m.right e) (content_inside π m.right ns)) (is_eq-slice_cmp inner_name k)
    inside_same (left_only {s = s} {k = k} {d = d} {ms = ms} {ns = ns} h rest) is tree tree' l r =
        ap (λ b. cond b (content_of π m.left d) (content_inside π m.left ms)) (sym (is_eq-slice_cmp inner_name k))
        ∙ one_at π m.left k d ms (content_inside π m.right ns) (slice_cmp nat_cmp inner_name k) refl tree l
        (λ named. absent_content π m.left s k d is named h) (λ x. inside_same rest is tree.2 tree' x r)
    inside_same (right_only {s = s} {k = k} {e = e} {ms = ms} {ns = ns} h rest) is tree tree' l r =
        sym
        (ap (λ b. cond b (content_of π m.right e) (content_inside π m.right ns)) (sym (is_eq-slice_cmp inner_name k))
        ∙ one_at π m.right k e ns (content_inside π m.left ms) (slice_cmp nat_cmp inner_name k) refl tree' r
        (λ named. absent_content π m.right s k e is named h) (λ x. sym (inside_same rest is tree tree'.2 l x)))

  pub content_alike : (required : Bool) (d e : Data) → Related m (Member kind.Content required) d e → content_of π m.left d ≡ content_of π m.right e
  content_alike required d e r = content_same required refl r.same r.left r.right

-- ---- what means nothing

empty_means_nothing : (π : Preference) (t : Data) (k : MemberKind) → is_array_kind k ≡ true → plain_value π t k (array no_items) ≡ None
empty_means_nothing π t kind.Content is = refl
empty_means_nothing π t k is = cc

nothing_meant : (π : Preference) (t : Data) (c : Class) (name : List ℕ) (o : Option Data) → is_in_envelope c name ≡ false → MeansNothing c name o
    → option_and_then (plain_value π t (kind_of_member c name)) o ≡ None
nothing_meant π t c name o inside h =
    nothing_cases (λ x. option_and_then (plain_value π t (kind_of_member c name)) x ≡ None) c name o inside h
    (λ e. ap (λ k. option_and_then (plain_value π t k) o) e ∙ nothing_of (plain_value π t kind.Identity) o (λ x. refl)) refl
    (λ k. empty_means_nothing π t (kind_of_member c name) k)

module _ (m : Sides) (π : Preference) (g : TwoReports m π) where
  -- ---- values

  value_same : (k : MemberKind) (required : Bool) (d e : Data) → Related m (want_of_kind k required) d e → plain_value π m.left k d ≡ plain_value π m.right k e
  value_same kind.Word required d e r = ap (λ x. Some (a_json x)) (steady_same m r.same refl)
  value_same kind.Flag required d e r = ap (λ x. Some (a_json x)) (steady_same m r.same refl)
  value_same kind.Whole required d e r = ap (λ x. Some (a_json x)) (steady_same m r.same refl)
  value_same kind.Carried required d e r = ap (λ x. Some (a_json x)) (steady_same m r.same refl)
  value_same kind.Label required d e r = ap (λ x. Some (a_label x)) (label_alike m π g false d e r)
  value_same (kind.One f) required d e r = ap (λ x. Some (a_key x)) (key_alike m π g f d e r)
  value_same (kind.Many f) required d e r =
      let w : Want = Member (kind.Many f) required in
      unless_empty_same m w _ _ d e r.same
      (ap a_key_set (keys_set_alike m π g f (entries_of d) (entries_of e) (related_entries_of m w (Reference f) d e refl r)))
  value_same kind.Identifiers required d e r =
      let w : Want = Member kind.Identifiers false in
      unless_empty_same m w _ _ d e r.same
      (ap a_json_set (json_set-reordered (matched_equal (λ x y h. steady_same m h.same refl) (related_entries_of m w (Object role.Identifier) d e refl r))))
  value_same kind.Languages required d e r =
      let w : Want = Member kind.Languages required in
      unless_empty_same m w _ _ d e r.same
      (ap a_json_set (json_set-reordered (matched_equal (λ x y h. steady_same m h.same refl) (related_entries_of m w (Object role.Language) d e refl r))))
  value_same kind.Content required d e r = unless_empty_same m (Member kind.Content false) _ _ d e r.same (ap a_content (content_alike m π g false d e r))
  value_same k required d e r = refl

  -- ---- members

  module _ (c : Class) (name : List ℕ) where
    abbrev k : MemberKind
    k = kind_of_member c name

    both_same : (b : Bool) → (is_report_class c && bytes_eq name (codes "Status")) ≡ b → (d e : Data) → Related m (member_want c name) d e
        → plain_value π m.left k d ≡ plain_value π m.right k e
    both_same true status d e r =
        let asks : member_want c name ≡ Status = rw status refl in
        let word : k ≡ kind.Word = status_kind c name status in
        ap (λ x. plain_value π m.left x d) word ∙ ap (λ x. Some (a_json x)) (steady_same m r.same (ap is_plain asks))
        ∙ sym (ap (λ x. plain_value π m.right x e) word)
    both_same false status d e r = value_same k (is_required c name) d e (subst (λ w. Related m w d e) (want_unless_status c name status) r)

    found_same : (o p : Option Data) → is_in_envelope c name ≡ false → Told m c name o p → option_and_then (plain_value π m.left k) o
        ≡ option_and_then (plain_value π m.right k) p
    found_same (Some d) (Some e) inside (both_told r) = both_same (is_report_class c && bytes_eq name (codes "Status")) refl d e r
    found_same o p inside (none_told l n) = nothing_meant π m.left c name o inside l ∙ sym (nothing_meant π m.right c name p inside n)

    -- `@type` means nothing by itself
    type_same : (d e : Data) → bytes_eq name (codes "@type") ≡ true → option_and_then (plain_value π m.left k) (get name d)
        ≡ option_and_then (plain_value π m.right k) (get name e)
    type_same d e is =
        let typed : k ≡ kind.ClassText = ap (kind_of_member c) (text_exact name (codes "@type") is) ∙ kind_of_type c in
        ap (λ x. option_and_then (plain_value π m.left x) (get name d)) typed ∙ nothing_of (plain_value π m.left kind.ClassText) (get name d) (λ x. refl)
        ∙ sym (ap (λ x. option_and_then (plain_value π m.right x) (get name e)) typed ∙ nothing_of (plain_value π m.right kind.ClassText)
        (get name e) (λ x. refl))

    pub plain_alike : (d e : Data) → HaveMembers m c d e → plain_member π m.left d c name ≡ plain_member π m.right e c name
    plain_alike d e h = at (is_in_envelope c name) refl (bytes_eq name (codes "@type")) refl
      where
        at : (a : Bool) → is_in_envelope c name ≡ a → (b : Bool) → bytes_eq name (codes "@type") ≡ b
            → cond a None (option_and_then (plain_value π m.left k) (get name d)) ≡ cond a None (option_and_then (plain_value π m.right k) (get name e))
        at true inside b typed = refl
        at false inside true typed = type_same d e typed
        at false inside false typed = found_same (get name d) (get name e) inside (h name typed)

  -- ---- selections

  pub selection_alike : (d e : Data) → Related m (Object (role.OfFamily family.Selection)) d e → selection_record π m.left d ≡ selection_record π m.right e
  selection_alike d e r =
      let o : BothObjects m selection_role d e = both_objects m g.left_tree g.right_tree (no_shape_fault π m.left g.accepted) selection_role d e r in
      record_alike (plain_member π m.left d) (plain_member π m.right e) selection_role d e o.class o.left o.right
      (λ name. plain_alike o.class name d e o.members)
