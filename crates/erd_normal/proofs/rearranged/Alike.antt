-- A renaming and an exchange of two entries of a set make values that are alike; and what stands in reports that are alike.
use Rattle.erd_normal.proofs.Common.{NameOneThing, a_list, a_set, list_of_items-tree, same_Some, ◌≡◌, ℕ, zero, suc, ◌<◌, Bool, true, false, cond, ◌&&◌, List}
use Rattle.erd_normal.proofs.Common.{[], ◌∷◌, length, IsSomeAnd, IsTrue, Some, None, Option, option_map, swap, option_and_then, nat_cmp, is_eq, Ordering, Equal}
use Rattle.erd_normal.proofs.Common.{sym, refl, ap, ◌∙◌, subst, arith, is_eq-slice_cmp, slice_cmp, Data, null, string, array, object, Items, no_items, item}
use Rattle.erd_normal.proofs.Common.{Members, no_members, member, get_member, get_item, items_of, role, Step, At, Name, list_of_items-items_of, text_from_equal}
use Rattle.erd_normal.proofs.Common.{list_of_items, entries_of, scope_inside, want_of_name, entry_want, is_compared_set, is_table_set, Asked, asked}
use Rattle.erd_normal.proofs.Common.{is_repeated, asked_of_member, asked_inside, asked_from, Scope, Want, Object, Renaming, replaced_text, is_id_text}
use Rattle.erd_normal.proofs.Common.{renamed_value, renamed_items, renamed_members, changed_at, member_changed, item_changed, swapped, exchanged, HasEntries}
use Rattle.erd_normal.proofs.Common.{IsPermutation, IsPermutation-swap, IsPermutation-refl, boolean, number, IsBeforeFirst, IsTree, AreTrees, AreMembers, codes}
use Rattle.erd_normal.proofs.Common.{bytes_eq, option_map_or, get, as_str, kind_of_member, Class, Family, Role, kind, list_of_items-place, ObjectAt, ObjectIn}
use Rattle.erd_normal.proofs.Common.{Within-step, AsksObject, of_role, of_label, member_within, Within, want_by_kind, ShapeFault, NoneOf, entries_at}
use Rattle.erd_normal.proofs.Common.{class_of_object, member_want, scope, Member, object_in, report_class, Within-root, id_of, IsPermutation-sym, In, inl, inr}
use Rattle.erd_normal.proofs.Common.{reordered-In, get_member-first, get_member-later, Sides, not_asked, a_null, a_flag, a_number, a_text, an_id, an_object}
use Rattle.erd_normal.proofs.Common.{Same, renamed}
use Rattle.erd_normal.proofs.lists.Matched.{Both, both, neither, Matched, Paired, none, more, matched_none, matched_within}
use Rattle.erd_normal.proofs.same.Lookups.{get_both, asked_of_name}
use Rattle.erd_normal.proofs.inside.Homes.{kind_of_family_id}
use Rattle.erd_normal.proofs.same.IdsOfObjects.{family_values, families_matched}
use Rattle.erd_normal.proofs.same.Related.{Stands, entry_stands, member_stands, is_leaf, Alike, AlikeEntries, AlikeMembers, alike_leaf, alike_list, alike_set}
use Rattle.erd_normal.proofs.same.Related.{alike_object, alike_none, alike_more, alike_nothing, alike_under, alike_array, alike_self, alike_same, entries_self}
use Rattle.erd_normal.proofs.same.Related.{members_self, matched_left}

-- ---- a renaming

module _ (pairs : Renaming) (m : Sides) (texts : (w : Want) (s : List ℕ) → Stands m.left w (string s) → is_id_text w ≡ true
    → NameOneThing m s (replaced_text pairs s)) where
  renamed_text : (w : Want) (s : List ℕ) (b : Bool) → is_id_text w ≡ b → Stands m.left w (string s)
      → Alike m (Some w) (string s) (cond b (string (replaced_text pairs s)) (string s))
  renamed_text w s true is st = alike_leaf refl (an_id is (texts w s st is))
  renamed_text w s false is st = alike_leaf refl (a_text is)

  mutual
    renamed_value_alike : (o : Option Want) (d : Data) → ((w : Want) → o ≡ Some w → Stands m.left w d) → IsTree d → Alike m o d (renamed_value pairs o d)
    renamed_value_alike (Some w) (string s) stand tree = renamed_text w s (is_id_text w) refl (stand w refl)
    renamed_value_alike (Some w) (array ds) stand tree =
        alike_array m w ds (renamed_items pairs (entry_want w) ds) (is_table_set w) refl
        (renamed_entries (entry_want w) ds (λ v asks x i. entry_stands m.left w v (array ds) asks (stand w refl) x i) tree)
    renamed_value_alike (Some w) (object ms) stand tree =
        alike_object (renamed_names (scope_inside w (object ms)) ms (λ k v d asks found. member_stands m.left w ms (stand w refl) k v d asks found) tree)
    renamed_value_alike (Some w) null stand tree = alike_leaf refl a_null
    renamed_value_alike (Some w) (boolean b) stand tree = alike_leaf refl a_flag
    renamed_value_alike (Some w) (number n) stand tree = alike_leaf refl a_number
    renamed_value_alike None null stand tree = alike_leaf refl not_asked
    renamed_value_alike None d stand tree = alike_leaf refl not_asked

    renamed_entries : (o : Option Want) (ds : Items) → ((w : Want) → o ≡ Some w → (x : Data) → In x (list_of_items ds) → Stands m.left w x) → AreTrees ds
        → AlikeEntries m o ds (renamed_items pairs o ds)
    renamed_entries o no_items stand trees = alike_none
    renamed_entries o (item d ds) stand trees =
        alike_more (renamed_value_alike o d (λ w asks. stand w asks d (inl refl)) trees.0) (renamed_entries o ds (λ w asks x i. stand w asks x (inr i)) trees.1)

    renamed_names : (s : Scope) (ms : Members) → ((k : List ℕ) (w : Want) (d : Data) → want_of_name s k ≡ Some w → get_member k ms ≡ Some d → Stands m.left w d)
        → AreMembers ms → AlikeMembers m s ms (renamed_members pairs s ms)
    renamed_names s no_members stand trees = alike_nothing
    renamed_names s (member k d ms) stand trees =
        alike_under (renamed_value_alike (want_of_name s k) d (λ w asks. stand k w d asks (get_member-first k d ms)) trees.1)
        (renamed_names s ms (λ q w x asks found. stand q w x asks (get_member-later k q d x ms trees found)) trees.2)

  pub renamed_alike : IsTree m.left → Alike m (Some (Object role.Report)) m.left (renamed pairs m.left)
  renamed_alike tree =
      renamed_value_alike (Some (Object role.Report)) m.left
      (λ w is. subst (λ v. Stands m.left v m.left) (same_Some (Object role.Report) w is) (record { repeated = false; inside = Within-root m.left })) tree

-- ---- an exchange

-- an array of a set with two entries exchanged
abbrev Ends : ℕ → ℕ → Asked → Type 0
Ends i j a = IsTrue (is_table_set a.want) × (i < length (entries_of a.value)) × (j < length (entries_of a.value))

module _ (m : Sides) (itself : (s : List ℕ) → NameOneThing m s s) where
  -- nothing changed
  kept : (o : Option Want) (d : Data) → Alike m o d d
  kept o d = alike_self m (λ o. Unit {0}) (λ w s h is. itself s) (λ w h. tt) (λ w ms h n. tt) o d tt

  entries_kept : (o : Option Want) (ds : Items) → AlikeEntries m o ds ds
  entries_kept o ds = entries_self m (λ o. Unit {0}) (λ w s h is. itself s) (λ w h. tt) (λ w ms h n. tt) o ds tt

  members_kept : (s : Scope) (ms : Members) → AlikeMembers m s ms ms
  members_kept s ms = members_self m (λ o. Unit {0}) (λ w s h is. itself s) (λ w h. tt) (λ w ms h n. tt) s ms (λ n. tt)

  swapped_alike : (i j : ℕ) (w : Want) (d : Data) → is_table_set w ≡ true → i < length (entries_of d) → j < length (entries_of d)
      → Alike m (Some w) d (swapped i j d)
  swapped_alike i j w (array ds) set low high =
      let es = items_of (swap (list_of_items ds) i j) in
      alike_set es set (subst (IsPermutation (list_of_items ds)) (sym (list_of_items-items_of (swap (list_of_items ds) i j)))
      (IsPermutation-swap (list_of_items ds) _ i j low high refl)) (entries_kept (entry_want w) es)
  swapped_alike i j w e set low high = absurd (omega arith)

  item_alike : (f : Data → Data) (ss : List Step) (w : Want) (i : ℕ) (ds : Items)
      → ((d : Data) → get_item i ds ≡ Some d → Alike m (Some w) d (changed_at f ss d)) → AlikeEntries m (Some w) ds (item_changed f i ss ds)
  item_alike f ss w i no_items each = alike_none
  item_alike f ss w zero (item d ds) each = alike_more (each d refl) (entries_kept (Some w) ds)
  item_alike f ss w (suc i) (item d ds) each = alike_more (kept (Some w) d) (item_alike f ss w i ds each)

  member_alike : (f : Data → Data) (ss : List Step) (s : Scope) (n : List ℕ) (w : Want) (ms : Members) → want_of_name s n ≡ Some w
      → ((d : Data) → get_member n ms ≡ Some d → Alike m (Some w) d (changed_at f ss d)) → AlikeMembers m s ms (member_changed f n ss ms)
  member_alike f ss s n w no_members asks each = alike_nothing
  member_alike f ss s n w (member k d ms) asks each =
      subst (λ b. AlikeMembers m s (member k d ms) (cond b (member k (changed_at f ss d) ms) (member k d (member_changed f n ss ms)))) (is_eq-slice_cmp n k)
      (at (slice_cmp nat_cmp n k) refl (member_alike f ss s n w ms asks))
    where
      Later : Type 0
      Later = ((e : Data) → get_member n ms ≡ Some e → Alike m (Some w) e (changed_at f ss e)) → AlikeMembers m s ms (member_changed f n ss ms)

      at : (o : Ordering) → slice_cmp nat_cmp n k ≡ o → Later
          → AlikeMembers m s (member k d ms) (cond (is_eq o) (member k (changed_at f ss d) ms) (member k d (member_changed f n ss ms)))
      at Equal is later =
          let same : n ≡ k = text_from_equal n k is in
          alike_under (subst (λ o. Alike m o d (changed_at f ss d)) (sym asks ∙ ap (want_of_name s) same) (each d (rw is refl))) (members_kept s ms)
      at x is later = alike_under (kept (want_of_name s k) d) (later (λ e g. each e (rw is g)))

  module _ (i j : ℕ) where
    -- what is asked at a place inside a value is such a set
    abbrev HoldsSet : List Step → Asked → Type 0
    HoldsSet ss a = IsSomeAnd (asked_from a ss) (Ends i j)

    abbrev Inside : List Step → Type 0
    Inside ss = (a : Asked) → HoldsSet ss a → Alike m (Some a.want) a.value (changed_at (swapped i j) ss a.value)

    abbrev HoldsInside : List Step → Option Asked → Type 0
    HoldsInside ss o = IsSomeAnd (option_and_then (λ b. asked_from b ss) o) (Ends i j)

    under_name : (ss : List Step) → Inside ss → (s : Scope) (n : List ℕ) (ms : Members) (v : Option Want) (o : Option Data) → want_of_name s n
        ≡ v → get_member n ms ≡ o → HoldsInside ss (asked_of_member v o) → AlikeMembers m s ms (member_changed (swapped i j) n ss ms)
    under_name ss inside s n ms None o asks found h = absurd h
    under_name ss inside s n ms (Some v) None asks found h = absurd h
    under_name ss inside s n ms (Some v) (Some x) asks found h =
        member_alike (swapped i j) ss s n v ms asks (λ d e.
        let same : x ≡ d = cc in subst (λ y. Alike m (Some v) y (changed_at (swapped i j) ss y)) same (inside (asked v x) h))

    at_position : (ss : List Step) → Inside ss → (v : Option Want) (in_set : Bool) (k : ℕ) (ds : Items) (o : Option Data) → get_item k ds ≡ o
        → HoldsInside ss (option_and_then (λ w. option_map (λ d. record { want = w; value = d; repeated = in_set && is_repeated ds k d }) o) v)
        → AlikeEntries m v ds (item_changed (swapped i j) k ss ds)
    at_position ss inside None in_set k ds o found h = absurd h
    at_position ss inside (Some v) in_set k ds None found h = absurd h
    at_position ss inside (Some v) in_set k ds (Some x) found h =
        item_alike (swapped i j) ss v k ds (λ d e.
        let same : x ≡ d = cc in
        subst (λ y. Alike m (Some v) y (changed_at (swapped i j) ss y)) same
        (inside (record { want = v; value = x; repeated = in_set && is_repeated ds k x }) h))

    one_step : (ss : List Step) → Inside ss → (w : Want) (d : Data) (s : Step) → HoldsInside ss (asked_inside w d s)
        → Alike m (Some w) d (changed_at (swapped i j) (s ∷ ss) d)
    one_step ss inside w (object ms) (Name n) h =
        alike_object (under_name ss inside (scope_inside w (object ms)) n ms (want_of_name (scope_inside w (object ms)) n) (get_member n ms) refl refl h)
    one_step ss inside w (array ds) (At k) h =
        alike_array m w ds (item_changed (swapped i j) k ss ds) (is_table_set w) refl
        (at_position ss inside (entry_want w) (is_compared_set w) k ds (get_item k ds) refl h)
    one_step ss inside w (array ds) (Name n) h = absurd h
    one_step ss inside w (object ms) (At k) h = absurd h
    one_step ss inside w e s h = absurd h

    exchanged_from : (ss : List Step) → Inside ss
    exchanged_from [] a h = swapped_alike i j a.want a.value h.0 h.1 h.2
    exchanged_from (s ∷ ss) a h = one_step ss (exchanged_from ss) a.want a.value s h

  pub exchanged_alike : (t : Data) (p : List Step) (i j : ℕ) → HasEntries t p i j → Alike m (Some (Object role.Report)) t (exchanged p i j t)
  exchanged_alike t p i j h = exchanged_from i j p (asked (Object role.Report) t) h

-- ---- what stands under a name, and the entries of arrays

module _ (m : Sides) where
  pub alike_member : {s : Scope} {ms ns : Members} → AlikeMembers m s ms ns → (n : List ℕ) → Both (Alike m (want_of_name s n))
      (get_member n ms) (get_member n ns)
  alike_member alike_nothing n = neither
  alike_member {s = s} (alike_under {k = k} {d = d} {e = e} {ms = ms} {ns = ns} h rest) n =
      get_both (Both (Alike m (want_of_name s n))) n k d e ms ns (λ named. both (subst (λ x. Alike m (want_of_name s x) d e) (sym named) h))
      (alike_member rest n)

  alike_entries : {o : Option Want} {ds es : Items} → AlikeEntries m o ds es → Paired (Alike m o) (list_of_items ds) (list_of_items es)
  alike_entries alike_none = none
  alike_entries (alike_more h rest) = more h (alike_entries rest)

  leaf_listed : (w : Want) {d e : Data} → Same m (Some w) d e → is_leaf (Some w) d ≡ true → Matched (Alike m (entry_want w)) (entries_of d) (entries_of e)
  leaf_listed w (a_list is h) leaf = cc
  leaf_listed w (a_set fs is p h) leaf = cc
  leaf_listed w h leaf = matched_none _

  alike_listed : (w : Want) {d e : Data} → Alike m (Some w) d e → Matched (Alike m (entry_want w)) (entries_of d) (entries_of e)
  alike_listed w (alike_leaf leaf h) = leaf_listed w h leaf
  alike_listed w (alike_list {es = es} is h) = record { middle = list_of_items es; paired = alike_entries h; reordered = IsPermutation-refl (list_of_items es) }
  alike_listed w (alike_set fs is p h) = matched_left p (alike_entries h)
  alike_listed w (alike_object h) = matched_none _

  -- ---- trees

  before_alike : {s : Scope} {ms ns : Members} (k : List ℕ) → AlikeMembers m s ms ns → IsBeforeFirst k ms → IsBeforeFirst k ns
  before_alike k alike_nothing before = before
  before_alike k (alike_under h rest) before = before

  trees_of_list : (ds : Items) → ((d : Data) → In d (list_of_items ds) → IsTree d) → AreTrees ds
  trees_of_list no_items h = tt
  trees_of_list (item d ds) h = (h d (inl refl), trees_of_list ds (λ e i. h e (inr i)))

  leaf_tree : {o : Option Want} {d e : Data} → Same m o d e → is_leaf o d ≡ true → IsTree d → IsTree e
  leaf_tree (a_list is h) leaf tree = cc
  leaf_tree (a_set fs is p h) leaf tree = cc
  leaf_tree (an_object h) leaf tree = cc
  leaf_tree h leaf tree = tree

  -- what is alike to a tree is a tree
  mutual
    pub alike_tree : {o : Option Want} {d e : Data} → Alike m o d e → IsTree d → IsTree e
    alike_tree (alike_leaf leaf h) tree = leaf_tree h leaf tree
    alike_tree (alike_list is h) tree = entries_trees h tree
    alike_tree (alike_set {ds = ds} fs is p h) tree =
        entries_trees h (trees_of_list fs (λ d i. list_of_items-tree ds d tree (reordered-In d (IsPermutation-sym _ _ p) i)))
    alike_tree (alike_object h) tree = members_trees h tree

    entries_trees : {o : Option Want} {ds es : Items} → AlikeEntries m o ds es → AreTrees ds → AreTrees es
    entries_trees alike_none trees = trees
    entries_trees (alike_more h rest) trees = (alike_tree h trees.0, entries_trees rest trees.1)

    members_trees : {s : Scope} {ms ns : Members} → AlikeMembers m s ms ns → AreMembers ms → AreMembers ns
    members_trees alike_nothing trees = trees
    members_trees (alike_under {k = k} h rest) trees = (before_alike k rest trees.0, alike_tree h trees.1, members_trees rest trees.2)

-- ---- values of a report

-- a value of the report of which this is asked, and one that is alike
pub record Related (m : Sides) (w : Want) (d e : Data) : Type 0 where
  pub inside : Within m.left (asked w d)
  pub is_alike : Alike m (Some w) d e

module _ (m : Sides) where
  entry_inside : (w v : Want) (d : Data) → entry_want w ≡ Some v → is_compared_set w ≡ false → Within m.left (asked w d) → (x : Data) → In x (entries_of d)
      → Within m.left (asked v x)
  entry_inside w v (array ds) asks apart inside x h =
      let j = list_of_items-place ds x h in
      Within-step m.left (asked w (array ds)) (asked v x) (At j.0) inside (rw (asks, apart, j.1) refl)
  entry_inside w v e asks apart inside x h = elim h [ ]

  -- the entries of arrays that are not compared with one another
  pub related_entries : (w v : Want) (d e : Data) → entry_want w ≡ Some v → is_compared_set w ≡ false → Related m w d e
      → Matched (Related m v) (entries_of d) (entries_of e)
  related_entries w v d e asks apart r =
      matched_within (Related m v) (λ x y h k. record { inside = entry_inside w v d asks apart r.inside x h; is_alike = k })
      (subst (λ o. Matched (Alike m o) (entries_of d) (entries_of e)) asks (alike_listed m w r.is_alike))

  -- of an array that may be absent
  pub related_listed : (w v : Want) (o p : Option Data) → entry_want w ≡ Some v → is_compared_set w ≡ false → Both (Related m w) o p
      → Matched (Related m v) (option_map_or entries_of o []) (option_map_or entries_of p [])
  related_listed w v o p asks apart neither = matched_none _
  related_listed w v o p asks apart (both r) = related_entries w v _ _ asks apart r

  -- ---- objects

  module _ (clean : NoneOf (ShapeFault m.left)) where
    scope_known : (w : Want) (q : Role) (c : Class) (ms : Members) → AsksObject w q → class_of_object q (object ms) ≡ Some c → scope_inside w (object ms)
        ≡ scope.Members q (Some c)
    scope_known w q c ms of_role among = ap (scope.Members q) among
    scope_known w q c ms of_label among = ap (scope.Members role.Label) among

    -- under each name but `@type` stand values that are related, or none
    pub related_member : (w : Want) (q : Role) (c : Class) (ms : Members) → ObjectAt m.left w q c ms → (e : Data) → Alike m (Some w) (object ms) e
        → (name : List ℕ) → bytes_eq name (codes "@type") ≡ false → Both (Related m (member_want c name)) (get_member name ms) (get name e)
    related_member w q c ms a e h name other = from h
      where
        at : (o p : Option Data) → get_member name ms ≡ o → Both (Alike m (Some (member_want c name))) o p → Both (Related m (member_want c name)) o p
        at o p found neither = neither
        at o p found (both r) = both (record { inside = member_within m.left clean w q ms c name _ a.asks a.among other a.inside found; is_alike = r })

        from : {x : Data} → Alike m (Some w) (object ms) x → Both (Related m (member_want c name)) (get_member name ms) (get name x)
        from (alike_leaf leaf g) = cc
        from (alike_object {ns = ns} g) =
            at (get_member name ms) (get_member name ns) refl
            (subst (λ o. Both (Alike m o) (get_member name ms) (get_member name ns))
            (ap (λ s. want_of_name s name) (scope_known w q c ms a.asks a.among) ∙ asked_of_name q c name other) (alike_member m g name))

    -- the same of an object with a role
    pub related_in : (r : Role) (d e : Data) (o : ObjectIn m.left r d) → Related m (Object r) d e → (name : List ℕ) → bytes_eq name (codes "@type") ≡ false
        → Both (Related m (member_want o.class name)) (get name d) (get name e)
    related_in r d e o related name other =
        subst (λ x. Both (Related m (member_want o.class name)) (get name x) (get name e)) (sym o.is_object)
        (related_member (Object r) r o.class o.ms o.at e (subst (λ x. Alike m (Some (Object r)) x e) o.is_object related.is_alike) name other)

    -- the objects of a keyed array
    pub related_array : (r : Role) (d e : Data) (o : ObjectIn m.left r d) → Related m (Object r) d e → (f : Family) (name : List ℕ)
        → bytes_eq name (codes "@type") ≡ false
        → kind_of_member o.class name ≡ kind.Keyed f → Matched (Related m (Object (role.OfFamily f))) (entries_at name d) (entries_at name e)
    related_array r d e o related f name other keyed =
        related_listed (Member (kind.Keyed f) false) (Object (role.OfFamily f)) (get name d) (get name e) refl refl
        (subst (λ x. Both (Related m x) (get name d) (get name e)) (want_by_kind o.class name (kind.Keyed f) keyed refl)
        (related_in r d e o related name other))

-- ---- the objects of each family are matched, and related ones have `@id`s that are one but for the function of texts

id_text : (m : Sides) (w : Want) {d e : Data} → is_id_text w ≡ true → Same m (Some w) d e → as_str d ≡ option_map m.back (as_str e)
id_text m w is (a_text other) = let x : true ≡ false = sym is ∙ other in cc
id_text m w is (an_id here h) = ap Some h.1
id_text m w is h = refl

module _ (m : Sides) (clean : NoneOf (ShapeFault m.left)) where
  abbrev RelatedIn : Role → Data → Data → Type 0
  RelatedIn r = Related m (Object r)

  ids_found : (required : Bool) (o p : Option Data) → Both (Related m (Member kind.Identity required)) o p → option_and_then as_str o
      ≡ option_map m.back (option_and_then as_str p)
  ids_found required o p neither = refl
  ids_found required o p (both r) = id_text m (Member kind.Identity required) refl (alike_same r.is_alike)

  pub id_came_back : (f : Family) (d e : Data) → RelatedIn (role.OfFamily f) d e → id_of d ≡ option_map m.back (id_of e)
  id_came_back f d e r =
      let o : ObjectIn m.left (role.OfFamily f) d = object_in m.left clean (role.OfFamily f) d r.inside in
      let name = codes "@id" in
      ids_found false (get name d) (get name e)
      (subst (λ w. Both (Related m w) (get name d) (get name e)) (want_by_kind o.class name kind.Identity (kind_of_family_id o.class f o.role) refl)
      (related_in m clean (role.OfFamily f) d e o r name refl))

  module _ (alike : Alike m (Some (Object role.Report)) m.left m.right) where
    report : RelatedIn role.Report m.left m.right
    report = record { inside = Within-root m.left; is_alike = alike }

    top : ObjectIn m.left role.Report m.left
    top = object_in m.left clean role.Report m.left (Within-root m.left)

    elections_both : Both (Related m (Member kind.Elections false)) (get (codes "Election") m.left) (get (codes "Election") m.right)
    elections_both =
        let name = codes "Election" in
        let listed : kind_of_member top.class name ≡ kind.Elections = ap (λ c. kind_of_member c name) (report_class top.class top.role) in
        subst (λ w. Both (Related m w) (get name m.left) (get name m.right)) (want_by_kind top.class name kind.Elections listed refl)
        (related_in m clean role.Report m.left m.right top report name refl)

    pub family_matched : (f : Family) → Matched (RelatedIn (role.OfFamily f)) (family_values f m.left) (family_values f m.right)
    family_matched =
        families_matched m.left m.right RelatedIn (λ r d e k f name other known. let o = object_in m.left clean r d k.inside in
        related_array m clean r d e o k f name other (known o.class o.role).0) report
        (related_listed m (Member kind.Elections false) (Object role.Election) (get (codes "Election") m.left) (get (codes "Election") m.right)
        refl refl elections_both)
