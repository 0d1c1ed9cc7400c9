-- The lines of a ballot, by what its order means.
use Rattle.erd_shown.proofs.Common.{◌≡◌, ◌⊎◌, inl, inr, ℕ, zero, suc, ◌+◌, Bool, true, false, cond, List, [], ◌∷◌, ◌++◌, map, map-append, Some, None}
use Rattle.erd_shown.proofs.Common.{Option, codes, option_and_then, option_map_or, unwrap_or, find, filter_map, cons_option, sym, refl, ap, ap₂, ◌∙◌, subst}
use Rattle.erd_shown.proofs.Common.{true≢false, bytes_eq, is_eq, Ordering, Equal, text_cmp, is_eq-slice_cmp, Data, null, string, array, object, Items}
use Rattle.erd_shown.proofs.Common.{no_items, item, Members, no_members, member, get_item, get_member, as_str, list_of_items-place}
use Rattle.erd_shown.proofs.Common.{entries_of, entries_at, text_at, text_of, Step, At, Name, Class, class, family, role, role_of_class, kind}
use Rattle.erd_shown.proofs.Common.{class_of_node, is_header_class, Within, Within-step, asked, Asked, Object, Member, Reference, ObjectIn}
use Rattle.erd_shown.proofs.Common.{object_in, member_within, wanted_within, lacks_none, no_unknown, array_from, string_from_text, asked_inside}
use Rattle.erd_shown.proofs.Common.{asked_inside_object, asked_at, In, In-all, In-any, In-map_from, In-flat_map, selected, owned, owned_by, owner, owner_is}
use Rattle.erd_shown.proofs.Common.{has_id-Some, has_identifier, no_identity_fault, no_shape_fault, Preference, Key, NameParts, Placed, objects, contests}
use Rattle.erd_shown.proofs.Common.{selections_of_contest, has_id, key_named, key_of, name_of, name_named, is_selection_in, of_role, values-placed_entries}
use Rattle.erd_shown.proofs.Common.{Content, no_content, first_node, Node, a_contest, a_header, content_of, nodes_of, node_of}
use Rattle.erd_shown.proofs.Common.{content_inside, contest_node, header_node}
use Rattle.erd_check.proofs.Shapes.{asked_at-steps}
use Rattle.erd_shown.specs.BallotWords.{in_name_order, selection_words, words_at_reference, words_data}
use Rattle.erd_shown.specs.Ballots.{line_data}
use Rattle.erd_shown.specs.KeyData.{array_of}
use Rattle.erd_shown.specs.Laws.{IsTaken}
use Rattle.erd_shown.specs.Lines.{content_lines, inside_lines, node_lines, nodes_lines}
use Rattle.erd_shown.specs.ListedNames.{is_filled, listed_at, names_named, selections_named, selections_on, sorted_names}
use Rattle.erd_shown.specs.code.Fitting.{IsSelection}
use Rattle.erd_shown.proofs.LinesTold.{line_with}
use Rattle.erd_shown.proofs.fit.FitMembers.{selections_fit}
use Rattle.erd_shown.proofs.told.Selections.{has_name, once, own, told_name}
use Rattle.erd_shown.proofs.alike.Objects.{found_here}
use Rattle.erd_shown.proofs.alike.Selections.{Chosen, chosen_by, chosen_of, selections_in}

-- ---- lines, by what they mean

-- a line, and what is printed of its selections
abbrev pub Seen : Type 0
Seen = Data × Data

abbrev contest_seen : ℕ → Option Key → List (Option NameParts) → Chosen → Seen
contest_seen n k [] c = (line_with n false c.0 (false, k), array_of c.1)
contest_seen n k (x ∷ xs) c = (line_with n true (filter_map (λ o. o) (x ∷ xs)) (false, k), array_of (map (λ o. option_map_or c.2 o null) (x ∷ xs)))

abbrev mutual
  pub lines_meant : (Option Key → Chosen) → ℕ → Content → List Seen
  lines_meant g n no_content = []
  lines_meant g n (first_node x c) = node_meant g n x ++ lines_meant g n c

  node_meant : (Option Key → Chosen) → ℕ → Node → List Seen
  node_meant g n (a_contest k ns m) = contest_seen n k ns (g k) ∷ []
  node_meant g n (a_header k c m) = (line_with n false [] (true, k), array_of []) ∷ lines_meant g (n + 1) c

-- ---- a list of references, by the names that they lead to

names_kept : (f : Data → Option NameParts) (rs : List Data) → filter_map f rs ≡ filter_map (λ o. o) (map f rs)
names_kept f [] = refl
names_kept f (r ∷ rs) = ap (λ xs. cons_option (f r) xs) (names_kept f rs)

each_equal : {A B C : Type 0} (f : A → C) (g : B → C) (h : A → B) (xs : List A) → ((x : A) → In x xs → f x ≡ g (h x)) → map f xs ≡ map g (map h xs)
each_equal f g h [] each = refl
each_equal f g h (x ∷ xs) each = ap₂ ◌∷◌ (each x (inl refl)) (each_equal f g h xs (λ y i. each y (inr i)))

module _ (π : Preference) (t : Data) where
  abbrev name_at : Data → Option NameParts
  name_at r = option_and_then (name_named π t) (as_str r)

  abbrev words : Data → Data
  words = words_data π t family.Selection

  abbrev listed : ℕ → Option Key → List Data → List Data → Seen
  listed n k rs ds = (
    line_with n (is_filled rs) (cond (is_filled rs) (names_named π t rs) (sorted_names π t ds)) (false, k),
    cond (is_filled rs) (array_of (map (words_at_reference π t family.Selection) rs)) (array_of (map words (in_name_order π t ds))),
  )

  listed_seen : (n : ℕ) (k : Option Key) (rs ds : List Data) (c : Chosen) → sorted_names π t ds ≡ c.0 → map words (in_name_order π t ds) ≡ c.1
      → ((r : Data) → In r rs → words_at_reference π t family.Selection r ≡ option_map_or c.2 (name_at r) null)
      → listed n k rs ds ≡ contest_seen n k (map name_at rs) c
  listed_seen n k [] ds c names all each = ap₂ (λ ns ws. (line_with n false ns (false, k), array_of ws)) names all
  listed_seen n k (r ∷ rs) ds c names all each =
      ap₂ (λ ns ws. (line_with n true ns (false, k), array_of ws)) (names_kept name_at (r ∷ rs))
      (each_equal (words_at_reference π t family.Selection) (λ o. option_map_or c.2 o null) name_at (r ∷ rs) each)

-- ---- the classes of contests and headers on a ballot

content_class : (c : Class) → role_of_class c ≡ role.Content → (c ≡ class.OrderedContest) ⊎ (c ≡ class.OrderedHeader)
content_class class.OrderedContest e = inl refl
content_class class.OrderedHeader e = inr refl
content_class c e = cc

header_class : (o : Option Class) → is_header_class o ≡ true → o ≡ Some class.OrderedHeader
header_class (Some class.OrderedHeader) e = refl
header_class None e = cc
header_class (Some c) e = cc

-- the content inside a header
abbrev inner : Members → Option Data
inner no_members = None
inner (member k d ms) = cond (bytes_eq (codes "OrderedContent") k) (Some d) (inner ms)

inner_member : (ms : Members) → inner ms ≡ get_member (codes "OrderedContent") ms
inner_member no_members = refl
inner_member (member k d ms) = at (text_cmp (codes "OrderedContent") k) refl (inner_member ms)
  where
    at : (o : Ordering) → text_cmp (codes "OrderedContent") k ≡ o → inner ms ≡ get_member (codes "OrderedContent") ms
        → inner (member k d ms) ≡ get_member (codes "OrderedContent") (member k d ms)
    at Equal is h = rw (is, sym (is_eq-slice_cmp (codes "OrderedContent") k) ∙ ap is_eq is) refl
    at e is h = rw (is, sym (is_eq-slice_cmp (codes "OrderedContent") k) ∙ ap is_eq is) h

-- ---- a report that is taken

module _ (π : Preference) (t : Data) (given : IsTaken π t) where
  abbrev pub seen : ℕ × Data → Seen
  seen l = (line_data π t l, selection_words π t l.1)

  abbrev by_key : Option Key → Chosen
  by_key = chosen_by π t

  -- ---- a contest

  module _ (ms : Members) (w : Within t (asked (Object role.Content) (object ms))) (among : class_of_node (object ms) ≡ Some class.OrderedContest) where
    abbrev id : List ℕ
    id = text_at (codes "ContestId") (object ms)

    contest_there : (d : Data) × (owner t family.Contest id ≡ Some d)
    contest_there = at (get_member (codes "ContestId") ms) refl
      where
        at : (o : Option Data) → get_member (codes "ContestId") ms ≡ o → (d : Data) × (owner t family.Contest id ≡ Some d)
        at None is =
            absurd (lacks_none t (no_shape_fault π t given.accepted) (asked (Object role.Content) (object ms)) (codes "ContestId") w (rw among refl) is)
        at (Some v) is =
            let inside : Within t (asked (Reference family.Contest) v) =
            member_within t (no_shape_fault π t given.accepted) (Object role.Content) role.Content ms class.OrderedContest (codes "ContestId") v of_role among
            refl w is in
            let s = string_from_text v (wanted_within t (no_shape_fault π t given.accepted) (asked (Reference family.Contest) v) inside) in
            let o = owned π t given.accepted family.Contest s.0 (subst (λ x. Within t (asked (Reference family.Contest) x)) s.1 inside) in
            (o.0, ap (λ x. owner t family.Contest (unwrap_or (option_and_then as_str x) [])) is ∙ ap (λ x. owner t family.Contest (text_of x)) s.1 ∙ o.1)

    -- each reference of the list names a selection of the contest
    abbrev IsListed : Data → Type 0
    IsListed r = (s : List ℕ) × (r ≡ string s) × (is_selection_in contest_there.0 s ≡ true)

    entry_listed : (i : ℕ) (ds : Items) (e : Data) → get_member (codes "OrderedContestSelectionIds") ms ≡ Some (array ds) → get_item i ds ≡ Some e → IsListed e
    entry_listed i ds e stands found =
        let list : Asked = asked (Member kind.Ordered false) (array ds) in
        let first : asked_inside (Object role.Content) (object ms) (Name (codes "OrderedContestSelectionIds")) ≡ Some list =
        asked_inside_object (Object role.Content) role.Content ms class.OrderedContest (codes "OrderedContestSelectionIds") (array ds) of_role
        among refl stands in
        let second : asked_inside list.want list.value (At i) ≡ Some (asked (Reference family.Selection) e) = rw found refl in
        let place : List Step = w.place ++ Name (codes "OrderedContestSelectionIds") ∷ At i ∷ [] in
        let is : asked_at t place ≡ Some (asked (Reference family.Selection) e) =
        asked_at-steps t w.place (asked (Object role.Content) (object ms)) list (asked (Reference family.Selection) e)
        (Name (codes "OrderedContestSelectionIds")) (At i) w.is first second in
        let s = string_from_text e (wanted_within t (no_shape_fault π t given.accepted) (asked (Reference family.Selection) e)
        (record { place = place; is = is })) in (
          s.0,
          s.1,
          selected π t given.accepted (asked (Object role.Content) (object ms)) contest_there.0 w contest_there.1 i s.0
              (is ∙ ap (λ x. Some (asked (Reference family.Selection) x)) s.1),
        )

    all_listed : (r : Data) → In r (listed_at (object ms)) → IsListed r
    all_listed r i = at (get_member (codes "OrderedContestSelectionIds") ms) refl i
      where
        at : (o : Option Data) → get_member (codes "OrderedContestSelectionIds") ms ≡ o → In r (option_map_or entries_of o []) → IsListed r
        at None is h = absurd h
        at (Some v) is h =
            let inside : Within t (asked (Member kind.Ordered false) v) =
            member_within t (no_shape_fault π t given.accepted) (Object role.Content) role.Content ms class.OrderedContest
            (codes "OrderedContestSelectionIds") v of_role among refl w is in
            let ds = array_from v (wanted_within t (no_shape_fault π t given.accepted) (asked (Member kind.Ordered false) v) inside) in
            let p = list_of_items-place ds.0 r (subst (λ x. In r (entries_of x)) ds.1 h) in
            entry_listed p.0 ds.0 r (is ∙ ap Some ds.1) p.1

    -- so what is printed of it is what the contest has under its name
    word_named : (o : Placed) → In o (objects family.Contest t) → o.value ≡ contest_there.0 → (r : Data) → IsListed r
        → words_at_reference π t family.Selection r
        ≡ option_map_or (λ n. option_map_or (words_data π t family.Selection) (find (has_name π t n) (selections_in o)) null) (name_at π t r) null
    word_named o i value r is =
        let chosen = In-any (has_id is.0) (selections_in o) (ap (λ d. is_selection_in d is.0) value ∙ is.2) in
        let q = In-map_from (λ (p : Placed). p.value) (selections_of_contest o) chosen.0
        (subst (In chosen.0) (sym (values-placed_entries (codes "ContestSelection") o)) chosen.1) in
        let owns : owner t family.Selection is.0 ≡ Some chosen.0 =
        owner_is π t given.accepted family.Selection q.0 is.0 (In-flat_map selections_of_contest q.0 o (contests t) i q.1)
        (has_id-Some is.0 q.0.value (ap (has_id is.0) q.2 ∙ chosen.2)) ∙ ap Some q.2 in
        let all = selections_fit π t given.accepted given.is_tree given.fits o i in
        let s : IsSelection π t chosen.0 = In-all (IsSelection π t) chosen.0 (selections_in o) all.0 chosen.1 in
        let found : find (has_name π t s.name) (selections_in o) ≡ Some chosen.0 =
        own (has_name π t s.name) (selections_in o) chosen.0 (once π t s.name (selections_in o) all.1) chosen.1 (told_name π t s.name chosen.0 s.named) in
        let name : name_at π t r ≡ Some s.name =
        ap (name_at π t) is.1 ∙ ap (option_and_then (name_of π t)) owns ∙ s.named in
        ap (words_at_reference π t family.Selection) is.1 ∙ ap (λ x. option_map_or (words_data π t family.Selection) x null) owns
        ∙ sym (ap (λ x. option_map_or (λ n. option_map_or (words_data π t family.Selection) (find (has_name π t n) (selections_in o)) null) x null) name
        ∙ ap (λ x. option_map_or (words_data π t family.Selection) x null) found)

    contest_line : (n : ℕ) → seen (n, object ms)
        ≡ contest_seen n (key_named π t family.Contest id) (map (name_at π t) (listed_at (object ms))) (by_key (key_named π t family.Contest id))
    contest_line n =
        let o = owned_by t family.Contest id contest_there.0 contest_there.1 in
        let k = has_identifier π t (no_identity_fault π t given.accepted) family.Contest o.0 refl o.1 in
        let key : key_named π t family.Contest id ≡ Some k.0 = ap (option_and_then (key_of π)) contest_there.1 ∙ ap (key_of π) (sym o.2) ∙ k.1 in
        let by : by_key (key_named π t family.Contest id) ≡ chosen_of π t (Some o.0) =
        ap by_key key ∙ ap (chosen_of π t) (found_here π t family.Contest k.0 given.accepted refl o.0 o.1 k.1) in
        let flag : is_header_class (class_of_node (object ms)) ≡ false = ap is_header_class among in
        let all : selections_on t (object ms) ≡ selections_in o.0 =
        ap (λ b. cond b [] (selections_named t id)) flag
        ∙ ap (λ x. option_map_or (entries_at (codes "ContestSelection")) x []) contest_there.1 ∙ ap (entries_at (codes "ContestSelection")) (sym o.2) in
        let rs = listed_at (object ms) in
        ap₂ (λ b ds. (
          line_with n (is_filled rs) (cond (is_filled rs) (names_named π t rs) (sorted_names π t ds))
              (cond b (true, key_named π t family.Header (text_at (codes "HeaderId") (object ms))) (false, key_named π t family.Contest id)),
          cond (is_filled rs) (array_of (map (words_at_reference π t family.Selection) rs))
              (array_of (map (words_data π t family.Selection) (in_name_order π t ds))),
        )) flag all
        ∙ listed_seen π t n (key_named π t family.Contest id) rs (selections_in o.0) (chosen_of π t (Some o.0)) refl refl
        (λ r i. word_named o.0 o.1 o.2 r (all_listed r i))
        ∙ ap (contest_seen n (key_named π t family.Contest id) (map (name_at π t) rs)) (sym by)

  -- ---- a header

  module _ (ms : Members) (w : Within t (asked (Object role.Content) (object ms))) (flag : is_header_class (class_of_node (object ms)) ≡ true) where
    among : class_of_node (object ms) ≡ Some class.OrderedHeader
    among = header_class (class_of_node (object ms)) flag

    none_listed : listed_at (object ms) ≡ []
    none_listed = at (get_member (codes "OrderedContestSelectionIds") ms) refl
      where
        at : (o : Option Data) → get_member (codes "OrderedContestSelectionIds") ms ≡ o → option_map_or entries_of o [] ≡ []
        at None is = refl
        at (Some v) is =
            absurd (no_unknown t (no_shape_fault π t given.accepted) v false
            (member_within t (no_shape_fault π t given.accepted) (Object role.Content) role.Content ms class.OrderedHeader
            (codes "OrderedContestSelectionIds") v of_role among refl w is))

    header_line : (n : ℕ) → seen (n, object ms)
        ≡ (line_with n false [] (true, key_named π t family.Header (text_at (codes "HeaderId") (object ms))), array_of [])
    header_line n =
        ap₂ (λ b rs. (
          line_with n (is_filled rs) (cond (is_filled rs) (names_named π t rs)
              (sorted_names π t (cond b [] (selections_named t (text_at (codes "ContestId") (object ms))))))
              (cond b (true, key_named π t family.Header (text_at (codes "HeaderId") (object ms)))
              (false, key_named π t family.Contest (text_at (codes "ContestId") (object ms)))),
          cond (is_filled rs) (array_of (map (words_at_reference π t family.Selection) rs))
              (array_of (map (words_data π t family.Selection)
              (in_name_order π t (cond b [] (selections_named t (text_at (codes "ContestId") (object ms))))))),
        )) flag none_listed

    inner_within : (d : Data) → inner ms ≡ Some d → Within t (asked (Member kind.Content false) d)
    inner_within d e =
        member_within t (no_shape_fault π t given.accepted) (Object role.Content) role.Content ms class.OrderedHeader (codes "OrderedContent") d of_role
        among refl w (sym (inner_member ms) ∙ e)

  -- ---- all lines

  node_cases : (n : ℕ) (ms : Members) → Within t (asked (Object role.Content) (object ms))
      → (((d : Data) → inner ms ≡ Some d → Within t (asked (Member kind.Content false) d)) → map seen (inside_lines (n + 1) ms)
      ≡ lines_meant by_key (n + 1) (content_inside π t ms))
      → map seen (node_lines n (object ms)) ≡ node_meant by_key n (node_of π t (object ms))
  node_cases n ms w inside = at (is_header_class (class_of_node (object ms))) refl
    where
      contest_is : is_header_class (class_of_node (object ms)) ≡ false → class_of_node (object ms) ≡ Some class.OrderedContest
      contest_is flag =
          let o : ObjectIn t role.Content (object ms) = object_in t (no_shape_fault π t given.accepted) role.Content (object ms) w in
          let among : class_of_node (object ms) ≡ Some o.class = ap class_of_node o.is_object ∙ o.at.among in
          pick o.class among (content_class o.class o.role)
        where
          pick : (c : Class) → class_of_node (object ms) ≡ Some c → (c ≡ class.OrderedContest) ⊎ (c ≡ class.OrderedHeader)
              → class_of_node (object ms) ≡ Some class.OrderedContest
          pick c e (inl is) = e ∙ ap Some is
          pick c e (inr is) = absurd (true≢false (sym (ap is_header_class (e ∙ ap Some is)) ∙ flag))

      at : (b : Bool) → is_header_class (class_of_node (object ms)) ≡ b
          → map seen ((n, object ms) ∷ cond b (inside_lines (n + 1) ms) [])
          ≡ node_meant by_key n (cond b (header_node π t (object ms) (content_inside π t ms)) (contest_node π t (object ms)))
      at true flag = ap₂ ◌∷◌ (header_line ms w flag n) (inside (inner_within ms w flag))
      at false flag = ap (λ s. s ∷ []) (contest_line ms w (contest_is flag) n)

  one_of : (b : Bool) (n : ℕ) (k : List ℕ) (d : Data) (ms : Members)
      → (Within t (asked (Member kind.Content false) d) → map seen (content_lines n d) ≡ lines_meant by_key n (content_of π t d))
      → (((e : Data) → inner ms ≡ Some e → Within t (asked (Member kind.Content false) e)) → map seen (inside_lines n ms)
      ≡ lines_meant by_key n (content_inside π t ms))
      → ((e : Data) → cond b (Some d) (inner ms) ≡ Some e → Within t (asked (Member kind.Content false) e))
      → map seen (cond b (content_lines n d) (inside_lines n ms)) ≡ lines_meant by_key n (cond b (content_of π t d) (content_inside π t ms))
  one_of true n k d ms first rest each = first (each d refl)
  one_of false n k d ms first rest each = rest each

  mutual
    pub contents_seen : (n : ℕ) (r : Bool) (d : Data) → Within t (asked (Member kind.Content r) d) → map seen (content_lines n d)
        ≡ lines_meant by_key n (content_of π t d)
    contents_seen n r (array ds) w = nodes_seen n ds (λ i d e. Within-step t (asked (Member kind.Content r) (array ds)) (asked (Object role.Content) d) (At i) w
        (rw e))
    contents_seen n r d w = refl

    nodes_seen : (n : ℕ) (ds : Items) → ((i : ℕ) (d : Data) → get_item i ds ≡ Some d → Within t (asked (Object role.Content) d)) → map seen (nodes_lines n ds)
        ≡ lines_meant by_key n (nodes_of π t ds)
    nodes_seen n no_items each = refl
    nodes_seen n (item d ds) each =
        map-append seen (node_lines n d) (nodes_lines n ds) ∙ ap₂ ◌++◌ (node_seen n d (each zero d refl)) (nodes_seen n ds (λ i. each (suc i)))

    node_seen : (n : ℕ) (d : Data) → Within t (asked (Object role.Content) d) → map seen (node_lines n d) ≡ node_meant by_key n (node_of π t d)
    node_seen n (object ms) w = node_cases n ms w (inside_seen (n + 1) ms)
    node_seen n d w = let x : false ≡ true = wanted_within t (no_shape_fault π t given.accepted) (asked (Object role.Content) d) w in cc

    inside_seen : (n : ℕ) (ms : Members) → ((d : Data) → inner ms ≡ Some d → Within t (asked (Member kind.Content false) d)) → map seen (inside_lines n ms)
        ≡ lines_meant by_key n (content_inside π t ms)
    inside_seen n no_members each = refl
    inside_seen n (member k d ms) each = one_of (bytes_eq (codes "OrderedContent") k) n k d ms (contents_seen n false d) (inside_seen n ms) each
