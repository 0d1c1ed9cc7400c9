-- Two lists that are compared one entry after another: what is left of them is the same exactly if they are.
use Rattle.erd_compare.proofs.Common.{◌≡◌, ℕ, ◌+◌, ◌<◌, true, false, List, ◌∷◌, map, length, get_or, drop, sym, ap, ◌∙◌, ap₂, true≢false, add-one, drop-cons}
use Rattle.erd_compare.proofs.Common.{Decides, [], suc, Bool, ◌==◌, Option, refl, arith, Decides-eqb, Data, array, Items, no_items, item, view, Value}
use Rattle.erd_compare.proofs.Common.{list_of_items, entries_of, Preference, Content, no_content, first_node, Node, a_contest, a_header, NameParts, content_of}
use Rattle.erd_compare.proofs.Common.{JsonMap, nodes_of, node_of, Key, zero, ◌≤◌, Some, codes, object, get, items_view, Judged, depth, members_depth}
use Rattle.erd_compare.proofs.Common.{items_depth, get_member-depth, class_of_node, is_header_class, None, option_and_then, fun_ext, same_Some, subst}
use Rattle.erd_compare.proofs.Common.{as_object, Members, no_members, member, as_str, class, family, carried_members, text_at, entries_at, key_named}
use Rattle.erd_compare.proofs.Common.{name_named, Carried}
use Rattle.std.proofs.lemmas.Simd.{map-map}
use Rattle.erd_compare.proofs.same_values.SameValues.{decides_as, carried_by_choice, get_member-chosen_in}
use Rattle.erd_meaning.proofs.meanings.InnerContent.{content_at, content_inside-get}
use Rattle.erd_meaning.specs.Records.{contest_node, header_node}
use Rattle.erd_compare.specs.code.ContentParts.{content_within, IsPlainContest, plain_node}
use Rattle.erd_tables.specs.Classes.{text_of_class}
use Rattle.erd_check.specs.Values.{text_of}
use Rattle.erd_compare.specs.declared.values.plain_contest.PlainContest.{PlainContest}

-- two lists are the same exactly if what is left of them is
pub record AreSameIfLeft {B : Type 0} (all all' left left' : List B) : Type 0 where
  pub to_left : all ≡ all' → left ≡ left'
  pub to_all : left ≡ left' → all ≡ all'

module _ {A B : Type 0} (f g : A → B) where
  -- the list that is left at an index
  left_at : (xs : List A) (i : ℕ) (x : A) → i < length xs → x ≡ get_or xs i x → map f (drop i xs) ≡ f x ∷ map f (drop (i + 1) xs)
  left_at xs i x low here = ap (map f) (drop-cons xs i x low) ∙ ap₂ (λ y n. f y ∷ map f (drop n xs)) (sym here) (sym (add-one i))

  -- one entry of each further, where they are the same
  pub one_further : (xs : List A) (i : ℕ) (x y : A) (left left' : List A) (all all' : List B) → i < length xs → x ≡ get_or xs i x → left ≡ y ∷ left' → f x ≡ g y
      → AreSameIfLeft all all' (map f (drop i xs)) (map g left) → AreSameIfLeft all all' (map f (drop (i + 1) xs)) (map g left')
  one_further xs i x y left left' all all' low here next same so_far = record {
    to_left = λ e. let both : f x ∷ map f (drop (i + 1) xs) ≡ g y ∷ map g left' = sym (left_at xs i x low here) ∙ (so_far.to_left e ∙ ap (map g) next) in cc;
    to_all = λ e. so_far.to_all (left_at xs i x low here ∙ (ap₂ ◌∷◌ same e ∙ sym (ap (map g) next)));
  }

  -- they differ where two entries do
  pub differ_here : (xs : List A) (i : ℕ) (x y : A) (left left' : List A) (all all' : List B) → i < length xs → x ≡ get_or xs i x → left ≡ y ∷ left'
      → (f x ≡ g y → false ≡ true)
      → AreSameIfLeft all all' (map f (drop i xs)) (map g left) → Decides false all all'
  differ_here xs i x y left left' all all' low here next differ so_far = (
    λ e. absurd (true≢false (sym e)),
    λ e.
        let both : f x ∷ map f (drop (i + 1) xs) ≡ g y ∷ map g left' = sym (left_at xs i x low here) ∙ (so_far.to_left e ∙ ap (map g) next) in
        let same : f x ≡ g y = cc in differ same,
  )

-- ---- when two orders of a ballot are the same: node by node, and each node part by part

-- ---- content as a list of nodes

-- the nodes of an array, as a list
abbrev pub nodes : Preference → Data → Items → List Node
nodes π t ds = map (node_of π t) (list_of_items ds)

-- contents with the same nodes are the same
pub nodes-same : (π ρ : Preference) (t u : Data) (ds es : Items) → nodes π t ds ≡ nodes ρ u es → nodes_of π t ds ≡ nodes_of ρ u es
nodes-same π ρ t u no_items no_items e = refl
nodes-same π ρ t u (item c ds) (item d es) e =
    let first : node_of π t c ≡ node_of ρ u d = cc in
    let rest : nodes π t ds ≡ nodes ρ u es = cc in
    ap₂ first_node first (nodes-same π ρ t u ds es rest)
nodes-same π ρ t u ds es e = cc

-- and the other way round
pub same-nodes : (π ρ : Preference) (t u : Data) (ds es : Items) → nodes_of π t ds ≡ nodes_of ρ u es → nodes π t ds ≡ nodes ρ u es
same-nodes π ρ t u no_items no_items e = refl
same-nodes π ρ t u (item c ds) (item d es) e =
    let first : node_of π t c ≡ node_of ρ u d = cc in
    let rest : nodes_of π t ds ≡ nodes_of ρ u es = cc in
    ap₂ ◌∷◌ first (same-nodes π ρ t u ds es rest)
same-nodes π ρ t u ds es e = cc

-- ---- nodes by their parts

-- contests are the same exactly if what they mean outside and their names are
pub contest-Decides : {p q : Bool} {k l : Option Key} {m n : JsonMap} {xs ys : List (Option NameParts)}
    → Decides {A = Option Key × JsonMap} p (k, m) (l, n) → p ≡ true → Decides q xs ys → Decides q (a_contest k xs m) (a_contest l ys n)
contest-Decides outside held names =
    (λ e. ap₂ (λ (o : Option Key × JsonMap) (zs : List (Option NameParts)). a_contest o.0 zs o.1) (outside.0 held) (names.0 e), λ same. names.1 (cc))

pub contest-differs : {p : Bool} {k l : Option Key} {m n : JsonMap} {xs ys : List (Option NameParts)} → Decides {A = Option Key × JsonMap} p (k, m) (l, n)
    → p ≡ false → Decides p (a_contest k xs m) (a_contest l ys n)
contest-differs {k = k} {l = l} {m = m} {n = n} outside failed = (
  λ e. absurd (true≢false (sym e ∙ failed)),
  λ same. let key : k ≡ l = cc in let others : m ≡ n = cc in
      outside.1 (ap₂ (λ (x : Option Key) (y : JsonMap). (x, y)) key others),
)

-- headers are the same exactly if what they mean outside and inside is
pub header-Decides : {p q : Bool} {k l : Option Key} {m n : JsonMap} {x y : Content} → Decides {A = Option Key × JsonMap} p (k, m) (l, n) → p ≡ true
    → Decides q x y → Decides q (a_header k x m) (a_header l y n)
header-Decides outside held inside =
    (λ e. ap₂ (λ (o : Option Key × JsonMap) (z : Content). a_header o.0 z o.1) (outside.0 held) (inside.0 e), λ same. inside.1 (cc))

pub header-differs : {p : Bool} {k l : Option Key} {m n : JsonMap} {x y : Content} → Decides {A = Option Key × JsonMap} p (k, m) (l, n) → p ≡ false
    → Decides p (a_header k x m) (a_header l y n)
header-differs {k = k} {l = l} {m = m} {n = n} outside failed = (
  λ e. absurd (true≢false (sym e ∙ failed)),
  λ same. let key : k ≡ l = cc in let others : m ≡ n = cc in
      outside.1 (ap₂ (λ (x : Option Key) (y : JsonMap). (x, y)) key others),
)

-- no contest is a header
pub contest-header : {k l : Option Key} {xs : List (Option NameParts)} {y : Content} {m n : JsonMap} → Decides false (a_contest k xs m) (a_header l y n)
contest-header = (λ h. cc, λ same. cc)

pub header-contest : {k l : Option Key} {x : Content} {ys : List (Option NameParts)} {m n : JsonMap} → Decides false (a_header k x m) (a_contest l ys n)
header-contest = (λ h. cc, λ same. cc)

-- ---- content of any value

-- what the entries of a value are as content
pub content_of-entries : (π : Preference) (t d : Data) → (ds : Items) × (list_of_items ds ≡ entries_of d) × (content_of π t d ≡ nodes_of π t ds)
content_of-entries π t (array ds) = (ds, refl, refl)
content_of-entries π t d = (no_items, refl, refl)

no_entries : (ds : Items) → list_of_items ds ≡ [] → ds ≡ no_items
no_entries no_items e = refl
no_entries (item d ds) e = cc

more_than_none : (vs : List Value) → (suc (length vs) == 0) ≡ true → ⊥
more_than_none vs e = let h : suc (length vs) ≡ 0 = (Decides-eqb (suc (length vs)) 0).0 e in absurd (omega arith)

-- a value with no entries has no content
pub none-Decides : (π : Preference) (t d : Data) (vs : List Value) (answer : Bool) → map view vs ≡ entries_of d → answer ≡ (length vs == 0)
    → Decides answer no_content (content_of π t d)
none-Decides π t d vs answer entries is = at (content_of-entries π t d) vs refl
  where
    at : (ds : Items) × (list_of_items ds ≡ entries_of d) × (content_of π t d ≡ nodes_of π t ds) → (ws : List Value) → vs ≡ ws
        → Decides answer no_content (content_of π t d)
    at (no_items, e, f) [] g = (λ h. sym f, λ h. is ∙ ap (λ (ws : List Value). length ws == 0) g)
    at (item c ds, e, f) [] g = let h : c ∷ list_of_items ds ≡ [] = e ∙ (sym entries ∙ ap (map view) g) in cc
    at (no_items, e, f) (w ∷ ws) g = let h : [] ≡ view w ∷ map view ws = e ∙ (sym entries ∙ ap (map view) g) in cc
    at (item c ds, e, f) (w ∷ ws) g = (
      λ h. absurd (more_than_none ws (sym (is ∙ ap (λ (ws : List Value). length ws == 0) g) ∙ h)),
      λ h. let j : no_content ≡ first_node (node_of π t c)
          (nodes_of π t ds) = h ∙ f in cc,
    )

-- contents are the same exactly if their entries are as nodes
pub content-Decides : (π ρ : Preference) (t u d e : Data) (vs ws : List Value) (answer : Bool) → map view vs ≡ entries_of d → map view ws ≡ entries_of e
    → Decides answer (map (λ v. node_of π t (view v)) vs) (map (λ v. node_of ρ u (view v)) ws) → Decides answer (content_of π t d) (content_of ρ u e)
content-Decides π ρ t u d e vs ws answer one other same =
    let left = content_of-entries π t d in
    let right = content_of-entries ρ u e in
    let ones : map (λ v. node_of π t (view v)) vs ≡ nodes π t left.0 =
    sym (map-map (node_of π t) view vs) ∙ ap (map (node_of π t)) (one ∙ sym left.1) in
    let others : map (λ v. node_of ρ u (view v)) ws ≡ nodes ρ u right.0 =
    sym (map-map (node_of ρ u) view ws) ∙ ap (map (node_of ρ u)) (other ∙ sym right.1) in (
      λ h. left.2 ∙ (nodes-same π ρ t u left.0 right.0 (sym ones ∙ (same.0 h ∙ others)) ∙ sym right.2),
      λ h. same.1 (ones ∙ (same-nodes π ρ t u left.0 right.0 (sym left.2 ∙ (h ∙ right.2)) ∙ sym others)),
    )

-- a value with no entries has no content
pub content_of-none : (π : Preference) (t d : Data) → [] ≡ entries_of d → content_of π t d ≡ no_content
content_of-none π t d none = let is = content_of-entries π t d in is.2 ∙ ap (nodes_of π t) (no_entries is.0 (is.1 ∙ sym none))

-- ---- what a node of a ballot's order is, by its class, and what stands inside it

-- ---- what stands inside

within_get : (π : Preference) (t d : Data) {o : Option Data} → get (codes "OrderedContent") d ≡ o → content_at π t o ≡ content_within π t d
within_get π t (object ms) e = sym (content_inside-get π t ms ∙ ap (content_at π t) e)
within_get π t d e = ap (content_at π t) (sym e)

-- what stands inside two values is the same exactly if their members are
pub within_decides : (a b : Judged) (d e : Data) {o p : Option Data} (answer : Bool) → get (codes "OrderedContent") d ≡ o → get (codes "OrderedContent") e ≡ p
    → Decides answer (content_at a.prefer (view a.tree) o) (content_at b.prefer (view b.tree) p) → Decides answer (content_within a.prefer (view a.tree) d)
    (content_within b.prefer (view b.tree) e)
within_decides a b d e answer left right h = decides_as refl (within_get a.prefer (view a.tree) d left) (within_get b.prefer (view b.tree) e right) h

-- ---- headers and contests

-- a node whose class is that of a header
node_header : (π : Preference) (t d : Data) → is_header_class (class_of_node d) ≡ true → node_of π t d ≡ header_node π t d (content_within π t d)
node_header π t (object ms) e = rw e
node_header π t d e = cc

-- and one of any other class
pub node_contest : (π : Preference) (t d : Data) → is_header_class (class_of_node d) ≡ false → node_of π t d ≡ contest_node π t d
node_contest π t (object ms) e = rw e
node_contest π t d e = refl

-- what a node means, by whether it is a header
abbrev pub node_if : Judged → Data → Bool → Node
node_if a d true = header_node a.prefer (view a.tree) d (content_within a.prefer (view a.tree) d)
node_if a d false = contest_node a.prefer (view a.tree) d

node_is : (a : Judged) (d : Data) (header : Bool) → header ≡ is_header_class (class_of_node d) → node_of a.prefer (view a.tree) d ≡ node_if a d header
node_is a d true e = node_header a.prefer (view a.tree) d (sym e)
node_is a d false e = node_contest a.prefer (view a.tree) d (sym e)

pub nodes_decide : (a b : Judged) (d e : Data) {answer : Bool} (p q : Bool) → p ≡ is_header_class (class_of_node d) → q ≡ is_header_class (class_of_node e)
    → Decides answer (node_if a d p) (node_if b e q) → Decides answer (node_of a.prefer (view a.tree) d) (node_of b.prefer (view b.tree) e)
nodes_decide a b d e p q left right h = decides_as refl (sym (node_is a d p left)) (sym (node_is b e q right)) h

-- ---- depths

-- a member is not as deep as its object
pub get_depth : (name : List ℕ) (d v : Data) → get name d ≡ Some v → suc (depth v) ≤ depth d
get_depth name (object ms) v e = let h : depth v ≤ members_depth ms = get_member-depth name v ms e in omega arith
get_depth name d v e = cc

-- an entry is no deeper than all
pub entry_depth : (vs : List Value) (i : ℕ) (v : Value) → i < length vs → v ≡ get_or vs i v → depth (view v) ≤ items_depth (items_view vs)
entry_depth [] i v low e = absurd (omega arith)
entry_depth (w ∷ vs) zero v low e = let h : depth (view v) ≡ depth (view w) = ap (λ (u : Value). depth (view u)) e in omega arith
entry_depth (w ∷ vs) (suc i) v low e = let h : depth (view v) ≤ items_depth (items_view vs) = entry_depth vs i v (omega arith) e in omega arith

-- ---- answers

-- an answer about two values is one about them in the other order
pub decides_swap : {A : Type 0} {p : Bool} {a b : A} → Decides p a b → Decides p b a
decides_swap h = (λ e. sym (h.0 e), λ e. h.1 (sym e))

-- ---- contests on a ballot that have the members of the table and no other: what they mean

-- the members of the table
abbrev pub table_members : Data → Data → Data → Members
table_members a b c = member (codes "@type") a (member (codes "ContestId") b (member (codes "OrderedContestSelectionIds") c no_members))

-- an object that has them and no other carries no member
carries_none : (a b c : Data) → carried_members (Some class.OrderedContest) (object (table_members a b c)) ≡ (λ name. None)
carries_none a b c =
    let d = object (table_members a b c) in
    fun_ext (λ name. sym (get_member-chosen_in name (Carried (Some class.OrderedContest)) d ∙ carried_by_choice (Some class.OrderedContest) d name))

-- and is a plain contest, if it has the class
plain_object : (a b c : Data) (found : PlainContest) → as_str a ≡ Some (text_of_class class.OrderedContest) → found.contest.now ≡ text_of b
    → map view found.selections.now ≡ entries_of c
    → IsPlainContest (object (table_members a b c)) found
plain_object a b c found type contest selections = record {
  its_class = rw type refl;
  contest = contest;
  selections = selections;
  carried = carries_none a b c;
}

-- the same of any value that has these members
pub plain_parts : (d a b c : Data) (found : PlainContest) → as_object d ≡ Some (table_members a b c) → as_str a ≡ Some (text_of_class class.OrderedContest)
    → found.contest.now ≡ text_of b → map view found.selections.now ≡ entries_of c → IsPlainContest d found
plain_parts (object ms) a b c found is type contest selections =
    subst (λ ns. IsPlainContest (object ns) found) (sym (same_Some ms (table_members a b c) is)) (plain_object a b c found type contest selections)
plain_parts d a b c found is type contest selections = cc

-- the name of the selection that a reference names
abbrev name_in : Preference → Data → Data → Option NameParts
name_in π t d = option_and_then (name_named π t) (as_str d)

-- what it means as a node
pub plain_means : (π : Preference) (t d : Data) (found : PlainContest) → IsPlainContest d found → node_of π t d ≡ plain_node π t found
plain_means π t d found is =
    let keys : key_named π t family.Contest (text_at (codes "ContestId") d) ≡ key_named π t family.Contest found.contest.now =
    ap (λ id. key_named π t family.Contest id) (sym is.contest) in
    let names : map (name_in π t) (entries_at (codes "OrderedContestSelectionIds") d) ≡ map (λ v. name_in π t (view v)) found.selections.now =
    ap (map (name_in π t)) (sym is.selections) ∙ map-map (name_in π t) view found.selections.now in
    let others : carried_members (class_of_node d) d ≡ (λ name. None) = ap (λ c. carried_members c d) is.its_class ∙ is.carried in
    node_contest π t d (ap is_header_class is.its_class)
    ∙ ap (λ k. a_contest k (map (name_in π t) (entries_at (codes "OrderedContestSelectionIds") d)) (carried_members (class_of_node d) d)) keys
    ∙ ap₂ (a_contest (key_named π t family.Contest found.contest.now)) names others
