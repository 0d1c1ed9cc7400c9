-- The orders of two ballots are written alike if and only if they mean the same. Between what is meant and what is written stands
-- a third form, in which the carried members are a list.
use Rattle.erd_text.proofs.Common.{⊤, ◌≡◌, ℕ, Bool, true, false, cond, List, [], ◌∷◌, map, Some, None, Option, codes, option_and_then, bytes_eq, sym, refl, ap}
use Rattle.erd_text.proofs.Common.{ap₂, ◌∙◌, fun_ext, Ordering, Equal, exact_bytes, nat_list_cmp_total, Data, null, boolean, string, array, object, Items}
use Rattle.erd_text.proofs.Common.{no_items, item, Members, no_members, member, get_member, get, as_str, entries_at, text_at, family, Class, kind, MemberKind}
use Rattle.erd_text.proofs.Common.{AllByRecursion}
use Rattle.std.specs.Ordering.{match_ordering}
use Rattle.serde_json.specs.Data.{number}
use Rattle.erd_tables.specs.Table.{kind_of_member}
use Rattle.erd_tables.specs.Texts.{text_cmp}
use Rattle.erd_check.specs.Trees.{AreMembers, AreTrees, IsBeforeFirst, IsTree}
use Rattle.erd_check.proofs.Shapes.{members_unique}
use Rattle.erd_meaning.specs.Keys.{Preference}
use Rattle.erd_meaning.specs.NameParts.{NameParts}
use Rattle.erd_meaning.specs.Meaning.{JsonMap, Content, no_content, first_node, Node, a_contest, a_header}
use Rattle.erd_meaning.specs.Records.{carried_members, class_of_node, content_of, content_inside, contest_node, header_node, if_carried, is_header_class}
use Rattle.erd_meaning.specs.Records.{node_of, nodes_of}
use Rattle.erd_meaning.specs.SelectionNames.{key_named, name_named}
use Rattle.erd_meaning.specs.declared.keys.key.Key.{Key}
use Rattle.erd_shown.proofs.told.Sets.{array_exact}
use Rattle.erd_shown.proofs.told.Names.{Fits, keys_exact, names_exact}
use Rattle.erd_shown.specs.KeyData.{array_of, shown_key_or_null, shown_name}
use Rattle.erd_shown.specs.ContentData.{carried_data, carried_in, content_data, contest_data, header_data, inside_data, is_carried, is_carried_kind, members_in}
use Rattle.erd_shown.specs.ContentData.{node_data, nodes_data, shown_name_named}
use Rattle.erd_shown.specs.code.Fitting.{ContentsTell, HasFittingNames}

-- ---- carried members

-- a member before others is found among them as it is, if it is carried
found_first : (o : Ordering) (name k : List ℕ) (c : Option Class) (d : Data) (kept all : Option Data) → text_cmp name k ≡ o → is_carried c k ≡ true
    → kept ≡ cond (is_carried c name) all None → match_ordering o kept (Some d) kept ≡ cond (is_carried c name) (match_ordering o all (Some d) all) None
found_first Equal name k c d kept all is taken rest = sym (ap (λ b. cond b (Some d) None) (ap (is_carried c) (exact_bytes name k is) ∙ taken))
found_first e name k c d kept all is taken rest = rest

found_later : (o : Ordering) (name k : List ℕ) (c : Option Class) (d : Data) (kept all : Option Data) → text_cmp name k ≡ o → is_carried c k ≡ false
    → kept ≡ cond (is_carried c name) all None → kept ≡ cond (is_carried c name) (match_ordering o all (Some d) all) None
found_later Equal name k c d kept all is left rest =
    let not_taken : is_carried c name ≡ false = ap (is_carried c) (exact_bytes name k is) ∙ left in
    rest ∙ ap (λ b. cond b all None) not_taken ∙ sym (ap (λ b. cond b (Some d) None) not_taken)
found_later e name k c d kept all is left rest = rest

nothing : (b : Bool) (o : Option Data) → o ≡ None → o ≡ cond b o None
nothing true o e = refl
nothing false o e = e

get-carried_in : (name : List ℕ) (c : Option Class) (ms : Members) → get_member name (carried_in c ms) ≡ cond (is_carried c name) (get_member name ms) None
get-carried_in name c no_members = nothing (is_carried c name) None refl
get-carried_in name c (member k d ms) = at (is_carried c k) refl (get-carried_in name c ms)
  where
    at : (b : Bool) → is_carried c k ≡ b → get_member name (carried_in c ms) ≡ cond (is_carried c name) (get_member name ms) None
        → get_member name (cond b (member k d (carried_in c ms)) (carried_in c ms)) ≡ cond (is_carried c name) (get_member name (member k d ms)) None
    at true is rest = found_first (text_cmp name k) name k c d (get_member name (carried_in c ms)) (get_member name ms) refl is rest
    at false is rest = found_later (text_cmp name k) name k c d (get_member name (carried_in c ms)) (get_member name ms) refl is rest

kind_carried : (k : MemberKind) (o : Option Data) → cond (is_carried_kind k) o None ≡ if_carried k o
kind_carried kind.Carried o = refl
kind_carried k o = refl

by_choice : (c : Option Class) (d : Data) (name : List ℕ) → cond (is_carried c name) (get name d) None ≡ carried_members c d name
by_choice None d name = refl
by_choice (Some c) d name = kind_carried (kind_of_member c name) (get name d)

get-members_in : (name : List ℕ) (d : Data) → get name d ≡ get_member name (members_in d)
get-members_in name null = refl
get-members_in name e = refl

abbrev by_name : Members → JsonMap
by_name ms name = get_member name ms

carried-by_name : (c : Option Class) (d : Data) → carried_members c d ≡ by_name (carried_in c (members_in d))
carried-by_name c d =
    fun_ext (λ name. sym (by_choice c d name) ∙ ap (λ o. cond (is_carried c name) o None) (get-members_in name d) ∙ sym (get-carried_in name c (members_in d)))

before_carried : (k : List ℕ) (c : Option Class) (ms : Members) → AreMembers ms → IsBeforeFirst k ms → IsBeforeFirst k (carried_in c ms)
before_carried k c no_members rise below = tt
before_carried k c (member l e ms) rise below = at (is_carried c l) (before_carried k c ms rise.2 (later ms rise.0))
  where
    later : (ns : Members) → IsBeforeFirst l ns → IsBeforeFirst k ns
    later no_members first = tt
    later (member m f ns) first = nat_list_cmp_total.trans k l m below first

    at : (b : Bool) → IsBeforeFirst k (carried_in c ms) → IsBeforeFirst k (cond b (member l e (carried_in c ms)) (carried_in c ms))
    at true rest = below
    at false rest = rest

carried-rise : (c : Option Class) (ms : Members) → AreMembers ms → AreMembers (carried_in c ms)
carried-rise c no_members rise = tt
carried-rise c (member k d ms) rise = at (is_carried c k) (carried-rise c ms rise.2)
  where
    at : (b : Bool) → AreMembers (carried_in c ms) → AreMembers (cond b (member k d (carried_in c ms)) (carried_in c ms))
    at true rest = (before_carried k c ms rise.2 rise.0, rise.1, rest)
    at false rest = rest

members_in-rise : (d : Data) → IsTree d → AreMembers (members_in d)
members_in-rise (object ms) h = h
members_in-rise e h = tt

-- ---- the third form

mutual
  pub data Parts : Type 0 where
    no_part : Parts
    first_part : Part → Parts → Parts

  pub data Part : Type 0 where
    contest_part : Option Key → List (Option NameParts) → Members → Part
    header_part : Option Key → Parts → Members → Part

-- what it means
abbrev mutual
  meant : Parts → Content
  meant no_part = no_content
  meant (first_part p ps) = first_node (meant_part p) (meant ps)

  meant_part : Part → Node
  meant_part (contest_part k names ms) = a_contest k names (by_name ms)
  meant_part (header_part k ps ms) = a_header k (meant ps) (by_name ms)

-- how it is written
abbrev mutual
  pub written : Parts → Items
  written no_part = no_items
  written (first_part p ps) = item (written_part p) (written ps)

  pub written_part : Part → Data
  written_part (contest_part k names ms) =
      object (member (codes "carried") (object ms)
      (member (codes "contest") (shown_key_or_null k) (member (codes "selections") (array_of (map shown_name names)) no_members)))
  written_part (header_part k ps ms) =
      object (member (codes "carried") (object ms) (member (codes "content") (array (written ps)) (member (codes "header") (shown_key_or_null k) no_members)))

-- what is known of it
abbrev mutual
  pub Good : Parts → Type 0
  Good no_part = ⊤
  Good (first_part p ps) = GoodPart p × Good ps

  pub GoodPart : Part → Type 0
  GoodPart (contest_part k names ms) = AllByRecursion Fits names × AreMembers ms
  GoodPart (header_part k ps ms) = Good ps × AreMembers ms

-- ---- both tell it

all_names : (ms ns : List (Option NameParts)) → AllByRecursion Fits ms → AllByRecursion Fits ns → map shown_name ms ≡ map shown_name ns → ms ≡ ns
all_names [] [] g h e = refl
all_names [] (n ∷ ns) g h e = cc
all_names (m ∷ ms) [] g h e = cc
all_names (m ∷ ms) (n ∷ ns) g h e =
    let first : shown_name m ≡ shown_name n = cc in
    let rest : map shown_name ms ≡ map shown_name ns = cc in
    ap₂ ◌∷◌ (names_exact m n g.0 h.0 first) (all_names ms ns g.1 h.1 rest)

one_map : (ms ns : Members) → AreMembers ms → AreMembers ns → by_name ms ≡ by_name ns → ms ≡ ns
one_map ms ns left right e = members_unique ms ns left right (λ name. ap (λ (f : JsonMap). f name) e)

mutual
  meant_exact : (p q : Parts) → Good p → Good q → meant p ≡ meant q → p ≡ q
  meant_exact no_part no_part g h e = refl
  meant_exact no_part (first_part q qs) g h e = cc
  meant_exact (first_part p ps) no_part g h e = cc
  meant_exact (first_part p ps) (first_part q qs) g h e =
      let first : meant_part p ≡ meant_part q = cc in
      let rest : meant ps ≡ meant qs = cc in
      ap₂ first_part (meant_part_exact p q g.0 h.0 first) (meant_exact ps qs g.1 h.1 rest)

  meant_part_exact : (p q : Part) → GoodPart p → GoodPart q → meant_part p ≡ meant_part q → p ≡ q
  meant_part_exact (contest_part k ks ms) (contest_part l ls ns) g h e =
      let keys : k ≡ l = cc in
      let names : ks ≡ ls = cc in
      let carried : by_name ms ≡ by_name ns = cc in
      let members = one_map ms ns g.1 h.1 carried in
      λ i. contest_part (keys i) (names i) (members i)
  meant_part_exact (contest_part k ks ms) (header_part l qs ns) g h e = cc
  meant_part_exact (header_part k ps ms) (contest_part l ls ns) g h e = cc
  meant_part_exact (header_part k ps ms) (header_part l qs ns) g h e =
      let keys : k ≡ l = cc in
      let inside : meant ps ≡ meant qs = cc in
      let carried : by_name ms ≡ by_name ns = cc in
      let parts = meant_exact ps qs g.0 h.0 inside in
      let members = one_map ms ns g.1 h.1 carried in
      λ i. header_part (keys i) (parts i) (members i)

mutual
  written_exact : (p q : Parts) → Good p → Good q → written p ≡ written q → p ≡ q
  written_exact no_part no_part g h e = refl
  written_exact no_part (first_part q qs) g h e = cc
  written_exact (first_part p ps) no_part g h e = cc
  written_exact (first_part p ps) (first_part q qs) g h e =
      let first : written_part p ≡ written_part q = cc in
      let rest : written ps ≡ written qs = cc in
      ap₂ first_part (written_part_exact p q g.0 h.0 first) (written_exact ps qs g.1 h.1 rest)

  written_part_exact : (p q : Part) → GoodPart p → GoodPart q → written_part p ≡ written_part q → p ≡ q
  written_part_exact (contest_part k ks ms) (contest_part l ls ns) g h e =
      let keys : shown_key_or_null k ≡ shown_key_or_null l = cc in
      let names : array_of (map shown_name ks) ≡ array_of (map shown_name ls) = cc in
      let members : ms ≡ ns = cc in
      let keys_same = keys_exact k l keys in
      let names_same = all_names ks ls g.0 h.0 (array_exact _ _ names) in
      λ i. contest_part (keys_same i) (names_same i) (members i)
  written_part_exact (contest_part k ks ms) (header_part l qs ns) g h e = let names : codes "contest" ≡ codes "content" = cc in absurd (other names)
    where
      other : codes "contest" ≡ codes "content" → ⊥
      other f = cc
  written_part_exact (header_part k ps ms) (contest_part l ls ns) g h e = let names : codes "content" ≡ codes "contest" = cc in absurd (other names)
    where
      other : codes "content" ≡ codes "contest" → ⊥
      other f = cc
  written_part_exact (header_part k ps ms) (header_part l qs ns) g h e =
      let keys : shown_key_or_null k ≡ shown_key_or_null l = cc in
      let inside : written ps ≡ written qs = cc in
      let members : ms ≡ ns = cc in
      let keys_same = keys_exact k l keys in
      let parts = written_exact ps qs g.0 h.0 inside in
      λ i. header_part (keys_same i) (parts i) (members i)

-- ---- the parts of a report

name_in : Preference → Data → Data → Option NameParts
name_in π t r = option_and_then (name_named π t) (as_str r)

abbrev contest_of : Preference → Data → Data → Part
contest_of π t d =
    contest_part (key_named π t family.Contest (text_at (codes "ContestId") d))
    (map (λ r. option_and_then (name_named π t) (as_str r)) (entries_at (codes "OrderedContestSelectionIds") d))
    (carried_in (class_of_node d) (members_in d))

abbrev mutual
  pub parts_of : Preference → Data → Data → Parts
  parts_of π t (array ds) = parts_in π t ds
  parts_of π t d = no_part

  parts_in : Preference → Data → Items → Parts
  parts_in π t no_items = no_part
  parts_in π t (item d ds) = first_part (part_of π t d) (parts_in π t ds)

  part_of : Preference → Data → Data → Part
  part_of π t (object ms) =
      cond (is_header_class (class_of_node (object ms)))
      (header_part (key_named π t family.Header (text_at (codes "HeaderId") (object ms))) (parts_inside π t ms) (carried_in (class_of_node (object ms)) ms))
      (contest_of π t (object ms))
  part_of π t d = contest_of π t d

  parts_inside : Preference → Data → Members → Parts
  parts_inside π t no_members = no_part
  parts_inside π t (member k d ms) = cond (bytes_eq (codes "OrderedContent") k) (parts_of π t d) (parts_inside π t ms)

module _ (π : Preference) (t : Data) where
  contest_means : (d : Data) → contest_node π t d ≡ meant_part (contest_of π t d)
  contest_means d =
      ap (a_contest (key_named π t family.Contest (text_at (codes "ContestId") d))
      (map (λ r. option_and_then (name_named π t) (as_str r)) (entries_at (codes "OrderedContestSelectionIds") d))) (carried-by_name (class_of_node d) d)

  header_means : (ms : Members) (c : Content) (ps : Parts) → c ≡ meant ps → header_node π t (object ms) c
      ≡ meant_part (header_part (key_named π t family.Header (text_at (codes "HeaderId") (object ms))) ps (carried_in (class_of_node (object ms)) ms))
  header_means ms c ps e = ap₂ (a_header (key_named π t family.Header (text_at (codes "HeaderId") (object ms)))) e
      (carried-by_name (class_of_node (object ms)) (object ms))

  either : {A B : Type 0} (f : A → B) (b : Bool) {x y : B} {v w : A} → x ≡ f v → y ≡ f w → cond b x y ≡ f (cond b v w)
  either f true e g = e
  either f false e g = g

  mutual
    content_means : (d : Data) → content_of π t d ≡ meant (parts_of π t d)
    content_means (array ds) = nodes_mean ds
    content_means null = refl
    content_means (boolean b) = refl
    content_means (number n) = refl
    content_means (string s) = refl
    content_means (object ms) = refl

    nodes_mean : (ds : Items) → nodes_of π t ds ≡ meant (parts_in π t ds)
    nodes_mean no_items = refl
    nodes_mean (item d ds) = ap₂ first_node (node_means d) (nodes_mean ds)

    node_means : (d : Data) → node_of π t d ≡ meant_part (part_of π t d)
    node_means (object ms) = either meant_part (is_header_class (class_of_node (object ms)))
        (header_means ms (content_inside π t ms) (parts_inside π t ms) (inside_means ms)) (contest_means (object ms))
    node_means null = contest_means null
    node_means (boolean b) = contest_means (boolean b)
    node_means (number n) = contest_means (number n)
    node_means (string s) = contest_means (string s)
    node_means (array ds) = contest_means (array ds)

    inside_means : (ms : Members) → content_inside π t ms ≡ meant (parts_inside π t ms)
    inside_means no_members = refl
    inside_means (member k d ms) = either meant (bytes_eq (codes "OrderedContent") k) (content_means d) (inside_means ms)

  names_written : (ds : List Data) → map (shown_name_named π t) ds ≡ map shown_name (map (λ r. option_and_then (name_named π t) (as_str r)) ds)
  names_written [] = refl
  names_written (d ∷ ds) = ap (λ es. shown_name_named π t d ∷ es) (names_written ds)

  contest_written : (d : Data) → contest_data π t d ≡ written_part (contest_of π t d)
  contest_written d =
      ap (λ ds. object
      (member (codes "carried") (carried_data d)
      (member (codes "contest") (shown_key_or_null (key_named π t family.Contest (text_at (codes "ContestId") d)))
      (member (codes "selections") (array_of ds) no_members))))
      (names_written (entries_at (codes "OrderedContestSelectionIds") d))

  header_written : (ms : Members) (x : Data) (ps : Parts) → x ≡ array (written ps) → header_data π t (object ms) x
      ≡ written_part (header_part (key_named π t family.Header (text_at (codes "HeaderId") (object ms))) ps (carried_in (class_of_node (object ms)) ms))
  header_written ms x ps e = ap (header_data π t (object ms)) e

  mutual
    pub content_written : (d : Data) → content_data π t d ≡ array (written (parts_of π t d))
    content_written (array ds) = ap array (nodes_written ds)
    content_written null = refl
    content_written (boolean b) = refl
    content_written (number n) = refl
    content_written (string s) = refl
    content_written (object ms) = refl

    nodes_written : (ds : Items) → nodes_data π t ds ≡ written (parts_in π t ds)
    nodes_written no_items = refl
    nodes_written (item d ds) = ap₂ item (node_written d) (nodes_written ds)

    node_written : (d : Data) → node_data π t d ≡ written_part (part_of π t d)
    node_written (object ms) = either written_part (is_header_class (class_of_node (object ms)))
        (header_written ms (inside_data π t ms) (parts_inside π t ms) (inside_written ms)) (contest_written (object ms))
    node_written null = contest_written null
    node_written (boolean b) = contest_written (boolean b)
    node_written (number n) = contest_written (number n)
    node_written (string s) = contest_written (string s)
    node_written (array ds) = contest_written (array ds)

    inside_written : (ms : Members) → inside_data π t ms ≡ array (written (parts_inside π t ms))
    inside_written no_members = refl
    inside_written (member k d ms) = either (λ ps. array (written ps)) (bytes_eq (codes "OrderedContent") k) (content_written d) (inside_written ms)

  -- ---- what is known of them

  module _ (fit : HasFittingNames π t) where
    fits_at : (o : Option (List ℕ)) → Fits (option_and_then (name_named π t) o)
    fits_at None = tt
    fits_at (Some id) = at (name_named π t id) refl
      where
        at : (n : Option NameParts) → name_named π t id ≡ n → Fits n
        at None e = tt
        at (Some n) e = fit id n e

    all_fit : (ds : List Data) → AllByRecursion Fits (map (λ r. option_and_then (name_named π t) (as_str r)) ds)
    all_fit [] = tt
    all_fit (d ∷ ds) = (fits_at (as_str d), all_fit ds)

    contest_good : (d : Data) → IsTree d → GoodPart (contest_of π t d)
    contest_good d tree = (all_fit (entries_at (codes "OrderedContestSelectionIds") d), carried-rise (class_of_node d) (members_in d) (members_in-rise d tree))

    which : (b : Bool) (v w : Part) → GoodPart v → GoodPart w → GoodPart (cond b v w)
    which true v w g h = g
    which false v w g h = h

    which_parts : (b : Bool) (v w : Parts) → Good v → Good w → Good (cond b v w)
    which_parts true v w g h = g
    which_parts false v w g h = h

    mutual
      pub content_good : (d : Data) → IsTree d → Good (parts_of π t d)
      content_good (array ds) tree = nodes_good ds tree
      content_good null tree = tt
      content_good (boolean b) tree = tt
      content_good (number n) tree = tt
      content_good (string s) tree = tt
      content_good (object ms) tree = tt

      nodes_good : (ds : Items) → AreTrees ds → Good (parts_in π t ds)
      nodes_good no_items trees = tt
      nodes_good (item d ds) trees = (node_good d trees.0, nodes_good ds trees.1)

      node_good : (d : Data) → IsTree d → GoodPart (part_of π t d)
      node_good (object ms) tree =
          which (is_header_class (class_of_node (object ms)))
          (header_part (key_named π t family.Header (text_at (codes "HeaderId") (object ms))) (parts_inside π t ms)
          (carried_in (class_of_node (object ms)) ms)) (contest_of π t (object ms)) (inside_good ms tree, carried-rise (class_of_node (object ms)) ms tree)
          (contest_good (object ms) tree)
      node_good null tree = contest_good null tree
      node_good (boolean b) tree = contest_good (boolean b) tree
      node_good (number n) tree = contest_good (number n) tree
      node_good (string s) tree = contest_good (string s) tree
      node_good (array ds) tree = contest_good (array ds) tree

      inside_good : (ms : Members) → AreMembers ms → Good (parts_inside π t ms)
      inside_good no_members rise = tt
      inside_good (member k d ms) rise = which_parts (bytes_eq (codes "OrderedContent") k) (parts_of π t d) (parts_inside π t ms) (content_good d rise.1)
          (inside_good ms rise.2)

-- ---- the law

pub contents_tell : ContentsTell
contents_tell π ρ t u d e fit fit' tree tree' =
    let p = parts_of π t d in
    let q = parts_of ρ u e in
    let good = content_good π t fit d tree in
    let good' = content_good ρ u fit' e tree' in (
      λ same.
          let arrays : array (written p) ≡ array (written q) = sym (content_written π t d) ∙ same ∙ content_written ρ u e in
          let items : written p ≡ written q = cc in
          content_means π t d ∙ ap meant (written_exact p q good good' items) ∙ sym (content_means ρ u e),
      λ same.
          content_written π t d ∙ ap (λ ps. array (written ps)) (meant_exact p q good good' (sym (content_means π t d) ∙ same ∙ content_means ρ u e))
          ∙ sym (content_written ρ u e),
    )
