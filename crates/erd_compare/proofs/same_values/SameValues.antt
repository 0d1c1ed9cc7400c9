-- Answers that decide whether two values are equal.
use Rattle.erd_compare.proofs.Common.{◌≡◌, ℕ, Bool, true, false, ◌==◌, Some, None, Option, option_map, sym, refl, ap, ◌∙◌, ap₂, true≢false, Decides-eqb}
use Rattle.erd_compare.proofs.Common.{option_eq, Decides, ◌&&◌, List, map, subst, fun_ext, and_parts, and_from, both_ways, AllByRecursion, list_all, Data, view}
use Rattle.erd_compare.proofs.Common.{Value, is_same_json, json_set, IsWholeTree, In, In-all, In-any, all_hold, any_at, each_holds, cond, Ordering, Equal}
use Rattle.erd_compare.proofs.Common.{or_parts, or_from, nat_list_cmp_total, exact_bytes, match_ordering, null, object, Members, no_members, member, get_member}
use Rattle.erd_compare.proofs.Common.{get, has_float, members_have_float, text_cmp, IsBeforeFirst, AreMembers, are_same_members, are_same_members_exact}
use Rattle.erd_compare.proofs.Common.{members_unique, JsonMap, kind_of_member, Class, MemberKind, kind, if_carried, carried_members, Carried, is_carried_kind}
use Rattle.erd_compare.proofs.Common.{takes_name, chosen_members, members_in, chosen_in, [], ◌∷◌, is_some, IfOk, codes, Result, bytes_eq, unwrap_or}
use Rattle.erd_compare.proofs.Common.{IfOk-weaker, array, no_items, family_of_class, is_reference_name, kind_of_identity, class, has_keys, Preference}
use Rattle.erd_compare.proofs.Common.{plain_value, kind_in_rows, kind_of_unlisted, unless_empty, Judged, NamesKeys, meant_value, plain_found}
use Rattle.erd_compare.proofs.Common.{slice_get, option_and_then, family_number, Family, role, key_of, key_of_family_object, FindsId, Placed, objects, owner}
use Rattle.erd_compare.proofs.Common.{name_of, number_of_name, number_of_selection, rank_of_key, on_side, ComparedReport}
use Rattle.std.specs.Prelude.{is_none}
use Rattle.erd_check.specs.ValueSets.{StandsFor, values_in}
use Rattle.erd_check.specs.declared.value_set.ValueSet.{ValueSet}
use Rattle.erd_compare.proofs.whole_trees.WholeTrees.{AreWholeTrees, whole_tree-exact, whole_tree-itself, whole_trees-views, members_themselves}
use Rattle.erd_compare.specs.declared.values.chosen_members.Choice.{Choice}
use Rattle.erd_tables.specs.Rows.{Row, rows_of_class}
use Rattle.erd_meaning.specs.Records.{is_in_envelope}
use Rattle.erd_meaning.proofs.finding.OneObject.{owner_elsewhere, owner_here, owner_nowhere}

-- an answer about equal values
pub decides_as : {A : Type 0} {p q : Bool} {a a' b b' : A} → q ≡ p → a ≡ a' → b ≡ b' → Decides p a b → Decides q a' b'
decides_as answer one other h = (λ e. sym one ∙ (h.0 (sym answer ∙ e) ∙ other), λ e. answer ∙ h.1 (one ∙ (e ∙ sym other)))

-- pairs are the same exactly if both parts are
pub pairs_decide : {A B : Type 0} {p q : Bool} {x y : A} {u v : B} → Decides p x y → p ≡ true → Decides q u v → Decides {A = A × B} q (x, u) (y, v)
pairs_decide {A = A} {B = B} first held second = (λ e. ap₂ (λ (a : A) (b : B). (a, b)) (first.0 held) (second.0 e), λ e. second.1 (ap (λ (w : A × B). w.1) e))

pub pairs_differ : {A B : Type 0} {p : Bool} {x y : A} {u v : B} → Decides p x y → p ≡ false → Decides {A = A × B} p (x, u) (y, v)
pairs_differ {A = A} {B = B} first failed = (λ e. absurd (true≢false (sym e ∙ failed)), λ e. first.1 (ap (λ (w : A × B). w.0) e))

-- numbers decide whether what may be there is the same, if equal numbers are those of equal things
pub options_decide : {A : Type 0} (number : A → ℕ) (o q : Option A) → ((x y : A) → o ≡ Some x → q ≡ Some y → number x ≡ number y → x ≡ y)
    → Decides (option_eq ◌==◌ (option_map number o) (option_map number q)) o q
options_decide number None None one = (λ h. refl, λ e. refl)
options_decide number (Some x) (Some y) one = (
  λ h. ap Some (one x y refl refl ((Decides-eqb (number x) (number y)).0 h)),
  λ e. let same : x ≡ y = cc in (Decides-eqb (number x) (number y)).1 (ap number same),
)
options_decide number o q one = (λ h. cc, λ e. cc)

-- ---- two lists are the same set of values exactly if each value of either is in the other

-- ---- tests

-- the answer of two tests, of which the second is made only if the first holds
pub second_answer : (a b r s : Bool) → r ≡ a → s ≡ b → r ≡ true → a && b ≡ s
second_answer a b r s first second holds = ap (λ x. x && b) (sym first ∙ holds) ∙ sym second

-- the same, where the first does not hold
pub first_answer : (a b r : Bool) → r ≡ a → r ≡ false → a && b ≡ r
first_answer a b r first fails = ap (λ x. x && b) (sym first ∙ fails) ∙ sym fails

-- ---- sets

-- each entry that the other list has as JSON is an entry of it
entry_in : (ds es : List Data) (d : Data) → AreWholeTrees ds → AreWholeTrees es → list_all (json_set es) ds ≡ true → In d ds → In d es
entry_in ds es d left right all h =
    let r = In-any (is_same_json d) es (each_holds (json_set es) ds d all h) in
    let same : d ≡ r.0 = whole_tree-exact d r.0 (In-all IsWholeTree d ds left h) (In-all IsWholeTree r.0 es right r.1) r.2 in
    subst (λ z. In z es) (sym same) r.1

-- the set of a list whose entries are all in another is within the set of the other
within : (ds es : List Data) (d : Data) → ((e : Data) → In e ds → In e es) → json_set ds d ≡ true → json_set es d ≡ true
within ds es d each h = let r = In-any (is_same_json d) ds h in any_at (is_same_json d) r.0 es (each r.0 r.1) r.2

-- the entries of a list are in each set that is the same as its own
all_in : (ds es : List Data) → AreWholeTrees ds → json_set ds ≡ json_set es → list_all (json_set es) ds ≡ true
all_in ds es left same =
    all_hold (json_set es) ds (λ d h. sym (ap (λ (set : Data → Bool). set d) same)
    ∙ any_at (is_same_json d) d ds h (whole_tree-itself d (In-all IsWholeTree d ds left h)))

-- whether each value of either list is in the other decides whether the two are the same set
pub json_set-Decides : (ds es : List Data) → AreWholeTrees ds → AreWholeTrees es → Decides (list_all (json_set es) ds && list_all (json_set ds) es)
    (json_set ds) (json_set es)
json_set-Decides ds es left right =
    (forward, λ same. and_from (list_all (json_set es) ds) (list_all (json_set ds) es) (all_in ds es left same) (all_in es ds right (sym same)))
  where
    forward : list_all (json_set es) ds && list_all (json_set ds) es ≡ true → json_set ds ≡ json_set es
    forward h =
        let both = and_parts (list_all (json_set es) ds) (list_all (json_set ds) es) h in
        fun_ext (λ d. both_ways (json_set ds d) (json_set es d) (within ds es d (λ e. entry_in ds es e left right both.0))
        (within es ds d (λ e. entry_in es ds e right left both.1)))

-- the same of values, by an answer
pub values_decide : (vs ws : List Value) (answer : Bool) → AllByRecursion (λ v. IsWholeTree (view v)) vs → AllByRecursion (λ v. IsWholeTree (view v)) ws
    → list_all (json_set (map view ws)) (map view vs) && list_all (json_set (map view vs)) (map view ws) ≡ answer → Decides answer (json_set (map view vs))
    (json_set (map view ws))
values_decide vs ws answer left right is =
    subst (λ b. Decides b (json_set (map view vs)) (json_set (map view ws))) is
    (json_set-Decides (map view vs) (map view ws) (whole_trees-views vs left) (whole_trees-views ws right))

-- a set that stands for values has what they have
pub stands_for : (ds : List Data) (s : ValueSet) → StandsFor ds s → json_set (values_in s) ≡ json_set ds
stands_for ds s h = fun_ext h

-- ---- the chosen members of whole trees are the same, member by member, exactly if they are the same under each name

-- ---- by name

-- a member that is put before others is found among them as it is, if it is chosen
found_first : (o : Ordering) (name k : List ℕ) (c : Choice) (d : Data) (chosen all : Option Data) → text_cmp name k ≡ o → takes_name c k ≡ true
    → chosen ≡ cond (takes_name c name) all None → match_ordering o chosen (Some d) chosen ≡ cond (takes_name c name) (match_ordering o all (Some d) all) None
found_first Equal name k c d chosen all is taken rest = sym (ap (λ b. cond b (Some d) None) (ap (takes_name c) (exact_bytes name k is) ∙ taken))
found_first e name k c d chosen all is taken rest = rest

-- and where it is not chosen, it is not found
found_later : (o : Ordering) (name k : List ℕ) (c : Choice) (d : Data) (chosen all : Option Data) → text_cmp name k ≡ o → takes_name c k ≡ false
    → chosen ≡ cond (takes_name c name) all None → chosen ≡ cond (takes_name c name) (match_ordering o all (Some d) all) None
found_later Equal name k c d chosen all is left rest =
    let not_taken : takes_name c name ≡ false = ap (takes_name c) (exact_bytes name k is) ∙ left in
    rest ∙ ap (λ b. cond b all None) not_taken ∙ sym (ap (λ b. cond b (Some d) None) not_taken)
found_later e name k c d chosen all is left rest = rest

-- nothing, whatever a test says
nothing_either_way : (b : Bool) (o : Option Data) → o ≡ None → o ≡ cond b o None
nothing_either_way true o e = refl
nothing_either_way false o e = e

-- the chosen members hold under a name what the object holds there, if the name is chosen
get_member-chosen : (name : List ℕ) (c : Choice) (ms : Members) → get_member name (chosen_members c ms) ≡ cond (takes_name c name) (get_member name ms) None
get_member-chosen name c no_members = nothing_either_way (takes_name c name) None refl
get_member-chosen name c (member k d ms) = at (takes_name c k) refl (get_member-chosen name c ms)
  where
    at : (b : Bool) → takes_name c k ≡ b → get_member name (chosen_members c ms) ≡ cond (takes_name c name) (get_member name ms) None
        → get_member name (cond b (member k d (chosen_members c ms)) (chosen_members c ms)) ≡ cond (takes_name c name) (get_member name (member k d ms)) None
    at true is rest = found_first (text_cmp name k) name k c d (get_member name (chosen_members c ms)) (get_member name ms) refl is rest
    at false is rest = found_later (text_cmp name k) name k c d (get_member name (chosen_members c ms)) (get_member name ms) refl is rest

-- a value has the members of its object
get-members_in : (name : List ℕ) (d : Data) → get name d ≡ get_member name (members_in d)
get-members_in name null = refl
get-members_in name e = refl

-- the same of any value
pub get_member-chosen_in : (name : List ℕ) (c : Choice) (d : Data) → get_member name (chosen_in c d) ≡ cond (takes_name c name) (get name d) None
get_member-chosen_in name c d = get_member-chosen name c (members_in d) ∙ ap (λ o. cond (takes_name c name) o None) (sym (get-members_in name d))

-- ---- carried members

carried_kind : (k : MemberKind) (o : Option Data) → cond (is_carried_kind k) o None ≡ if_carried k o
carried_kind kind.Carried o = refl
carried_kind k o = refl

-- the choice of carried members takes what an object carries
pub carried_by_choice : (class : Option Class) (d : Data) (name : List ℕ) → cond (takes_name (Carried class) name) (get name d) None
    ≡ carried_members class d name
carried_by_choice None d name = refl
carried_by_choice (Some c) d name = carried_kind (kind_of_member c name) (get name d)

-- ---- whole trees

-- a name before all of the members' names is before the first of the chosen ones
before_chosen : (k : List ℕ) (c : Choice) (ms : Members) → AreMembers ms → IsBeforeFirst k ms → IsBeforeFirst k (chosen_members c ms)
before_chosen k c no_members rise below = tt
before_chosen k c (member l e ms) rise below = at (takes_name c l) (before_chosen k c ms rise.2 (later ms rise.0))
  where
    later : (ns : Members) → IsBeforeFirst l ns → IsBeforeFirst k ns
    later no_members first = tt
    later (member m f ns) first = nat_list_cmp_total.trans k l m below first

    at : (b : Bool) → IsBeforeFirst k (chosen_members c ms) → IsBeforeFirst k (cond b (member l e (chosen_members c ms)) (chosen_members c ms))
    at true rest = below
    at false rest = rest

-- chosen members are trees under rising names, where all members are
chosen-rise : (c : Choice) (ms : Members) → AreMembers ms → AreMembers (chosen_members c ms)
chosen-rise c no_members rise = tt
chosen-rise c (member k d ms) rise = at (takes_name c k) (chosen-rise c ms rise.2)
  where
    at : (b : Bool) → AreMembers (chosen_members c ms) → AreMembers (cond b (member k d (chosen_members c ms)) (chosen_members c ms))
    at true rest = (before_chosen k c ms rise.2 rise.0, rise.1, rest)
    at false rest = rest

-- chosen members hold no fraction, where no member does
chosen-whole : (c : Choice) (ms : Members) → members_have_float ms ≡ false → members_have_float (chosen_members c ms) ≡ false
chosen-whole c no_members h = refl
chosen-whole c (member k d ms) h = at (takes_name c k) (or_parts (has_float d) (members_have_float ms) h).0
    (chosen-whole c ms (or_parts (has_float d) (members_have_float ms) h).1)
  where
    at : (b : Bool) → has_float d ≡ false → members_have_float (chosen_members c ms) ≡ false
        → members_have_float (cond b (member k d (chosen_members c ms)) (chosen_members c ms)) ≡ false
    at true first rest = or_from (has_float d) (members_have_float (chosen_members c ms)) first rest
    at false first rest = rest

-- the members of a whole tree are trees under rising names
members_in-rise : (d : Data) → IsWholeTree d → AreMembers (members_in d)
members_in-rise (object ms) h = h.is_tree
members_in-rise e h = tt

-- the members of a whole tree hold no fraction
members_in-whole : (d : Data) → IsWholeTree d → members_have_float (members_in d) ≡ false
members_in-whole (object ms) h = h.whole
members_in-whole e h = refl

-- ---- the same

-- what members hold under each name
abbrev by_name : Members → JsonMap
by_name ms name = get_member name ms

-- members under rising names are the same, one by one, exactly if they are the same under each name
members-Decide : (ms ns : Members) → AreMembers ms → AreMembers ns → members_have_float ms ≡ false → Decides (are_same_members ms ns) (by_name ms) (by_name ns)
members-Decide ms ns left right whole = (λ h. ap by_name (are_same_members_exact ms ns left right h), backward)
  where
    backward : by_name ms ≡ by_name ns → are_same_members ms ns ≡ true
    backward same = subst (λ xs. are_same_members ms xs ≡ true) (members_unique ms ns left right (λ name. ap (λ (f : JsonMap). f name) same))
        (members_themselves ms whole)

-- maps that are the chosen members of two whole trees, by name
pub chosen-Decides : (c f : Choice) (d e : Data) (m n : JsonMap) → IsWholeTree d → IsWholeTree e
    → ((name : List ℕ) → cond (takes_name c name) (get name d) None ≡ m name) → ((name : List ℕ) → cond (takes_name f name) (get name e) None ≡ n name)
    → Decides (are_same_members (chosen_in c d) (chosen_in f e)) m n
chosen-Decides c f d e m n left right at_left at_right =
    let one : by_name (chosen_in c d) ≡ m = fun_ext (λ name. get_member-chosen_in name c d ∙ at_left name) in
    let other : by_name (chosen_in f e) ≡ n = fun_ext (λ name. get_member-chosen_in name f e ∙ at_right name) in
    let decided = members-Decide (chosen_in c d) (chosen_in f e) (chosen-rise c (members_in d) (members_in-rise d left))
    (chosen-rise f (members_in e) (members_in-rise e right))
    (chosen-whole c (members_in d) (members_in-whole d left)) in
    subst (λ (x : JsonMap). Decides (are_same_members (chosen_in c d) (chosen_in f e)) x n) one
    (subst (λ (x : JsonMap). Decides (are_same_members (chosen_in c d) (chosen_in f e)) (by_name (chosen_in c d)) x) other decided)

-- ---- a value that means something by itself means what its kind says

-- ---- a reference of the table names objects that have keys: none names a selection

-- whether references of a kind, if there are any, name objects with keys
abbrev names_keys : MemberKind → Bool
names_keys (kind.One f) = has_keys f
names_keys (kind.Many f) = has_keys f
names_keys k = true

keyed_from : (k : MemberKind) → names_keys k ≡ true → NamesKeys k
keyed_from (kind.One f) e = e
keyed_from (kind.Many f) e = e
keyed_from k e = tt

either : (b : Bool) (k l : MemberKind) → names_keys k ≡ true → names_keys l ≡ true → names_keys (cond b k l) ≡ true
either true k l e f = e
either false k l e f = f

unlisted_keyed : (c : Class) (name : List ℕ) → names_keys (kind_of_unlisted c name) ≡ true
unlisted_keyed c name =
    either (bytes_eq name (codes "@type")) kind.ClassText _ refl
    (either (bytes_eq name (codes "@id")) (kind_of_identity c) _ (either (is_some (family_of_class c)) kind.Identity kind.StrangeIdentity refl refl)
    (either (is_reference_name name) kind.StrangeReference kind.Carried refl refl))

listed_keyed : (name : List ℕ) (rows : List Row) (other : MemberKind) → list_all (λ row. names_keys row.kind) rows ≡ true → names_keys other ≡ true
    → names_keys (unwrap_or (kind_in_rows rows name) other) ≡ true
listed_keyed name [] other all e = e
listed_keyed name (row ∷ rows) other all e =
    at (bytes_eq name row.name) refl (listed_keyed name rows other (and_parts (names_keys row.kind) (list_all (λ row. names_keys row.kind) rows) all).1 e)
  where
    at : (b : Bool) → bytes_eq name row.name ≡ b → names_keys (unwrap_or (kind_in_rows rows name) other) ≡ true
        → names_keys (unwrap_or (kind_in_rows (row ∷ rows) name) other) ≡ true
    at true is rest = rw is (and_parts (names_keys row.kind) (list_all (λ row. names_keys row.kind) rows) all).0
    at false is rest = rw is rest

-- so it is in the rows of each class
rows_keyed : (c : Class) → list_all (λ row. names_keys row.kind) (rows_of_class c) ≡ true
rows_keyed class.ElectionReport = refl
rows_keyed c = refl

-- what the table asks of a member names objects with keys, if it asks for references
pub member_keyed : (c : Class) (name : List ℕ) → NamesKeys (kind_of_member c name)
member_keyed c name = keyed_from (kind_of_member c name) (listed_keyed name (rows_of_class c) (kind_of_unlisted c name) (rows_keyed c) (unlisted_keyed c name))

-- ---- a value that means something by itself means what its kind says

-- what is given of a value, if anything is
filled : {V : Type 0} (v : V) (d : Data) → is_none (unless_empty v d) ≡ false → unless_empty v d ≡ Some v
filled v (array no_items) e = cc
filled v d e = refl

plain_meant : (π : Preference) (t : Data) (k : MemberKind) (d : Data) → is_none (plain_value π t k d) ≡ false → plain_value π t k d ≡ Some (meant_value π t k d)
plain_meant π t (kind.Many f) d e = filled _ d e
plain_meant π t kind.Identifiers d e = filled _ d e
plain_meant π t kind.Languages d e = filled _ d e
plain_meant π t kind.Content d e = filled _ d e
plain_meant π t k d e = cc

-- values there
some-Decides : {A : Type 0} (answer : Bool) (a b : A) → Decides answer a b → Decides answer (Some a) (Some b)
some-Decides answer a b h = (λ is. ap Some (h.0 is), λ same. let one : a ≡ b = cc in h.1 one)

-- two members outside the envelope whose values mean something mean the same exactly if they do as values of their kind
pub meant-Decide : {E : Type 0} (a b : Judged) (c : Class) (name : List ℕ) (k : MemberKind) (found other : Option Data) (d e : Data) (r : Result Bool E)
    → is_in_envelope c name ≡ false → k ≡ kind_of_member c name
    → found ≡ Some d → other ≡ Some e → is_none (plain_value a.prefer (view a.tree) k d) ≡ false
    → is_none (plain_value b.prefer (view b.tree) k e) ≡ false
    → IfOk r (λ answer. Decides answer (meant_value a.prefer (view a.tree) k d) (meant_value b.prefer (view b.tree) k e))
    → IfOk r (λ answer. Decides answer (plain_found a.prefer (view a.tree) c name found) (plain_found b.prefer (view b.tree) c name other))
meant-Decide a b c name k found other d e r out its_kind is_d is_e one two h =
    IfOk-weaker r (λ answer. Decides answer (meant_value a.prefer (view a.tree) k d) (meant_value b.prefer (view b.tree) k e))
    (λ answer. Decides answer (plain_found a.prefer (view a.tree) c name found) (plain_found b.prefer (view b.tree) c name other))
    (λ answer is. decides_as refl (sym (means a found d is_d one)) (sym (means b other e is_e two))
    (some-Decides answer (meant_value a.prefer (view a.tree) k d) (meant_value b.prefer (view b.tree) k e) is)) h
  where
    means : (a : Judged) (found : Option Data) (d : Data) → found ≡ Some d → is_none (plain_value a.prefer (view a.tree) k d) ≡ false
        → plain_found a.prefer (view a.tree) c name found ≡ Some (meant_value a.prefer (view a.tree) k d)
    means a found d is some = ap (plain_found a.prefer (view a.tree) c name) is ∙ rw out (rw (← its_kind) (plain_meant a.prefer (view a.tree) k d some))

-- ---- what is found by an `@id` is the object that a reference names

-- what is told of the object of a family that a reference names
module _ {R : Type 0} (told : Option Data → R) {x j : Judged} (same : x ≡ j) (f : Family) (id : List ℕ) where
  finds_there : {found : Option (Family × ℕ)} → FindsId (view x.tree) id found → FindsId (view j.tree) id found
  finds_there {found} finds = subst (λ (y : Judged). FindsId (view y.tree) id found) same finds

  pub found_here : {g : Family} {i : ℕ} → FindsId (view x.tree) id (Some (g, i)) → (family_number g == family_number f) ≡ true
      → told (option_map (λ o. o.value) (slice_get (objects f (view j.tree)) i)) ≡ told (owner (view j.tree) f id)
  found_here {g} {i} finds one = ap (λ o. told (option_map (λ (o : Placed). o.value) o)) (sym (owner_here (view j.tree) f id g i (finds_there finds) one))

  pub found_elsewhere : {g : Family} {i : ℕ} → FindsId (view x.tree) id (Some (g, i)) → (family_number g == family_number f) ≡ false
      → told None ≡ told (owner (view j.tree) f id)
  found_elsewhere {g} {i} finds other = ap (λ o. told (option_map (λ (o : Placed). o.value) o))
      (sym (owner_elsewhere (view j.tree) f id g i (finds_there finds) other))

  pub found_nowhere : FindsId (view x.tree) id None → told None ≡ told (owner (view j.tree) f id)
  found_nowhere finds = ap (λ o. told (option_map (λ (o : Placed). o.value) o)) (sym (owner_nowhere (view j.tree) f id (finds_there finds)))

module _ (a b : Judged) (side : ComparedReport) where
  -- the common rank of its key
  abbrev pub rank_owned : Family → Option Data → Option ℕ
  rank_owned f o = option_map (rank_of_key a b (role.OfFamily f)) (option_and_then (key_of (on_side side a b).prefer) o)

  pub rank_kept : (f : Family) → has_keys f ≡ true → (o : Option Placed)
      → option_map (rank_of_key a b (role.OfFamily f)) (option_and_then (λ o. key_of_family_object (on_side side a b).prefer f o.value) o)
      ≡ rank_owned f (option_map (λ o. o.value) o)
  rank_kept f keyed None = refl
  rank_kept f keyed (Some o) = ap (λ c. option_map (rank_of_key a b (role.OfFamily f)) (cond c (key_of (on_side side a b).prefer o.value) None)) keyed

  -- the number of its name
  abbrev pub number_owned : Option Data → Option ℕ
  number_owned o = option_map (number_of_name a b) (option_and_then (name_of (on_side side a b).prefer (view (on_side side a b).tree)) o)

  pub number_kept : (o : Option Placed) → option_and_then (λ o. number_of_selection a b side o.value) o ≡ number_owned (option_map (λ o. o.value) o)
  number_kept None = refl
  number_kept (Some o) = refl
