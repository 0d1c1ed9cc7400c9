-- Whole trees: their members and entries are whole trees, and equality as JSON decides equality on them.
use Rattle.erd_compare.proofs.Common.{◌≡◌, ℕ, zero, suc, ◌+◌, ◌<◌, true, false, ◌&&◌, List, [], ◌∷◌, ◌++◌, map, length, get_or, pos, IfSome, Some, None, codes}
use Rattle.erd_compare.proofs.Common.{Option, option_map, flat_map, sym, refl, subst, arith, Bor, and_from, or_parts, Decides-int_eq, AllByRecursion}
use Rattle.erd_compare.proofs.Common.{option_map_or, Data, null, boolean, string, array, object, Items, no_items, item, Members, no_members, member, get, view}
use Rattle.erd_compare.proofs.Common.{has_float, items_have_float, members_have_float, Value, Family, family, IsTree, is_same_json, list_of_items, entries_of}
use Rattle.erd_compare.proofs.Common.{entries_at, Placed, placed_from, placed_entries, report_of, elections, contests, objects, Num, unsigned, negative, float}
use Rattle.erd_compare.proofs.Common.{number, is_float, AreTrees, same_number, are_same_items, are_same_members, text_itself, flag_itself, is_same_exact}
use Rattle.erd_compare.proofs.Common.{get_member-tree, Decides, IsWholeTree, IsPairOf, MemberPair, In, In-all, In-flat_map_from}
use Rattle.erd_tables.specs.declared.place.Step.{Step}
use Rattle.erd_tables.specs.declared.place.Step.TheVariants.{Name}
use Rattle.erd_text.proofs.WholeValues.{whole_get}

-- values that are whole trees
abbrev pub AreWholeTrees : List Data → Type 0
AreWholeTrees ds = AllByRecursion IsWholeTree ds

-- ---- members

-- a member of a tree is one
get-tree : (name : List ℕ) (d v : Data) → IsTree d → get name d ≡ Some v → IsTree v
get-tree name (object ms) v h e = get_member-tree name v ms h e
get-tree name k v h e = cc

-- a member of a whole tree is one
pub whole_tree-get : (name : List ℕ) (d v : Data) → IsWholeTree d → get name d ≡ Some v → IsWholeTree v
whole_tree-get name d v h e = record { is_tree = get-tree name d v h.is_tree e; whole = whole_get name d v h.whole e }

-- and so is a value that was found in one
pub whole_found : (name : List ℕ) (d : Data) (o : Option (Bor Value)) → IsWholeTree d → option_map (λ v. view v.now) o ≡ get name d
    → IfSome o (λ v. IsWholeTree (view v.now))
whole_found name d None h e = tt
whole_found name d (Some v) h e = whole_tree-get name d (view v.now) h (sym e)

-- what two objects have under a name
pub whole_one : (d e : Data) (pair : MemberPair) → IsWholeTree d → IsPairOf d e pair → IfSome pair.one (λ v. IsWholeTree (view v.now))
whole_one d e pair whole is = whole_found pair.name.now d pair.one whole is.one

pub whole_other : (d e : Data) (pair : MemberPair) → IsWholeTree e → IsPairOf d e pair → IfSome pair.other (λ v. IsWholeTree (view v.now))
whole_other d e pair whole is = whole_found pair.name.now e pair.other whole is.other

-- ---- entries

-- the items of an array
whole_trees-items : (ds : Items) → AreTrees ds → items_have_float ds ≡ false → AreWholeTrees (list_of_items ds)
whole_trees-items no_items trees h = tt
whole_trees-items (item d ds) trees h =
    let both = or_parts (has_float d) (items_have_float ds) h in
    (record { is_tree = trees.0; whole = both.0 }, whole_trees-items ds trees.1 both.1)

-- the entries of a whole tree are whole trees
pub whole_trees-entries_of : (d : Data) → IsWholeTree d → AreWholeTrees (entries_of d)
whole_trees-entries_of (array ds) h = whole_trees-items ds h.is_tree h.whole
whole_trees-entries_of e h = tt

-- the entries of the array of a member
pub whole_trees-entries_at : (name : List ℕ) (d : Data) → IsWholeTree d → AreWholeTrees (entries_at name d)
whole_trees-entries_at name d h = at (get name d) refl
  where
    at : (o : Option Data) → get name d ≡ o → AreWholeTrees (option_map_or entries_of o [])
    at None e = tt
    at (Some v) e = whole_trees-entries_of v (whole_tree-get name d v h e)

-- values whose trees are known to be whole
pub whole_trees-values : (vs : List Value) → AreWholeTrees (map view vs) → AllByRecursion (λ v. IsWholeTree (view v)) vs
whole_trees-values [] h = tt
whole_trees-values (v ∷ vs) h = (h.0, whole_trees-values vs h.1)

-- the trees of such values
pub whole_trees-views : (vs : List Value) → AllByRecursion (λ v. IsWholeTree (view v)) vs → AreWholeTrees (map view vs)
whole_trees-views [] h = tt
whole_trees-views (v ∷ vs) h = (h.0, whole_trees-views vs h.1)

-- values that are the entries of a whole tree
pub whole_values-entries_of : (d : Data) (vs : List Value) → IsWholeTree d → map view vs ≡ entries_of d → AllByRecursion (λ v. IsWholeTree (view v)) vs
whole_values-entries_of d vs h is = whole_trees-values vs (subst AreWholeTrees (sym is) (whole_trees-entries_of d h))

-- values that are the entries of the array of a member
pub whole_values-entries_at : (name : List ℕ) (d : Data) (vs : List Value) → IsWholeTree d → map view vs ≡ entries_at name d
    → AllByRecursion (λ v. IsWholeTree (view v)) vs
whole_values-entries_at name d vs h is = whole_trees-values vs (subst AreWholeTrees (sym is) (whole_trees-entries_at name d h))

-- the value at an index
pub whole_value-index : (vs : List Value) (i : ℕ) (v : Value) → AllByRecursion (λ w. IsWholeTree (view w)) vs → i < length vs
    → v ≡ get_or vs i v → IsWholeTree (view v)
whole_value-index [] i v h low e = absurd (omega arith)
whole_value-index (w ∷ vs) zero v h low e = subst (λ u. IsWholeTree (view u)) (sym e) h.0
whole_value-index (w ∷ vs) (suc i) v h low e = whole_value-index vs i v h.1 (omega arith) e

-- ---- equality

-- a whole number is equal to itself
number_itself : (n : Num) → is_float n ≡ false → same_number n n ≡ true
number_itself (unsigned n) h = (Decides-int_eq (pos n) (pos n)).1 refl
number_itself (negative z) h = (Decides-int_eq z z).1 refl
number_itself (float x) h = cc

mutual
  -- a value that holds no fraction is equal to itself
  itself : (d : Data) → has_float d ≡ false → is_same_json d d ≡ true
  itself null h = refl
  itself (boolean b) h = flag_itself b
  itself (number n) h = number_itself n h
  itself (string s) h = text_itself s
  itself (array ds) h = items_themselves ds h
  itself (object ms) h = members_themselves ms h

  -- items that hold no fraction are equal to themselves
  items_themselves : (ds : Items) → items_have_float ds ≡ false → are_same_items ds ds ≡ true
  items_themselves no_items h = refl
  items_themselves (item d ds) h =
      let parts = or_parts (has_float d) (items_have_float ds) h in
      and_from (is_same_json d d) (are_same_items ds ds) (itself d parts.0) (items_themselves ds parts.1)

  -- members that hold no fraction are equal to themselves
  pub members_themselves : (ms : Members) → members_have_float ms ≡ false → are_same_members ms ms ≡ true
  members_themselves no_members h = refl
  members_themselves (member k d ms) h =
      let parts = or_parts (has_float d) (members_have_float ms) h in
      and_from _ (is_same_json d d && are_same_members ms ms) (text_itself k)
      (and_from (is_same_json d d) (are_same_members ms ms) (itself d parts.0) (members_themselves ms parts.1))

-- a whole tree is equal to itself as JSON
pub whole_tree-itself : (d : Data) → IsWholeTree d → is_same_json d d ≡ true
whole_tree-itself d h = itself d h.whole

-- whole trees that are equal as JSON are one
pub whole_tree-exact : (d e : Data) → IsWholeTree d → IsWholeTree e → is_same_json d e ≡ true → d ≡ e
whole_tree-exact d e g h same = is_same_exact d e g.is_tree h.is_tree same

-- equality as JSON decides equality of whole trees
pub is_same_json-Decides : (d e : Data) → IsWholeTree d → IsWholeTree e → Decides (is_same_json d e) d e
is_same_json-Decides d e g h = (whole_tree-exact d e g h, λ is. subst (λ x. is_same_json d x ≡ true) is (whole_tree-itself d g))

-- ---- the elections and the objects of a report that is a whole tree are whole trees

-- objects that are whole trees
abbrev AreWholeObjects : List Placed → Type 0
AreWholeObjects os = AllByRecursion (λ o. IsWholeTree o.value) os

whole_placed : (p : List Step) (i : ℕ) (ds : List Data) → AreWholeTrees ds → AreWholeObjects (placed_from p i ds)
whole_placed p i [] h = tt
whole_placed p i (d ∷ ds) h = (h.0, whole_placed p (i + 1) ds h.1)

whole_entries : (name : List ℕ) (parent o : Placed) → IsWholeTree parent.value → In o (placed_entries name parent) → IsWholeTree o.value
whole_entries name parent o h among =
    In-all (λ x. IsWholeTree x.value) o (placed_entries name parent)
    (whole_placed (parent.place ++ Name name ∷ []) 0 (entries_at name parent.value) (whole_trees-entries_at name parent.value h)) among

-- the entries of a member of each of these objects
whole_inside : (name : List ℕ) (parents : List Placed) (o : Placed) → ((p : Placed) → In p parents → IsWholeTree p.value)
    → In o (flat_map (placed_entries name) parents) → IsWholeTree o.value
whole_inside name parents o h among = let p = In-flat_map_from (placed_entries name) parents o among in whole_entries name p.0 o (h p.0 p.1) p.2

-- each election
pub whole_election : (t : Data) (p : Placed) → IsWholeTree t → In p (elections t) → IsWholeTree p.value
whole_election t p h among = whole_entries (codes "Election") (report_of t) p h among

whole_contest : (t : Data) (p : Placed) → IsWholeTree t → In p (contests t) → IsWholeTree p.value
whole_contest t p h among = whole_inside (codes "Contest") (elections t) p (λ q. whole_election t q h) among

-- each object of a family
pub whole_object : (t : Data) (f : Family) → IsWholeTree t → (o : Placed) → In o (objects f t) → IsWholeTree o.value
whole_object t family.Candidate h o among = whole_inside (codes "Candidate") (elections t) o (λ p. whole_election t p h) among
whole_object t family.Contest h o among = whole_contest t o h among
whole_object t family.Style h o among = whole_inside (codes "BallotStyle") (elections t) o (λ p. whole_election t p h) among
whole_object t family.Selection h o among = whole_inside (codes "ContestSelection") (contests t) o (λ p. whole_contest t p h) among
whole_object t family.Unit h o among = whole_entries (codes "GpUnit") (report_of t) o h among
whole_object t family.Party h o among = whole_entries (codes "Party") (report_of t) o h among
whole_object t family.Person h o among = whole_entries (codes "Person") (report_of t) o h among
whole_object t family.Office h o among = whole_entries (codes "Office") (report_of t) o h among
whole_object t family.Header h o among = whole_entries (codes "Header") (report_of t) o h among
