-- Whether a value is a tree, by a test; of a tree the walk's list is that of all faults of the shape.
use Rattle.erd_check.proofs.Common.{◌≡◌, ℕ, ◌<◌, Bool, true, false, ◌&&◌, List, length, pos, IfSome, Some, None, Option, is_lt, Ordering, Less, arith}
use Rattle.erd_check.proofs.Common.{and_parts, nat_list_cmp_total, AllByRecursion, IsStrictlySortedBy, Num, negative, Data, number, array, object, Items}
use Rattle.erd_check.proofs.Common.{no_items, item, Members, no_members, member, ListsAll, text_cmp, Report, Fault, Reason, Step, ShapeFault, NoneOf, fault_at}
use Rattle.erd_check.proofs.Common.{IsBeforeFirst, IsNumber, IsTree, AreTrees, AreMembers, names, told_of_report, IsInOrder, AreItemsInOrder, AreMembersInOrder}
use Rattle.erd_check.proofs.Common.{scope_inside, want_of_name, entry_want, reasons, Scope, Want, Object}
use Rattle.erd_check.proofs.Walks.{shape_walk_lists}

-- ---- lists of all faults

pub none_from_empty : (IsFault : List Step → Reason → Type 0) (faults : List Fault) → ListsAll IsFault faults → length faults ≡ 0 → NoneOf IsFault
none_from_empty IsFault faults all empty p r h =
    let there = (all.each (fault_at p r)).1 h in
    let inside : there.0 < length faults = there.1 in
    omega arith

pub no_fault_from_empty : (t : Data) (faults : List Fault) → ListsAll (ShapeFault t) faults → length faults ≡ 0 → NoneOf (ShapeFault t)
no_fault_from_empty t faults all empty = none_from_empty (ShapeFault t) faults all empty

-- ---- the test

abbrev pub is_before_first : List ℕ → Members → Bool
is_before_first k no_members = true
is_before_first k (member l d ms) = is_lt (text_cmp k l)

abbrev pub is_number : Num → Bool
is_number (negative (pos n)) = false
is_number n = true

abbrev mutual
  pub is_tree : Data → Bool
  is_tree (number n) = is_number n
  is_tree (array ds) = are_trees ds
  is_tree (object ms) = are_members ms
  is_tree d = true

  pub are_trees : Items → Bool
  are_trees no_items = true
  are_trees (item d ds) = is_tree d && are_trees ds

  pub are_members : Members → Bool
  are_members no_members = true
  are_members (member k d ms) = is_before_first k ms && (is_tree d && are_members ms)

pub less : (o : Ordering) → is_lt o ≡ true → o ≡ Less
less o h = grind arith

before_first_sound : (k : List ℕ) (ms : Members) → is_before_first k ms ≡ true → IsBeforeFirst k ms
before_first_sound k no_members h = tt
before_first_sound k (member l d ms) h = less (text_cmp k l) h

number_sound : (n : Num) → is_number n ≡ true → IsNumber n
number_sound (negative (pos n)) h = cc
number_sound n h = tt

mutual
  pub tree_sound : (d : Data) → is_tree d ≡ true → IsTree d
  tree_sound (number n) h = number_sound n h
  tree_sound (array ds) h = trees_sound ds h
  tree_sound (object ms) h = members_sound ms h
  tree_sound e h = tt

  trees_sound : (ds : Items) → are_trees ds ≡ true → AreTrees ds
  trees_sound no_items h = tt
  trees_sound (item d ds) h =
      let both = and_parts (is_tree d) (are_trees ds) h in
      (tree_sound d both.0, trees_sound ds both.1)

  members_sound : (ms : Members) → are_members ms ≡ true → AreMembers ms
  members_sound no_members h = tt
  members_sound (member k d ms) h =
      let first = and_parts (is_before_first k ms) (is_tree d && are_members ms) h in
      let both = and_parts (is_tree d) (are_members ms) first.1 in
      (before_first_sound k ms first.0, tree_sound d both.0, members_sound ms both.1)

-- ---- trees are in order

pub before_later : (k l : List ℕ) (ms : Members) → text_cmp k l ≡ Less → IsBeforeFirst l ms → IsBeforeFirst k ms
before_later k l no_members e h = tt
before_later k l (member m d ms) e h = nat_list_cmp_total.trans k l m e h

pub before_all : (k : List ℕ) (ms : Members) → IsBeforeFirst k ms → AreMembers ms → AllByRecursion (λ n. text_cmp k n ≡ Less) (names ms)
before_all k no_members h trees = tt
before_all k (member l d ms) h trees = (h, before_all k ms (before_later k l ms h trees.0) trees.2)

pub names_rise : (ms : Members) → AreMembers ms → IsStrictlySortedBy text_cmp (names ms)
unfolding IsStrictlySortedBy
names_rise no_members trees = tt
names_rise (member k d ms) trees = (before_all k ms trees.0 trees.2, names_rise ms trees.2)

pub if_some : {A : Type 0} (P : A → Type 0) (o : Option A) → ((a : A) → P a) → IfSome o P
if_some P None h = tt
if_some P (Some a) h = h a

mutual
  pub tree_in_order : (w : Want) (d : Data) → IsTree d → IsInOrder w d
  tree_in_order w (array ds) tree = if_some (λ v. AreItemsInOrder v ds) (entry_want w) (λ v. items_in_order v ds tree)
  tree_in_order w (object ms) tree = (names_rise ms tree, members_in_order (scope_inside w (object ms)) ms tree)
  tree_in_order w e tree = tt

  items_in_order : (w : Want) (ds : Items) → AreTrees ds → AreItemsInOrder w ds
  items_in_order w no_items trees = tt
  items_in_order w (item d ds) trees = (tree_in_order w d trees.0, items_in_order w ds trees.1)

  members_in_order : (s : Scope) (ms : Members) → AreMembers ms → AreMembersInOrder s ms
  members_in_order s no_members trees = tt
  members_in_order s (member k d ms) trees =
      (if_some (λ v. IsInOrder v d) (want_of_name s k) (λ v. tree_in_order v d trees.1), members_in_order s ms trees.2)

-- ---- the faults of a tree

-- the faults of the shape of a report, as the walk finds them
abbrev pub faults_found : Data → List Fault
faults_found t = told_of_report (λ outer. reasons) t

pub faults_listed : (t : Data) → IsTree t → ListsAll (ShapeFault t) (faults_found t)
faults_listed t tree = shape_walk_lists t (tree_in_order (Object Report) t tree)

pub no_fault_listed : (t : Data) → is_tree t ≡ true → length (faults_found t) ≡ 0 → NoneOf (ShapeFault t)
no_fault_listed t tree empty = no_fault_from_empty t (faults_found t) (faults_listed t (tree_sound t tree)) empty
