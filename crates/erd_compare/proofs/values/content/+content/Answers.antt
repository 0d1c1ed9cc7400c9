use Rattle.erd_compare.proofs.Common.{[], ◌≡◌, ℕ, suc, ◌+◌, ◌<◌, ◌≤◌, true, false, List, ◌∷◌, map, length, get_or, codes, sym, refl, ap, ◌∙◌, subst, arith}
use Rattle.erd_compare.proofs.Common.{rules, AllByRecursion, view, items_view, Value, entries_of, depth, ◌*◌, iter_rest, items_depth, the_lemmas, node_of}
use Rattle.erd_compare.proofs.Common.{IsWholeTree}
use Rattle.serde_json.proofs.Views.{view-Array}
use Rattle.erd_check.proofs.Lists.{list_of_items-items_of}
use Rattle.erd_compare.proofs.same_values.SameValues.{decides_as}
use Rattle.erd_compare.proofs.same_content.SameContents.{decides_swap, entry_depth, get_depth, nodes_decide, within_decides, plain_means, content-Decides}
use Rattle.erd_compare.proofs.same_content.SameContents.{content_of-none, contest-header, header-contest, header-Decides, header-differs, differ_here}
use Rattle.erd_compare.proofs.same_content.SameContents.{one_further}
use Rattle.erd_compare.proofs.whole_trees.WholeTrees.{whole_tree-get, whole_value-index, whole_values-entries_of}
use Rattle.erd_compare.proofs.values.content.+content.Goals as goal

-- the entry at an index, where the list is lent
item_at : (vs ws : List Value) (i : ℕ) (v : Value) → ws ≡ vs → i < length ws → v ≡ get_or ws i v → (i < length vs) × (v ≡ get_or vs i v)
item_at vs ws i v lent low here = (subst (λ (xs : List Value). i < length xs) lent low, here ∙ ap (λ (xs : List Value). get_or xs i v) lent)

-- the first of the values that are left
first_whole : (v : Value) (left left' : List Value) → left ≡ v ∷ left' → AllByRecursion (λ v. IsWholeTree (view v)) left → IsWholeTree (view v)
    × AllByRecursion (λ v. IsWholeTree (view v)) left'
first_whole v left left' next h = subst (AllByRecursion (λ (v : Value). IsWholeTree (view v))) next h

pub is_same_content-are_same_nodes-requires : goal.is_same_content-are_same_nodes-requires
is_same_content-are_same_nodes-requires t c =
    let d : 4 * depth (view c.args.one.now) ≡ t = c.decreases in
    let seen = ap view c.in-Array.is ∙ view-Array c.in-Array.ones in
    let deep : depth (view c.args.one.now) ≡ suc (items_depth (items_view c.in-Array.ones.items)) = ap depth seen in
    let small : 4 * items_depth (items_view c.in-Array.ones.items) + 3 < t = omega arith in (
      small,
      (
        whole_values-entries_of (view c.args.one.now) c.in-Array.ones.items c.requires.one
            (sym (list_of_items-items_of (map view c.in-Array.ones.items)) ∙ sym (ap entries_of seen)),
        whole_values-entries_of (view c.args.other.now) c.entries_of.result.now c.requires.other c.entries_of.ensures,
      ),
    )

pub is_same_content-returns-in-Array : goal.is_same_content-returns-in-Array
is_same_content-returns-in-Array t c =
    let seen = ap view c.in-Array.is ∙ view-Array c.in-Array.ones in
    content-Decides c.args.comparer.now.left.prefer c.args.comparer.now.right.prefer (view c.args.comparer.now.left.tree) (view c.args.comparer.now.right.tree)
    (view c.args.one.now) (view c.args.other.now) c.in-Array.ones.items c.entries_of.result.now c.are_same_nodes.result
    (sym (list_of_items-items_of (map view c.in-Array.ones.items)) ∙ sym (ap entries_of seen))
    c.entries_of.ensures
    c.are_same_nodes.ensures

pub is_same_content-returns-in_default : goal.is_same_content-returns-in_default
is_same_content-returns-in_default t c =
    let none : [] ≡ entries_of (view c.args.one.now) = search (rules, the_lemmas) in
    decides_as refl (sym (content_of-none c.args.comparer.now.left.prefer (view c.args.comparer.now.left.tree) (view c.args.one.now) none)) refl
    (c.has_no_content.ensures c.args.comparer.now.right.prefer (view c.args.comparer.now.right.tree))

pub are_same_nodes-is_same_node-requires : goal.are_same_nodes-is_same_node-requires
are_same_nodes-is_same_node-requires t c =
    let d : 4 * items_depth (items_view c.args.ones.now.items) + 3 ≡ t = c.decreases in
    let item = item_at c.args.ones.now.items c.deref-one-items.result.now c.loop-one.one-index c.one-item.result c.deref-one-items.ensures.value
    c.loop-one-test.true c.one-item.is in
    let deep : depth (view c.one-item.result) ≤ items_depth (items_view c.args.ones.now.items) =
    entry_depth c.args.ones.now.items c.loop-one.one-index c.one-item.result item.0 item.1 in
    let small : 4 * depth (view c.one-item.result) + 2 < t = omega arith in (
      small,
      (
        whole_value-index c.args.ones.now.items c.loop-one.one-index c.one-item.result c.requires.ones item.0 item.1,
        (first_whole c.in-Some.other.now (iter_rest c.loop-one.rest) (iter_rest c.next.new.self) c.in-Some.ensures.steps c.loop-one.invariant.whole).0,
      ),
    )

pub are_same_nodes-loop-one-preserved : goal.are_same_nodes-loop-one-preserved
are_same_nodes-loop-one-preserved t c =
    let f = λ (v : Value). node_of c.args.comparer.now.left.prefer (view c.args.comparer.now.left.tree) (view v) in
    let g = λ (v : Value). node_of c.args.comparer.now.right.prefer (view c.args.comparer.now.right.tree) (view v) in
    let item = item_at c.args.ones.now.items c.deref-one-items.result.now c.loop-one.one-index c.one-item.result c.deref-one-items.ensures.value
    c.loop-one-test.true c.one-item.is in
    record {
      same = one_further f g c.args.ones.now.items c.loop-one.one-index c.one-item.result c.in-Some.other.now (iter_rest c.loop-one.rest)
          (iter_rest c.next.new.self)
          (map f c.args.ones.now.items) (map g c.args.others.now) item.0 item.1 c.in-Some.ensures.steps
          (c.is_same_node.ensures.0 c.if-not-is_same_node.false)
          c.loop-one.invariant.same;
      whole = (first_whole c.in-Some.other.now (iter_rest c.loop-one.rest) (iter_rest c.next.new.self) c.in-Some.ensures.steps c.loop-one.invariant.whole).1;
    }

pub are_same_nodes-returns-then-not-is_same_node : goal.are_same_nodes-returns-then-not-is_same_node
are_same_nodes-returns-then-not-is_same_node t c =
    let f = λ (v : Value). node_of c.args.comparer.now.left.prefer (view c.args.comparer.now.left.tree) (view v) in
    let g = λ (v : Value). node_of c.args.comparer.now.right.prefer (view c.args.comparer.now.right.tree) (view v) in
    let item = item_at c.args.ones.now.items c.deref-one-items.result.now c.loop-one.one-index c.one-item.result c.deref-one-items.ensures.value
    c.loop-one-test.true c.one-item.is in
    differ_here f g c.args.ones.now.items c.loop-one.one-index c.one-item.result c.in-Some.other.now (iter_rest c.loop-one.rest) (iter_rest c.next.new.self)
    (map f c.args.ones.now.items) (map g c.args.others.now) item.0 item.1 c.in-Some.ensures.steps
    (λ e. sym c.if-not-is_same_node.true ∙ c.is_same_node.ensures.1 e)
    c.loop-one.invariant.same

pub is_same_node-returns-in-Some-Some : goal.is_same_node-returns-in-Some-Some
is_same_node-returns-in-Some-Some t c =
    decides_as refl
    (sym (plain_means c.args.comparer.now.left.prefer (view c.args.comparer.now.left.tree) (view c.args.one.now) c.in-Some-Some.one c.in-Some-Some.ensures))
    (sym (plain_means c.args.comparer.now.right.prefer (view c.args.comparer.now.right.tree) (view c.args.other.now) c.in-Some-Some.other
    c.in-Some-Some.ensures'))
    c.is_same_plain_contest.ensures

pub is_same_node-returns-in-true-true : goal.is_same_node-returns-in-true-true
is_same_node-returns-in-true-true t c = nodes_decide c.args.comparer.now.left c.args.comparer.now.right (view c.args.one.now) (view c.args.other.now) true true
    c.in-true-true.ensures c.in-true-true.ensures' c.is_same_header.ensures

pub is_same_node-returns-in-false-false : goal.is_same_node-returns-in-false-false
is_same_node-returns-in-false-false t c = nodes_decide c.args.comparer.now.left c.args.comparer.now.right (view c.args.one.now) (view c.args.other.now) false
    false c.in-false-false.ensures c.in-false-false.ensures' c.is_same_contest.ensures

pub is_same_node-returns-in-true-false : goal.is_same_node-returns-in-true-false
is_same_node-returns-in-true-false t c = nodes_decide c.args.comparer.now.left c.args.comparer.now.right (view c.args.one.now) (view c.args.other.now) true
    false c.in-true-false.ensures c.in-true-false.ensures' header-contest

pub is_same_node-returns-in-false-true : goal.is_same_node-returns-in-false-true
is_same_node-returns-in-false-true t c = nodes_decide c.args.comparer.now.left c.args.comparer.now.right (view c.args.one.now) (view c.args.other.now) false
    true c.in-false-true.ensures c.in-false-true.ensures' contest-header

pub is_same_within-is_same_content-requires : goal.is_same_within-is_same_content-requires
is_same_within-is_same_content-requires t c =
    let d : 4 * depth (view c.args.one.now) ≡ t = c.decreases in
    let deep : suc (depth (view c.in-Some-Some.one.now)) ≤ depth (view c.args.one.now) =
    get_depth (codes "OrderedContent") (view c.args.one.now) (view c.in-Some-Some.one.now) (sym c.in-Some-Some.ensures) in
    let small : 4 * depth (view c.in-Some-Some.one.now) < t = omega arith in (
      small,
      (
        whole_tree-get (codes "OrderedContent") (view c.args.one.now) (view c.in-Some-Some.one.now) c.requires.one (sym c.in-Some-Some.ensures),
        whole_tree-get (codes "OrderedContent") (view c.args.other.now) (view c.in-Some-Some.other.now) c.requires.other (sym c.in-Some-Some.ensures'),
      ),
    )

pub is_same_within-returns-in-Some-Some : goal.is_same_within-returns-in-Some-Some
is_same_within-returns-in-Some-Some t c =
    within_decides c.args.comparer.now.left c.args.comparer.now.right (view c.args.one.now) (view c.args.other.now) c.is_same_content.result
    (sym c.in-Some-Some.ensures) (sym c.in-Some-Some.ensures') c.is_same_content.ensures

pub is_same_within-returns-in-Some-None : goal.is_same_within-returns-in-Some-None
is_same_within-returns-in-Some-None t c =
    within_decides c.args.comparer.now.left c.args.comparer.now.right (view c.args.one.now) (view c.args.other.now) c.has_no_content.result
    (sym c.in-Some-None.ensures) (sym c.in-Some-None.ensures')
    (decides_swap (c.has_no_content.ensures c.args.comparer.now.left.prefer (view c.args.comparer.now.left.tree)))

pub is_same_within-returns-in-None-Some : goal.is_same_within-returns-in-None-Some
is_same_within-returns-in-None-Some t c =
    within_decides c.args.comparer.now.left c.args.comparer.now.right (view c.args.one.now) (view c.args.other.now) c.has_no_content-in-None-Some.result
    (sym c.in-None-Some.ensures) (sym c.in-None-Some.ensures')
    (c.has_no_content-in-None-Some.ensures c.args.comparer.now.right.prefer (view c.args.comparer.now.right.tree))

pub is_same_within-returns-in-None-None : goal.is_same_within-returns-in-None-None
is_same_within-returns-in-None-None t c =
    within_decides c.args.comparer.now.left c.args.comparer.now.right (view c.args.one.now) (view c.args.other.now) true (sym c.in-None-None.ensures)
    (sym c.in-None-None.ensures') (λ h. refl, λ h. refl)

pub is_same_header-returns-then-is_same_outside : goal.is_same_header-returns-then-is_same_outside
is_same_header-returns-then-is_same_outside t c = header-Decides c.is_same_outside.ensures c.if-is_same_outside.true c.is_same_within.ensures

pub is_same_header-returns-else-is_same_outside : goal.is_same_header-returns-else-is_same_outside
is_same_header-returns-else-is_same_outside t c = header-differs c.is_same_outside.ensures c.if-is_same_outside.false
