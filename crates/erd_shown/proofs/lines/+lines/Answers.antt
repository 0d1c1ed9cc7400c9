use Rattle.erd_text.proofs.Common.{◌≡◌, ◌+◌, ◌<◌, ◌≤◌, ◌++◌, List, suc, map, Some, None, codes, sym, ap, ◌∙◌, subst, arith, append-nil, view, items_view, Data}
use Rattle.erd_text.proofs.Common.{ℕ}
use Rattle.std.proofs.Common.{◌*◌}
use Rattle.std.proofs.lemmas.Result.{on_ok_weaker}
use Rattle.serde_json.specs.Data.{depth, items_depth}
use Rattle.erd_shown.specs.Lines.{content_lines}
use Rattle.erd_shown.specs.code.LineLists.{of_line}
use Rattle.erd_shown.proofs.LineNodes.{lines_inside}
use Rattle.erd_shown.proofs.Written.{entry_depth, get_depth}
use Rattle.erd_shown.proofs.lines.+lines.Goals as goal

pub push_inside-push_content-requires : goal.push_inside-push_content-requires
push_inside-push_content-requires t c =
    let d : 3 * depth (view c.args.value.now) ≡ t = c.decreases in
    let deep : suc (depth (view c.in-Some.content.now)) ≤ depth (view c.args.value.now) =
    get_depth (codes "OrderedContent") (view c.args.value.now) (view c.in-Some.content.now) (sym c.in-Some.ensures) in
    let small : 3 * depth (view c.in-Some.content.now) < t = omega arith in (small, tt)

pub push_inside-returns-in_ok-inside-in-Some : goal.push_inside-returns-in_ok-inside-in-Some
push_inside-returns-in_ok-inside-in-Some t c =
    let was = map of_line c.args.lines.now.items in
    on_ok_weaker c.push_content.result
    (λ pushed.
    pushed
    ∙ ap (λ (ls : List (ℕ × Data)). was ++ ls)
    (ap (λ n. content_lines n (view c.in-Some.content.now)) c.in_ok-inside-in-Some.ensures
    ∙ lines_inside (c.args.depth + 1) (view c.args.value.now) (Some (view c.in-Some.content.now)) c.in-Some.ensures))
    c.push_content.ensures

pub push_inside-returns-in-None : goal.push_inside-returns-in-None
push_inside-returns-in-None t c =
    let was = map of_line c.args.lines.now.items in
    sym (append-nil was) ∙ ap (λ (ls : List (ℕ × Data)). was ++ ls) (lines_inside (c.args.depth + 1) (view c.args.value.now) None c.in-None.ensures)

pub push_nodes-push_node-requires : goal.push_nodes-push_node-requires
push_nodes-push_node-requires t c =
    let d : 3 * items_depth (items_view c.args.items.now.items) + 2 ≡ t = c.decreases in
    let vs = c.deref-item-items.result.now in
    let deep : depth (view c.item-item.result) ≤ items_depth (items_view c.args.items.now.items) =
    subst (λ xs. depth (view c.item-item.result) ≤ items_depth (items_view xs)) c.deref-item-items.ensures.value
    (entry_depth vs c.loop-item.item-index c.item-item.result c.loop-item-test.true c.item-item.is) in
    let small : 3 * depth (view c.item-item.result) + 1 < t = omega arith in (small, tt)
