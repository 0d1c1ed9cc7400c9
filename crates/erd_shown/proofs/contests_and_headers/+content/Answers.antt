use Rattle.erd_text.proofs.Common.{◌≡◌, ◌+◌, ◌<◌, ◌≤◌, ◌++◌, suc, Some, None, codes, sym, ap, ◌∙◌, subst, arith, view, items_view, value_tokens}
use Rattle.std.proofs.Common.{◌*◌}
use Rattle.serde_json.specs.Data.{depth, items_depth}
use Rattle.erd_text.proofs.WholeValues.{whole_get}
use Rattle.std.proofs.lemmas.Result.{on_ok_weaker}
use Rattle.erd_shown.proofs.Written.{entry_depth, get_depth, inside_at}
use Rattle.erd_shown.proofs.contests_and_headers.+content.Goals as goal

pub write_inside-write_content-requires : goal.write_inside-write_content-requires
write_inside-write_content-requires t c =
    let d : 4 * depth (view c.args.value.now) ≡ t = c.decreases in
    let deep : suc (depth (view c.in-Some.content.now)) ≤ depth (view c.args.value.now) =
    get_depth (codes "OrderedContent") (view c.args.value.now) (view c.in-Some.content.now) (sym c.in-Some.ensures) in
    let small : 4 * depth (view c.in-Some.content.now) < t = omega arith in (small, tt)

pub write_inside-returns-in-Some : goal.write_inside-returns-in-Some
write_inside-returns-in-Some t c =
    on_ok_weaker c.write_content.result
    (λ written whole.
    written (whole_get (codes "OrderedContent") (view c.args.value.now) (view c.in-Some.content.now) whole (sym c.in-Some.ensures))
    ∙ ap (λ d. c.args.out.now ++ value_tokens d) (inside_at c.args.report.now.prefer (view c.args.report.now.tree) (view c.args.value.now)
    (Some (view c.in-Some.content.now)) c.in-Some.ensures))
    c.write_content.ensures

pub write_inside-returns-in-None : goal.write_inside-returns-in-None
write_inside-returns-in-None t c =
    on_ok_weaker c.write_nothing.result
    (λ written whole.
    written ∙ ap (λ d. c.args.out.now ++ value_tokens d) (inside_at c.args.report.now.prefer (view c.args.report.now.tree) (view c.args.value.now)
    None c.in-None.ensures))
    c.write_nothing.ensures

pub write_nodes-write_node-requires : goal.write_nodes-write_node-requires
write_nodes-write_node-requires t c =
    let d : 4 * items_depth (items_view c.args.items.now.items) + 3 ≡ t = c.decreases in
    let vs = c.deref-item-items.result.now in
    let deep : depth (view c.item-item.result) ≤ items_depth (items_view c.args.items.now.items) =
    subst (λ xs. depth (view c.item-item.result) ≤ items_depth (items_view xs)) c.deref-item-items.ensures.value
    (entry_depth vs c.loop-item.item-index c.item-item.result c.loop-item-test.true c.item-item.is) in
    let small : 4 * depth (view c.item-item.result) + 2 < t = omega arith in (small, tt)
