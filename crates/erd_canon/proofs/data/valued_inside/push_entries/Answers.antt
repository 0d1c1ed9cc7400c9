use Rattle.erd_canon.proofs.Common.{◌+◌, ◌∷◌, ◌++◌, drop, sym, ap, ◌∙◌, arith}
use Rattle.std.proofs.lemmas.List.{drop_more, drop_all}
use Rattle.erd_canon.proofs.data_values.ValuedInside.{one_entry, rest_text}
use Rattle.erd_canon.proofs.data.valued_inside.push_entries.Goals as goal

pub loop-selection-preserved : goal.loop-selection-preserved
loop-selection-preserved c =
    let found = c.args.selections.now in
    let i = c.loop-selection.selection-index in
    let was = c.loop-selection in
    one_entry c.args.contests.now was.later was.room c.push_entry.new.room c.selection-item.result (drop (i + 1) found) was.text.items
    c.push_entry.new.text.items c.in_ok-push_entry.ensures.leaves c.in_ok-push_entry.ensures.wrote
    ∙ ap (λ ds. was.text.items ++ rest_text c.args.contests.now was.later was.room ds)
    (sym (drop_more found i c.selection-item.result c.loop-selection-test.true ∙ ap (λ w. w ∷ drop (i + 1) found) (sym c.selection-item.is)))
    ∙ was.invariant

pub returns : goal.returns
returns c =
    let found = c.args.selections.now in
    let was = c.loop-selection in
    c.in_ok-push.ensures.items
    ∙ ap (λ ds. was.text.items ++ rest_text c.args.contests.now was.later was.room ds)
    (sym (drop_all was.selection-index found (omega (arith, c.loop-selection-test.false))))
    ∙ was.invariant
