use Rattle.erd_normal.proofs.Common.{ap, ◌∙◌, view, text_of, rank_named}
use Rattle.erd_text.proofs.OneByOne.{one_value}
use Rattle.erd_normal.proofs.values.reference_set.ranks_named.Goals as goal

pub loop-value-preserved : goal.loop-value-preserved
loop-value-preserved c =
    let rank = rank_named c.args.writer.now.prefer (view c.args.writer.now.tree) c.args.family in
    c.in_ok-push.ensures.items
    ∙ one_value (λ v. rank (text_of (view v))) c.loop-value.ranks.items c.args.values.now c.loop-value.value-index c.value-item.result _
    c.loop-value-test.true
    c.value-item.is
    (c.rank_named.ensures ∙ ap rank c.text_of.ensures)
    c.loop-value.invariant
