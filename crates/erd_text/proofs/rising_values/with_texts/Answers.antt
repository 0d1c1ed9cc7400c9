use Rattle.erd_text.proofs.Common.{map, ap, ◌∙◌, view}
use Rattle.erd_text.proofs.OneByOne.{one_more}
use Rattle.erd_text.proofs.WholeValues.{whole_item}
use Rattle.erd_text.specs.code.Writing.{beside, beside_compact_text}
use Rattle.erd_text.proofs.rising_values.with_texts.Goals as goal

pub loop-value-preserved : goal.loop-value-preserved
loop-value-preserved c whole =
    ap (map (λ p. beside p.0 (view p.1.now))) c.in_ok-push.ensures.items
    ∙ one_more (λ p. beside p.0 (view p.1.now)) (λ v. beside_compact_text (view v)) c.loop-value.pairs.items c.args.values.now
    c.loop-value.value-index c.value-item.result _
    c.loop-value-test.true
    c.value-item.is
    (ap (λ text. beside text (view c.value-item.result))
    (c.in_ok-of.ensures (whole_item c.args.values.now c.loop-value.value-index c.value-item.result whole c.loop-value-test.true c.value-item.is)))
    (c.loop-value.invariant whole)
