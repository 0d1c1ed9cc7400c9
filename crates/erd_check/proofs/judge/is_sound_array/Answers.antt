use Rattle.erd_check.proofs.Common.{◌==◌, map, sym, ap, ◌∙◌, view}
use Rattle.erd_check.proofs.Lists.{count_of_view}
use Rattle.erd_check.proofs.TextEntries.{texts_are_in_order, texts_are_known, texts_silent}
use Rattle.erd_check.proofs.judge.is_sound_array.Goals as goal

pub returns-then-has_references-clause-silent : goal.returns-then-has_references-clause-silent
returns-then-has_references-clause-silent c passed =
    texts_silent c.args.want (sym c.has_references.ensures ∙ c.if-has_references.true) (map view c.args.items.now) (sym c.are_texts.ensures ∙ passed)
    (ap (λ n. n == 0) (count_of_view c.args.items.now) ∙ sym c.is_empty.ensures ∙ c.if-is_empty.false)

pub returns-then-has_references-clause-known : goal.returns-then-has_references-clause-known
returns-then-has_references-clause-known c passed = texts_are_known c.args.want (sym c.has_references.ensures ∙ c.if-has_references.true)
    (map view c.args.items.now) (sym c.are_texts.ensures ∙ passed)

pub returns-then-has_references-clause-in_order : goal.returns-then-has_references-clause-in_order
returns-then-has_references-clause-in_order c passed = texts_are_in_order c.args.want (sym c.has_references.ensures ∙ c.if-has_references.true)
    (map view c.args.items.now) (sym c.are_texts.ensures ∙ passed)
