use Rattle.erd_text.proofs.Common.{◌+◌, ◌∷◌, drop, drop_more, unwrap_or, sym, ap, ◌∙◌}
use Rattle.std.specs.Ordering.{eq_by_cmp}
use Rattle.std.proofs.lemmas.Cmp.{eq_by_cmp_equiv}
use Rattle.erd_shown.proofs.PartnerLists.{counted_one}
use Rattle.erd_shown.proofs.partners.occurrences.Goals as goal

pub loop-thing-preserved : goal.loop-thing-preserved
loop-thing-preserved g c =
    let things = c.args.things.now in
    let i = c.loop-thing.thing-index in
    let x = c.thing-item.result in
    counted_one (eq_by_cmp g.K.Ord.cmp) (eq_by_cmp_equiv g.met.K.Ord.total) things i x c.loop-thing.times.entries c.insert.new.self.entries
    c.unwrap_or-before.result c.in_ok-next.next c.loop-thing.found.items c.push.new.self.items
    (drop_more things i x c.loop-thing-test.true ∙ ap (λ w. w ∷ drop (i + 1) things) (sym c.thing-item.is))
    (c.unwrap_or-before.ensures ∙ ap (λ o. unwrap_or o 0) (c.copied.ensures ∙ c.get.ensures.value))
    c.in_ok-next.ensures
    c.in_ok-insert.ensures.updates.0
    c.in_ok-push.ensures.items
    c.loop-thing.invariant
