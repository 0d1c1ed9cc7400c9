use Rattle.std.proofs.Common.{◌+◌, ◌∷◌, drop, sym, ap, ◌∙◌}
use Rattle.std.proofs.lemmas.List.{drop_all, drop_more}
use Rattle.std.specs.Ordering.{eq_by_cmp}
use Rattle.erd_shown.proofs.NumberLists.{numbered_all, numbered_none, numbered_one}
use Rattle.erd_shown.proofs.numbered_things.numbers_of.Goals as goal

pub loop-thing-init : goal.loop-thing-init
loop-thing-init g c =
    let old = c.args.numbering.now in
    numbered_none (eq_by_cmp g.K.Ord.cmp) c.args.things.now old.numbers.entries old.next c.in_ok-found.found.items c.in_ok-found.ensures.items

pub loop-thing-preserved : goal.loop-thing-preserved
loop-thing-preserved g c =
    let things = c.args.things.now in
    let i = c.loop-thing.thing-index in
    let x = c.thing-item.result in
    let old = c.args.numbering.now in
    let here = c.loop-thing.numbering in
    let new = c.number_of.new.numbering in
    numbered_one (eq_by_cmp g.K.Ord.cmp) things i x old.numbers.entries here.numbers.entries new.numbers.entries old.next here.next new.next
    c.in_ok-number_of.field-0 c.loop-thing.found.items c.push.new.self.items
    (drop_more things i x c.loop-thing-test.true ∙ ap (λ w. w ∷ drop (i + 1) things) (sym c.thing-item.is))
    c.in_ok-push.ensures.items c.in_ok-number_of.ensures c.loop-thing.invariant

pub returns : goal.returns
returns g c =
    let things = c.args.things.now in
    let i = c.loop-thing.thing-index in
    let old = c.args.numbering.now in
    let new = c.loop-thing.numbering in
    numbered_all (eq_by_cmp g.K.Ord.cmp) things i old.numbers.entries old.next new.numbers.entries new.next c.loop-thing.found.items
    (drop_all i things c.loop-thing-test.false) c.loop-thing.invariant
