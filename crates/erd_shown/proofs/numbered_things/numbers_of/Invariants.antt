use Rattle.std.specs.Ordering.{eq_by_cmp}
use Rattle.erd_shown.proofs.NumberLists.{HaveNumbers}
use Rattle.erd_shown.proofs.numbered_things.numbers_of.Given as goal

abbrev pub invariant-loop-thing : goal.invariant-loop-thing
invariant-loop-thing g l =
    HaveNumbers (eq_by_cmp g.K.Ord.cmp) l.things l.thing-index l.initial.numbering.numbers.entries l.initial.numbering.next
    l.numbering.numbers.entries l.numbering.next l.found.items
