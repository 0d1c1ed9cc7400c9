use Rattle.std.specs.Ordering.{eq_by_cmp}
use Rattle.erd_shown.proofs.PartnerLists.{AreCounted}
use Rattle.erd_shown.proofs.partners.occurrences.Given as goal

abbrev pub invariant-loop-thing : goal.invariant-loop-thing
invariant-loop-thing g l = AreCounted (eq_by_cmp g.K.Ord.cmp) l.things l.thing-index l.times.entries l.found.items
