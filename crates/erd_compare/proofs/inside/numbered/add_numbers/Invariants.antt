use Rattle.erd_compare.proofs.contest_selections.SelectionsByNumber.{AreAdded}
use Rattle.erd_compare.proofs.inside.numbered.add_numbers.Given as goal

abbrev pub invariant-loop-number : goal.invariant-loop-number
invariant-loop-number l = AreAdded l.numbered.entries l.number-iterator l.initial.numbers.keys l.numbers.keys
