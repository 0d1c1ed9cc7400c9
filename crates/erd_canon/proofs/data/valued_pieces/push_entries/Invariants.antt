use Rattle.std.proofs.Common.{drop}
use Rattle.erd_canon.specs.code.Fronts.{IsReached}
use Rattle.erd_canon.specs.code.ValuedTexts.{Anything, valued_size, valued_text}
use Rattle.erd_canon.proofs.data.valued_pieces.push_entries.Given as goal

abbrev pub invariant-loop-difference : goal.invariant-loop-difference
invariant-loop-difference l =
    IsReached (valued_size l.sides) (valued_text l.sides) Anything l.piece l.found l.fn.text.items l.text.items l.ahead (drop l.difference-index l.found)
