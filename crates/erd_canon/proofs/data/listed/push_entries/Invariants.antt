use Rattle.erd_canon.proofs.Common.{string_bytes, iter_rest}
use Rattle.erd_canon.specs.code.Fronts.{FitsIn, IsReached, size_in, text_in}
use Rattle.erd_canon.proofs.data.listed.push_entries.Given as goal

abbrev pub invariant-loop-entry : goal.invariant-loop-entry
invariant-loop-entry g l =
    IsReached (size_in l.fn.notation g.T.Listed.value g.T.Listed.line) (text_in l.fn.notation g.T.Listed.value g.T.Listed.line)
    (FitsIn l.fn.notation g.T.Listed.value) l.fn.piece (iter_rest l.fn.entries)
    (string_bytes l.fn.text) (string_bytes l.text) l.ahead (iter_rest l.entry-iterator)
