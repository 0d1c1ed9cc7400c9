use Rattle.erd_canon.proofs.Common.{string_bytes, subst, iter_rest}
use Rattle.erd_canon.specs.code.Fronts.{FitsIn, IsReached, size_in, text_in}
use Rattle.erd_canon.proofs.data_values.Fronts.{ended, none_of}
use Rattle.erd_canon.proofs.data.listed.push_entries.Goals as goal

pub loop-entry-preserved : goal.loop-entry-preserved
loop-entry-preserved g c =
    c.in_ok-pass_entry.ensures (iter_rest c.args.entries) (string_bytes c.args.text.now) (iter_rest c.next.new.self)
    (subst (IsReached (size_in c.args.notation.now g.T.Listed.value g.T.Listed.line) (text_in c.args.notation.now g.T.Listed.value g.T.Listed.line)
    (FitsIn c.args.notation.now g.T.Listed.value) c.args.piece.now
    (iter_rest c.args.entries) (string_bytes c.args.text.now) (string_bytes c.loop-entry.text) c.loop-entry.ahead) c.in-Some.ensures.steps
    c.loop-entry.invariant)

pub returns : goal.returns
returns g c =
    ended (size_in c.args.notation.now g.T.Listed.value g.T.Listed.line) (text_in c.args.notation.now g.T.Listed.value g.T.Listed.line)
    (FitsIn c.args.notation.now g.T.Listed.value) c.args.piece.now
    (iter_rest c.args.entries) (string_bytes c.args.text.now) (string_bytes c.loop-entry.text) c.loop-entry.ahead
    (subst (IsReached (size_in c.args.notation.now g.T.Listed.value g.T.Listed.line) (text_in c.args.notation.now g.T.Listed.value g.T.Listed.line)
    (FitsIn c.args.notation.now g.T.Listed.value) c.args.piece.now
    (iter_rest c.args.entries) (string_bytes c.args.text.now) (string_bytes c.loop-entry.text) c.loop-entry.ahead)
    (none_of (iter_rest c.loop-entry.entry-iterator) c.in-None.ensures.steps.0) c.loop-entry.invariant)
