use Rattle.erd_canon.proofs.Common.{◌≡◌, List, [], ◌∷◌, ◌++◌, map, ap, ◌∙◌, rules, iter_rest, Fault, fault_line, text_of_lines, lines_of_side, on_error}
use Rattle.erd_canon.proofs.runs.Moving.{IsFrontMoved-more, IsMoved-more}
use Rattle.erd_canon.proofs.engines.lines.write_each.Goals as goal

pub loop-fault-preserved : goal.loop-fault-preserved
loop-fault-preserved g c =
    let text = λ (faults : List Fault). text_of_lines (lines_of_side c.args.side.now (map fault_line faults)) in
    let steps : iter_rest c.loop-fault.fault-iterator ≡ c.in-Some.fault.now ∷ iter_rest c.next.new.self = search rules in
    record {
      works = c.in_ok-write_line.ensures.works;
      counted = c.write_line.ensures.counted ∙ c.loop-fault.invariant.counted;
      moved = IsMoved-more c.loop-fault.buffer.items ((c.args.side.now ++ fault_line c.in-Some.fault.now) ++ 10 ∷ []) (text (iter_rest c.next.new.self))
          c.loop-fault.invariant.moved (ap text steps) c.in_ok-write_line.ensures.moved;
    }

pub returns-in_err-write_line-clause-part : goal.returns-in_err-write_line-clause-part
returns-in_err-write_line-clause-part g c =
    let text = λ (faults : List Fault). text_of_lines (lines_of_side c.args.side.now (map fault_line faults)) in
    let steps : iter_rest c.loop-fault.fault-iterator ≡ c.in-Some.fault.now ∷ iter_rest c.next.new.self = search rules in
    on_error c.from_residual.result (IsFrontMoved-more c.loop-fault.buffer.items ((c.args.side.now ++ fault_line c.in-Some.fault.now) ++ 10 ∷ [])
    (text (iter_rest c.next.new.self)) c.loop-fault.invariant.moved (ap text steps) c.in_err-write_line.ensures.part)
