use Rattle.erd_canon.proofs.Common.{string_bytes, IfOk-weaker}
use Rattle.erd_canon.proofs.runs.Answering.{some_listed}
use Rattle.erd_canon.proofs.engines.answers.listing_text.Goals as goal

pub returns : goal.returns
returns c =
    IfOk-weaker c.lines_of.result _ _ (λ text lines. some_listed c.args.found.now (string_bytes text) c.if-is_empty.false c.is_empty.ensures lines)
    c.lines_of.ensures
