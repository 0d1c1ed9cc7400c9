use Rattle.erd_canon.proofs.Common.{on_ok_weaker}
use Rattle.erd_canon.proofs.engines.prepare_texts.push_tried.Goals as goal

pub returns : goal.returns
returns c = on_ok_weaker c.push_done.result (λ wrote. (c.in_ok-done.done, c.in_ok-done.ensures.done, wrote)) c.push_done.ensures
