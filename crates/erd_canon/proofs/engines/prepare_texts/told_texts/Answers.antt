use Rattle.erd_canon.proofs.Common.{inr, IfOk-weaker}
use Rattle.erd_canon.proofs.engines.prepare_texts.told_texts.Goals as goal

pub returns-in-Ok : goal.returns-in-Ok
returns-in-Ok c = IfOk-weaker c.told_line.result _ _ (λ texts are. inr (c.in-Ok.file, c.in-Ok.ensures.prepared, are)) c.told_line.ensures
