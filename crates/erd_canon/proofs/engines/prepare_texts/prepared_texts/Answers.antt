use Rattle.erd_canon.proofs.Common.{inr, IfOk-weaker}
use Rattle.erd_canon.proofs.engines.prepare_texts.prepared_texts.Goals as goal

pub returns-in-Ok : goal.returns-in-Ok
returns-in-Ok c = IfOk-weaker c.file_texts.result _ _ (λ texts are. inr (c.in-Ok.file, c.in-Ok.ensures.prepared, are)) c.file_texts.ensures
