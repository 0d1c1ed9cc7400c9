use Rattle.erd_canon.proofs.Common.{string_bytes, IsUtf8-string_bytes, TellsRefusalAs}
use Rattle.erd_canon.proofs.data_values.DataTexts.{text_alone}
use Rattle.erd_canon.proofs.data_values.DataTrees.{refusal_value}
use Rattle.erd_canon.proofs.data.check.refused.Goals as goal

pub returns : goal.returns
returns c =
    text_alone (TellsRefusalAs c.in_ok-outcome.outcome c.args.refusal.now) (string_bytes c.new-text.result) (string_bytes c.push_refusal.new.text)
    (refusal_value c.in_ok-outcome.outcome c.args.refusal.now)
    c.new-text.ensures.bytes c.in_ok-outcome.ensures (IsUtf8-string_bytes c.push_refusal.new.text)
