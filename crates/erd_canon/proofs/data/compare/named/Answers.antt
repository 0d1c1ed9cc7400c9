use Rattle.erd_canon.proofs.Common.{string_bytes, IsUtf8-string_bytes, TellsRefusalAs}
use Rattle.erd_canon.proofs.data_values.DataTexts.{side_text}
use Rattle.erd_canon.proofs.data_values.DataTrees.{refusal_value}
use Rattle.erd_canon.proofs.data.compare.named.Goals as goal

pub returns : goal.returns
returns c =
    side_text c.args.side.now (TellsRefusalAs c.in_ok-outcome.outcome c.args.refusal.now) (string_bytes c.in_ok-text.text)
    (string_bytes c.push_refusal.new.text) (string_bytes c.push_str.new.self)
    (string_bytes c.push_string.new.text) (string_bytes c.push_str-2.new.self) (refusal_value c.in_ok-outcome.outcome c.args.refusal.now)
    c.in_ok-outcome.ensures c.in_ok-text.ensures.ok
    c.in_ok-push_str.ensures.bytes c.in_ok-push_string.ensures c.in_ok-push_str-2.ensures.bytes (IsUtf8-string_bytes c.push_str-2.new.self)
