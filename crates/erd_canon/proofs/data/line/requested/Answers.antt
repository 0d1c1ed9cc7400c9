use Rattle.erd_canon.proofs.Common.{string_bytes, view, refl, IsUtf8-string_bytes}
use Rattle.erd_canon.specs.LineAnswers.{request_data}
use Rattle.erd_canon.proofs.data_values.DataTexts.{value_text}
use Rattle.erd_canon.proofs.data_values.LineTexts.{request_value}
use Rattle.erd_canon.proofs.data.line.requested.Goals as goal

pub returns : goal.returns
returns c =
    let text = c.in_ok-to_string in
    let request = c.args.request.now in (
      refl,
      value_text (string_bytes text.field-0) (view c.in_ok-value.value) (request_data request) (request_value request) c.in_ok-value.ensures
          text.ensures.text text.ensures.reads_back (IsUtf8-string_bytes text.field-0),
    )
