use Rattle.erd_canon.proofs.Common.{string_bytes, ap, ◌∙◌, IsUtf8-string_bytes, compact_text, ◌++◌}
use Rattle.erd_canon.specs.DataValues.{differences_data}
use Rattle.erd_canon.proofs.runs.Listings.{list_text}
use Rattle.erd_canon.proofs.data.compare.listed.Goals as goal

pub returns-clause-text : goal.returns-clause-text
returns-clause-text c =
    list_text (string_bytes c.push_differences.new.text) c.args.found.now (IsUtf8-string_bytes c.push_differences.new.text)
    (c.in_ok-push_differences.ensures ∙ ap (λ t. t ++ compact_text (differences_data c.args.found.now)) c.new-text.ensures.bytes)
