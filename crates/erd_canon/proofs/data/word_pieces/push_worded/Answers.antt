use Rattle.erd_canon.proofs.Common.{◌++◌, string_bytes, ap, ◌∙◌, comma_if, compact_text}
use Rattle.erd_canon.specs.code.WordTexts.{worded_of}
use Rattle.erd_canon.proofs.data_values.DataTexts.{two_pieces}
use Rattle.erd_canon.proofs.data.word_pieces.push_worded.Goals as goal

pub returns-clause-wrote : goal.returns-clause-wrote
returns-clause-wrote c =
    two_pieces (string_bytes c.args.text.now) (comma_if c.args.later) (string_bytes c.push_comma.new.text)
    (compact_text (worded_of c.args.report.now c.args.object.now)) (string_bytes c.push_str.new.self)
    c.in_ok-push_comma.ensures (c.in_ok-push_str.ensures.bytes ∙ ap (λ t. string_bytes c.push_comma.new.text ++ t)
    (c.as_str.ensures.value ∙ c.in_ok-entry.ensures))
