use Rattle.erd_canon.proofs.Common.{◌++◌, ap, ◌∙◌, comma_if}
use Rattle.erd_canon.specs.code.ValuedTexts.{valued_of}
use Rattle.serde_json.specs.Written.{compact_text}
use Rattle.erd_canon.proofs.data_values.DataTexts.{two_pieces}
use Rattle.erd_canon.proofs.data.valued.push_valued.Goals as goal

pub returns-clause-wrote : goal.returns-clause-wrote
returns-clause-wrote c =
    two_pieces c.args.text.now.items (comma_if c.args.later) c.push_comma.new.text.items (compact_text (valued_of c.args.sides.now c.args.difference.now))
    c.extend_from_slice.new.self.items
    c.in_ok-push_comma.ensures (c.in_ok-extend_from_slice.ensures.items ∙ ap (λ t. c.push_comma.new.text.items ++ t)
    (c.deref.ensures.value ∙ c.in_ok-entry.ensures))
