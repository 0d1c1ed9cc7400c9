use Rattle.erd_canon.proofs.Common.{◌++◌, ap, ◌∙◌}
use Rattle.erd_canon.proofs.data_values.DataTexts.{two_pieces}
use Rattle.erd_canon.proofs.data.valued.push_named.Goals as goal

pub returns : goal.returns
returns c =
    two_pieces c.args.text.now.items c.args.name.now c.extend_from_slice.new.self.items c.args.value.now c.extend_from_slice-2.new.self.items
    c.in_ok-extend_from_slice.ensures.items (c.in_ok-extend_from_slice-2.ensures.items ∙ ap (λ t. c.extend_from_slice.new.self.items ++ t)
    c.as_bytes.ensures.value)
