use Rattle.erd_normal.proofs.Common.{is_some, sym, ap, ◌∙◌, view}
use Rattle.erd_normal.proofs.texts.DueTokens.{other_node_value}
use Rattle.erd_normal.proofs.values.ordered_content.is_listed_kept.Goals as goal

pub returns-in_default : goal.returns-in_default
returns-in_default c π t inside =
    c.is_kept.ensures π t ∙ ap is_some (sym (other_node_value π t c.args.kind (view c.args.value.now) inside c.in_default.not-Content))
