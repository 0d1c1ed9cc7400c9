use Rattle.erd_shown.proofs.Common.{ap₂, ◌∙◌, bytes_eq}
use Rattle.erd_shown.proofs.differing_voters.has_same_keys.Goals as goal

pub returns : goal.returns
returns c = c.is_same_text.ensures ∙ ap₂ bytes_eq (c.as_str.ensures.value ∙ c.in_ok-one.ensures) (c.as_str-2.ensures.value ∙ c.in_ok-other.ensures)
