use Rattle.erd_shown.proofs.Common.{not, bytes_eq, ap, ap₂, ◌∙◌}
use Rattle.erd_shown.proofs.reworded.has_other_words.Goals as goal

pub returns : goal.returns
returns c =
    ap not
    (c.is_same_text.ensures
    ∙ ap₂ bytes_eq (c.as_str.ensures.value ∙ c.in_ok-one.ensures c.requires.one) (c.as_str-2.ensures.value ∙ c.in_ok-another.ensures c.requires.other))
