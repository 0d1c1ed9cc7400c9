use Rattle.erd_text.proofs.Common.{ap, ◌∙◌}
use Rattle.json.specs.Print.{print}
use Rattle.serde_json.proofs.Texts.{print-outline}
use Rattle.erd_shown.proofs.texts.text_of.Goals as goal

pub returns-in-Ok : goal.returns-in-Ok
returns-in-Ok c d is = ap (λ v. v.items) c.in-Ok.ensures.ok ∙ (c.into_text.ensures.text ∙ (ap print is ∙ print-outline d))
