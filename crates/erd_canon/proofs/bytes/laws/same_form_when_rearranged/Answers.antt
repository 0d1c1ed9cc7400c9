use Rattle.erd_canon.proofs.forms.FormLaws.{same_form_when_rearranged}
use Rattle.erd_canon.proofs.bytes.laws.same_form_when_rearranged.Goals as goal

pub returns : goal.returns
returns c = record { law = same_form_when_rearranged }
