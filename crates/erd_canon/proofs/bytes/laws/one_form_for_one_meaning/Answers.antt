use Rattle.erd_canon.proofs.forms.FormLaws.{one_form_for_one_meaning}
use Rattle.erd_canon.proofs.bytes.laws.one_form_for_one_meaning.Goals as goal

pub returns : goal.returns
returns c = record { law = one_form_for_one_meaning }
