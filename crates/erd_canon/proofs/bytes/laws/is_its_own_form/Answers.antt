use Rattle.erd_canon.proofs.forms.FormLaws.{is_its_own_form}
use Rattle.erd_canon.proofs.bytes.laws.is_its_own_form.Goals as goal

pub returns : goal.returns
returns c = record { law = is_its_own_form }
