use Rattle.erd_canon.proofs.Common.{string_bytes, codes, sym, refl, subst, string, faults_data, AppendsData, TellsRefusalAs, Bad, NotJson}
use Rattle.erd_canon.proofs.data.refusals.push_refusal.Goals as goal

pub returns-in_ok-push_faults-in-Faults : goal.returns-in_ok-push_faults-in-Faults
returns-in_ok-push_faults-in-Faults c =
    subst (λ r. AppendsData (TellsRefusalAs Bad r) (string_bytes c.args.text.now) (string_bytes c.push_faults.new.text)) (sym c.in-Faults.is)
    (record {
      value = faults_data c.in-Faults.faults;
      says = refl;
      fits = c.in_ok-push_faults-in-Faults.ensures.fits;
      wrote = c.in_ok-push_faults-in-Faults.ensures.wrote;
    })

pub returns-in_ok-push_string-in-NotJson : goal.returns-in_ok-push_string-in-NotJson
returns-in_ok-push_string-in-NotJson c =
    subst (λ r. AppendsData (TellsRefusalAs NotJson r) (string_bytes c.args.text.now) (string_bytes c.push_string.new.text)) (sym c.in-NotJson.is)
    (record { value = string (codes "not JSON"); says = refl; fits = tt; wrote = c.in_ok-push_string-in-NotJson.ensures })
