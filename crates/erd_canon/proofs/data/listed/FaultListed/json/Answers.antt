use Rattle.erd_canon.proofs.Common.{ap, ◌∙◌, IfOk-weaker, has_float, compact_text}
use Rattle.erd_canon.proofs.data_values.DataTrees.{fault_whole}
use Rattle.erd_canon.proofs.data.listed.FaultListed.json.Goals as goal

pub returns-clause-text : goal.returns-clause-text
returns-clause-text c =
    IfOk-weaker c.to_string.result _ _ (λ text is. is (ap has_float c.in_ok-fault_value.ensures.value ∙ fault_whole c.args.self.now)
    ∙ ap compact_text c.in_ok-fault_value.ensures.value) c.to_string.ensures.text
