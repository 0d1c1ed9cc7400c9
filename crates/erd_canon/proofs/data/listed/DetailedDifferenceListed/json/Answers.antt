use Rattle.erd_canon.proofs.Common.{ap, ◌∙◌, IfOk-weaker, has_float, compact_text}
use Rattle.erd_canon.proofs.data_values.DetailedTrees.{detailed_value}
use Rattle.erd_canon.proofs.runs.Listings.{always}
use Rattle.erd_canon.proofs.data.listed.DetailedDifferenceListed.json.Goals as goal

pub returns-clause-text : goal.returns-clause-text
returns-clause-text c =
    IfOk-weaker c.to_string.result _ _ (λ text is. is (ap has_float c.in_ok-to_value.ensures ∙ (detailed_value c.args.self.now).whole)
    ∙ ap compact_text c.in_ok-to_value.ensures) c.to_string.ensures.text

pub returns-clause-fits : goal.returns-clause-fits
returns-clause-fits c = always c.to_string.result _ (detailed_value c.args.self.now).fits
