use Rattle.erd_shown.proofs.Common.{◌++◌, map, ap, ◌∙◌, view, IfOk-weaker, value_tokens}
use Rattle.erd_shown.specs.Shown.{keys_data}
use Rattle.erd_shown.proofs.differing_voters.keys_text.Goals as goal

pub returns : goal.returns
returns c =
    let report = c.args.report.now in
    let keys = keys_data report.prefer (view report.tree) c.args.family (map view c.args.references.now) in
    IfOk-weaker c.text_of.result _ _ (λ text is. is keys (c.in_ok-write_reference_set.ensures ∙ ap (λ ts. ts ++ value_tokens keys) c.new-out.ensures))
    c.text_of.ensures
