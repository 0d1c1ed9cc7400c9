use Rattle.erd_meaning.proofs.Common.{option_map, ap, ◌∙◌, Kept}
use Rattle.erd_meaning.proofs.finding.OneObject.{value_at}
use Rattle.erd_meaning.proofs.report.Report.object.Goals as goal

pub returns-in-Some : goal.returns-in-Some
returns-in-Some c =
    ap (option_map (λ (k : Kept). k.value)) c.in-Some.ensures ∙ value_at c.args.self.now.prefer c.args.self.now.tree c.objects.result.now.objects
    c.objects.ensures.resolved.0 c.args.family c.args.index c.objects.ensures.resolved.1

pub returns-in-None : goal.returns-in-None
returns-in-None c =
    ap (option_map (λ (k : Kept). k.value)) c.in-None.ensures ∙ value_at c.args.self.now.prefer c.args.self.now.tree c.objects.result.now.objects
    c.objects.ensures.resolved.0 c.args.family c.args.index c.objects.ensures.resolved.1
