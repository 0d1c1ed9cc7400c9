use Rattle.erd_normal.proofs.Common.{option_map, sym, ap, ◌∙◌, view}
use Rattle.erd_normal.proofs.texts.DueTokens.{object_found}
use Rattle.erd_normal.proofs.writer.Writer.object.Goals as goal

pub returns-clause-whole : goal.returns-clause-whole
returns-clause-whole c v is =
    object_found c.self.inside.report.now.prefer (view c.self.inside.report.now.tree) c.self.invariant.accepted c.self.invariant.whole c.args.family
    c.args.position (view v.now) (sym (ap (option_map (λ v. view v.now)) is) ∙ c.object.ensures)
