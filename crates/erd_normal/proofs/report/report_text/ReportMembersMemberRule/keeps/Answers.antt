use Rattle.erd_normal.proofs.Common.{is_some, sym, ap, ◌∙◌, view}
use Rattle.erd_normal.proofs.texts.DueTokens.{other_report_value}
use Rattle.erd_normal.proofs.report.report_text.ReportMembersMemberRule.keeps.Goals as goal

pub returns-then-not-is_envelope : goal.returns-then-not-is_envelope
returns-then-not-is_envelope c =
    let π = c.args.self.now.writer.now.prefer in
    let t = view c.args.self.now.writer.now.tree in
    c.is_kept.ensures π t ∙ ap is_some
    (sym (other_report_value π t c.args.name.now c.args.kind (view c.args.member.now) c.in_default.not-Keyed c.in_default.not-Elections
    (sym c.is_envelope.ensures ∙ c.if-not-is_envelope.true)))
