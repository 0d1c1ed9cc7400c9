use Rattle.erd_normal.proofs.Common.{is_some, sym, ap, ◌∙◌, view}
use Rattle.erd_normal.proofs.texts.DueTokens.{other_election_value}
use Rattle.erd_normal.proofs.report.election.ElectionMembersMemberRule.keeps.Goals as goal

pub returns-in_default : goal.returns-in_default
returns-in_default c =
    let π = c.args.self.now.writer.now.prefer in
    let t = view c.args.self.now.writer.now.tree in
    c.is_kept.ensures π t ∙ ap is_some (sym (other_election_value π t c.args.self.now.election c.args.kind (view c.args.member.now) c.in_default.not-Keyed))
