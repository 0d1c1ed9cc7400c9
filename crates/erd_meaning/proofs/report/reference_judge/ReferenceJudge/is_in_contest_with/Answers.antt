use Rattle.erd_meaning.proofs.Common.{map, shown}
use Rattle.erd_meaning.proofs.references.SilentWalks.{in_own_contest}
use Rattle.erd_meaning.proofs.report.reference_judge.ReferenceJudge.is_in_contest_with.Goals as goal

pub returns-in-Some : goal.returns-in-Some
returns-in-Some c e = in_own_contest (map shown c.args.self.now.objects.now.objects) c.in-Some.contest c.args.selection c.args.id.now
    (c.has_id_at.ensures e c.args.self.now.told_apart) c.in-Some.ensures
