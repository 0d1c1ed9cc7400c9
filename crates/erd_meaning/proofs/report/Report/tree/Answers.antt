use Rattle.erd_meaning.proofs.Common.{ap, subst, view, IsAccepted, Judged}
use Rattle.erd_meaning.proofs.accepted.Standing.{accepted_by_phases}
use Rattle.erd_meaning.proofs.accepted.OneResolved.{one_resolved}
use Rattle.erd_meaning.proofs.report.Report.tree.Goals as goal

pub returns : goal.returns
returns c =
    let tree = c.self.inside.tree.now in
    let is = (one_resolved c.self.inside.prefer tree c.self.inside.indexes.items c.self.invariant).1.1 in
    record {
      tree = ap (λ (r : Judged). r.tree) c.self.view_is;
      accepted = subst (λ (r : Judged). IsAccepted r.prefer (view tree)) c.self.view_is
          (accepted_by_phases c.self.inside.prefer (view tree) is.faultless is.identified is.referred is.told_apart);
      nests = is.shallow;
      is_tree = is.is_tree;
      whole = is.whole;
      fits = is.fits;
      bounded = is.few;
    }
