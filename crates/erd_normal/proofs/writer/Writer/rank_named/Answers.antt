use Rattle.erd_normal.proofs.Common.{subst, view, IsAccepted, Judged, FindsId}
use Rattle.erd_meaning.proofs.identity.ObjectFamilies.{keyed_unless}
use Rattle.erd_normal.proofs.writer.Writer.rank_named.Goals as goal

pub rank_of-requires : goal.rank_of-requires
rank_of-requires c = record {
  keyed = keyed_unless c.args.family c.in_default.not-Selection;
  accepted = subst (λ (r : Judged). IsAccepted r.prefer (view r.tree)) c.self.view_is c.self.invariant.accepted;
}

pub returns-in_default : goal.returns-in_default
returns-in_default c =
    c.rank_of.ensures c.args.id.now (subst (λ (r : Judged). FindsId (view r.tree) c.args.id.now c.target_of.result) c.self.view_is c.target_of.ensures)
