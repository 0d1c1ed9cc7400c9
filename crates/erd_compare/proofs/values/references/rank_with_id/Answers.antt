use Rattle.erd_compare.proofs.Common.{slice_get, sym, ◌∙◌, view, objects, on_side}
use Rattle.erd_compare.proofs.same_values.SameValues.{found_elsewhere, found_here, found_nowhere, rank_kept, rank_owned}
use Rattle.erd_compare.proofs.values.references.rank_with_id.Goals as goal

pub returns-in_err-found : goal.returns-in_err-found
returns-in_err-found c =
    c.from_residual.ensures ∙ found_nowhere (rank_owned c.args.comparer.now.left c.args.comparer.now.right c.args.side c.args.family) c.on-report.ensures.same
    c.args.family c.args.id.now c.in_err-found.ensures

pub returns-then-is_same_family : goal.returns-then-is_same_family
returns-then-is_same_family c =
    let a = c.args.comparer.now.left in
    let b = c.args.comparer.now.right in
    c.rank_at.ensures
    ∙ (rank_kept a b c.args.side c.args.family c.requires.keyed
    (slice_get (objects c.args.family (view (on_side c.args.side a b).tree)) c.in_ok-found.position)
    ∙ found_here (rank_owned a b c.args.side c.args.family) c.on-report.ensures.same c.args.family c.args.id.now c.in_ok-found.ensures
    (sym c.is_same_family.ensures ∙ c.if-is_same_family.true))

pub returns-else-is_same_family : goal.returns-else-is_same_family
returns-else-is_same_family c =
    found_elsewhere (rank_owned c.args.comparer.now.left c.args.comparer.now.right c.args.side c.args.family) c.on-report.ensures.same c.args.family
    c.args.id.now c.in_ok-found.ensures (sym c.is_same_family.ensures ∙ c.if-is_same_family.false)
