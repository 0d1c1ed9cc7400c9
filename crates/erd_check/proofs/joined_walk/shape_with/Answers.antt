use Rattle.erd_check.proofs.Common.{◌≡◌, [], length, sym, refl, ap, ◌∙◌, subst, view, ListsAll, ShapeFault}
use Rattle.std.specs.Prelude.{◌≢◌}
use Rattle.erd_check.proofs.Walks.{shape_walk_lists}
use Rattle.erd_check.proofs.ShapedReports.{shaped_by}
use Rattle.erd_check.proofs.joined_walk.shape_with.Goals as goal

pub of-requires : goal.of-requires
of-requires g c =
    let t = view c.args.tree.now in
    let order = c.in_ok-first.ensures.in_order refl in
    let all : ListsAll (ShapeFault t) c.of-list.result = subst (ListsAll (ShapeFault t)) (sym (c.of-list.ensures ∙ c.in_ok-first.ensures.told.0))
    (shape_walk_lists t order) in
    record {
      shaped = shaped_by c.args.tree.now c.of-list.result all order c.in_ok-first.ensures.known c.requires.nests
          (sym c.len.ensures ∙ c.if-len-eq0.true);
    }

pub returns-clause-refused : goal.returns-clause-refused
returns-clause-refused g c =
    let t = view c.args.tree.now in
    let order = c.in_ok-first.ensures.in_order refl in
    let all : ListsAll (ShapeFault t) c.of-list.result = subst (ListsAll (ShapeFault t)) (sym (c.of-list.ensures ∙ c.in_ok-first.ensures.told.0))
    (shape_walk_lists t order) in
    let some : c.of-list.result ≢ [] = λ empty. let zero : length c.of-list.result ≡ 0 = ap length empty in c.if-len-eq0.false (c.len.ensures ∙ zero) in
    (all, some)
