use Rattle.erd_compare.proofs.Common.{◌≡◌, ◌+◌, ◌<◌, length, refl, subst, slice_get_read}
use Rattle.std.specs.Prelude.{sum_by}
use Rattle.erd_compare.specs.code.ContestSelections.{Leaves}
use Rattle.erd_compare.proofs.contest_selections.SelectionTexts.{all_fit, one_does_not, one_fits, size_at, sizes_at}
use Rattle.erd_compare.proofs.inside.room.left_after_differences.Goals as goal

pub loop-named-preserved : goal.loop-named-preserved
loop-named-preserved c =
    let vs = c.args.ways.now in
    one_fits size_at vs c.loop-named.named-index (sum_by size_at vs) c.args.room c.loop-named.left c.loop-named.invariant c.named-item.result
    (slice_get_read vs (length vs) c.loop-named.named-index c.named-item.result refl c.loop-named-test.true c.named-item.is) c.in-Some.less
    (subst (λ o. Leaves (size_at c.named-item.result) c.loop-named.left o) c.in-Some.is c.in_ok-less.ensures)

pub returns-in-None : goal.returns-in-None
returns-in-None c =
    let vs = c.args.ways.now in
    subst (λ s. c.args.room < s) (sizes_at vs)
    (one_does_not size_at vs c.loop-named.named-index (sum_by size_at vs) c.args.room c.loop-named.left c.loop-named.invariant c.named-item.result
    (slice_get_read vs (length vs) c.loop-named.named-index c.named-item.result refl c.loop-named-test.true c.named-item.is)
    (subst (λ o. Leaves (size_at c.named-item.result) c.loop-named.left o) c.in-None.is c.in_ok-less.ensures))

pub returns : goal.returns
returns c =
    let vs = c.args.ways.now in
    subst (λ s. c.loop-named.left + s ≡ c.args.room) (sizes_at vs)
    (all_fit size_at vs c.loop-named.named-index (sum_by size_at vs) c.args.room c.loop-named.left c.loop-named.invariant c.loop-named-test.false)
