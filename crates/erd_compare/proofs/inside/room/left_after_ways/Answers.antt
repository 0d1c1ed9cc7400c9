use Rattle.erd_compare.proofs.Common.{at_low, ◌<◌, List, Some, None, Bor, map, get_or, sym, subst, get_or_from_slice_get, Member}
use Rattle.std.specs.Prelude.{ℕ, sum_by}
use Rattle.erd_compare.specs.code.ContestSelections.{differences_named, size_of_list, Leaves}
use Rattle.erd_compare.proofs.contest_selections.SelectionTexts.{no_member, one_does_not, one_fits, size_in_member, sizes_in, the_difference}
use Rattle.erd_compare.proofs.inside.room.left_after_ways.Goals as goal

pub loop-member-preserved : goal.loop-member-preserved
loop-member-preserved c =
    let ss = c.deref-member-items.result.now in
    let i = c.loop-member.member-index in
    let left = c.loop-member.left in
    let size = size_in_member c.args.named.now.name.now in
    let here = at_low ss i c.loop-member-test.true in
    one_fits size ss i (sum_by size ss) c.args.room left c.loop-member.invariant here.0 here.1 c.in-Some.less
    (subst (λ (s : Bor (List ℕ)). Leaves (size s) left (Some c.in-Some.less)) (get_or_from_slice_get ss i here.0 no_member here.1)
    (subst (λ o. Leaves (size (get_or ss i no_member)) left o) c.in-Some.is c.in_ok-less-in-Members.ensures))

pub returns-in-None : goal.returns-in-None
returns-in-None c =
    let ss = c.deref-member-items.result.now in
    let i = c.loop-member.member-index in
    let left = c.loop-member.left in
    let name = c.args.named.now.name.now in
    let size = size_in_member name in
    let here = at_low ss i c.loop-member-test.true in
    let low : c.args.room < sum_by size ss =
    one_does_not size ss i (sum_by size ss) c.args.room left c.loop-member.invariant here.0 here.1
    (subst (λ (s : Bor (List ℕ)). Leaves (size s) left None) (get_or_from_slice_get ss i here.0 no_member here.1)
    (subst (λ o. Leaves (size (get_or ss i no_member)) left o) c.in-None.is c.in_ok-less-in-Members.ensures))
    in
    subst (λ w. c.args.room < size_of_list (differences_named name w)) (sym c.in-Members.is)
    (subst (λ (xs : List (Bor (List ℕ))). c.args.room < size_of_list (map (the_difference name) (map Member (map (λ s. s.now) xs))))
    c.deref-member-items.ensures.value
    (subst (λ n. c.args.room < n) (sizes_in name ss) low))
