use Rattle.erd_shown.proofs.Common.{ℕ, ◌<◌, ◌≤◌, length, subst, view, objects, family}
use Rattle.erd_shown.specs.Reworded.{is_contest_reworded}
use Rattle.erd_shown.proofs.MarkLists.{all_marked, next_mark}
use Rattle.erd_shown.proofs.marks.contests_reworded.Goals as goal

pub loop-position-preserved : goal.loop-position-preserved
loop-position-preserved c =
    let t = view c.args.left.now.tree in
    let i = c.loop-position.position in
    let low : i < length (objects family.Contest t) = subst (λ (n : ℕ). i < n) c.count-count.ensures c.loop-position-test.true in
    next_mark (is_contest_reworded c.args.left.now.prefer (view c.args.left.now.tree) c.args.right.now.prefer (view c.args.right.now.tree)) family.Contest t i
    c.loop-position.found.items _ _ low c.in_ok-mark.ensures c.in_ok-push.ensures.items c.loop-position.invariant

pub returns : goal.returns
returns c =
    let t = view c.args.left.now.tree in
    let i = c.loop-position.position in
    let past : length (objects family.Contest t) ≤ i = subst (λ (n : ℕ). n ≤ i) c.count-count.ensures c.loop-position-test.false in
    all_marked (is_contest_reworded c.args.left.now.prefer (view c.args.left.now.tree) c.args.right.now.prefer (view c.args.right.now.tree)) family.Contest t i
    c.loop-position.found.items past c.loop-position.invariant
