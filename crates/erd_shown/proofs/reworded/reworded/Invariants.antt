use Rattle.erd_shown.proofs.Common.{◌≡◌, ◌++◌, drop, view}
use Rattle.erd_shown.specs.Reworded.{is_reworded}
use Rattle.erd_shown.specs.code.Marks.{marks_of}
use Rattle.erd_shown.proofs.reworded.reworded.Given as goal

abbrev pub invariant-loop-position : goal.invariant-loop-position
invariant-loop-position l =
    l.found.items ++ drop l.position (marks_of (is_reworded l.left.prefer (view l.left.tree) l.right.prefer (view l.right.tree) l.family) l.family
    (view l.left.tree)) ≡ marks_of (is_reworded l.left.prefer (view l.left.tree) l.right.prefer (view l.right.tree) l.family) l.family (view l.left.tree)
