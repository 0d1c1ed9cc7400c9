use Rattle.erd_shown.proofs.Common.{◌≡◌, ◌++◌, drop, view, family}
use Rattle.erd_shown.specs.Reworded.{is_candidate_reworded}
use Rattle.erd_shown.specs.code.Marks.{marks_of}
use Rattle.erd_shown.proofs.marks.candidates_reworded.Given as goal

abbrev pub invariant-loop-position : goal.invariant-loop-position
invariant-loop-position l =
    l.found.items ++ drop l.position (marks_of (is_candidate_reworded l.left.prefer (view l.left.tree) l.right.prefer (view l.right.tree)) family.Candidate
    (view l.left.tree)) ≡ marks_of (is_candidate_reworded l.left.prefer (view l.left.tree) l.right.prefer (view l.right.tree))
    family.Candidate (view l.left.tree)
