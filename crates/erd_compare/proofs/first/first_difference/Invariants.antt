use Rattle.erd_compare.proofs.Common.{◌≡◌, ◌<◌, Option, view, meaning, Key, part_number, record_at, Part}
use Rattle.erd_compare.proofs.first.first_difference.Given as goal

abbrev pub invariant-loop-part : goal.invariant-loop-part
invariant-loop-part l =
    (p : Part) (k : Option Key) → part_number p < l.part-index → record_at (meaning l.fn.left.prefer (view l.fn.left.tree)) p k
    ≡ record_at (meaning l.fn.right.prefer (view l.fn.right.tree)) p k
