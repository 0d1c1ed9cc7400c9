use Rattle.erd_shown.proofs.Common.{◌≡◌, Bool, Data, map, drop, view}
use Rattle.erd_shown.specs.Reworded.{true_of_any_named}
use Rattle.erd_shown.specs.code.Marks.{marks_of}
use Rattle.erd_shown.proofs.named.any_named.Given as goal

abbrev pub invariant-loop-reference : goal.invariant-loop-reference
invariant-loop-reference l =
    (P : Data → Bool) → l.marks ≡ marks_of P l.family (view l.report.tree)
    → true_of_any_named P (view l.report.tree) l.family (map view l.references) ≡ true_of_any_named P (view l.report.tree) l.family
    (map view (drop l.reference-index l.references))
