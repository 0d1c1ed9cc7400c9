use Rattle.erd_normal.proofs.Common.{◌≡◌, ◌++◌, map, drop, items_of, view, rising_elections, items_tokens, written_election, written_elections}
use Rattle.erd_normal.proofs.report.election.write_elections.Given as goal

abbrev pub invariant-loop-position : goal.invariant-loop-position
invariant-loop-position l =
    l.out ++ items_tokens
    (items_of (map (λ e. written_election l.writer.prefer (view l.writer.tree) e.0 e.1.value)
    (drop l.position-index (rising_elections l.writer.prefer (view l.writer.tree)))))
    ≡ l.initial.out ++ items_tokens (items_of (written_elections l.writer.prefer (view l.writer.tree)))
