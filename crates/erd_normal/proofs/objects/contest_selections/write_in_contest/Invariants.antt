use Rattle.erd_normal.proofs.Common.{◌≡◌, ◌++◌, drop, codes, items_of, view, entries_at, rising_list, by_name, items_tokens, map_from, written_selection}
use Rattle.erd_normal.proofs.Common.{written_in_contest}
use Rattle.erd_normal.proofs.objects.contest_selections.write_in_contest.Given as goal

abbrev pub invariant-loop-rank : goal.invariant-loop-rank
invariant-loop-rank l =
    l.out ++ items_tokens
    (items_of (map_from (written_selection l.writer.prefer (view l.writer.tree) (view l.contest)) l.rank
    (drop l.rank (rising_list (by_name l.writer.prefer (view l.writer.tree)) (entries_at (codes "ContestSelection") (view l.contest))))))
    ≡ l.initial.out ++ items_tokens (items_of (written_in_contest l.writer.prefer (view l.writer.tree) (view l.contest)))
