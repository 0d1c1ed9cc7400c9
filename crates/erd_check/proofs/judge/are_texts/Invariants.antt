use Rattle.erd_check.proofs.Common.{◌≡◌, map, drop, list_all, view, is_text}
use Rattle.erd_check.proofs.judge.are_texts.Given as goal

abbrev pub invariant-loop-item : goal.invariant-loop-item
invariant-loop-item l = list_all is_text (map view (drop l.item-index l.items)) ≡ list_all is_text (map view l.initial.items)
