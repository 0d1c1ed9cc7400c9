use Rattle.erd_text.proofs.Common.{◌≡◌, ◌++◌, Some, drop, map, items_of, items_tokens}
use Rattle.erd_shown.specs.KeyData.{shown_name}
use Rattle.erd_shown.specs.code.LentNames.{lent}
use Rattle.erd_shown.proofs.ballots.write_names.Given as goal

abbrev pub invariant-loop-name : goal.invariant-loop-name
invariant-loop-name l =
    l.out ++ items_tokens (items_of (map (λ n. shown_name (Some (lent n))) (drop l.name-index l.names)))
    ≡ l.initial.out ++ items_tokens (items_of (map (λ n. shown_name (Some (lent n))) l.names))
