use Rattle.erd_shown.proofs.Common.{◌≡◌, ◌++◌, drop, map, items_of, items_tokens}
use Rattle.erd_shown.specs.KeyData.{shown_key}
use Rattle.erd_shown.proofs.names.write_keys.Given as goal

-- with the keys that are left, the tokens are those of all
abbrev pub invariant-loop-index : goal.invariant-loop-index
invariant-loop-index l =
    l.out ++ items_tokens (items_of (map shown_key (drop l.index l.name.keys)))
    ≡ l.initial.out ++ items_tokens (items_of (map shown_key l.name.keys))
