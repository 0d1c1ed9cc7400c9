use Rattle.erd_meaning.proofs.Common.{◌≡◌, take}
use Rattle.erd_meaning.proofs.names.selection_name.copied_keys.Given as goal

abbrev pub invariant-loop-key : goal.invariant-loop-key
invariant-loop-key l = l.copies.items ≡ take l.key-index l.keys
