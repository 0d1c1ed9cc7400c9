use Rattle.erd_canon.proofs.Common.{◌≡◌, drop, escaped_name}
use Rattle.erd_canon.proofs.engines.lines.is_plain.Given as goal

abbrev pub invariant-loop-byte : goal.invariant-loop-byte
invariant-loop-byte l = escaped_name (drop l.byte-index l.name) ≡ drop l.byte-index l.name → escaped_name l.name ≡ l.name
