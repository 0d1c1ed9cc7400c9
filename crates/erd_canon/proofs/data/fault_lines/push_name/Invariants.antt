use Rattle.erd_canon.proofs.Common.{◌≡◌, ◌++◌, string_bytes, escaped_name}
use Rattle.std.specs.Str.Iter.{chars_rest}
use Rattle.erd_canon.proofs.data.fault_lines.push_name.Given as goal

abbrev pub invariant-loop-character : goal.invariant-loop-character
invariant-loop-character l =
    string_bytes l.text ++ escaped_name (chars_rest l.character-iterator) ≡ string_bytes l.initial.text ++ escaped_name l.name
