use Rattle.std.proofs.Common.{◌≡◌, ◌++◌, string_bytes}
use Rattle.std.specs.Str.Iter.{chars_rest}
use Rattle.erd_tables.specs.Places.{escaped_name}
use Rattle.erd_tables.proofs.place.push_escaped.Given as goal

abbrev pub invariant-loop-character : goal.invariant-loop-character
invariant-loop-character l =
    string_bytes l.text ++ escaped_name (chars_rest l.character-iterator) ≡ string_bytes l.initial.text ++ escaped_name l.name
