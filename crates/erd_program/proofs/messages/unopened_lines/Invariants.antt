use Rattle.std.proofs.Common.{◌≡◌, ◌++◌, string_bytes}
use Rattle.std.specs.Prelude.{IsUtf8}
use Rattle.std.specs.Str.Iter.{chars_rest}
use Rattle.erd_program.specs.Messages.{name_in_line, unopened_words}
use Rattle.erd_program.proofs.messages.unopened_lines.Given as goal

abbrev pub invariant-loop-character : goal.invariant-loop-character
invariant-loop-character l = IsUtf8 (chars_rest l.character-iterator)
    × (string_bytes l.lines ++ name_in_line (chars_rest l.character-iterator) ≡ unopened_words l.name)
