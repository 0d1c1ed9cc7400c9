use Rattle.erd_canon.proofs.Common.{◌++◌, string_bytes, escaped_name}
use Rattle.std.specs.Str.Iter.{chars_rest}
use Rattle.erd_tables.proofs.Pointers.{moved}
use Rattle.erd_canon.proofs.data.fault_lines.push_name.Goals as goal

pub loop-character-preserved : goal.loop-character-preserved
loop-character-preserved c =
    moved (string_bytes c.loop-character.text) (string_bytes c.push.new.self) (chars_rest c.next.new.self)
    (chars_rest c.loop-character.character-iterator) (string_bytes c.args.text.now ++ escaped_name c.args.name.now) c.in-Some.character
    c.if-character-eq126.false c.if-character-eq47.false c.loop-character.invariant c.in-Some.ensures.steps.0 c.in_ok-push.ensures.bytes
