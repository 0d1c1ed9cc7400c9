use Rattle.std.proofs.Common.{◌++◌, ◌∷◌, ◌∙◌, [], ap, arith, string_bytes}
use Rattle.std.specs.Str.Iter.{chars_rest}
use Rattle.erd_program.specs.Messages.{unopened_words}
use Rattle.erd_program.proofs.Shown.{shown_all, shown_more}
use Rattle.erd_program.proofs.messages.unopened_lines.Goals as goal

pub loop-character-preserved : goal.loop-character-preserved
loop-character-preserved c =
    shown_more (string_bytes c.loop-character.lines) (string_bytes c.push.new.self) (chars_rest c.loop-character.character-iterator)
    (chars_rest c.next.new.self)
    (unopened_words c.args.name.now) c.in-Some.character c.shown.result c.loop-character.invariant.0 c.loop-character.invariant.1
    c.in-Some.ensures.steps.0 c.in_ok-push.ensures.bytes c.shown.ensures

pub returns : goal.returns
returns c =
    c.in_ok-push-2.ensures.bytes ∙ ap (λ e. string_bytes c.loop-character.lines ++ e) (c.in_ok-push-2.ensures.ascii (omega arith))
    ∙ ap (λ lines. lines ++ 10 ∷ []) (shown_all (string_bytes c.loop-character.lines) (chars_rest c.loop-character.character-iterator)
    (unopened_words c.args.name.now) c.loop-character.invariant.1 c.in-None.ensures.steps.0.0)
