use Rattle.std.proofs.Common.{sym, subst}
use Rattle.std.specs.Str.{IsUtf8}
use Rattle.erd_c.proofs.Words.{text_among}
use Rattle.erd_c.proofs.line.texts_of.Goals as goal

pub returns-in-Err : goal.returns-in-Err
returns-in-Err c = λ all.
    c.in-Err.ensures.cases.0
    (subst IsUtf8 (sym c.as_slice.ensures.value)
    (text_among c.args.words.now c.loop-word.word-index c.word-item.result c.loop-word-test.true c.word-item.is all))
