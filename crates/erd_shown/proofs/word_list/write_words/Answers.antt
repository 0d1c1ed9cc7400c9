use Rattle.erd_shown.proofs.Common.{codes, view, on_ok_weaker}
use Rattle.erd_shown.specs.BallotWords.{words_in_class}
use Rattle.erd_shown.proofs.WordedPairs.{last_member}
use Rattle.erd_shown.proofs.word_list.write_words.Goals as goal

pub returns : goal.returns
returns c =
    on_ok_weaker c.end_object.result
    (λ last.
    last_member c.args.out.now c.key.new.self c.write_words_in_class.new.out c.end_object.new.self (codes "words")
    (words_in_class c.args.report.now.prefer (view c.args.report.now.tree) c.args.class (view c.args.value.now))
    c.in_ok-key.ensures (c.in_ok-write_words_in_class.ensures c.requires.whole) last)
    c.end_object.ensures
