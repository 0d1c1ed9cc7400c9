use Rattle.erd_shown.proofs.Common.{Some, codes, family, view, on_ok_weaker}
use Rattle.erd_shown.specs.BallotWords.{words_data}
use Rattle.erd_shown.specs.KeyData.{shown_name}
use Rattle.erd_shown.proofs.Written.{two_members}
use Rattle.erd_shown.proofs.word_list.worded_selections.write_named.Goals as goal

pub returns : goal.returns
returns c =
    on_ok_weaker c.end_object.result
    (λ last whole.
    two_members c.args.out.now c.begin_object.new.self c.key.new.self c.write_name.new.out c.key-2.new.self c.write_words.new.out c.end_object.new.self
    (codes "name") (codes "words")
    (shown_name (Some c.args.name.now)) (words_data c.args.report.now.prefer (view c.args.report.now.tree) family.Selection (view c.args.selection.now))
    c.in_ok-begin_object.ensures c.in_ok-key.ensures
    c.in_ok-write_name.ensures c.in_ok-key-2.ensures (c.in_ok-write_words.ensures whole) last)
    c.end_object.ensures
