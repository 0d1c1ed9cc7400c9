use Rattle.erd_shown.proofs.Common.{codes, entries_at, view, on_ok_weaker}
use Rattle.erd_shown.specs.WordList.{words_members, worded_selections}
use Rattle.erd_shown.proofs.MembersWritten.{member_then}
use Rattle.erd_shown.proofs.WordedObjects.{contest_there}
use Rattle.erd_shown.proofs.word_list.write_contest.Goals as goal

pub returns : goal.returns
returns c =
    let π = c.args.report.now.prefer in
    let t = view c.args.report.now.tree in
    let d = view c.args.value.now in
    on_ok_weaker c.write_words.result
    (λ last.
    member_then c.args.out.now c.key.new.self c.write_selections_at.new.out c.write_words.new.out (codes "selections")
    (worded_selections π t (entries_at (codes "ContestSelection") d)) (words_members π t c.args.class d)
    c.in_ok-key.ensures c.in_ok-write_selections_at.ensures last)
    c.write_words.ensures

pub write_selections_at-requires : goal.write_selections_at-requires
write_selections_at-requires c = record {
  there = contest_there (view c.args.report.now.tree) c.args.object.now.role c.args.object.now.position (view c.args.value.now) c.requires.contest
      c.requires.there;
  whole = c.requires.whole;
}
