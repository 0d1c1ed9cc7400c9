use Rattle.erd_normal.proofs.Common.{◌∙◌, slice_get_within, view, elections, on_ok_weaker, rising_elections, written_election}
use Rattle.erd_normal.proofs.ranks.WrittenTrees.{lent_elections, next_election}
use Rattle.erd_normal.proofs.texts.DueTokens.{entries_written, entry_written}
use Rattle.erd_normal.proofs.report.election.write_elections.Goals as goal

pub write_election_at-requires : goal.write_election_at-requires
write_election_at-requires c =
    let x = next_election c.report.result.now c.args.writer.now c.rising_elections-position-items.result.now c.loop-position.position-index
    c.rising_elections-position-items.ensures c.report.ensures c.loop-position-test.true in
    record { there = slice_get_within (elections (view c.args.writer.now.tree)) _ x.entry x.there }

pub loop-position-preserved : goal.loop-position-preserved
loop-position-preserved c =
    let π = c.args.writer.now.prefer in
    let t = view c.args.writer.now.tree in
    let k = c.loop-position.position-index in
    let x = next_election c.report.result.now c.args.writer.now c.rising_elections-position-items.result.now k c.rising_elections-position-items.ensures
    c.report.ensures c.loop-position-test.true in
    entry_written (λ e. written_election π t e.0 e.1.value) (rising_elections π t) k _ c.loop-position.out c.write_election_at.new.out _ x.at
    (c.in_ok-write_election_at.ensures x.entry x.there) c.loop-position.invariant

pub returns : goal.returns
returns c =
    let π = c.args.writer.now.prefer in
    let t = view c.args.writer.now.tree in
    on_ok_weaker c.end_array.result
    (entries_written (λ e. written_election π t e.0 e.1.value) (rising_elections π t) c.rising_elections-position-items.result.now
    c.loop-position.position-index c.args.out.now c.begin_array.new.self c.loop-position.out _
    (c.rising_elections-position-items.ensures ∙ lent_elections c.report.result.now c.args.writer.now c.report.ensures) c.loop-position-test.false
    c.in_ok-begin_array.ensures c.loop-position.invariant)
    c.end_array.ensures
