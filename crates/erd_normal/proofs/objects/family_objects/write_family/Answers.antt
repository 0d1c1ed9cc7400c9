use Rattle.erd_normal.proofs.Common.{slice_get_within, view, objects, on_ok_weaker, objects_in_election, written_object}
use Rattle.erd_normal.proofs.ranks.SelectionRanks.{next}
use Rattle.erd_normal.proofs.ranks.WrittenTrees.{in_election_there}
use Rattle.erd_normal.proofs.texts.DueTokens.{entries_written, entry_written}
use Rattle.erd_normal.proofs.objects.family_objects.write_family.Goals as goal

pub write_object_at-requires : goal.write_object_at-requires
write_object_at-requires c =
    let π = c.args.writer.now.prefer in
    let t = view c.args.writer.now.tree in
    let f = c.args.family in
    let k = c.loop-position.position-index in
    let x = next (objects_in_election π t f c.args.election) (objects f t) c.rising-position-items.result.now k c.rising-position-items.ensures
    c.loop-position-test.true (λ p e. (in_election_there π t f c.args.election k p e).1) in
    record { keyed = (in_election_there π t f c.args.election k _ x.at).0; there = slice_get_within (objects f t) _ x.entry x.there }

pub loop-position-preserved : goal.loop-position-preserved
loop-position-preserved c =
    let π = c.args.writer.now.prefer in
    let t = view c.args.writer.now.tree in
    let f = c.args.family in
    let k = c.loop-position.position-index in
    let ps = objects_in_election π t f c.args.election in
    let x = next ps (objects f t) c.rising-position-items.result.now k c.rising-position-items.ensures c.loop-position-test.true
    (λ p e. (in_election_there π t f c.args.election k p e).1) in
    entry_written (λ o. written_object π t f o.0 o.1.value) ps k _ c.loop-position.out c.write_object_at.new.out _ x.at
    (c.in_ok-write_object_at.ensures x.entry x.there) c.loop-position.invariant

pub returns : goal.returns
returns c =
    let π = c.args.writer.now.prefer in
    let t = view c.args.writer.now.tree in
    let f = c.args.family in
    on_ok_weaker c.end_array.result
    (entries_written (λ o. written_object π t f o.0 o.1.value) (objects_in_election π t f c.args.election) c.rising-position-items.result.now
    c.loop-position.position-index c.args.out.now c.begin_array.new.self c.loop-position.out _
    c.rising-position-items.ensures c.loop-position-test.false c.in_ok-begin_array.ensures c.loop-position.invariant)
    c.end_array.ensures
