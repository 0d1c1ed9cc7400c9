use Rattle.erd_meaning.proofs.Common.{[], ◌∷◌, ◌++◌, codes, Name, contest_located}
use Rattle.erd_meaning.specs.code.CollectedWalks.{collected_in}
use Rattle.erd_meaning.specs.code.Spots.{election_place}
use Rattle.erd_meaning.proofs.identity.MetObjects.{contest_collected, entry, found_inside}
use Rattle.erd_meaning.proofs.objects.collected.collect_contests.Goals as goal

pub loop-index-preserved : goal.loop-index-preserved
loop-index-preserved c =
    let p = election_place c.args.spot.election ++ Name (codes "Contest") ∷ [] in
    found_inside (contest_located c.args.keys.now) p c.entries_at-contest-items.result.now c.loop-index.index c.contest-item.result
    (collected_in c.loop-index.found)
    (collected_in c.collect_entries.new.found) _ c.loop-index-test.true c.contest-item.is c.loop-index.invariant
    (contest_collected c.args.keys.now (entry p c.loop-index.index c.contest-item.result) (collected_in c.loop-index.found)
    (collected_in c.collect_object.new.found) (collected_in c.collect_entries.new.found) c.in_ok-collect_object.ensures c.in_ok-collect_entries.ensures)
