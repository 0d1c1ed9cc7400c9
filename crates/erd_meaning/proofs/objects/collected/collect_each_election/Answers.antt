use Rattle.erd_meaning.proofs.Common.{[], ◌∷◌, codes, Name, election_located}
use Rattle.erd_meaning.specs.code.CollectedWalks.{collected_in}
use Rattle.erd_meaning.proofs.identity.MetObjects.{election_collected, entry, found_inside}
use Rattle.erd_meaning.proofs.objects.collected.collect_each_election.Goals as goal

pub loop-index-preserved : goal.loop-index-preserved
loop-index-preserved c =
    let p = Name (codes "Election") ∷ [] in
    found_inside (election_located c.args.keys.now c.args.needed) p c.entries_at-election-items.result.now c.loop-index.index c.election-item.result
    (collected_in c.loop-index.found)
    (collected_in c.collect_contests.new.found) _ c.loop-index-test.true c.election-item.is c.loop-index.invariant
    (election_collected c.args.keys.now c.args.needed (entry p c.loop-index.index c.election-item.result) (collected_in c.loop-index.found)
    (collected_in c.collect_election.new.found) (collected_in c.collect_entries.new.found) (collected_in c.collect_entries-in-loop-index.new.found)
    (collected_in c.collect_contests.new.found)
    c.in_ok-collect_election.ensures c.in_ok-collect_entries.ensures c.in_ok-collect_entries-2.ensures c.in_ok-collect_contests.ensures)
