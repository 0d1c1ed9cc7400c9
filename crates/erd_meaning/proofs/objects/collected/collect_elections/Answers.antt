use Rattle.erd_meaning.proofs.Common.{◌≡◌, Bool, [], ◌∷◌, ◌++◌, IfOk, nat_lt, codes, flat_map, ap, subst, view, Name, elections, election_located}
use Rattle.erd_meaning.specs.code.CollectedWalks.{collected_in}
use Rattle.erd_meaning.proofs.finding.ElectionsHeld.{as_many}
use Rattle.erd_meaning.proofs.objects.collected.collect_elections.Goals as goal

pub returns : goal.returns
returns c =
    let many = as_many (Name (codes "Election") ∷ []) c.entries_at.result.now c.entries_at.ensures in
    subst (λ (b : Bool). IfOk c.collect_each_election.result
    (λ _. collected_in c.collect_each_election.new.found ≡ collected_in c.args.found.now ++ flat_map (election_located c.args.keys.now b)
    (elections (view c.args.report.now))))
    (ap (nat_lt 1) many) c.collect_each_election.ensures
