use Rattle.erd_compare.proofs.Common.{◌≤◌, ℕ, List, view, MemberMap, IsMapOf, DecideNames}
use Rattle.std.specs.declared.result.Result.TheVariants.{Ok}
use Rattle.erd_compare.specs.code.DifferingNames.{AreFound, StandInPair, count_left}
use Rattle.erd_compare.proofs.objects.differing_names.PairsLeft.next_differing.Given as goal

abbrev pub invariant-loop-name : goal.invariant-loop-name
invariant-loop-name g l =
    let d = view l.initial.self.one.now in
    let e = view l.initial.self.other.now in
    record {
      count : count_left l.self ≤ count_left l.initial.self;
      stand : StandInPair d e l.self;
      left : (m n : MemberMap) (found : List (List ℕ)) → IsMapOf d m → IsMapOf e n → DecideNames (λ pair answer. goal.F-post g l.is_same pair (Ok answer)) d e m
          n → AreFound m n found l.initial.self → AreFound m n found l.self;
    }

abbrev pub decreases-loop-name : goal.decreases-loop-name
decreases-loop-name g l = count_left l.self
