use Rattle.erd_compare.proofs.Common.{◌≡◌, [], false, map, view, member_of_class}
use Rattle.erd_compare.specs.code.DifferingNames.{AreFound, StandInPair, count_left}
use Rattle.erd_compare.proofs.objects.records.differing_members.Given as goal

abbrev pub invariant-loop-found : goal.invariant-loop-found
invariant-loop-found l =
    let d = view l.one.value.now in
    let e = view l.other.value.now in
    record {
      stand : StandInPair d e l.left;
      none : l.all ≡ false → l.found.items ≡ [];
      left : AreFound (member_of_class l.comparer.left.prefer (view l.comparer.left.tree) d l.class)
          (member_of_class l.comparer.right.prefer (view l.comparer.right.tree) e l.class) (map (λ s. s.now) l.found.items) l.left;
    }

abbrev pub decreases-loop-found : goal.decreases-loop-found
decreases-loop-found l = count_left l.left
