use Rattle.erd_meaning.proofs.Common.{◌≡◌, ℕ, true, List, ◌++◌, map, drop, ◌==◌, IsDistinct, view, items_view, AreClear, shown, IfSome, IsHome}
use Rattle.erd_meaning.proofs.references.ClearArrays.{ArePlaced}
use Rattle.erd_meaning.proofs.report.reference_judge.ReferenceJudge.are_clear.Given as goal

abbrev pub invariant-loop-item : goal.invariant-loop-item
invariant-loop-item l =
    let ks = map shown l.self.objects.now.objects in
    let outer = view l.object in
    IfSome l.home (IsHome ks outer)
    × ((ns : List ℕ) → ArePlaced ks outer l.family (map view (drop l.item-index l.items)) ns
    → (l.is_set ≡ true → IsDistinct (λ a b. a == b) (l.positions.items ++ ns)) → AreClear ks outer l.family l.is_set (items_view l.items))
