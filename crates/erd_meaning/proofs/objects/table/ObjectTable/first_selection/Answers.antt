use Rattle.erd_meaning.proofs.Common.{◌≡◌, leb, List, map, sym, ap, ◌∙◌, subst, rules, IsPartitionedBy-leb, IsPartitionPoint-from_clause, IsNonDecreasingBy}
use Rattle.erd_meaning.proofs.Common.{contests_before, IsStart, shown, HeldObjects}
use Rattle.erd_meaning.proofs.selections.ContestSelections.{before_rising}
use Rattle.erd_meaning.proofs.objects.table.ObjectTable.first_selection.Goals as goal

pub returns : goal.returns
returns c =
    let xs = c.deref.result.now in
    let are : xs ≡ contests_before 0 (map shown c.args.self.now.objects) =
    c.deref.ensures.value ∙ c.self.invariant.contests_are ∙ ap (λ (os : HeldObjects). contests_before 0 (map shown os.objects)) c.self.view_is in
    let parted = IsPartitionedBy-leb (λ n. n) xs c.args.contest
    (subst (IsNonDecreasingBy (λ n. n)) (sym are) (before_rising (map shown c.args.self.now.objects))) in
    let point = IsPartitionPoint-from_clause (λ n. leb n c.args.contest) xs c.partition_point.result c.partition_point.ensures.partitioned parted
    (λ a r q k. search rules) in
    subst (λ ns. IsStart ns c.args.contest c.partition_point.result) are (c.partition_point.ensures.bound, point)
