use Rattle.erd_compare.proofs.Common.{sym, ◌∙◌, subst, true≢false, Some, record_in_election, AreWays, DifferInNames}
use Rattle.erd_compare.proofs.differing.RecordWays.{ways_of_one, ways_of_two}
use Rattle.erd_compare.proofs.objects.held.held_ways.Goals as goal

pub returns-then-is_same_holder : goal.returns-then-is_same_holder
returns-then-is_same_holder c all k l decides a b left right told = ways_of_one all k l a b left right c.args.own (decides.0 c.if-is_same_holder.true) told

pub returns-in_ok-with_election-in-Members : goal.returns-in_ok-with_election-in-Members
returns-in_ok-with_election-in-Members c all k l decides a b left right told =
    subst (DifferInNames all (Some (record_in_election k a)) (Some (record_in_election l b))) (sym c.in_ok-with_election-in-Members.ensures)
    (ways_of_two all k l a b left right _ (λ same. true≢false (sym (decides.1 same) ∙ c.if-is_same_holder.false))
    (subst (AreWays all (Some a) (Some b)) c.in-Members.is told))
