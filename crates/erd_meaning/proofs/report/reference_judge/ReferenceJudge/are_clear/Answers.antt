use Rattle.erd_meaning.proofs.Common.{ℕ, List, [], ◌∷◌, ◌++◌, map, ◌==◌, vec_items, sym, ap, ◌∙◌, subst, true≢false, append_assoc, append-nil, IsDistinct, view}
use Rattle.erd_meaning.proofs.Common.{shown}
use Rattle.erd_meaning.proofs.references.ClearArrays.{clear_array, none_left, placed_left}
use Rattle.erd_meaning.proofs.report.reference_judge.ReferenceJudge.are_clear.Goals.{then-is_set+in_ok-push, else-is_set}
use Rattle.erd_meaning.proofs.report.reference_judge.ReferenceJudge.are_clear.Goals as goal

pub loop-item-init : goal.loop-item-init
loop-item-init c = (
  tt,
  λ ns placed differ.
      clear_array (map shown c.args.self.now.objects.now.objects) (view c.args.object.now) c.args.family c.args.is_set (map view c.args.items.now) ns placed
      (λ t. subst (λ (ms : List ℕ). IsDistinct (λ a b. a == b) (ms ++ ns)) c.new-positions.ensures.items (differ t)),
)

pub loop-item-preserved : goal.loop-item-preserved
loop-item-preserved c = (
  c.clear_position.ensures.home,
  λ ns placed differ.
      let n = c.in-Some.position in
      let before = c.loop-item.positions.items in
      c.loop-item.invariant.1 (n ∷ ns)
      (placed_left (map shown c.args.self.now.objects.now.objects) (view c.args.object.now) c.args.family c.args.items.now c.loop-item.item-index
      c.item-item.result n ns c.loop-item-test.true c.item-item.is c.in-Some.ensures.clear placed)
      (λ t. elim c.if-is_set.branch [
        | then-is_set+in_ok-push w ↦ subst (IsDistinct (λ a b. a == b))
            (ap (λ (ms : List ℕ). ms ++ ns) (ap vec_items w.positions-is ∙ w.in_ok-push.ensures.items) ∙ append_assoc before (n ∷ []) ns) (differ t)
        | else-is_set w ↦ absurd (true≢false (sym t ∙ w.if-is_set.false))
      ]),
)

pub returns : goal.returns
returns c distinct =
    let before = c.loop-item.positions.items in
    c.loop-item.invariant.1 [] (none_left (map shown c.args.self.now.objects.now.objects) (view c.args.object.now) c.args.family c.args.items.now
    c.loop-item.item-index c.loop-item-test.false)
    (λ t. subst (IsDistinct (λ a b. a == b)) (sym (append-nil before)) (c.are_distinct.ensures distinct))
