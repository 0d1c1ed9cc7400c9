use Rattle.std.proofs.Common.{◌≡◌, [], List, map, subst, sym}
use Rattle.std.specs.Result.{OnOk}
use Rattle.std.proofs.lemmas.Result.{on_ok_weaker}
use Rattle.serde_json.specs.View.{view}
use Rattle.erd_prepare.proofs.Preparing.{added_where}
use Rattle.erd_prepare.specs.Preparations.{IsOtherTold, IsUnmoved}
use Rattle.erd_prepare.specs.declared.step_done.StepDone.{StepDone}
use Rattle.erd_prepare.proofs.preparation.tell_other.Goals as goal

pub returns-in_ok-done-in-Told-clause-told : goal.returns-in_ok-done-in-Told-clause-told
returns-in_ok-done-in-Told-clause-told c =
    subst (λ o. OnOk c.tell.result ((dones : List StepDone) → (IsUnmoved dones → c.args.so_far.now.moves.items ≡ [])
    → IsOtherTold o c.args.step dones (view c.args.tree.now) (map view c.args.so_far.now.told.items) (map view c.tell.new.self.told.items))) (sym c.in-Told.is)
    (on_ok_weaker c.tell.result
    (λ told dones only. (c.in_ok-done-in-Told.done, c.in_ok-done-in-Told.ensures.done, added_where _ (IsUnmoved dones) only _ _ _ _ _ _ told))
    c.tell.ensures.told)
