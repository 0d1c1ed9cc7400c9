use Rattle.erd_compare.proofs.Common.{◌≡◌, ◌∙◌, length, slice_get, slice_get_read, Some, refl, ap, array}
use Rattle.serde_json.specs.View.{items_of}
use Rattle.serde_json.proofs.Views.{view-Array}
use Rattle.erd_compare.specs.SelectionData.{selection_data}
use Rattle.erd_compare.proofs.contest_selections.SelectionLists.{all_values, one_value}
use Rattle.erd_compare.proofs.selection_value.selections_value.Goals as goal

pub loop-selection-preserved : goal.loop-selection-preserved
loop-selection-preserved c =
    let here : slice_get c.args.selections.now c.loop-selection.selection-index ≡ Some c.selection-item.result =
    slice_get_read c.args.selections.now (length c.args.selections.now) c.loop-selection.selection-index c.selection-item.result refl
    c.loop-selection-test.true c.selection-item.is in
    one_value selection_data c.args.selections.now c.loop-selection.selection-index c.selection-item.result c.loop-selection.values.items c.push.new.self.items
    _ here c.loop-selection.invariant c.in_ok-to_value.ensures c.in_ok-push.ensures.items

pub returns : goal.returns
returns c =
    view-Array c.loop-selection.values
    ∙ ap (λ ds. array (items_of ds)) (all_values selection_data c.args.selections.now c.loop-selection.selection-index c.loop-selection.values.items
    c.loop-selection.invariant c.loop-selection-test.false)
