use Rattle.erd_compare.proofs.Common.{at_low, ◌≡◌, ◌+◌, ◌<◌, ◌≤◌, ◌++◌, length, drop, map, Some, None, sym, ap, ◌∙◌, subst, option_copied, array, view}
use Rattle.serde_json.specs.View.{items_of}
use Rattle.serde_json.proofs.Views.{view-Array}
use Rattle.erd_compare.specs.DifferenceLine.{key_as_json}
use Rattle.erd_compare.proofs.contest_selections.SelectionLists.{all_values, one_value}
use Rattle.erd_compare.proofs.selection_value.keys_value.Goals.{in-Some+in_ok-key_value+in_ok-push, in_default}
use Rattle.erd_compare.proofs.selection_value.keys_value.Goals as goal

pub loop-index-preserved : goal.loop-index-preserved
loop-index-preserved c =
    let ks = c.args.name.now.keys in
    let i = c.loop-index.index in
    let low : i < length ks = subst (λ n. i < n) c.key_count-count.ensures c.loop-index-test.true in
    elim c.match-key_at.branch [
      | in-Some+in_ok-key_value+in_ok-push w ↦ subst (λ x. map view x.items ++ map key_as_json (drop (i + 1) ks) ≡ map key_as_json ks) (sym w.keys-is)
          (one_value key_as_json ks i w.in-Some.key.now c.loop-index.keys.items w.push.new.self.items _ (sym c.key_at.ensures ∙ ap option_copied w.in-Some.is)
          c.loop-index.invariant w.in_ok-key_value.ensures w.in_ok-push.ensures.items)
      | in_default w ↦ let some = at_low ks i low in
          let clash : None ≡ Some some.0 = sym (ap option_copied w.in_default.is) ∙ (c.key_at.ensures ∙ some.1) in
          absurd (cc clash)
    ]

pub returns : goal.returns
returns c =
    let ks = c.args.name.now.keys in
    let i = c.loop-index.index in
    view-Array c.loop-index.keys
    ∙ ap (λ ds. array (items_of ds)) (all_values key_as_json ks i c.loop-index.keys.items c.loop-index.invariant
    (subst (λ n. n ≤ i) c.key_count-count.ensures c.loop-index-test.false))
