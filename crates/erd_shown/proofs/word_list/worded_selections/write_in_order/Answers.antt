use Rattle.erd_shown.proofs.Common.{◌≡◌, ◌++◌, map, ap, ◌∙◌, on_ok_weaker, view, name_cmp, name_cmp_total, rising_list, by_first, value_tokens}
use Rattle.erd_text.proofs.StableRising.{rising_from_stable}
use Rattle.erd_shown.specs.KeyData.{array_of}
use Rattle.erd_shown.proofs.SelectionPairs.{values_whole}
use Rattle.erd_shown.proofs.WordedPairs.{words_sorted}
use Rattle.erd_shown.proofs.word_list.worded_selections.write_in_order.Goals as goal

pub returns : goal.returns
returns c =
    let π = c.args.report.now.prefer in
    let t = view c.args.report.now.tree in
    let ds = map view c.args.selections.now in
    let old = c.in_ok-named_selections.field-0.items in
    let sorted = c.deref.result.now in
    let rising : sorted ≡ rising_list (by_first name_cmp) old =
    c.deref.ensures.value ∙ rising_from_stable name_cmp name_cmp_total old c.in_ok-pairs.pairs.items c.in_ok-pairs.ensures in
    on_ok_weaker c.write_pairs.result
    (λ written named whole.
    written (values_whole π t ds old sorted (c.in_ok-named_selections.ensures named) rising whole)
    ∙ ap (λ rs. c.args.out.now ++ value_tokens (array_of rs)) (words_sorted π t ds old sorted (c.in_ok-named_selections.ensures named) rising))
    c.write_pairs.ensures
