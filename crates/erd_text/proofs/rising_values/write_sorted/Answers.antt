use Rattle.erd_text.proofs.Common.{◌≡◌, List, ◌++◌, map, ap, ◌∙◌, nat_list_cmp_total, Data, array, items_of, view, items_have_float, compact_text, text_cmp}
use Rattle.erd_text.proofs.Common.{rising_list, compact_cmp, value_tokens}
use Rattle.std.proofs.lemmas.Result.{on_ok_weaker}
use Rattle.erd_text.proofs.StableRising.{rising_by_part}
use Rattle.erd_text.proofs.WholeValues.{whole_rising}
use Rattle.erd_text.proofs.rising_values.write_sorted.Goals as goal

pub returns : goal.returns
returns c =
    on_ok_weaker c.write_each.result
    (λ written whole.
    let rising : map (λ p. view p.1.now) c.deref.result.now ≡ rising_list compact_cmp (map view c.args.values.now) =
    ap (map (λ p. view p.1.now)) c.deref.ensures.value
    ∙ rising_by_part text_cmp nat_list_cmp_total compact_text (λ r. view r.now) view c.in_ok-pairs.pairs.items c.in_ok-sorted.sorted.items c.args.values.now
    c.in_ok-sorted.ensures (c.in_ok-pairs.ensures whole) in
    written (ap (λ ds. items_have_float (items_of ds)) rising ∙ whole_rising compact_cmp (map view c.args.values.now) whole)
    ∙ ap (λ (ds : List Data). c.args.out.now ++ value_tokens (array (items_of ds))) rising)
    c.write_each.ensures
