use Rattle.erd_normal.proofs.Common.{◌≡◌, List, ◌++◌, map, sym, ap, ◌∙◌, inl, inr, Data, view, entries_of, rising_list, compact_cmp, on_ok_weaker}
use Rattle.erd_normal.proofs.Common.{normal_selection_reference, unless_empty, array_of, normal_value, value_tokens}
use Rattle.erd_text.proofs.StableRising.{map_after}
use Rattle.erd_text.proofs.WholeValues.{whole_list}
use Rattle.erd_meaning.proofs.EmptyLists.{given_unless}
use Rattle.erd_normal.proofs.values.value_of_kind.write_of_kind.Goals as goal

pub returns-in-Identifiers : goal.returns-in-Identifiers
returns-in-Identifiers c =
    let π = c.args.writer.now.prefer in
    let t = view c.args.writer.now.tree in
    let d = view c.args.value.now in
    let entries = c.entries_of-in-Identifiers.ensures in
    let built : Data = array_of (rising_list compact_cmp (entries_of d)) in
    let value : normal_value π t c.args.kind d ≡ unless_empty built d =
    elim c.in-Identifiers.is [ inl e ↦ ap (λ k. normal_value π t k d) e | inr e ↦ ap (λ k. normal_value π t k d) e ] in
    on_ok_weaker c.write_rising_values.result
    (λ written whole v given.
    written (whole_list d c.entries_of-in-Identifiers.result.now whole entries)
    ∙ ap (λ d. c.args.out.now ++ value_tokens d) (ap (λ (ds : List Data). array_of (rising_list compact_cmp ds)) entries
    ∙ given_unless d built v (sym value ∙ given)))
    c.write_rising_values.ensures

pub returns-in-Ordered : goal.returns-in-Ordered
returns-in-Ordered c =
    let π = c.args.writer.now.prefer in
    let t = view c.args.writer.now.tree in
    let d = view c.args.value.now in
    let built : Data = array_of (map (normal_selection_reference π t) (entries_of d)) in
    let value : normal_value π t c.args.kind d ≡ unless_empty built d = ap (λ k. normal_value π t k d) c.in-Ordered.is in
    on_ok_weaker c.write_selection_references.result
    (λ written whole v given.
    written ∙ ap (λ d. c.args.out.now ++ value_tokens d)
    (ap array_of (map_after view (normal_selection_reference π t) c.entries_of-in-Ordered.result.now
    ∙ ap (map (normal_selection_reference π t)) c.entries_of-in-Ordered.ensures) ∙ given_unless d built v (sym value ∙ given)))
    c.write_selection_references.ensures
