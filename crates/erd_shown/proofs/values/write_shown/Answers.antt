use Rattle.erd_text.proofs.Common.{◌≡◌, ◌++◌, Some, sym, ap, ◌∙◌, inl, inr, Data, array, no_items, view, entries_of, value_tokens}
use Rattle.std.proofs.lemmas.Result.{on_ok_weaker}
use Rattle.erd_text.proofs.WholeValues.{whole_list}
use Rattle.erd_meaning.specs.Records.{unless_empty}
use Rattle.erd_shown.specs.Shown.{set_data, shown_value}
use Rattle.erd_shown.proofs.values.write_shown.Goals as goal

given_unless : (d x v : Data) → unless_empty x d ≡ Some v → x ≡ v
given_unless (array no_items) x v e = cc
given_unless d x v e = cc

pub returns-in-Identifiers : goal.returns-in-Identifiers
returns-in-Identifiers c =
    let π = c.args.report.now.prefer in
    let t = view c.args.report.now.tree in
    let d = view c.args.value.now in
    let entries = c.entries_of-in-Identifiers.ensures in
    let value : shown_value π t c.args.kind d ≡ unless_empty (set_data (entries_of d)) d =
    elim c.in-Identifiers.is [ inl e ↦ ap (λ k. shown_value π t k d) e | inr e ↦ ap (λ k. shown_value π t k d) e ] in
    on_ok_weaker c.write_rising_values.result
    (λ written whole v given.
    written (whole_list d c.entries_of-in-Identifiers.result.now whole entries)
    ∙ ap (λ d. c.args.out.now ++ value_tokens d) (ap set_data entries ∙ given_unless d (set_data (entries_of d)) v (sym value ∙ given)))
    c.write_rising_values.ensures
