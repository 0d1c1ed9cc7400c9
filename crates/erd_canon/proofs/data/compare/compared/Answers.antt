use Rattle.erd_canon.proofs.Common.{string_bytes, sym, subst, IsUtf8-string_bytes, view, comparison_data}
use Rattle.erd_compare.specs.DifferenceData.{difference_data}
use Rattle.erd_canon.specs.DataAnswers.{IsDataText}
use Rattle.erd_canon.proofs.data_values.DataTexts.{value_text}
use Rattle.erd_canon.proofs.data_values.DataTrees.{difference_value}
use Rattle.erd_canon.proofs.data.compare.compared.Goals as goal

pub returns-in_ok-to_string-in-Some-clause-text : goal.returns-in_ok-to_string-in-Some-clause-text
returns-in_ok-to_string-in-Some-clause-text c =
    let text = c.in_ok-to_string-in-Some in
    subst (λ found. IsDataText (string_bytes text.field-0) (comparison_data found)) (sym c.in-Some.is)
    (value_text (string_bytes text.field-0) (view c.in_ok-to_value-in-Some.field-0) (difference_data c.in-Some.difference)
    (difference_value c.in-Some.difference) c.in_ok-to_value-in-Some.ensures
    text.ensures.text text.ensures.reads_back (IsUtf8-string_bytes text.field-0))
