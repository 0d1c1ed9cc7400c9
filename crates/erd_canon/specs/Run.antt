-- What a run reads and writes if it ends with an outcome.
use Rattle.std.specs.Prelude.{◌≡◌, ◌⊎◌, ℕ, List, [], ◌∷◌, map, codes, Option, Some, None}
use Rattle.std.specs.Io.KnownBytes.{Appends}
use Rattle.erd_tables.specs.Faults.{fault_line}
use Rattle.erd_tables.specs.declared.fault.Fault.{Fault}
use Rattle.erd_compare.specs.declared.difference.Difference.{Difference}
use Rattle.erd_canon.specs.declared.engines.outcome.Outcome.{Outcome}
use Rattle.erd_canon.specs.declared.engines.outcome.Outcome.TheVariants.{Good, Bad, NotJson}
use Rattle.erd_canon.specs.Bytes.{IsNotJson, IsCanonicalBytes}
use Rattle.erd_canon.specs.EngineTexts.{IsCanonicalErrors, IsCanonicalOutput, IsCheckText, IsCompareText, IsComparison, IsRefusal, IsRefusedReport}
use Rattle.erd_canon.specs.EngineTexts.{comparison_line, lines_of_side, text_of_lines}
use Rattle.erd_canon.specs.Reading.{IsReadWhole}
use Rattle.erd_canon.specs.Refused.{IsSomeReport}
use Rattle.erd_meaning.specs.Keys.{Preference}

-- The bytes are a refused report, and the text has one line for each of its faults.
abbrev pub IsToldFaults : Preference → List ℕ → List ℕ → Type 0
IsToldFaults π bytes text = (faults : List Fault) × IsRefusedReport π bytes faults × (text ≡ text_of_lines (map fault_line faults))

-- The bytes are not JSON, and the text says so.
abbrev pub IsToldNotJson : List ℕ → List ℕ → Type 0
IsToldNotJson bytes text = IsNotJson bytes × (text ≡ text_of_lines (codes "not JSON" ∷ []))

-- Checking the bytes ends with this outcome and writes this text.
abbrev pub IsChecked : Preference → List ℕ → Outcome → List ℕ → Type 0
IsChecked π bytes Good out = IsSomeReport π bytes × (out ≡ text_of_lines (codes "accepted" ∷ []))
IsChecked π bytes Bad out = IsToldFaults π bytes out
IsChecked π bytes NotJson out = IsToldNotJson bytes out

-- Canonicalising the bytes ends with this outcome and writes these texts, one to its output and one to its errors.
abbrev pub IsAnswered : Preference → List ℕ → Outcome → List ℕ → List ℕ → Type 0
IsAnswered π bytes Good out err = IsCanonicalBytes π bytes out × (err ≡ [])
IsAnswered π bytes Bad out err = IsToldFaults π bytes err × (out ≡ [])
IsAnswered π bytes NotJson out err = IsToldNotJson bytes err × (out ≡ [])

-- The input on one side is refused with this outcome, and the text says why, with the name of the side in each line.
abbrev pub IsSideRefused : Preference → List ℕ → List ℕ → Outcome → List ℕ → Type 0
IsSideRefused π side bytes Good out = ⊥
IsSideRefused π side bytes Bad out = (faults : List Fault) × IsRefusedReport π bytes faults × (out ≡ text_of_lines (lines_of_side side (map fault_line faults)))
IsSideRefused π side bytes NotJson out = IsNotJson bytes × (out ≡ text_of_lines (lines_of_side side (codes "not JSON" ∷ [])))

-- The outcome of comparing two accepted reports: good if they mean the same, and bad if they differ.
abbrev pub comparison_outcome : Option Difference → Outcome
comparison_outcome None = Good
comparison_outcome (Some d) = Bad

-- Comparing the two inputs ends with this outcome and writes this text.
abbrev pub IsCompared : Preference → List ℕ → List ℕ → Outcome → List ℕ → Type 0
IsCompared π left right outcome out =
    IsSideRefused π (codes "left: ") left outcome out
    ⊎ ((IsSomeReport π left × IsSideRefused π (codes "right: ") right outcome out)
    ⊎ ((found : Option Difference) × IsComparison π left right found × (outcome ≡ comparison_outcome found)
    × (out ≡ text_of_lines (comparison_line found ∷ []))))

-- Checking the input ends with this outcome. If the bytes of the writer are known, what checking writes was written, and
-- nothing else.
pub record IsCheckWritten (π : Preference) (bytes : List ℕ) (outcome : Outcome) (before after : Option (List ℕ)) : Type 0 where
  pub text : List ℕ
  pub checked : IsChecked π bytes outcome text
  pub wrote : Appends before after text

-- Canonicalising the input ends with this outcome. If the bytes of the writers are known, what it writes was written to
-- each, and nothing else.
pub record IsAnswerWritten (π : Preference) (bytes : List ℕ) (outcome : Outcome) (out_before out_after err_before err_after : Option (List ℕ)) : Type 0 where
  pub out_text : List ℕ
  pub err_text : List ℕ
  pub answered : IsAnswered π bytes outcome out_text err_text
  pub wrote_out : Appends out_before out_after out_text
  pub wrote_err : Appends err_before err_after err_text

-- Comparing the two inputs ends with this outcome. If the bytes of the writer are known, what comparing writes was written,
-- and nothing else.
pub record IsCompareWritten (π : Preference) (left right : List ℕ) (outcome : Outcome) (before after : Option (List ℕ)) : Type 0 where
  pub text : List ℕ
  pub compared : IsCompared π left right outcome text
  pub wrote : Appends before after text

-- What is known of a check with this outcome. If the bytes of the devices are known: the reader was read to its end within the
-- limit, and checking its bytes ends with this outcome. What checking writes was written, and nothing else.
pub record IsWholeCheck (π : Preference) (limit : ℕ) (outcome : Outcome) (before after out_before out_after : Option (List ℕ)) : Type 0 where
  pub input : List ℕ
  pub whole : IsReadWhole limit before after input
  pub written : IsCheckWritten π input outcome out_before out_after

-- What is known of canonicalising with this outcome. If the bytes of the devices are known: the reader was read to its end
-- within the limit, and canonicalising its bytes ends with this outcome. What that writes was written, and nothing else.
pub record IsWholeRun (π : Preference) (limit : ℕ) (outcome : Outcome) (before after out_before out_after err_before err_after : Option (List ℕ)) : Type 0 where
  pub input : List ℕ
  pub whole : IsReadWhole limit before after input
  pub written : IsAnswerWritten π input outcome out_before out_after err_before err_after

-- What was read is an accepted report. If the bytes of the reader are known: it was read to its end within the limit.
pub record IsAcceptedInput (π : Preference) (limit : ℕ) (before after : Option (List ℕ)) : Type 0 where
  pub input : List ℕ
  pub whole : IsReadWhole limit before after input
  pub accepted : IsSomeReport π input

-- What was read is refused. If the bytes of the reader are known: it was read to its end within the limit.
pub record IsRefusedInput (π : Preference) (limit : ℕ) (before after : Option (List ℕ)) : Type 0 where
  pub input : List ℕ
  pub lines : List (List ℕ)
  pub whole : IsReadWhole limit before after input
  pub refused : IsRefusal π input lines

-- What is known of a comparison with this outcome. If the bytes of the devices are known: both readers were read to their ends
-- within the limit, and comparing their bytes ends with this outcome. What comparing writes was written, and nothing else.
pub record IsWholeCompare (π : Preference) (limit : ℕ) (outcome : Outcome)
    (left_before left_after right_before right_after out_before out_after : Option (List ℕ)) : Type 0 where
  pub left : List ℕ
  pub right : List ℕ
  pub left_whole : IsReadWhole limit left_before left_after left
  pub right_whole : IsReadWhole limit right_before right_after right
  pub written : IsCompareWritten π left right outcome out_before out_after

-- What a check read and wrote. If the bytes of the devices are known: the reader was read to its end within the limit, and a text
-- that `IsCheckText` allows for its bytes was written, and nothing else.
pub record IsToldCheck (π : Preference) (limit : ℕ) (before after out_before out_after : Option (List ℕ)) : Type 0 where
  pub input : List ℕ
  pub text : List ℕ
  pub whole : IsReadWhole limit before after input
  pub is_text : IsCheckText π input text
  pub wrote : Appends out_before out_after text

-- What canonicalising read and wrote. If the bytes of the devices are known: the reader was read to its end within the limit, and
-- texts that `IsCanonicalOutput` and `IsCanonicalErrors` allow for its bytes were written, and nothing else.
pub record IsToldRun (π : Preference) (limit : ℕ) (before after out_before out_after err_before err_after : Option (List ℕ)) : Type 0 where
  pub input : List ℕ
  pub out_text : List ℕ
  pub err_text : List ℕ
  pub whole : IsReadWhole limit before after input
  pub output : IsCanonicalOutput π input out_text
  pub errors : IsCanonicalErrors π input err_text
  pub wrote_out : Appends out_before out_after out_text
  pub wrote_err : Appends err_before err_after err_text

-- What a comparison read and wrote. If the bytes of the devices are known: both readers were read to their ends within the limit,
-- and a text that `IsCompareText` allows for their bytes was written, and nothing else.
pub record IsToldCompare (π : Preference) (limit : ℕ) (left_before left_after right_before right_after out_before out_after : Option (List ℕ)) : Type 0 where
  pub left : List ℕ
  pub right : List ℕ
  pub text : List ℕ
  pub left_whole : IsReadWhole limit left_before left_after left
  pub right_whole : IsReadWhole limit right_before right_after right
  pub is_text : IsCompareText π left right text
  pub wrote : Appends out_before out_after text
