-- What a run reads and writes that answers with one text, whatever the text is. `Answers` says which outcome and which text go
-- with the bytes that were read.
use Rattle.std.specs.Prelude.{◌≡◌, ◌≢◌, ◌↔◌, ◌⊎◌, ◌+◌, ◌++◌, ◌<◌, ◌≤◌, ℕ, List, [], ◌∷◌, Option, true, Result, Err, IfOk, IfErr, IsErrOf, OnOk, codes, map}
use Rattle.std.specs.Io.KnownBytes.{Appends, IsAtEnd}
use Rattle.erd_canon.specs.DataAnswers.{IsCheckedData, IsComparedData, listing_outcome}
use Rattle.erd_canon.specs.Devices.{BeforeAfter, Reader, Writer}
use Rattle.erd_canon.specs.EngineTexts.{AreCompared, text_of_lines}
use Rattle.erd_canon.specs.Limits.{most_bytes, most_reads}
use Rattle.erd_canon.specs.Reading.{Exceeds, IsReadWhole}
use Rattle.erd_canon.specs.Refused.{IsSomeReport}
use Rattle.erd_canon.specs.Run.{IsSideRefused}
use Rattle.erd_canon.specs.ValuedAnswers.{IsValuesList}
use Rattle.erd_canon.specs.Writing.{IsPartWritten}
use Rattle.erd_canon.specs.declared.engines.outcome.Outcome.{Outcome}
use Rattle.erd_canon.specs.declared.engines.outcome.RunFault.{RunFault}
use Rattle.erd_canon.specs.declared.engines.outcome.RunFault.TheVariants.{TooLong, Read, Write}
use Rattle.erd_compare.specs.DifferenceLine.{difference_line}
use Rattle.erd_compare.specs.declared.difference.Difference.{Difference}
use Rattle.erd_meaning.specs.Keys.{Preference}

-- The text is a line that `Says` allows, with one line feed at its end.
abbrev pub IsLineOf : (List ℕ → Type 0) → List ℕ → Type 0
IsLineOf Says text = (line : List ℕ) × Says line × (text ≡ line ++ 10 ∷ [])

-- Checking the bytes ends with this outcome and answers this line of JSON.
abbrev pub IsCheckLine : Preference → List ℕ → Outcome → List ℕ → Type 0
IsCheckLine π bytes outcome text = IsLineOf (IsCheckedData π bytes outcome) text

-- Comparing the two inputs ends with this outcome and answers this line of JSON.
abbrev pub IsCompareLine : Preference → List ℕ → List ℕ → Outcome → List ℕ → Type 0
IsCompareLine π left right outcome text = IsLineOf (IsComparedData π left right outcome) text

-- Listing the differences with their values ends with this outcome and answers this line of JSON.
abbrev pub IsListLine : Preference → List ℕ → List ℕ → Outcome → List ℕ → Type 0
IsListLine π left right outcome text = IsLineOf (IsValuesList π left right outcome) text

-- The lines for the differences of two accepted reports: `same` if there are none, or else one for each.
abbrev pub listing_lines : List Difference → List (List ℕ)
listing_lines [] = codes "same" ∷ []
listing_lines (d ∷ ds) = map difference_line (d ∷ ds)

-- What is asked of two inputs ends with this outcome and writes this text: why the left input is refused, else why the right one
-- is refused, as a comparison has it, else what `Both` says of two accepted reports.
abbrev pub IsPairTold : Preference → (List ℕ → List ℕ → Outcome → List ℕ → Type 0) → List ℕ → List ℕ → Outcome → List ℕ → Type 0
IsPairTold π Both left right outcome out =
    IsSideRefused π (codes "left: ") left outcome out
    ⊎ ((IsSomeReport π left × IsSideRefused π (codes "right: ") right outcome out)
    ⊎ Both left right outcome out)

-- The text has a line for each difference of two accepted reports.
abbrev pub AreListed : Preference → List ℕ → List ℕ → Outcome → List ℕ → Type 0
AreListed π left right outcome out = (found : List Difference) × AreCompared π left right found × (outcome ≡ listing_outcome found)
    × (out ≡ text_of_lines (listing_lines found))

-- Listing the differences of the two inputs ends with this outcome and writes this text: why an input is refused, else a line for
-- each difference.
abbrev pub IsListed : Preference → List ℕ → List ℕ → Outcome → List ℕ → Type 0
IsListed π = IsPairTold π (AreListed π)

-- The run on the input ends with this outcome. If the bytes of the writer are known, its text was written, and nothing else.
pub record IsReportWritten (Answers : List ℕ → Outcome → List ℕ → Type 0) (bytes : List ℕ) (outcome : Outcome) (before after : Option (List ℕ)) : Type 0 where
  pub text : List ℕ
  pub answers : Answers bytes outcome text
  pub wrote : Appends before after text

-- The run on the input has this text. If the bytes of the writer are known, a first part of the text was written, and nothing
-- else.
pub record IsReportPartWritten (Answers : List ℕ → Outcome → List ℕ → Type 0) (bytes : List ℕ) (before after : Option (List ℕ)) : Type 0 where
  pub outcome : Outcome
  pub text : List ℕ
  pub answers : Answers bytes outcome text
  pub part : IsPartWritten before after text

-- The run on the two inputs ends with this outcome. If the bytes of the writer are known, its text was written, and nothing else.
pub record IsPairWritten (Answers : List ℕ → List ℕ → Outcome → List ℕ → Type 0) (left right : List ℕ) (outcome : Outcome)
    (before after : Option (List ℕ)) : Type 0 where
  pub text : List ℕ
  pub answers : Answers left right outcome text
  pub wrote : Appends before after text

-- The run on the two inputs has this text. If the bytes of the writer are known, a first part of the text was written, and
-- nothing else.
pub record IsPairPartWritten (Answers : List ℕ → List ℕ → Outcome → List ℕ → Type 0) (left right : List ℕ) (before after : Option (List ℕ)) : Type 0 where
  pub outcome : Outcome
  pub text : List ℕ
  pub answers : Answers left right outcome text
  pub part : IsPartWritten before after text

-- If the bytes of the devices are known: the reader was read to its end within the limit, and the text for its bytes was
-- written, and nothing else.
pub record IsWholeReport (Answers : List ℕ → Outcome → List ℕ → Type 0) (limit : ℕ) (outcome : Outcome)
    (before after out_before out_after : Option (List ℕ)) : Type 0 where
  pub input : List ℕ
  pub whole : IsReadWhole limit before after input
  pub written : IsReportWritten Answers input outcome out_before out_after

-- If the bytes of the devices are known: the reader was read to its end within the limit, and a first part of the text for its
-- bytes was written, and nothing else.
pub record IsBrokenReport (Answers : List ℕ → Outcome → List ℕ → Type 0) (limit : ℕ) (before after out_before out_after : Option (List ℕ)) : Type 0 where
  pub input : List ℕ
  pub whole : IsReadWhole limit before after input
  pub written : IsReportPartWritten Answers input out_before out_after

-- If the bytes of the devices are known: both readers were read to their ends within the limit, and the text for their bytes was
-- written, and nothing else.
pub record IsWholePair (Answers : List ℕ → List ℕ → Outcome → List ℕ → Type 0) (limit : ℕ) (outcome : Outcome)
    (left_before left_after right_before right_after out_before out_after : Option (List ℕ)) : Type 0 where
  pub left : List ℕ
  pub right : List ℕ
  pub left_whole : IsReadWhole limit left_before left_after left
  pub right_whole : IsReadWhole limit right_before right_after right
  pub written : IsPairWritten Answers left right outcome out_before out_after

-- If the bytes of the devices are known: both readers were read to their ends within the limit, and a first part of the text for
-- their bytes was written, and nothing else.
pub record IsBrokenPair (Answers : List ℕ → List ℕ → Outcome → List ℕ → Type 0) (limit : ℕ)
    (left_before left_after right_before right_after out_before out_after : Option (List ℕ)) : Type 0 where
  pub left : List ℕ
  pub right : List ℕ
  pub left_whole : IsReadWhole limit left_before left_after left
  pub right_whole : IsReadWhole limit right_before right_after right
  pub written : IsPairPartWritten Answers left right out_before out_after

-- A report was read, and the text for its bytes was written, with this answer.
pub record IsReportRun {S O : Type 0} (source : Reader S) (sink : Writer O) (Answers : List ℕ → Outcome → List ℕ → Type 0) (answer : Result Outcome RunFault)
    (reader : BeforeAfter S) (out : BeforeAfter O) : Type 0 where
  -- What an outcome means.
  pub whole : IfOk answer (λ outcome. IsWholeReport Answers most_bytes outcome (source.remaining reader.before) (source.remaining reader.after)
      (sink.contents out.before) (sink.contents out.after))
  pub flushed : OnOk answer (sink.is_flushed out.after ≡ true)
  -- If the fault is not `Write`, nothing was written or flushed. If it is, the writer holds a first part of the text.
  pub quiet : IfErr answer (λ fault. fault ≢ Write → out.after ≡ out.before)
  pub broken : answer ≡ Err Write → IsBrokenReport Answers most_bytes (source.remaining reader.before) (source.remaining reader.after)
      (sink.contents out.before) (sink.contents out.after)
  -- When each fault is returned.
  pub read : IsErrOf answer Read ↔ (source.has_failed reader.after ≡ true)
  pub write : IsErrOf answer Write ↔ (sink.has_failed out.after ≡ true)
  pub too_long : answer ≡ Err TooLong → Exceeds most_bytes (source.remaining reader.before) (source.remaining reader.after)
  pub too_many : answer ≡ Err TooLong → source.given reader.before + most_bytes < source.given reader.after
  pub calls : source.reads reader.after ≤ source.reads reader.before + most_reads

-- Two reports were read, and the text for their bytes was written, with this answer.
pub record IsPairRun {S T O : Type 0} (lefts : Reader S) (rights : Reader T) (sink : Writer O) (Answers : List ℕ → List ℕ → Outcome → List ℕ → Type 0)
    (answer : Result Outcome RunFault) (left : BeforeAfter S) (right : BeforeAfter T) (out : BeforeAfter O) : Type 0 where
  -- What an outcome means.
  pub whole : IfOk answer (λ outcome. IsWholePair Answers most_bytes outcome (lefts.remaining left.before) (lefts.remaining left.after)
      (rights.remaining right.before) (rights.remaining right.after) (sink.contents out.before) (sink.contents out.after))
  pub flushed : OnOk answer (sink.is_flushed out.after ≡ true)
  -- If the fault is not `Write`, nothing was written or flushed. If it is, the writer holds a first part of the text.
  pub quiet : IfErr answer (λ fault. fault ≢ Write → out.after ≡ out.before)
  pub broken : answer ≡ Err Write → IsBrokenPair Answers most_bytes (lefts.remaining left.before) (lefts.remaining left.after)
      (rights.remaining right.before) (rights.remaining right.after) (sink.contents out.before) (sink.contents out.after)
  -- The right reader is read only after the left one was read to its end, and not after a read of the left one failed.
  pub left_first : (right.after ≡ right.before) ⊎ IsAtEnd (lefts.remaining left.after)
  pub left_failed : lefts.has_failed left.after ≡ true → right.after ≡ right.before
  -- When each fault is returned. If the left report is too long, the right one is not read.
  pub read : IsErrOf answer Read ↔ ((lefts.has_failed left.after ≡ true) ⊎ (rights.has_failed right.after ≡ true))
  pub write : IsErrOf answer Write ↔ (sink.has_failed out.after ≡ true)
  pub too_long : answer ≡ Err TooLong
      → (Exceeds most_bytes (lefts.remaining left.before) (lefts.remaining left.after) × (right.after ≡ right.before))
      ⊎ Exceeds most_bytes (rights.remaining right.before) (rights.remaining right.after)
  pub too_many : answer ≡ Err TooLong
      → ((lefts.given left.before + most_bytes < lefts.given left.after) × (right.after ≡ right.before))
      ⊎ (rights.given right.before + most_bytes < rights.given right.after)
  pub left_calls : lefts.reads left.after ≤ lefts.reads left.before + most_reads
  pub right_calls : rights.reads right.after ≤ rights.reads right.before + most_reads
