-- In which form the ballots of reports are told.
use Rattle.std.specs.Prelude.{ℕ, List}
use Rattle.serde_json.specs.Data.{Data}
use Rattle.serde_json.specs.Written.{compact_text}
use Rattle.erd_meaning.specs.Keys.{Preference}
use Rattle.erd_shown.specs.BallotLines.{head_lines}
use Rattle.erd_canon.specs.BallotAnswering.{IsToldByLines}
use Rattle.erd_canon.specs.BallotAnswers.{IsToldByJson, TellsBeside, TellsDiffering, ballots_told}
use Rattle.erd_canon.specs.EngineTexts.{text_of_lines}
use Rattle.erd_canon.specs.declared.data.ballots.BallotForm.{BallotForm}
use Rattle.erd_canon.specs.declared.data.ballots.BallotForm.TheVariants as form
use Rattle.erd_canon.specs.declared.data.ballot_pairs.PairForm.{PairForm}
use Rattle.erd_canon.specs.declared.data.ballot_pairs.PairForm.TheVariants as pair
use Rattle.erd_canon.specs.declared.engines.outcome.Outcome.{Outcome}

-- The text for the ballots of an accepted report.
abbrev pub form_text : BallotForm → Preference → Data → List ℕ
form_text (form.Json asked) = λ π t. compact_text (ballots_told asked π t)
form_text form.Lines = λ π t. text_of_lines (head_lines π t)

-- The outcome and the text for the ballots of two accepted reports.
abbrev pub pair_tells : PairForm → Preference → Data → Data → Outcome → List ℕ → Type 0
pair_tells pair.Json π = TellsDiffering IsToldByJson π
pair_tells pair.Lines π = TellsDiffering IsToldByLines π
pair_tells (pair.Beside i j) π = TellsBeside i j π
