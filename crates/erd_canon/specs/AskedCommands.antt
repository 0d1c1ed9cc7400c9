-- What the engine for each command on one report, and on two reports, answers.
use Rattle.std.specs.Prelude.{ℕ, List}
use Rattle.erd_meaning.specs.Keys.{Preference}
use Rattle.erd_canon.specs.Answering.{IsCheckLine, IsCompareLine, IsListed, IsListLine}
use Rattle.erd_canon.specs.BallotAnswering.{IsBallotDifferenceLines, IsBallotDifferencesLine, IsBallotLines, IsBallotsLine}
use Rattle.erd_canon.specs.declared.engines.outcome.Outcome.{Outcome}
use Rattle.erd_canon.specs.declared.engines.asked.PairCommand.{PairCommand}
use Rattle.erd_canon.specs.declared.engines.asked.PairCommand.TheVariants.{BallotDifferences, BallotDifferencesData, CompareData, Differences, DifferencesData}
use Rattle.erd_canon.specs.declared.engines.asked.ReportCommand.{ReportCommand}
use Rattle.erd_canon.specs.declared.engines.asked.ReportCommand.TheVariants.{Ballots, BallotsData, CheckData}

-- The outcome and the text of the command for this input.
abbrev pub report_answers : ReportCommand → Preference → List ℕ → Outcome → List ℕ → Type 0
report_answers CheckData π = IsCheckLine π
report_answers Ballots π = IsBallotLines π
report_answers BallotsData π = IsBallotsLine π

-- The outcome and the text of the command for these inputs.
abbrev pub pair_answers : PairCommand → Preference → List ℕ → List ℕ → Outcome → List ℕ → Type 0
pair_answers CompareData π = IsCompareLine π
pair_answers Differences π = IsListed π
pair_answers DifferencesData π = IsListLine π
pair_answers BallotDifferences π = IsBallotDifferenceLines π
pair_answers BallotDifferencesData π = IsBallotDifferencesLine π
