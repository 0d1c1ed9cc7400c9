-- What the engines for ballots write, for given bytes.
use Rattle.std.specs.Prelude.{ℕ, List}
use Rattle.erd_meaning.specs.Keys.{Preference}
use Rattle.erd_shown.specs.BallotLines.{AreStylesTold, head_lines}
use Rattle.erd_canon.specs.Answering.{IsLineOf, IsPairTold}
use Rattle.erd_canon.specs.BallotAnswers.{AreBothTold, IsBallotDifferencesData, IsBallotsData, IsReportTold, Said, TellsDiffering}
use Rattle.erd_canon.specs.EngineTexts.{text_of_lines}
use Rattle.erd_canon.specs.Run.{IsToldFaults, IsToldNotJson}
use Rattle.erd_canon.specs.declared.data.ballots.BallotsAsked.TheVariants.{Heads}
use Rattle.erd_canon.specs.declared.engines.outcome.Outcome.{Outcome}
use Rattle.erd_canon.specs.declared.engines.outcome.Outcome.TheVariants.{Good, Bad, NotJson}

-- Listing the ballots of the bytes answers this line of JSON.
abbrev pub IsBallotsLine : Preference → List ℕ → Outcome → List ℕ → Type 0
IsBallotsLine π bytes outcome text = IsLineOf (IsBallotsData Heads π bytes outcome) text

-- Listing the ballots of the bytes ends with this outcome and writes this text: a line for each ballot of an accepted report, or
-- else what checking writes.
abbrev pub IsBallotLines : Preference → List ℕ → Outcome → List ℕ → Type 0
IsBallotLines π bytes Good out = IsReportTold (λ π t. text_of_lines (head_lines π t)) π bytes out
IsBallotLines π bytes Bad out = IsToldFaults π bytes out
IsBallotLines π bytes NotJson out = IsToldNotJson bytes out

-- Comparing the ballots of two inputs answers this line of JSON.
abbrev pub IsBallotDifferencesLine : Preference → List ℕ → List ℕ → Outcome → List ℕ → Type 0
IsBallotDifferencesLine π left right outcome text = IsLineOf (IsBallotDifferencesData π left right outcome) text

-- The text tells these styles line by line, under one preference.
abbrev pub IsToldByLines : Said
IsToldByLines π t u found text = AreStylesTold π t π u found text

-- Comparing the ballots of the two inputs ends with this outcome and writes this text: why an input is refused, as a comparison
-- has it, else `same ballots`, or the lines for each style whose ballots are not the same.
abbrev pub IsBallotDifferenceLines : Preference → List ℕ → List ℕ → Outcome → List ℕ → Type 0
IsBallotDifferenceLines π = IsPairTold π (AreBothTold (TellsDiffering IsToldByLines π) π)
