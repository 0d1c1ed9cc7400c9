-- What the calls on ballots answer as data, for given bytes. docs/API.md describes the answers.
use Rattle.std.specs.Prelude.{ℕ, ◌≡◌, ◌⊎◌, List, codes}
use Rattle.serde_json.specs.Data.{Data}
use Rattle.serde_json.specs.Written.{compact_text}
use Rattle.erd_meaning.specs.Keys.{Preference}
use Rattle.erd_shown.specs.BallotDifferences.{AreBallotDifferences, StyleFound}
use Rattle.erd_shown.specs.BallotLines.{AreStylesText}
use Rattle.erd_shown.specs.Ballots.{ballot_in}
use Rattle.erd_shown.specs.Heads.{heads_data}
use Rattle.erd_shown.specs.RowData.{IsBesideText}
use Rattle.erd_canon.specs.Bytes.{IsAcceptedReport}
use Rattle.erd_canon.specs.DataAnswers.{IsDataText, IsRefusalData, IsSideData, listing_outcome}
use Rattle.erd_canon.specs.Refused.{IsSomeReport}
use Rattle.erd_canon.specs.declared.data.ballots.BallotsAsked.{BallotsAsked}
use Rattle.erd_canon.specs.declared.data.ballots.BallotsAsked.TheVariants.{Heads, Ballot}
use Rattle.erd_canon.specs.declared.engines.outcome.Outcome.{Outcome}
use Rattle.erd_canon.specs.declared.engines.outcome.Outcome.TheVariants.{Good, Bad, NotJson}

-- ---- the ballots of one report

-- The bytes are an accepted report, and the text is what is said of its tree.
pub record IsReportTold (said : Preference → Data → List ℕ) (π : Preference) (bytes text : List ℕ) : Type 0 where
  pub tree : Data
  pub accepted : IsAcceptedReport π bytes tree
  pub written : text ≡ said π tree

-- The value that tells what is asked of the ballots of an accepted report.
abbrev pub ballots_told : BallotsAsked → Preference → Data → Data
ballots_told Heads π t = heads_data π t
ballots_told (Ballot position) π t = ballot_in π t position

-- The bytes are an accepted report, and the text tells what is asked of its ballots.
abbrev pub AreBallotsTold : BallotsAsked → Preference → List ℕ → List ℕ → Type 0
AreBallotsTold asked π bytes text = IsReportTold (λ π t. compact_text (ballots_told asked π t)) π bytes text

-- The bytes are refused with this outcome, and the text says why.
pub record IsRefusalText (π : Preference) (bytes : List ℕ) (outcome : Outcome) (text : List ℕ) : Type 0 where
  pub value : Data
  pub refused : IsRefusalData π bytes outcome value
  pub is_text : IsDataText text value

-- What is asked of the ballots of the bytes is answered with this outcome and this text: what is asked if the report is
-- accepted, or else why the bytes are refused.
abbrev pub IsBallotsData : BallotsAsked → Preference → List ℕ → Outcome → List ℕ → Type 0
IsBallotsData asked π bytes Good text = AreBallotsTold asked π bytes text
IsBallotsData asked π bytes Bad text = IsRefusalText π bytes Bad text
IsBallotsData asked π bytes NotJson text = IsRefusalText π bytes NotJson text

-- ---- the ballots of two reports

-- Both inputs are accepted reports, and this outcome and this text tell of their trees.
pub record AreBothTold (Tells : Data → Data → Outcome → List ℕ → Type 0) (π : Preference) (left right : List ℕ) (outcome : Outcome)
    (text : List ℕ) : Type 0 where
  pub left_tree : Data
  pub right_tree : Data
  pub left_accepted : IsAcceptedReport π left left_tree
  pub right_accepted : IsAcceptedReport π right right_tree
  pub tells : Tells left_tree right_tree outcome text

-- What a text says of two trees and styles.
abbrev pub Said : Type 1
Said = Preference → Data → Data → List StyleFound → List ℕ → Type 0

-- The text says which ballots are not the same in two reports. The outcome is good if and only if all are the same.
pub record TellsDiffering (IsSaid : Said) (π : Preference) (t u : Data) (outcome : Outcome) (text : List ℕ) : Type 0 where
  pub found : List StyleFound
  pub differ : AreBallotDifferences π t π u found
  pub ends : outcome ≡ listing_outcome found
  pub said : IsSaid π t u found text

-- The text tells these styles as JSON, under one preference.
abbrev pub IsToldByJson : Said
IsToldByJson π t u found text = AreStylesText π t π u found text

-- The text tells the ballots of the styles at these positions beside each other, whether they differ or not.
abbrev pub TellsBeside : ℕ → ℕ → Preference → Data → Data → Outcome → List ℕ → Type 0
TellsBeside i j π t u outcome text = (outcome ≡ Good) × IsBesideText π t i π u j text

-- The input on one side is refused with this outcome, and the text names the side and says why.
pub record IsSideText (π : Preference) (side bytes : List ℕ) (outcome : Outcome) (text : List ℕ) : Type 0 where
  pub value : Data
  pub refused : IsSideData π side bytes outcome value
  pub is_text : IsDataText text value

-- What is asked of two inputs is answered with this outcome and this text: why the left input is refused, else why the right one
-- is refused, else what is told of both.
abbrev pub IsPairData : (Data → Data → Outcome → List ℕ → Type 0) → Preference → List ℕ → List ℕ → Outcome → List ℕ → Type 0
IsPairData Tells π left right outcome text =
    IsSideText π (codes "left") left outcome text
    ⊎ ((IsSomeReport π left × IsSideText π (codes "right") right outcome text)
    ⊎ AreBothTold Tells π left right outcome text)

-- Comparing the ballots of the two inputs ends with this outcome and answers this text.
abbrev pub IsBallotDifferencesData : Preference → List ℕ → List ℕ → Outcome → List ℕ → Type 0
IsBallotDifferencesData π left right outcome text = IsPairData (TellsDiffering IsToldByJson π) π left right outcome text

-- Telling the ballots of the styles at these positions beside each other ends with this outcome and answers this text.
abbrev pub IsBallotsBesideData : ℕ → ℕ → Preference → List ℕ → List ℕ → Outcome → List ℕ → Type 0
IsBallotsBesideData i j π left right outcome text = IsPairData (TellsBeside i j π) π left right outcome text
