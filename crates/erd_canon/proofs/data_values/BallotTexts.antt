-- What a call on ballots answers for bytes that are refused.
use Rattle.erd_canon.proofs.Common.{ℕ, List, RefusedAs, AnswersData, TellsRefusalAs, Outcome, Good, Bad, NotJson, Refusal}
use Rattle.erd_meaning.specs.Keys.{Preference}
use Rattle.serde_json.specs.Data.{Data}
use Rattle.erd_canon.specs.BallotAnswers.{IsBallotsData, IsRefusalText}
use Rattle.erd_canon.specs.DataAnswers.{IsDataText, IsRefusalData}
use Rattle.erd_canon.specs.declared.data.ballots.BallotsAsked.{BallotsAsked}
use Rattle.erd_canon.proofs.data_values.DataTexts.{refusal_data}

refusal_ends : (asked : BallotsAsked) (π : Preference) (bytes : List ℕ) (outcome : Outcome) (text : List ℕ) (value : Data) → IsRefusalData π bytes outcome value
    → IsDataText text value → IsBallotsData asked π bytes outcome text
refusal_ends asked π bytes Good text value is written = absurd is
refusal_ends asked π bytes Bad text value is written = record { value = value; refused = is; is_text = written }
refusal_ends asked π bytes NotJson text value is written = record { value = value; refused = is; is_text = written }

-- the answer if the bytes are refused
pub refused_ballots : (asked : BallotsAsked) (π : Preference) (bytes : List ℕ) (refused : Refusal) (outcome : Outcome) (text : List ℕ)
    → RefusedAs π bytes refused
    → AnswersData (TellsRefusalAs outcome refused) text → IsBallotsData asked π bytes outcome text
refused_ballots asked π bytes refused outcome text is a =
    refusal_ends asked π bytes outcome text a.value (refusal_data π bytes outcome refused a.value is a.says) a.is_text
