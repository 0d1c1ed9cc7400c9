-- What the calls answer as data, for given bytes. docs/API.md describes the answers.
use Rattle.std.specs.Prelude.{ℕ, ◌≡◌, ◌⊎◌, List, [], ◌∷◌, Option, codes}
use Rattle.serde_json.specs.Data.{Data, string}
use Rattle.serde_json.specs.Written.{compact_text}
use Rattle.erd_tables.specs.declared.fault.Fault.{Fault}
use Rattle.erd_meaning.specs.Keys.{Preference}
use Rattle.erd_compare.specs.declared.detailed.DetailedDifference.{DetailedDifference}
use Rattle.erd_compare.specs.declared.difference.Difference.{Difference}
use Rattle.erd_canon.specs.Bytes.{IsNotJson, IsTreeOf}
use Rattle.erd_canon.specs.DataValues.{comparison_data, differences_data, faults_data, refused_data}
use Rattle.erd_canon.specs.EngineTexts.{AreDetailed, IsComparison, IsRefusedReport}
use Rattle.erd_canon.specs.Refused.{IsSomeReport}
use Rattle.erd_canon.specs.Run.{comparison_outcome}
use Rattle.erd_canon.specs.declared.engines.outcome.Outcome.{Outcome}
use Rattle.erd_canon.specs.declared.engines.outcome.Outcome.TheVariants.{Good, Bad, NotJson}

-- The text is the compact text of the JSON value, and the same value is read back from it.
pub record IsDataText (text : List ℕ) (value : Data) : Type 0 where
  pub written : text ≡ compact_text value
  pub reads_back : IsTreeOf text value

-- The bytes are refused with this outcome, and the value says why: the array of all faults of the report, or the string
-- `not JSON`.
abbrev pub IsRefusalData : Preference → List ℕ → Outcome → Data → Type 0
IsRefusalData π bytes Good value = ⊥
IsRefusalData π bytes Bad value = (faults : List Fault) × IsRefusedReport π bytes faults × (value ≡ faults_data faults)
IsRefusalData π bytes NotJson value = IsNotJson bytes × (value ≡ string (codes "not JSON"))

-- Checking the bytes ends with this outcome and answers this value: the empty array if the report is accepted, or else why
-- the bytes are refused.
abbrev pub IsCheckData : Preference → List ℕ → Outcome → Data → Type 0
IsCheckData π bytes Good value = IsSomeReport π bytes × (value ≡ faults_data [])
IsCheckData π bytes Bad value = IsRefusalData π bytes Bad value
IsCheckData π bytes NotJson value = IsRefusalData π bytes NotJson value

-- The input on one side is refused with this outcome, and the value names the side and says why.
abbrev pub IsSideData : Preference → List ℕ → List ℕ → Outcome → Data → Type 0
IsSideData π side bytes outcome value = (why : Data) × IsRefusalData π bytes outcome why × (value ≡ refused_data side why)

-- Comparing the two inputs ends with this outcome and answers this value: why the left input is refused, else why the right
-- one is refused, else null or the first difference.
abbrev pub IsCompareData : Preference → List ℕ → List ℕ → Outcome → Data → Type 0
IsCompareData π left right outcome value =
    IsSideData π (codes "left") left outcome value
    ⊎ ((IsSomeReport π left × IsSideData π (codes "right") right outcome value)
    ⊎ ((found : Option Difference) × IsComparison π left right found × (outcome ≡ comparison_outcome found) × (value ≡ comparison_data found)))

-- The outcome of listing the differences of two accepted reports: good if there are none, and bad otherwise.
abbrev pub listing_outcome : {A : Type 0} → List A → Outcome
listing_outcome [] = Good
listing_outcome (d ∷ ds) = Bad

-- How many bytes what differs inside selections may take where no caller bounds it: the greatest number of a machine word. No
-- text in memory is longer.
abbrev pub any_size : ℕ
any_size = 18446744073709551615

-- Listing the differences of the two inputs ends with this outcome and answers this value: why the left input is refused, else
-- why the right one is refused, else the array of all differences, with what differs inside the selections of contests.
abbrev pub IsListData : Preference → List ℕ → List ℕ → Outcome → Data → Type 0
IsListData π left right outcome value =
    IsSideData π (codes "left") left outcome value
    ⊎ ((IsSomeReport π left × IsSideData π (codes "right") right outcome value)
    ⊎ ((found : List DetailedDifference) × AreDetailed π left right 0 any_size found × (outcome ≡ listing_outcome found) × (value ≡ differences_data found)))

-- The text is that of the value that checking the bytes answers with this outcome.
pub record IsCheckedData (π : Preference) (bytes : List ℕ) (outcome : Outcome) (text : List ℕ) : Type 0 where
  pub value : Data
  pub checked : IsCheckData π bytes outcome value
  pub is_text : IsDataText text value

-- The text is that of the value that comparing the two inputs answers with this outcome.
pub record IsComparedData (π : Preference) (left right : List ℕ) (outcome : Outcome) (text : List ℕ) : Type 0 where
  pub value : Data
  pub compared : IsCompareData π left right outcome value
  pub is_text : IsDataText text value

-- The text is that of the value that listing the differences answers with this outcome.
pub record IsListedData (π : Preference) (left right : List ℕ) (outcome : Outcome) (text : List ℕ) : Type 0 where
  pub value : Data
  pub listed : IsListData π left right outcome value
  pub is_text : IsDataText text value
