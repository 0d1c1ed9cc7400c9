-- What the three engines write for given bytes. All of this is the profile's own.
use Rattle.std.specs.Prelude.{ℕ, ◌≡◌, ◌≢◌, ◌⊎◌, List, [], ◌∷◌, ◌++◌, Option, Some, None, map, codes}
use Rattle.std.specs.List.{flat_map}
use Rattle.serde_json.specs.Data.{Data}
use Rattle.erd_tables.specs.Faults.{ListsAll, fault_line}
use Rattle.erd_tables.specs.declared.fault.Fault.{Fault}
use Rattle.erd_meaning.specs.Keys.{Preference}
use Rattle.erd_meaning.specs.Accepted.{IsFault}
use Rattle.erd_meaning.specs.Records.{meaning}
use Rattle.erd_compare.specs.DifferenceLine.{difference_line}
use Rattle.erd_compare.specs.Differences.{AreDifferences, IsDifference}
use Rattle.erd_compare.specs.SelectionDifferences.{AreDetailedDifferences}
use Rattle.erd_compare.specs.declared.detailed.DetailedDifference.{DetailedDifference}
use Rattle.erd_compare.specs.declared.difference.Difference.{Difference}
use Rattle.erd_canon.specs.Bytes.{IsTreeOf, IsNotJson, IsAcceptedReport, IsCanonicalBytes}

-- The text of the lines, each ended by one line feed.
abbrev pub text_of_lines : List (List ℕ) → List ℕ
text_of_lines lines = flat_map (λ line. line ++ 10 ∷ []) lines

-- The bytes are JSON but no accepted report, and these are all of its faults in their order.
pub record IsRefusedReport (π : Preference) (b : List ℕ) (faults : List Fault) : Type 0 where
  pub tree : Data
  pub read : IsTreeOf b tree
  pub all : ListsAll (IsFault π tree) faults
  pub some : faults ≢ []

-- The lines say why the bytes are not accepted: `not JSON`, or one line for each fault.
abbrev pub IsRefusal : Preference → List ℕ → List (List ℕ) → Type 0
IsRefusal π b lines =
    (IsNotJson b × (lines ≡ codes "not JSON" ∷ [])) ⊎ ((faults : List Fault) × IsRefusedReport π b faults × (lines ≡ map fault_line faults))

-- The text is what checking writes: `accepted`, or why the bytes are not accepted.
abbrev pub IsCheckText : Preference → List ℕ → List ℕ → Type 0
IsCheckText π b x =
    ((t : Data) × IsAcceptedReport π b t × (x ≡ text_of_lines (codes "accepted" ∷ [])))
    ⊎ ((lines : List (List ℕ)) × IsRefusal π b lines × (x ≡ text_of_lines lines))

-- The text is what canonicalising writes to its output: the canonical bytes with no line end, or nothing if the bytes are no
-- accepted report.
abbrev pub IsCanonicalOutput : Preference → List ℕ → List ℕ → Type 0
IsCanonicalOutput π b x = IsCanonicalBytes π b x ⊎ (((t : Data) → ¬ IsAcceptedReport π b t) × (x ≡ []))

-- The text is what canonicalising writes to its errors: nothing for an accepted report, and otherwise why it is not
-- accepted.
abbrev pub IsCanonicalErrors : Preference → List ℕ → List ℕ → Type 0
IsCanonicalErrors π b x = ((t : Data) × IsAcceptedReport π b t × (x ≡ [])) ⊎ ((lines : List (List ℕ)) × IsRefusal π b lines × (x ≡ text_of_lines lines))

-- The words for a comparison of two accepted reports: `same`, or the line for their first difference.
abbrev pub comparison_line : Option Difference → List ℕ
comparison_line None = codes "same"
comparison_line (Some d) = difference_line d

-- Both inputs are accepted reports, and this is the first difference of what they mean, or none if they mean the same.
pub record IsComparison (π : Preference) (left right : List ℕ) (found : Option Difference) : Type 0 where
  pub left_tree : Data
  pub right_tree : Data
  pub left_accepted : IsAcceptedReport π left left_tree
  pub right_accepted : IsAcceptedReport π right right_tree
  pub difference : IsDifference (meaning π left_tree) (meaning π right_tree) found

-- Both inputs are accepted reports, and these are all differences of what they mean, in rising order.
pub record AreCompared (π : Preference) (left right : List ℕ) (found : List Difference) : Type 0 where
  pub left_tree : Data
  pub right_tree : Data
  pub left_accepted : IsAcceptedReport π left left_tree
  pub right_accepted : IsAcceptedReport π right right_tree
  pub differences : AreDifferences (meaning π left_tree) (meaning π right_tree) found

-- Both inputs are accepted reports, and these are all differences of what they mean, in rising order. From the number `first`
-- on, each has what differs inside the selections of a contest, as long as it fits into `most` bytes.
pub record AreDetailed (π : Preference) (left right : List ℕ) (first most : ℕ) (found : List DetailedDifference) : Type 0 where
  pub left_tree : Data
  pub right_tree : Data
  pub left_accepted : IsAcceptedReport π left left_tree
  pub right_accepted : IsAcceptedReport π right right_tree
  pub differences : AreDetailedDifferences (meaning π left_tree) (meaning π right_tree) first most found

-- The lines, each with the name of one side in front.
abbrev pub lines_of_side : List ℕ → List (List ℕ) → List (List ℕ)
lines_of_side side lines = map (λ line. side ++ line) lines

-- The text is what comparing writes: why the left input is refused, else why the right one is refused, else `same` or the
-- difference.
abbrev pub IsCompareText : Preference → List ℕ → List ℕ → List ℕ → Type 0
IsCompareText π left right x =
    ((lines : List (List ℕ)) × IsRefusal π left lines × (x ≡ text_of_lines (lines_of_side (codes "left: ") lines)))
    ⊎ (((lines : List (List ℕ)) × (t : Data) × IsAcceptedReport π left t × IsRefusal π right lines
    × (x ≡ text_of_lines (lines_of_side (codes "right: ") lines)))
    ⊎ ((found : Option Difference) × IsComparison π left right found × (x ≡ text_of_lines (comparison_line found ∷ []))))
