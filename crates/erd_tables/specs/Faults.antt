-- Faults: the numbers and the words of the reasons, the order of faults, and the line that reports a fault. All of this is
-- the profile's own.
use Rattle.std.specs.Prelude.{◌↔◌, ℕ, List, [], ◌++◌, codes, Contains}
use Rattle.std.specs.List.Sorted.{IsStrictlySortedBy}
use Rattle.std.specs.Ordering.{nat_cmp, ordering_then}
use Rattle.std.specs.declared.cmp.Ordering.{Ordering}
use Rattle.erd_tables.specs.Texts.{text_cmp}
use Rattle.erd_tables.specs.Places.{place_cmp, pointer_text}
use Rattle.erd_tables.specs.declared.fault.Fault.{Fault}
use Rattle.erd_tables.specs.declared.fault.Reason.{Reason}
use Rattle.erd_tables.specs.declared.fault.Reason.TheVariants as reason
use Rattle.erd_tables.specs.declared.place.Step.{Step}

-- The number of the reason, from 1 to 18.
abbrev pub reason_number : Reason → ℕ
reason_number reason.WrongKind = 1
reason_number (reason.MissingMember name) = 2
reason_number reason.WrongClassText = 3
reason_number reason.NotWhole = 4
reason_number reason.OutsideProfile = 5
reason_number reason.UnknownReference = 6
reason_number reason.CarriedIdentity = 7
reason_number reason.NotPreElection = 8
reason_number reason.ElectionCount = 9
reason_number reason.EmptyArray = 10
reason_number reason.Repeated = 11
reason_number reason.NoIdentifier = 12
reason_number reason.TwinIdentifier = 13
reason_number reason.DuplicateId = 14
reason_number reason.Unresolved = 15
reason_number reason.WrongFamily = 16
reason_number reason.SelectionOfOtherContest = 17
reason_number reason.TwinSelection = 18

-- The name of the missing member in reason 2, and the empty text for any other reason.
abbrev pub missing_name : Reason → List ℕ
missing_name (reason.MissingMember name) = name
missing_name r = []

-- Reasons are compared by number, then by the name of the missing member.
abbrev pub reason_cmp : Reason → Reason → Ordering
reason_cmp q r = ordering_then (nat_cmp (reason_number q) (reason_number r)) (text_cmp (missing_name q) (missing_name r))

-- Faults are compared by place, then by reason.
abbrev pub fault_cmp : Fault → Fault → Ordering
fault_cmp a b = ordering_then (place_cmp a.place b.place) (reason_cmp a.reason b.reason)

-- The list contains every fault exactly once and nothing else, in the order of faults.
pub record ListsAll (IsFault : List Step → Reason → Type 0) (faults : List Fault) : Type 0 where
  pub rising : IsStrictlySortedBy fault_cmp faults
  pub each : (f : Fault) → Contains faults f ↔ IsFault f.place f.reason

-- The words for the reason. The name of a missing member is written unescaped.
abbrev pub reason_text : Reason → List ℕ
reason_text reason.WrongKind = codes "wrong kind"
reason_text (reason.MissingMember name) = codes "missing member " ++ name
reason_text reason.WrongClassText = codes "wrong class"
reason_text reason.NotWhole = codes "not a whole number"
reason_text reason.OutsideProfile = codes "outside the profile"
reason_text reason.UnknownReference = codes "unknown reference"
reason_text reason.CarriedIdentity = codes "carried identity"
reason_text reason.NotPreElection = codes "not pre-election"
reason_text reason.ElectionCount = codes "wrong number of elections"
reason_text reason.EmptyArray = codes "empty array"
reason_text reason.Repeated = codes "repeated"
reason_text reason.NoIdentifier = codes "no external identifier"
reason_text reason.TwinIdentifier = codes "identifier used twice"
reason_text reason.DuplicateId = codes "@id used twice"
reason_text reason.Unresolved = codes "unresolved reference"
reason_text reason.WrongFamily = codes "reference to another family"
reason_text reason.SelectionOfOtherContest = codes "selection of another contest"
reason_text reason.TwinSelection = codes "selection name used twice"

-- The line that reports a fault, without its line end: the pointer to the place, a colon, a space and the words.
abbrev pub fault_line : Fault → List ℕ
fault_line f = pointer_text f.place ++ (codes ": " ++ reason_text f.reason)
