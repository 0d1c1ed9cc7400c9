-- The JSON values of faults and of a comparison. docs/API.md describes them.
use Rattle.std.specs.Prelude.{ℕ, List, Option, Some, None, map, codes}
use Rattle.serde_json.specs.Data.{Data, unsigned, null, number, string, array, object, Members, no_members, member}
use Rattle.serde_json.specs.View.{items_of}
use Rattle.erd_tables.specs.Faults.{reason_number}
use Rattle.erd_tables.specs.declared.fault.Fault.{Fault}
use Rattle.erd_tables.specs.declared.fault.Reason.{Reason}
use Rattle.erd_tables.specs.declared.fault.Reason.TheVariants as reason
use Rattle.erd_tables.specs.declared.place.Step.{Step}
use Rattle.erd_tables.specs.declared.place.Step.TheVariants.{Name, At}
use Rattle.erd_compare.specs.DifferenceData.{difference_data}
use Rattle.erd_compare.specs.SelectionData.{detailed_data}
use Rattle.erd_compare.specs.declared.detailed.DetailedDifference.{DetailedDifference}
use Rattle.erd_compare.specs.declared.difference.Difference.{Difference}

-- A step of a place: the name of a member as a string, or a position, counted from 0, as a number.
abbrev pub step_data : Step → Data
step_data (Name name) = string name
step_data (At i) = number (unsigned i)

-- A place as the array of its steps, from the whole value inwards.
abbrev pub place_data : List Step → Data
place_data steps = array (items_of (map step_data steps))

-- The members with a member `name` before them, which holds the name of the missing member. They stay as they are for any
-- other reason.
abbrev pub after_name : Reason → Members → Members
after_name (reason.MissingMember name) ms = member (codes "name") (string name) ms
after_name r ms = ms

-- The JSON object of a fault. Its members are `name` for a missing member, `place`, and `reason` with the number of the
-- reason.
abbrev pub fault_data : Fault → Data
fault_data f =
    object (after_name f.reason (member (codes "place") (place_data f.place) (member (codes "reason") (number (unsigned (reason_number f.reason))) no_members)))

-- A list of faults as the array of its faults, in the same order.
abbrev pub faults_data : List Fault → Data
faults_data faults = array (items_of (map fault_data faults))

-- The JSON object for a comparison of which one report is refused. Its members are `faults`, with the value that says why,
-- and `refused`, with the name of the side.
abbrev pub refused_data : List ℕ → Data → Data
refused_data side why = object (member (codes "faults") why (member (codes "refused") (string side) no_members))

-- The JSON value for a comparison of two accepted reports: null if they mean the same, or else the object of their first
-- difference.
abbrev pub comparison_data : Option Difference → Data
comparison_data None = null
comparison_data (Some d) = difference_data d

-- A list of differences as the array of their objects, in the same order.
abbrev pub differences_data : List DetailedDifference → Data
differences_data ds = array (items_of (map detailed_data ds))
