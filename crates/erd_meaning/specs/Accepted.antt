-- The faults of a report, and which reports are accepted. All of this is the profile's own.
use Rattle.std.specs.Prelude.{◌⊎◌, List}
use Rattle.serde_json.specs.Data.{Data}
use Rattle.erd_tables.specs.declared.fault.Reason.{Reason}
use Rattle.erd_tables.specs.declared.place.Step.{Step}
use Rattle.erd_check.specs.Faults.{ShapeFault, NoneOf}
use Rattle.erd_meaning.specs.Keys.{Preference}
use Rattle.erd_meaning.specs.LaterFaults.{IdentityFault, ReferenceFault, SelectionFault}

-- A fault of the first sort, or, only if there is none of these, a fault of the second sort.
abbrev pub OrElse : (List Step → Reason → Type 0) → (List Step → Reason → Type 0) → List Step → Reason → Type 0
OrElse First Second p r = First p r ⊎ (NoneOf First × Second p r)

-- A fault of the report. Only the first phase that has any counts: shape, then identity, then references, then selections.
abbrev pub IsFault : Preference → Data → List Step → Reason → Type 0
IsFault π t = OrElse (ShapeFault t) (OrElse (IdentityFault π t) (OrElse (ReferenceFault t) (SelectionFault π t)))

-- The report has no fault in any phase.
abbrev pub IsAccepted : Preference → Data → Type 0
IsAccepted π t = NoneOf (IsFault π t)
