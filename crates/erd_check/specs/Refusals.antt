-- Why a report is not accepted.
use Rattle.std.specs.Prelude.{◌≢◌, List, [], ⊤}
use Rattle.erd_tables.specs.Faults.{ListsAll}
use Rattle.erd_tables.specs.declared.fault.Reason.{Reason}
use Rattle.erd_tables.specs.declared.place.Step.{Step}
use Rattle.erd_check.specs.declared.error.CheckError.{CheckError}
use Rattle.erd_check.specs.declared.error.CheckError.TheVariants.{Faults, Memory}

-- The refusal lists all faults of this sort, and there is at least one. If the call ran out of memory, nothing is claimed.
abbrev pub RefusedFor : (List Step → Reason → Type 0) → CheckError → Type 0
RefusedFor IsFault (Faults faults) = ListsAll IsFault faults × (faults ≢ [])
RefusedFor IsFault Memory = ⊤
