-- The exit statuses, and the words for runs that could not finish (this project's program).
use Rattle.std.specs.Prelude.{ℕ, List, codes}
use Rattle.erd_canon.specs.declared.engines.outcome.Outcome.{Outcome}
use Rattle.erd_canon.specs.declared.engines.outcome.Outcome.TheVariants.{Good, Bad, NotJson}
use Rattle.erd_canon.specs.declared.engines.outcome.RunFault.{RunFault}
use Rattle.erd_canon.specs.declared.engines.outcome.RunFault.TheVariants.{TooLong, Read, Write, Memory}

-- The exit status of an outcome: 0 for accepted or the same, 1 for faults or a difference, 2 for an input that is not JSON.
abbrev pub outcome_status : Outcome → ℕ
outcome_status Good = 0
outcome_status Bad = 1
outcome_status NotJson = 2

-- The exit status of a run that could not finish: 3 if an input is too long or a read or write failed, 4 if it is out of
-- memory.
abbrev pub fault_status : RunFault → ℕ
fault_status TooLong = 3
fault_status Read = 3
fault_status Write = 3
fault_status Memory = 4

-- The words on standard error for a run that could not finish.
abbrev pub fault_words : RunFault → List ℕ
fault_words TooLong = codes "too long"
fault_words Read = codes "read failed"
fault_words Write = codes "write failed"
fault_words Memory = codes "no memory"
