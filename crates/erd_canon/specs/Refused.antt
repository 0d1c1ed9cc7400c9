-- Why bytes are refused.
use Rattle.std.specs.Prelude.{ℕ, List, ⊤}
use Rattle.serde_json.specs.Data.{Data}
use Rattle.erd_check.specs.declared.error.CheckError.{CheckError}
use Rattle.erd_check.specs.declared.error.CheckError.TheVariants as check
use Rattle.erd_canon.specs.Bytes.{IsNotJson, IsAcceptedReport}
use Rattle.erd_canon.specs.EngineTexts.{IsRefusedReport}
use Rattle.erd_canon.specs.declared.bytes.refusal.Refusal.{Refusal}
use Rattle.erd_canon.specs.declared.bytes.refusal.Refusal.TheVariants.{NotJson, Faults, Memory}
use Rattle.erd_canon.specs.declared.bytes.refusal.Side.{Side}
use Rattle.erd_canon.specs.declared.bytes.refusal.Side.TheVariants as side
use Rattle.erd_meaning.specs.Keys.{Preference}

-- The bytes are an accepted report.
abbrev pub IsSomeReport : Preference → List ℕ → Type 0
IsSomeReport π bytes = (t : Data) × IsAcceptedReport π bytes t

-- The bytes are not JSON, or they are JSON with these faults and so no accepted report. If the call ran out of memory,
-- nothing is claimed.
abbrev pub RefusedAs : Preference → List ℕ → Refusal → Type 0
RefusedAs π bytes NotJson = IsNotJson bytes
RefusedAs π bytes (Faults faults) = IsRefusedReport π bytes faults × ¬ IsSomeReport π bytes
RefusedAs π bytes Memory = ⊤

-- The refusal of bytes whose tree was refused with this error.
abbrev pub refusal_for : CheckError → Refusal
refusal_for (check.Faults faults) = Faults faults
refusal_for check.Memory = Memory

-- Left: the left input is refused for the given reason. Right: the left input is accepted, and the right one is refused for
-- the given reason. Memory: both are accepted, and the call ran out of memory as it compared them.
abbrev pub RefusedSide : Preference → List ℕ → List ℕ → Side → Type 0
RefusedSide π left right (side.Left refusal) = RefusedAs π left refusal
RefusedSide π left right (side.Right refusal) = IsSomeReport π left × RefusedAs π right refusal
RefusedSide π left right side.Memory = IsSomeReport π left × IsSomeReport π right
