-- The law that reports that say the same mean the same.
use Rattle.std.specs.Prelude.{◌≡◌}
use Rattle.serde_json.specs.Data.{Data}
use Rattle.erd_check.specs.Trees.{IsTree}
use Rattle.erd_meaning.specs.Accepted.{IsAccepted}
use Rattle.erd_meaning.specs.Keys.{Preference}
use Rattle.erd_meaning.specs.Records.{meaning}
use Rattle.erd_normal.specs.SaysTheSame.{SaysTheSame}

-- Under every preference, each tree that says the same as an accepted report means the same.
abbrev pub SayingTheSameMeansTheSame : Type 0
SayingTheSameMeansTheSame =
    (π : Preference) (t u : Data) → IsTree t → IsTree u → IsAccepted π t → SaysTheSame t u → meaning π u ≡ meaning π t
