-- The laws of canonical forms that say the same as their reports, and of reports that mean the same.
use Rattle.std.specs.Prelude.{◌≡◌, ◌↔◌}
use Rattle.serde_json.specs.Data.{Data}
use Rattle.erd_check.specs.Trees.{IsTree}
use Rattle.erd_meaning.specs.Accepted.{IsAccepted}
use Rattle.erd_meaning.specs.Keys.{Preference}
use Rattle.erd_meaning.specs.Records.{meaning}
use Rattle.erd_normal.specs.Canonical.{IsCanonicalFormOf}
use Rattle.erd_normal.specs.Laws.{IsGiven}
use Rattle.erd_normal.specs.SaysTheSame.{SaysTheSame}

-- The canonical form of an accepted report, given as calls take it, says the same as the report.
abbrev pub CanonicalSaysTheSame : Type 0
CanonicalSaysTheSame = (π : Preference) (t u : Data) → IsGiven t → IsTree u → IsAccepted π t → IsCanonicalFormOf π t u → SaysTheSame t u

-- Two accepted reports say the same if they mean the same. So a meaning leaves out no more than the relation allows.
abbrev pub MeaningTheSameSaysTheSame : Type 0
MeaningTheSameSaysTheSame =
    (π : Preference) (t u : Data) → IsTree t → IsTree u → IsAccepted π t → IsAccepted π u → meaning π t ≡ meaning π u → SaysTheSame t u

-- Two accepted reports mean the same if and only if they say the same.
abbrev pub SayingAndMeaningAgree : Type 0
SayingAndMeaningAgree =
    (π : Preference) (t u : Data) → IsTree t → IsTree u → IsAccepted π t → IsAccepted π u → (meaning π t ≡ meaning π u) ↔ SaysTheSame t u
