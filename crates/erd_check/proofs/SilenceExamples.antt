-- A member of which a walk tells nothing, and one of which it tells a fault, by computation.
use Rattle.erd_check.proofs.Common.{◌≡◌, List, [], ◌∷◌, false, if◌then◌else◌, refl, codes, Data, null, string, Status, Reason, NotPreElection}
use Rattle.erd_check.specs.Faults.{is_other_status}
use Rattle.erd_check.specs.Visits.{Telling, IsSilentMember}

-- tells a status other than that of a report from before the election
abbrev tells_status : Telling
tells_status outer w repeated d = if is_other_status w d then NotPreElection ∷ [] else []

silent_of_the_right_status : (owner : Data) → IsSilentMember tells_status owner Status (string (codes "pre-election"))
silent_of_the_right_status owner outer p = refl

told_of_another_status : tells_status null Status false (string (codes "certified")) ≡ NotPreElection ∷ []
told_of_another_status = refl
