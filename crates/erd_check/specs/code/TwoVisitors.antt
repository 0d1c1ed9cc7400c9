-- What two visitors find that share one walk. `first` and `second` are what the two tell of a value. From what a visitor tells of
-- a value, `told` gives the faults that are told of all values that the walk goes over.
use Rattle.std.specs.Prelude.{◌≡◌, List, ◌++◌}
use Rattle.serde_json.specs.Data.{Data}
use Rattle.erd_tables.specs.declared.fault.Fault.{Fault}
use Rattle.erd_check.specs.Visits.{Telling, IsSilentMember}
use Rattle.erd_check.specs.declared.walk.Findings.{Findings}
use Rattle.erd_check.specs.declared.want.Want.{Want}

-- Each of the two has found the faults that it tells of, and no others.
abbrev pub EachFinds : (Telling → List Fault) → Telling → Telling → Findings → Type 0
EachFinds told first second found = (found.first.items ≡ told first) × (found.second.items ≡ told second)

-- Each of the two has added the faults that it tells of, and no others, behind those that it had found before.
abbrev pub EachAdds : (Telling → List Fault) → Telling → Telling → Findings → Findings → Type 0
EachAdds told first second old new = (new.first.items ≡ old.first.items ++ told first) × (new.second.items ≡ old.second.items ++ told second)

-- Neither of the two has anything to tell of a member, nor of the values inside it.
abbrev pub AreSilent : Telling → Telling → Data → Want → Data → Type 0
AreSilent first second owner w d = IsSilentMember first owner w d × IsSilentMember second owner w d
