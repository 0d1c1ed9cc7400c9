-- What the walk for the faults of the shape reports of one value. `ShapeWalks` proves that these are all faults of the shape.
use Rattle.std.specs.Prelude.{List, [], ◌∷◌, ◌++◌, Bool, false, map, filter, IsTrue}
use Rattle.serde_json.specs.Data.{Data}
use Rattle.erd_tables.specs.declared.fault.Reason.{Reason}
use Rattle.erd_tables.specs.declared.fault.Reason.TheVariants.{WrongKind, MissingMember, WrongClassText, NotWhole, OutsideProfile, UnknownReference}
use Rattle.erd_tables.specs.declared.fault.Reason.TheVariants.{CarriedIdentity, NotPreElection, ElectionCount, EmptyArray, Repeated}
use Rattle.erd_check.specs.Numbers.{IsInRange}
use Rattle.erd_check.specs.Wants.{Asked, scope_inside}
use Rattle.erd_check.specs.Faults.{is_shape_fault, names_wanted, lacks, wants_whole}
use Rattle.erd_check.specs.declared.want.Want.{Want}
use Rattle.erd_check.specs.declared.want.Scope.{Scope}

-- A value, what is asked of it, and whether it repeats an earlier one.
abbrev pub asked_with : Want → Bool → Data → Asked
asked_with w repeated d = record { want = w; value = d; repeated = repeated }

-- One reason for each member that an object must have and lacks.
abbrev pub missing : Scope → Data → List Reason
missing s d = map MissingMember (filter (lacks d) (names_wanted s))

-- The reasons that one value alone gives, apart from the wrong kind, missing members and repetition.
abbrev pub other_reasons : Want → Data → List Reason
other_reasons w d =
    filter (is_shape_fault (asked_with w false d)) (WrongClassText ∷ NotWhole ∷ OutsideProfile ∷ UnknownReference ∷ CarriedIdentity ∷ NotPreElection
    ∷ ElectionCount ∷ EmptyArray ∷ [])

-- The reasons that one value gives, in the order of reasons.
abbrev pub reasons : Want → Bool → Data → List Reason
reasons w repeated d =
    filter (is_shape_fault (asked_with w false d)) (WrongKind ∷ []) ++ missing (scope_inside w d) d ++ other_reasons w d
    ++ filter (is_shape_fault (asked_with w repeated d)) (Repeated ∷ [])

-- If a whole number is asked for and the value is one, it fits 64 bits.
abbrev pub IsAskedInRange : Want → Data → Type 0
IsAskedInRange w d = IsTrue (wants_whole w) → IsInRange d
