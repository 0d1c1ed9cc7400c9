-- The values that calls answer as data are trees, nest little, and have no number that is not whole.
use Rattle.erd_canon.proofs.Common.{◌≡◌, ◌≤◌, false, List, [], ◌∷◌, map, Some, None, Option, sym, refl, subst, arith, Data, depth, items_depth, items_of}
use Rattle.erd_canon.proofs.Common.{has_float, items_have_float, Reason, reason, IsTree, AreTrees, Fault, Difference, step_data, fault_data, faults_data}
use Rattle.erd_canon.proofs.Common.{TellsRefusalAs, Refusal, refusal, Outcome, Bad, NotJson}
use Rattle.erd_tables.specs.declared.place.Step.{Step}
use Rattle.erd_tables.specs.declared.place.Step.TheVariants.{Name, At}
use Rattle.erd_meaning.specs.declared.keys.key.Key.{Key}
use Rattle.erd_compare.specs.DifferenceData.{difference_data}
use Rattle.erd_compare.specs.declared.difference.How.{How}
use Rattle.erd_compare.specs.declared.difference.How.TheVariants.{OnlyLeft}
use Rattle.erd_compare.specs.declared.difference.Part.{Part}

-- ---- trees

steps_tree : (steps : List Step) → AreTrees (items_of (map step_data steps))
steps_tree [] = tt
steps_tree (Name name ∷ steps) = (tt, steps_tree steps)
steps_tree (At i ∷ steps) = (tt, steps_tree steps)

fault_tree : (f : Fault) → IsTree (fault_data f)
fault_tree f = at f.reason (steps_tree f.place)
  where
    at : (r : Reason) → AreTrees (items_of (map step_data f.place)) → IsTree (fault_data (record { place = f.place; reason = r }))
    at (reason.MissingMember name) place = (refl, tt, (refl, place, (tt, tt, tt)))
    at r place = (refl, place, (tt, tt, tt))

faults_tree : (faults : List Fault) → AreTrees (items_of (map fault_data faults))
faults_tree [] = tt
faults_tree (f ∷ faults) = (fault_tree f, faults_tree faults)

-- ---- depths

steps_depth : (steps : List Step) → items_depth (items_of (map step_data steps)) ≤ 0
steps_depth [] = omega arith
steps_depth (Name name ∷ steps) = omega (arith, steps_depth steps)
steps_depth (At i ∷ steps) = omega (arith, steps_depth steps)

fault_depth : (f : Fault) → depth (fault_data f) ≤ 2
fault_depth f = at f.reason (steps_depth f.place)
  where
    at : (r : Reason) → items_depth (items_of (map step_data f.place)) ≤ 0 → depth (fault_data (record { place = f.place; reason = r })) ≤ 2
    at (reason.MissingMember name) place = omega arith
    at r place = omega arith

faults_depth : (faults : List Fault) → items_depth (items_of (map fault_data faults)) ≤ 2
faults_depth [] = omega arith
faults_depth (f ∷ faults) = omega (arith, fault_depth f, faults_depth faults)

-- ---- no number that is not whole

steps_whole : (steps : List Step) → items_have_float (items_of (map step_data steps)) ≡ false
steps_whole [] = refl
steps_whole (Name name ∷ steps) = steps_whole steps
steps_whole (At i ∷ steps) = steps_whole steps

pub fault_whole : (f : Fault) → has_float (fault_data f) ≡ false
fault_whole f = at f.reason (steps_whole f.place)
  where
    at : (r : Reason) → items_have_float (items_of (map step_data f.place)) ≡ false → has_float (fault_data (record { place = f.place; reason = r })) ≡ false
    at (reason.MissingMember name) place = rw place refl
    at r place = rw place refl

-- ---- refusals and differences

-- a value that can stand in an answer
abbrev pub IsLowTree : Data → Type 0
IsLowTree d = IsTree d × (depth d ≤ 7)

-- the array of faults
pub faults_value : (faults : List Fault) → IsLowTree (faults_data faults)
faults_value faults = (faults_tree faults, omega (arith, faults_depth faults))

-- what is told of a refusal
pub refusal_value : (outcome : Outcome) (refused : Refusal) (value : Data) → TellsRefusalAs outcome refused value → IsLowTree value
refusal_value Bad (refusal.Faults faults) value is = subst IsLowTree (sym is) (faults_value faults)
refusal_value NotJson refusal.NotJson value is = subst IsLowTree (sym is) (tt, omega arith)
refusal_value outcome refused value is = absurd is

difference_at : (p : Part) (k : Option Key) (h : How) → let d = difference_data (record { part = p; key = k; how = h }) in (depth d ≤ 2) × (has_float d ≡ false)
difference_at p None OnlyLeft = (omega arith, refl)
difference_at p (Some k) OnlyLeft = (omega arith, refl)
difference_at p k h = (omega arith, refl)

-- the object of a difference
pub difference_value : (d : Difference) → (depth (difference_data d) ≤ 2) × (has_float (difference_data d) ≡ false)
difference_value d = difference_at d.part d.key d.how
