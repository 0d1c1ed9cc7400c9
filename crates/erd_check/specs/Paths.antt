-- The place that a path leads to, as its steps.
use Rattle.std.specs.Prelude.{List, [], ◌∷◌, ◌++◌}
use Rattle.erd_tables.specs.declared.place.Step.{Step}
use Rattle.erd_tables.specs.declared.place.Step.TheVariants.{Name, At}
use Rattle.erd_tables.specs.declared.fault.Reason.{Reason}
use Rattle.erd_tables.specs.declared.fault.Fault.{Fault}
use Rattle.erd_check.specs.declared.path.Path.{Path, Root, Member', Entry'}

-- The steps of a path, from the first to the last.
abbrev pub steps_of : Path → List Step
steps_of Root = []
steps_of (Member' p parent name) = steps_of parent ++ Name name.now ∷ []
steps_of (Entry' p parent i) = steps_of parent ++ At i ∷ []

-- The fault with this reason at the place.
abbrev pub fault_at : List Step → Reason → Fault
fault_at p r = record { place = p; reason = r }
