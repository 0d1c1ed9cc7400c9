-- Reports whose shape has no fault.
use Rattle.std.specs.Prelude.{◌≡◌, false}
use Rattle.serde_json.specs.View.{view}
use Rattle.serde_json.specs.Written.{has_float}
use Rattle.serde_json.specs.declared.value.Value.{Value}
use Rattle.erd_check.specs.Faults.{ShapeFault, NoneOf}
use Rattle.erd_check.specs.Numbers.{HasFittingNumbers}
use Rattle.erd_check.specs.Trees.{IsShallow, IsTree}

-- The value has no fault of shape.
abbrev pub IsFaultless : Value → Type 0
IsFaultless tree = NoneOf (ShapeFault (view tree))

-- The report has no fault of shape, it is not nested too deep, the names in each of its objects rise, and each of its
-- numbers is whole and fits 64 bits.
pub record IsShaped (tree : Value) : Type 0 where
  pub faultless : IsFaultless tree
  pub shallow : IsShallow (view tree)
  pub is_tree : IsTree (view tree)
  pub whole : has_float (view tree) ≡ false
  pub fits : HasFittingNumbers (view tree)
