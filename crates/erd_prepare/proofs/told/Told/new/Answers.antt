use Rattle.std.proofs.Common.{map, sym, subst, List}
use Rattle.serde_json.specs.View.{view}
use Rattle.serde_json.specs.declared.value.Value.{Value}
use Rattle.erd_prepare.specs.Tellings.{HaveBytes, no_value}
use Rattle.erd_prepare.proofs.told.Told.new.Goals as goal

pub returns-clause-measured : goal.returns-clause-measured
returns-clause-measured c = subst (λ (vs : List Value). HaveBytes (map view vs) 0) (sym c.new.ensures.items) no_value
