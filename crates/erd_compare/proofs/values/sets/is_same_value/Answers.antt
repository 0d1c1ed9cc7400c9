-- Equality as JSON decides equality of whole trees.
use Rattle.erd_compare.proofs.Common.{Bool, sym, subst, view, Decides}
use Rattle.erd_compare.proofs.whole_trees.WholeTrees.{is_same_json-Decides}
use Rattle.erd_compare.proofs.values.sets.is_same_value.Goals as goal

pub returns : goal.returns
returns c =
    subst (λ (answer : Bool). Decides answer (view c.args.one.now) (view c.args.other.now)) (sym c.same_json.ensures)
    (is_same_json-Decides (view c.args.one.now) (view c.args.other.now) c.requires.one c.requires.other)
