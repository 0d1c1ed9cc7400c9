use Rattle.erd_compare.proofs.Common.{◌==◌, option_and_then, refl, ◌∙◌, ap₂, option_eq, as_str, view, name_named, Left, Right}
use Rattle.erd_compare.proofs.same_ranks.NameNumbers.{names_decide, reference_named}
use Rattle.erd_compare.proofs.same_values.SameValues.{decides_as}
use Rattle.erd_compare.proofs.values.content.is_same_name.Goals as goal

pub returns : goal.returns
returns c =
    let a = c.args.comparer.now.left in
    let b = c.args.comparer.now.right in
    let one = as_str (view c.args.one.now) in
    let other = as_str (view c.args.other.now) in
    decides_as (c.eq.ensures ∙ ap₂ (option_eq ◌==◌) c.number_of_name_named.ensures c.number_of_name_named-2.ensures) refl refl
    (names_decide a b (option_and_then (name_named a.prefer (view a.tree)) one) (option_and_then (name_named b.prefer (view b.tree)) other)
    (reference_named a b Left one) (reference_named a b Right other))
