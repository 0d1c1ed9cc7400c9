use Rattle.erd_compare.proofs.Common.{map, ap, with_ranks}
use Rattle.erd_compare.proofs.same_ranks.NameNumbers.{are_name_numbers}
use Rattle.erd_compare.proofs.ranks.name_numbers.names_of_both.Goals as goal

pub returns : goal.returns
returns c =
    are_name_numbers c.args.left.now c.args.right.now c.args.common.now c.requires.common _ _ _ _ (ap (map with_ranks) c.no_names-names.ensures.keys)
    c.in_ok-left.ensures.names c.in_ok-right.ensures.names c.in_ok-left.ensures.numbers c.in_ok-right.ensures.numbers
