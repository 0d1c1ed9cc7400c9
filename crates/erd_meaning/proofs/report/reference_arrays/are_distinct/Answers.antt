use Rattle.erd_meaning.proofs.Common.{subst, IsPermutation-sym, nat_eq_equiv, IsRisingFrom}
use Rattle.indexmap.proofs.MapLemmas.{distinct_permutation}
use Rattle.erd_meaning.proofs.references.ClearArrays.{rising_differ}
use Rattle.erd_meaning.proofs.report.reference_arrays.are_distinct.Goals as goal

pub returns : goal.returns
returns c rising =
    let sorted = c.sort_unstable.new.self.items in
    distinct_permutation nat_eq_equiv sorted c.args.numbers.items (IsPermutation-sym c.args.numbers.items sorted c.sort_unstable.ensures.permutation)
    (rising_differ 0 sorted (subst (IsRisingFrom 0) c.deref.ensures.value (c.rise.ensures rising)))
