-- Sorting by key, for pairs of a key and what belongs to it.
use Rattle.std.specs.Prelude.{◌≡◌, List, filter, IsSortedByKey}
use Rattle.std.specs.Ordering.{is_eq}
use Rattle.std.specs.declared.cmp.Ordering.{Ordering}

-- The pairs that have this key, in their order.
abbrev pub pairs_of : {K T : Type 0} → (K → K → Ordering) → K → List (K × T) → List (K × T)
pairs_of cmp k pairs = filter (λ pair. is_eq (cmp pair.0 k)) pairs

-- The keys of the new list never fall. For each key, the new list has the same pairs as the old one, in the same order.
pub record IsStablySorted {K T : Type 0} (cmp : K → K → Ordering) (old new : List (K × T)) : Type 0 where
  pub never_falls : IsSortedByKey (λ pair. pair.0) cmp new
  pub same : (k : K) → pairs_of cmp k new ≡ pairs_of cmp k old
