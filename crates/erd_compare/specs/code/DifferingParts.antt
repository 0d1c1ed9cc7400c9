-- All differences of two reports in a part.
use Rattle.std.specs.Prelude.{◌≡◌, List, ◌++◌, map, Option}
use Rattle.std.specs.List.{AllByRecursion}
use Rattle.std.specs.List.Sorted.{IsStrictlySortedBy}
use Rattle.std.specs.Option.{option_copied}
use Rattle.erd_meaning.specs.Meaning.{Meaning}
use Rattle.erd_meaning.specs.declared.keys.key.Key.{Key}
use Rattle.erd_compare.specs.Differences.{AgreeBut, AreDifferent, Stands, difference_cmp, record_at}
use Rattle.erd_compare.specs.code.DifferingWays.{hows_of}
use Rattle.erd_compare.specs.declared.difference.Difference.{Difference}
use Rattle.erd_compare.specs.declared.difference.Part.{Part}
use Rattle.erd_compare.specs.declared.first.keyed_ways.KeyedWays.{KeyedWays}

-- The differences at a key of the part, one for each way.
abbrev pub differences_at : Part → KeyedWays → List Difference
differences_at p d = map (λ how. record { part = p; key = option_copied d.key; how = how }) (hows_of d.ways)

-- These are all differences of the two meanings at the part, in rising order.
pub record AreDifferencesIn (m n : Meaning) (p : Part) (ds : List Difference) : Type 0 where
  pub rise : IsStrictlySortedBy difference_cmp ds
  pub differ : AllByRecursion (AreDifferent m n) ds
  pub its_part : AllByRecursion (λ d. d.part ≡ p) ds
  pub all : (k : Option Key) → AgreeBut (λ how. Stands (record { part = p; key = k; how = how }) ds) (record_at m p k) (record_at n p k)

-- After these differences come all differences at the part.
abbrev pub AppendsDifferences : Meaning → Meaning → Part → List Difference → List Difference → Type 0
AppendsDifferences m n p before after = (ds : List Difference) × AreDifferencesIn m n p ds × (after ≡ before ++ ds)
