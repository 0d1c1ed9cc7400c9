-- Where the objects that are compared stand in their reports.
use Rattle.std.specs.Prelude.{◌≡◌, ℕ, List, Option, Some, codes, option_and_then, option_map}
use Rattle.std.specs.List.{slice_get}
use Rattle.serde_json.specs.Data.{Data}
use Rattle.serde_json.specs.Find.{get}
use Rattle.serde_json.specs.View.{view}
use Rattle.erd_tables.specs.declared.class.Role.{Role}
use Rattle.erd_meaning.specs.Judged.{Judged}
use Rattle.erd_meaning.specs.code.SelectionWalk.{selection_of}
use Rattle.erd_meaning.specs.Objects.{contests}
use Rattle.erd_compare.specs.code.KeyedDifferences.{objects_in}

-- The object with the role at this position of the report.
abbrev pub IsPlaced : Judged → Role → ℕ → Data → Type 0
IsPlaced a r i d = option_map (λ o. o.value) (slice_get (objects_in r (view a.tree)) i) ≡ Some d

-- What the contest at this position has as `ContestSelection`, if there is such a contest and it has the member.
abbrev pub AreSelectionsAt : Judged → ℕ → Option Data → Type 0
AreSelectionsAt a c found = option_and_then (λ o. get (codes "ContestSelection") o.value) (slice_get (contests (view a.tree)) c) ≡ found

-- These are the selections of the contest at the position.
abbrev pub AreSelectionsIn : Judged → ℕ → List Data → Type 0
AreSelectionsIn a c ds = (i : ℕ) → option_map (λ o. o.value) (selection_of (view a.tree) c i) ≡ slice_get ds i
