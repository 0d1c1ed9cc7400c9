-- What two objects have under one name, and what a test of such pairs decides.
use Rattle.std.specs.Prelude.{◌≡◌, ℕ, List, Bool, None, option_map, IfSome}
use Rattle.serde_json.specs.Data.{Data}
use Rattle.serde_json.specs.Find.{get}
use Rattle.serde_json.specs.View.{view}
use Rattle.erd_compare.specs.code.Comparing.{Decides, IsWholeTree}
use Rattle.erd_compare.specs.code.LeastNames.{MemberMap}
use Rattle.erd_compare.specs.declared.objects.differing_names.MemberPair.{MemberPair}

-- The pair has what the two objects have under its name.
pub record IsPairOf (d e : Data) (pair : MemberPair) : Type 0 where
  pub one : option_map (λ v. view v.now) pair.one ≡ get pair.name.now d
  pub other : option_map (λ v. view v.now) pair.other ≡ get pair.name.now e

-- What the pair has are trees whose numbers are whole.
abbrev pub IsWholePair : MemberPair → Type 0
IsWholePair pair = IfSome pair.one (λ v. IsWholeTree (view v.now)) × IfSome pair.other (λ v. IsWholeTree (view v.now))

-- The map has nothing at a name that the object has not.
abbrev pub IsMapOf : Data → MemberMap → Type 0
IsMapOf d m = (k : List ℕ) → get k d ≡ None → m k ≡ None

-- These answers decide whether the two maps are equal at a name.
abbrev pub DecideNames : (MemberPair → Bool → Type 0) → Data → Data → MemberMap → MemberMap → Type 0
DecideNames answers d e m n = (pair : MemberPair) (answer : Bool) → IsPairOf d e pair → answers pair answer → Decides answer (m pair.name.now) (n pair.name.now)
