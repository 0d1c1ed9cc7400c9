-- The ways in which two records differ: all of them, or the first.
use Rattle.std.specs.Prelude.{ℕ, ◌≡◌, Bool, List, [], ◌∷◌, map, Option, Some, None}
use Rattle.erd_meaning.specs.Meaning.{ObjectRecord}
use Rattle.erd_compare.specs.Differences.{Differ}
use Rattle.erd_compare.specs.code.DifferingNames.{AreNames}
use Rattle.erd_compare.specs.declared.difference.How.{How}
use Rattle.erd_compare.specs.declared.difference.How.TheVariants.{OnlyLeft, OnlyRight, OtherClass, Member}
use Rattle.erd_compare.specs.declared.objects.ways.Ways.{Ways}
use Rattle.erd_compare.specs.declared.objects.ways.Ways.TheVariants as ways

-- The ways, in rising order.
abbrev pub hows_of : Ways → List How
hows_of ways.OnlyLeft = OnlyLeft ∷ []
hows_of ways.OnlyRight = OnlyRight ∷ []
hows_of ways.OtherClass = OtherClass ∷ []
hows_of (ways.Members names) = map Member (map (λ s. s.now) names.items)

-- Two records of one class differ at these names: all at which they do, or the first if not all are wanted. If there are no
-- records, there are no names.
abbrev pub DifferInNames : Bool → Option ObjectRecord → Option ObjectRecord → List (List ℕ) → Type 0
DifferInNames all None None names = names ≡ []
DifferInNames all (Some a) None names = ⊥
DifferInNames all None (Some b) names = ⊥
DifferInNames all (Some a) (Some b) names = (a.class ≡ b.class) × AreNames all a.members b.members names

-- Two records differ in these ways: all in which they do, or the first if not all are wanted. With none they are equal.
abbrev pub AreWays : Bool → Option ObjectRecord → Option ObjectRecord → Ways → Type 0
AreWays all a b ways.OnlyLeft = Differ a b OnlyLeft
AreWays all a b ways.OnlyRight = Differ a b OnlyRight
AreWays all a b ways.OtherClass = Differ a b OtherClass
AreWays all a b (ways.Members names) = DifferInNames all a b (map (λ s. s.now) names.items)
