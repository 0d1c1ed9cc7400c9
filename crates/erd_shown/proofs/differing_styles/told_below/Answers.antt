use Rattle.erd_shown.proofs.Common.{◌≡◌, ◌==◌, true, List, [], ◌∷◌, length, map, refl, sym, ◌∙◌, view, Data, Preference}
use Rattle.std.specs.Prelude.{String}
use Rattle.std.specs.declared.alloc.Global.{Global}
use Rattle.erd_shown.specs.BallotDifferences.{of_style}
use Rattle.erd_shown.proofs.LineLaws.{none_in}
use Rattle.erd_shown.specs.BallotLines.{AreToldBelow}
use Rattle.erd_shown.specs.code.Pairs.{of_told}
use Rattle.erd_shown.specs.declared.ballot_differences.BallotDifference.{BallotDifference}
use Rattle.erd_shown.proofs.differing_styles.told_below.Goals as goal

none_told : (π : Preference) (t : Data) (ρ : Preference) (u : Data) (found : List BallotDifference) (told : List (BallotDifference × String Global))
    → true ≡ (length found == 0) → told ≡ []
    → AreToldBelow π t ρ u (map of_style found) (map of_told told)
none_told π t ρ u [] [] none is = record { styles = refl; below = tt }
none_told π t ρ u [] (p ∷ ps) none is = cc
none_told π t ρ u (s ∷ ss) told none is = absurd (none_in s ss none)

pub returns-then-is_empty : goal.returns-then-is_empty
returns-then-is_empty c =
    let left = c.args.left.now in
    let right = c.args.right.now in
    none_told left.prefer (view left.tree) right.prefer (view right.tree) c.args.found.now c.new.result.items (sym c.if-is_empty.true ∙ c.is_empty.ensures)
    c.new.ensures.items
