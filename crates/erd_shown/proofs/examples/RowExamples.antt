-- Rows of two ballots beside each other, and lists that are no rows.
use Rattle.erd_shown.proofs.Common.{◌≡◌, ℕ, List, [], ◌∷◌, Some, None, Option, refl}
use Rattle.erd_shown.specs.Rows.{AreRows}
use Rattle.erd_shown.specs.declared.rows.Row.TheVariants.{Added, Both, MovedAway, MovedHere, Removed}

-- the first line on the left stands second on the right; the second one is on the left alone, and the right has another first
one_stays : AreRows (Some 1 ∷ None ∷ []) (None ∷ Some 0 ∷ []) (Added 0 ∷ Both 0 1 ∷ Removed 1 ∷ [])
one_stays = record { left_lines = refl; right_lines = refl; so = (refl, (refl, (refl, tt))) }

-- two lines change places: one of them moves
abbrev changed_places : List (Option ℕ)
changed_places = Some 1 ∷ Some 0 ∷ []

one_moves : AreRows changed_places changed_places (MovedHere 1 0 ∷ Both 0 1 ∷ MovedAway 1 0 ∷ [])
one_moves = record { left_lines = refl; right_lines = refl; so = (refl, (refl, (refl, tt))) }

-- two pairs don't cross
no_crossing : AreRows changed_places changed_places (Both 0 1 ∷ Both 1 0 ∷ []) → ⊥
no_crossing rows = let first : 1 ∷ 0 ∷ [] ≡ 0 ∷ 1 ∷ [] = rows.right_lines in cc

-- no line is left out
no_line_lost : AreRows changed_places changed_places (Both 0 1 ∷ []) → ⊥
no_line_lost rows = let lines : 0 ∷ [] ≡ 0 ∷ 1 ∷ [] = rows.left_lines in cc

-- and no two different lines are a pair
no_false_pair : AreRows changed_places changed_places (Both 0 0 ∷ Both 1 1 ∷ []) → ⊥
no_false_pair rows = let pair : Some (Some 1) ≡ Some (Some 0) = rows.so.0 in cc
