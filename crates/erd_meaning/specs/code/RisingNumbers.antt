-- Numbers that rise. They do not define the profile.
use Rattle.std.specs.Prelude.{◌≤◌, ◌+◌, ℕ, List, [], ◌∷◌, ⊤}

-- Each number is greater than the one before, and the first is at least n.
abbrev pub IsRisingFrom : ℕ → List ℕ → Type 0
IsRisingFrom n [] = ⊤
IsRisingFrom n (x ∷ xs) = (n ≤ x) × IsRisingFrom (x + 1) xs
