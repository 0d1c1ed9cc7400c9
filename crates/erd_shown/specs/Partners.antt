-- Which line of one ballot is which line of another. A ballot may list a thing several times, so lines are told apart by the
-- thing and by the number of the occurrence. All of this is the profile's own.
use Rattle.std.specs.Prelude.{ℕ, suc, ◌+◌, ◌==◌, List, [], ◌∷◌, Bool, ◌&&◌, if◌then◌else◌, Option, Some, None, map}
use Rattle.std.specs.Option.{option_or}

-- How often a thing stands in a list, where `same` tells which things are one.
abbrev pub times : {K : Type 0} → (K → K → Bool) → K → List K → ℕ
times same x [] = 0
times same x (y ∷ ys) = if same x y then suc (times same x ys) else times same x ys

-- Each thing of a list with the number of its occurrence: how often it stands among those before it. The first list has the ones
-- before all of these.
abbrev pub occurrences_after : {K : Type 0} → (K → K → Bool) → List K → List K → List (K × ℕ)
occurrences_after same before [] = []
occurrences_after same before (x ∷ xs) = (x, times same x before) ∷ occurrences_after same (x ∷ before) xs

abbrev pub occurrences : {K : Type 0} → (K → K → Bool) → List K → List (K × ℕ)
occurrences same xs = occurrences_after same [] xs

-- True if both are the same occurrence of one thing.
abbrev pub is_same_occurrence : {K : Type 0} → (K → K → Bool) → K × ℕ → K × ℕ → Bool
is_same_occurrence same p q = same p.0 q.0 && (p.1 == q.1)

-- The position at which the occurrence stands in a list, of which the first has the position i, or none. A list of occurrences
-- has each once.
abbrev pub place_from : {K : Type 0} → (K → K → Bool) → ℕ → List (K × ℕ) → K × ℕ → Option ℕ
place_from same i [] p = None
place_from same i (q ∷ qs) p = option_or (place_from same (i + 1) qs p) (if is_same_occurrence same q p then Some i else None)

-- For each thing of the first list, the position of the same occurrence of it in the second list, or none.
abbrev pub partners : {K : Type 0} → (K → K → Bool) → List K → List K → List (Option ℕ)
partners same xs ys = map (place_from same 0 (occurrences same ys)) (occurrences same xs)
