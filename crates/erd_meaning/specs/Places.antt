-- The places of positions in a list of positions.
use Rattle.std.specs.Prelude.{ℕ, ◌+◌, List, [], ◌∷◌, slice_set}

-- The list ns once each of these positions has its place, where the first has place n.
abbrev pub places_put : ℕ → List ℕ → List ℕ → List ℕ
places_put n [] ns = ns
places_put n (i ∷ is) ns = places_put (n + 1) is (slice_set ns i n)
