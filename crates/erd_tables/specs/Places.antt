-- Places in a JSON value: their order, and their texts (RFC 6901).
use Rattle.std.specs.Prelude.{ℕ, List, [], ◌∷◌, ◌++◌, codes, decimal, ◌==◌, if◌then◌else◌}
use Rattle.std.specs.Cmp.Lexicographic.{slice_cmp}
use Rattle.std.specs.Ordering.{nat_cmp}
use Rattle.std.specs.declared.cmp.Ordering.{Ordering}
use Rattle.std.specs.declared.cmp.Ordering.TheVariants.{Less, Greater}
use Rattle.erd_tables.specs.Texts.{text_cmp}
use Rattle.erd_tables.specs.declared.place.Step.{Step}
use Rattle.erd_tables.specs.declared.place.Step.TheVariants.{Name, At}

-- Names are compared by their bytes, and positions as numbers. Names come before positions, but no value has both. (profile)
abbrev pub step_cmp : Step → Step → Ordering
step_cmp (Name a) (Name b) = text_cmp a b
step_cmp (Name a) (At j) = Less
step_cmp (At i) (Name b) = Greater
step_cmp (At i) (At j) = nat_cmp i j

-- Places are compared step by step. A place comes before the places that continue it. (profile)
abbrev pub place_cmp : List Step → List Step → Ordering
place_cmp = slice_cmp step_cmp

-- One byte of a name in a JSON Pointer: `~` is written `~0`, `/` is written `~1`, and any other byte stays. (RFC 6901,
-- section 3)
abbrev pub escaped_byte : ℕ → List ℕ
escaped_byte x = if x == 126 then codes "~0" else (if x == 47 then codes "~1" else x ∷ [])

-- A name as a JSON Pointer writes it. (RFC 6901, section 3)
abbrev pub escaped_name : List ℕ → List ℕ
escaped_name [] = []
escaped_name (x ∷ xs) = escaped_byte x ++ escaped_name xs

-- One step as a JSON Pointer writes it: an escaped name, or a position in decimal. (RFC 6901, section 4)
abbrev pub step_text : Step → List ℕ
step_text (Name name) = escaped_name name
step_text (At i) = decimal i

-- The JSON Pointer of a place: a `/` before each step, and the empty text for the whole value. (RFC 6901, section 5)
abbrev pub pointer_text : List Step → List ℕ
pointer_text [] = []
pointer_text (s ∷ ss) = codes "/" ++ (step_text s ++ pointer_text ss)
