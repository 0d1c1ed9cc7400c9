-- What differs inside the selections of two contests, with what the contests have there, and the bounds that end it.
use Rattle.erd_canon.proofs.Common.{◌≡◌, ℕ, true, List, [], ◌∷◌, ◌++◌, Some, None, Option, codes, refl, serde_json_on_literals, Data, string, array, items_of}
use Rattle.erd_canon.proofs.Common.{compact_text}
use Rattle.erd_tables.specs.declared.class.Class.TheVariants as class
use Rattle.erd_compare.specs.declared.difference.How.{How}
use Rattle.erd_compare.specs.declared.difference.How.TheVariants.{Member, OnlyLeft, OnlyRight, OtherClass}
use Rattle.erd_compare.specs.declared.inside.SelectionDifference.{SelectionDifference}
use Rattle.erd_canon.specs.ValuedData.{room_behind, valued_selections}

-- a line for a write-in, which only the left contest has, or in whose note they differ, or where neither has anything
abbrev line : How → SelectionDifference
line how = record { name = record { class = class.CandidateSelection; keys = []; write_in = true; order = None; label = None; identifier = None }; how = how }

-- the texts of the values have 5 bytes where the line is only in the left contest, and 3 and 4 bytes where the notes differ
abbrev left : How → Option Data
left OnlyLeft = Some (string (codes "Ann"))
left OnlyRight = None
left OtherClass = None
left (Member name) = Some (string (codes "a"))

abbrev right : How → Option Data
right OnlyLeft = None
right OnlyRight = None
right OtherClass = None
right (Member name) = Some (string (codes "bc"))

abbrev told : ℕ → List ℕ
told room =
    compact_text (array (items_of (valued_selections (λ d. left d.how) (λ d. right d.how) (Some room)
    (line OnlyLeft ∷ line (Member (codes "Note")) ∷ line OnlyRight ∷ []))))

abbrev entry : List ℕ → List ℕ → List ℕ
entry way values = codes "{" ++ (way ++ (codes ",\"name\":[\"ElectionResults.CandidateSelection\",[],true,null,null,null]" ++ (values ++ codes "}")))

abbrev three : List ℕ → List ℕ → List ℕ → List ℕ
three first second third =
    codes "[" ++ (entry (codes "\"how\":\"only left\"") first ++ (codes "," ++ (entry (codes "\"how\":\"member\",\"member\":\"Note\"") second
    ++ (codes "," ++ (entry (codes "\"how\":\"only right\"") third ++ codes "]")))))

-- twelve bytes are enough for all values; where neither has anything, there is no member
all_told : told 12 ≡ three (codes ",\"values\":{\"left\":\"Ann\"}") (codes ",\"values\":{\"left\":\"a\",\"right\":\"bc\"}") []
unfolding serde_json_on_literals
all_told = refl

-- with one less the last text does not fit: from there on nothing is told, also where there is nothing
last_not_told : told 11 ≡ three (codes ",\"values\":{\"left\":\"Ann\"}") (codes ",\"values\":null") (codes ",\"values\":null")
unfolding serde_json_on_literals
last_not_told = refl

-- the first text fits into five bytes, and not into four; then nothing is told, even if a later text would fit
first_told : told 5 ≡ three (codes ",\"values\":{\"left\":\"Ann\"}") (codes ",\"values\":null") (codes ",\"values\":null")
unfolding serde_json_on_literals
first_told = refl

none_told : told 4 ≡ three (codes ",\"values\":null") (codes ",\"values\":null") (codes ",\"values\":null")
unfolding serde_json_on_literals
none_told = refl

-- what is left of a room
rooms : (room_behind (Some 5) (left OnlyLeft) ≡ Some 0) × (room_behind (Some 4) (left OnlyLeft) ≡ None) × (room_behind (Some 4) None ≡ Some 4)
    × (room_behind None None ≡ None)
unfolding serde_json_on_literals
rooms = (refl, refl, refl, refl)
