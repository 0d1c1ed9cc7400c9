-- The text of what each report has at a difference, as it is put into the text of an object.
use Rattle.std.specs.Prelude.{ℕ, ◌≡◌, ◌-◌, List, [], ◌++◌, Bool, true, false, if◌then◌else◌, Option, Some, None, codes, is_some, length, take}
use Rattle.serde_json.specs.Data.{Data}
use Rattle.serde_json.specs.View.{view}
use Rattle.serde_json.specs.Written.{comma_if, compact_text}
use Rattle.erd_compare.specs.declared.detailed.DetailedDifference.{DetailedDifference}
use Rattle.erd_canon.specs.Pieces.{IsPieceData}
use Rattle.erd_canon.specs.ValuedData.{valued_data}
use Rattle.erd_canon.specs.declared.data.piece.Piece.{Piece}
use Rattle.erd_canon.specs.declared.data.piece.Told.{Told}
use Rattle.erd_canon.specs.declared.data.valued.Sides.{Sides}

-- The name of a side with its text, if it has one.
abbrev pub side_text : List ℕ → Option (List ℕ) → List ℕ
side_text name None = []
side_text name (Some text) = name ++ text

-- True if a side has a text, and if both have one.
abbrev pub have_any : Option (List ℕ) → Option (List ℕ) → Bool
have_any (Some left) right = true
have_any None right = is_some right

abbrev pub have_both : Option (List ℕ) → Option (List ℕ) → Bool
have_both (Some left) right = is_some right
have_both None right = false

-- What is put behind the members of an object, with its end.
abbrev pub sides_text : Option (List ℕ) → Option (List ℕ) → List ℕ
sides_text left right =
    codes ",\"values\":{" ++ (side_text (codes "\"left\":") left ++ (comma_if (have_both left right) ++ (side_text (codes "\"right\":") right ++ codes "}}")))

-- What the text of an object becomes. It stays as it is if no side has a text.
abbrev pub values_put : Option (List ℕ) → Option (List ℕ) → List ℕ → List ℕ
values_put left right text = if have_any left right then take (length text - 1) text ++ sides_text left right else text

-- The object of a difference with what the two reports have there.
abbrev pub valued_of : Sides → DetailedDifference → Data
valued_of s d = valued_data s.left.now.prefer (view s.left.now.tree) s.right.now.prefer (view s.right.now.tree) s.most_bytes d

-- What a difference is counted as: the length of the text of its object.
abbrev pub valued_size : Sides → DetailedDifference → ℕ
valued_size s d = length (compact_text (valued_of s d))

-- The text of that object, behind another one or not.
abbrev pub valued_text : Sides → Bool → DetailedDifference → List ℕ
valued_text s later d = comma_if later ++ compact_text (valued_of s d)

-- Nothing more is asked of an object.
abbrev pub Anything : DetailedDifference → Type 0
Anything d = Unit {0}

-- The text is that of the array of a piece of the differences, each with what the two reports have there.
abbrev pub TellsEntries : Sides → Piece → List DetailedDifference → Told → List ℕ → Type 0
TellsEntries s piece found told text = (value : Data) × IsPieceData (valued_of s) piece found told value × (text ≡ compact_text value)
