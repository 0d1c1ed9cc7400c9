-- The line that reports a difference. All of this is the profile's own. The key and the name of a member are written as JSON
-- (RFC 8259).
use Rattle.std.specs.Prelude.{ℕ, List, [], ◌∷◌, ◌++◌, Option, Some, None, codes}
use Rattle.serde_json.specs.Data.{Data, string, array}
use Rattle.serde_json.specs.View.{items_of}
use Rattle.serde_json.specs.Written.{compact_text}
use Rattle.erd_meaning.specs.declared.keys.key.Key.{Key}
use Rattle.erd_compare.specs.declared.difference.Difference.{Difference}
use Rattle.erd_compare.specs.declared.difference.How.{How}
use Rattle.erd_compare.specs.declared.difference.How.TheVariants.{OnlyLeft, OnlyRight, OtherClass, Member}
use Rattle.erd_compare.specs.declared.difference.Part.{Part}
use Rattle.erd_compare.specs.declared.difference.Part.TheVariants as part

-- The word for the part.
abbrev pub part_text : Part → List ℕ
part_text part.Report = codes "report"
part_text part.Unit = codes "unit"
part_text part.Party = codes "party"
part_text part.Person = codes "person"
part_text part.Office = codes "office"
part_text part.Header = codes "header"
part_text part.Election = codes "election"
part_text part.Candidate = codes "candidate"
part_text part.Contest = codes "contest"
part_text part.Style = codes "style"

-- The key as a JSON array of its three texts.
abbrev pub key_as_json : Key → Data
key_as_json k = array (items_of (string k.kind ∷ string k.other ∷ string k.value ∷ []))

-- A space and the key as compact JSON, or the empty text if there is no key.
abbrev pub key_text : Option Key → List ℕ
key_text None = []
key_text (Some k) = codes " " ++ compact_text (key_as_json k)

-- The words for how the reports differ. The name of a member is written as JSON text.
abbrev pub how_text : How → List ℕ
how_text OnlyLeft = codes "only left"
how_text OnlyRight = codes "only right"
how_text OtherClass = codes "other class"
how_text (Member name) = codes "member " ++ compact_text (string name)

-- The line that reports a difference, without its line end: part, key if there is one, a colon, a space and the words.
abbrev pub difference_line : Difference → List ℕ
difference_line d = part_text d.part ++ (key_text d.key ++ (codes ": " ++ how_text d.how))
