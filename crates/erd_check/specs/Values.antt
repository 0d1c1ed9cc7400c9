-- What is read from a JSON value: entries, texts and names. A value of another kind gives nothing (RFC 8259).
use Rattle.std.specs.Prelude.{ℕ, List, [], ◌∷◌, option_and_then, unwrap_or}
use Rattle.std.specs.Option.{option_map_or}
use Rattle.serde_json.specs.Data.{Data, Items, no_items, item, Members, no_members, member}
use Rattle.serde_json.specs.Find.{get, as_array, as_str}

-- The entries of an array, as a list.
abbrev pub list_of_items : Items → List Data
list_of_items no_items = []
list_of_items (item d ds) = d ∷ list_of_items ds

-- The entries of an array, or no entries if the value is not an array.
abbrev pub entries_of : Data → List Data
entries_of d = option_map_or list_of_items (as_array d) []

-- The entries of the array in this member, or no entries if there is no such array.
abbrev pub entries_at : List ℕ → Data → List Data
entries_at name d = option_map_or entries_of (get name d) []

-- The text of a JSON string, or the empty text if the value is not a string.
abbrev pub text_of : Data → List ℕ
text_of d = unwrap_or (as_str d) []

-- The text in this member, or the empty text if there is no such text.
abbrev pub text_at : List ℕ → Data → List ℕ
text_at name d = unwrap_or (option_and_then as_str (get name d)) []

-- The names of an object's members, in their order.
abbrev pub names : Members → List (List ℕ)
names no_members = []
names (member k d ms) = k ∷ names ms
