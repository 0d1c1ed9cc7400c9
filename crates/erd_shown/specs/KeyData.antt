-- Keys of objects and names of selections as JSON. All of this is the profile's own.
use Rattle.std.specs.Prelude.{ℕ, ℤ, pos, negsuc, ◌^◌, nat_lt, List, [], ◌∷◌, if◌then◌else◌, Option, Some, None, map}
use Rattle.serde_json.specs.Data.{Data, null, boolean, number, unsigned, negative, string, array}
use Rattle.serde_json.specs.View.{items_of}
use Rattle.erd_tables.specs.Classes.{text_of_class}
use Rattle.erd_meaning.specs.NameParts.{NameParts}
use Rattle.erd_meaning.specs.declared.keys.key.Key.{Key}

-- The array of these values.
abbrev pub array_of : List Data → Data
array_of ds = array (items_of ds)

-- The key as a JSON array of its three texts.
abbrev pub shown_key : Key → Data
shown_key k = array (items_of (string k.kind ∷ string k.other ∷ string k.value ∷ []))

-- The key as a JSON array of its three texts, or null if there is no key.
abbrev pub shown_key_or_null : Option Key → Data
shown_key_or_null None = null
shown_key_or_null (Some k) = shown_key k

-- A whole number, or null if 64 bits do not hold it.
abbrev pub shown_whole : ℤ → Data
shown_whole (pos n) = if nat_lt n (2 ^ 64) then number (unsigned n) else null
shown_whole (negsuc n) = if nat_lt n (2 ^ 63) then number (negative (negsuc n)) else null

-- The sequence order of a selection as a number, or null if it has none.
abbrev pub shown_order : Option ℤ → Data
shown_order None = null
shown_order (Some z) = shown_whole z

-- The text of a label as a string, or null if there is none.
abbrev pub shown_text_or_null : Option (List ℕ) → Data
shown_text_or_null None = null
shown_text_or_null (Some text) = string text

-- The name of a selection as the JSON array of its six parts, or null if there is no name.
abbrev pub shown_name : Option NameParts → Data
shown_name None = null
shown_name (Some n) =
    array_of (string (text_of_class n.class) ∷ array_of (map shown_key n.keys) ∷ boolean n.write_in
    ∷ shown_order n.order ∷ shown_text_or_null n.label ∷ shown_key_or_null n.identifier ∷ [])
