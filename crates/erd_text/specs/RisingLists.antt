-- Lists in rising order, and labels with their translations in order.
use Rattle.std.specs.Prelude.{List, [], ◌∷◌, if◌then◌else◌, codes}
use Rattle.std.specs.Ordering.{is_lt}
use Rattle.std.specs.declared.cmp.Ordering.{Ordering}
use Rattle.serde_json.specs.Data.{Data, array, object, put}
use Rattle.serde_json.specs.View.{items_of}
use Rattle.serde_json.specs.Written.{compact_text}
use Rattle.erd_tables.specs.Texts.{text_cmp}
use Rattle.erd_check.specs.Values.{entries_at}

-- The list with the value inserted before the first entry that is not less than it.
abbrev pub with_inserted : {A : Type 0} → (A → A → Ordering) → A → List A → List A
with_inserted cmp x [] = x ∷ []
with_inserted cmp x (y ∷ ys) = if is_lt (cmp y x) then y ∷ with_inserted cmp x ys else x ∷ (y ∷ ys)

-- The same values in rising order. Each stands as often as before.
abbrev pub rising_list : {A : Type 0} → (A → A → Ordering) → List A → List A
rising_list cmp [] = []
rising_list cmp (x ∷ xs) = with_inserted cmp x (rising_list cmp xs)

-- JSON values are compared by the bytes of their compact texts. (profile)
abbrev pub compact_cmp : Data → Data → Ordering
compact_cmp a b = text_cmp (compact_text a) (compact_text b)

-- The label with the entries of its `Text` in rising order. A label that is a plain text stays. (class
-- InternationalizedText)
abbrev pub with_rising_text : Data → Data
with_rising_text (object ms) =
    object (put (codes "Text") (array (items_of (rising_list compact_cmp (entries_at (codes "Text") (object ms))))) ms)
with_rising_text d = d
