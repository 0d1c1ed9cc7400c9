-- What is written step by step: values beside the texts by which they are sorted, and the members of a label.
use Rattle.std.specs.Prelude.{ℕ, List, Bool, true, false, codes}
use Rattle.serde_json.specs.Data.{Data, Members, array, put}
use Rattle.serde_json.specs.View.{items_of}
use Rattle.serde_json.specs.Written.{compact_text}
use Rattle.erd_text.specs.RisingLists.{compact_cmp, rising_list}

-- A text and a value, as a pair.
abbrev pub beside : List ℕ → Data → List ℕ × Data
beside text d = (text, d)

-- The compact text of a value and the value, as a pair.
abbrev pub beside_compact_text : Data → List ℕ × Data
beside_compact_text d = beside (compact_text d) d

-- The array of the values in rising order.
abbrev pub rising_array : List Data → Data
rising_array ds = array (items_of (rising_list compact_cmp ds))

-- The members, with the translations in rising order as `Text` if they are due.
abbrev pub with_due_text : Bool → List Data → Members → Members
with_due_text true ds ms = put (codes "Text") (rising_array ds) ms
with_due_text false ds ms = ms
