-- The text of an entry of the list of what ballots print.
use Rattle.std.specs.Prelude.{ℕ, List, ◌++◌, Bool, length}
use Rattle.serde_json.specs.Data.{Data}
use Rattle.serde_json.specs.View.{view}
use Rattle.serde_json.specs.Written.{comma_if, compact_text}
use Rattle.erd_meaning.specs.Judged.{Judged}
use Rattle.erd_shown.specs.WordList.{worded_data}
use Rattle.erd_shown.specs.declared.word_list.WordedObject.{WordedObject}

-- The entry of an object.
abbrev pub worded_of : Judged → WordedObject → Data
worded_of r o = worded_data r.prefer (view r.tree) o

-- What an entry is counted as: the length of its text.
abbrev pub worded_size : Judged → WordedObject → ℕ
worded_size r o = length (compact_text (worded_of r o))

-- The text of an entry, behind another one or not.
abbrev pub worded_text : Judged → Bool → WordedObject → List ℕ
worded_text r later o = comma_if later ++ compact_text (worded_of r o)

-- Nothing more is asked of an entry.
abbrev pub AnyObject : WordedObject → Type 0
AnyObject o = Unit {0}
