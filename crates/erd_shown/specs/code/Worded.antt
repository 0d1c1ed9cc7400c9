-- What is written of a selection with its name.
use Rattle.std.specs.Prelude.{Some}
use denote.Ref.{Bor}
use Rattle.serde_json.specs.Data.{Data}
use Rattle.serde_json.specs.View.{view}
use Rattle.serde_json.specs.declared.value.Value.{Value}
use Rattle.erd_meaning.specs.Keys.{Preference}
use Rattle.erd_meaning.specs.NameParts.{NameParts}
use Rattle.erd_shown.specs.WordList.{named_words}

-- The name and the words of a selection with its name.
abbrev pub words_of_pair : Preference → Data → NameParts × Bor Value → Data
words_of_pair π t p = named_words π t (Some p.0) (view p.1.now)
