-- What the bytes of a file are read as.
use Rattle.std.specs.Prelude.{◌≡◌, ℕ, List, Some}
use Rattle.std.specs.Str.{IsUtf8}
use Rattle.serde_json.specs.Data.{Data}
use Rattle.serde_json.specs.Read.{read}

-- The bytes are read as this value.
pub record IsReadAs (bytes : List ℕ) (d : Data) : Type 0 where
  pub is_text : IsUtf8 bytes
  pub value : read bytes ≡ Some d

-- The bytes are read as no value: they are no JSON.
abbrev pub IsNoJson : List ℕ → Type 0
IsNoJson bytes = (d : Data) → ¬ (IsReadAs bytes d)
