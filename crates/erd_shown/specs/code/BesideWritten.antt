-- What is written of two ballots beside each other.
use Rattle.std.specs.Prelude.{◌≡◌, ◌++◌, List, Option}
use Rattle.json.specs.Token.{Token}
use Rattle.serde_json.specs.Data.{Data}
use Rattle.erd_text.specs.Tokens.{value_tokens}
use Rattle.erd_meaning.specs.Keys.{Preference}
use Rattle.erd_shown.specs.RowData.{AreBesideIf}

abbrev pub WritesBesideIf : Preference → Data → Option Data → Preference → Data → Option Data → List Token → List Token → Type 0
WritesBesideIf π t o ρ u p before after = (told : Data) × AreBesideIf π t o ρ u p told × (after ≡ before ++ value_tokens told)
