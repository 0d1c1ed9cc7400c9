-- What is written of members that may be left out, and which families references name.
use Rattle.std.specs.Prelude.{ℕ, List, [], ◌∷◌, Bool, true, if◌then◌else◌, Option, Some, None, option_map}
use Rattle.json.specs.Token.{Token, key}
use Rattle.serde_json.specs.Data.{Data}
use Rattle.erd_tables.specs.declared.member.MemberKind.{MemberKind}
use Rattle.erd_tables.specs.declared.member.MemberKind.TheVariants as kind
use Rattle.erd_text.specs.Tokens.{value_tokens}
use Rattle.erd_meaning.specs.Keys.{Preference, has_keys}
use Rattle.erd_meaning.specs.Lookups.{selection_in}
use Rattle.erd_meaning.specs.NameParts.{NameParts}

-- The tokens of a member, if it is written.
abbrev pub member_if : Bool → List ℕ → Data → List Token
member_if b k d = if b then key k ∷ value_tokens d else []

-- The tokens of a member, if there is a value for it.
abbrev pub member_told : List ℕ → Option Data → List Token
member_told k None = []
member_told k (Some d) = key k ∷ value_tokens d

-- True unless the kind asks for references to objects that have no keys.
abbrev pub names_keys : MemberKind → Bool
names_keys (kind.One f) = has_keys f
names_keys (kind.Many f) = has_keys f
names_keys k = true

-- The name of the selection at this position of the report, or none.
abbrev pub name_in : Preference → Data → ℕ → Option NameParts
name_in π t i = option_map (λ s. s.1) (selection_in π t i)
