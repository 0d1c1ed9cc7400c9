-- What is built step by step, in the order of the code, and the texts of `@id`s.
use Rattle.std.specs.Prelude.{ℕ, List, [], ◌∷◌, Option, Some, None, unwrap_or}
use Rattle.std.specs.Option.{option_map_or}
use Rattle.json.specs.Token.{Token, key}
use Rattle.serde_json.specs.Data.{Data, object, Members, member, put}
use Rattle.erd_tables.specs.declared.class.Family.{Family}
use Rattle.erd_text.specs.Tokens.{value_tokens}
use Rattle.erd_normal.specs.Canonical.{canonical_id}

-- The members with a first one of this name, if there is a value for it.
abbrev pub first_if : List ℕ → Option Data → Members → Members
first_if k v ms = option_map_or (λ d. member k d ms) v ms

-- The members with each of these values under its name.
abbrev pub put_all : List (List ℕ × Data) → Members → Members
put_all [] ms = ms
put_all (p ∷ ps) ms = put p.0 p.1 (put_all ps ms)

-- The object with each of these values under its name. Any other value stays.
abbrev pub put_in : List (List ℕ × Data) → Data → Data
put_in ps (object ms) = object (put_all ps ms)
put_in ps d = d

-- The tokens of a member with this value. If there is no value, there are none.
abbrev pub member_tokens : List ℕ → Option Data → List Token
member_tokens k None = []
member_tokens k (Some d) = key k ∷ value_tokens d

-- The `@id` text of the object with this rank, or the empty text in a family whose objects have no canonical `@id`.
abbrev pub id_of_rank : Family → ℕ → List ℕ
id_of_rank f rank = unwrap_or (canonical_id f rank) []
