-- The tokens of compact JSON for a value.
use Rattle.std.specs.Prelude.{List}
use Rattle.json.specs.Token.{Token}
use Rattle.json.specs.Tree as tree
use Rattle.serde_json.specs.Data.{Data, Items, Members}
use Rattle.serde_json.specs.Written.{outline, items_outline, members_outline}

-- The tokens of a value without floats.
abbrev pub value_tokens : Data → List Token
value_tokens d = tree.json_tokens (outline d)

-- The tokens of the entries of an array, with its end.
abbrev pub items_tokens : Items → List Token
items_tokens ds = tree.items_tokens (items_outline ds)

-- The tokens of the members of an object, with its end.
abbrev pub members_tokens : Members → List Token
members_tokens ms = tree.members_tokens (members_outline ms)
