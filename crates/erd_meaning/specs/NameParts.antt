-- The six parts of a selection's name.
use Rattle.std.specs.Prelude.{ℕ, ℤ, List, Bool, Option}
use Rattle.erd_tables.specs.declared.class.Class.{Class}
use Rattle.erd_meaning.specs.declared.keys.key.Key.{Key}

-- Class, keys of its candidates or parties, whether it is for a write-in, sequence order, label, and the chosen triple of
-- its identifiers. (profile)
pub record NameParts : Type 0 where
  pub class : Class
  pub keys : List Key
  pub write_in : Bool
  pub order : Option ℤ
  pub label : Option (List ℕ)
  pub identifier : Option Key
