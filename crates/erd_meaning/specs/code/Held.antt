-- What clauses see of the tables under a salt: what they hold, and the hasher that their salt starts.
use Rattle.std.specs.Prelude.{◌≡◌, List, Option}
use Rattle.std.specs.declared.hash.DefaultHasher.{DefaultHasher}
use Rattle.erd_meaning.specs.declared.keys.key.Key.{Key}
use Rattle.erd_meaning.specs.declared.objects.table.Object.{Object}

-- The objects of a table.
pub record HeldObjects : Type 0 where
  pub start : DefaultHasher
  pub objects : List Object

-- The keys of a table of elections.
pub record HeldElections : Type 0 where
  pub start : DefaultHasher
  pub keys : List (Option Key)

-- Both are under the salt that starts this hasher.
pub record AreSalted (start : DefaultHasher) (objects : HeldObjects) (elections : HeldElections) : Type 0 where
  pub objects_are : objects.start ≡ start
  pub elections_are : elections.start ≡ start
