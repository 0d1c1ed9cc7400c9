-- What tells apart the objects that the program keeps, where no two have one `@id`.
use Rattle.std.specs.Prelude.{◌≡◌, ℕ, List, Some, option_and_then}
use Rattle.std.specs.List.{slice_get}
use Rattle.erd_tables.specs.declared.class.Family.{Family}
use Rattle.erd_meaning.specs.code.ObjectIndexes.{number_of_id}
use Rattle.erd_meaning.specs.code.ObjectLookups.{those_of}
use Rattle.erd_meaning.specs.code.ObjectWalk.{Kept}

-- An object is what its `@id` leads to.
abbrev pub HaveOwnIds : List Kept → Type 0
HaveOwnIds ks = (f : Family) (i : ℕ) (id : List ℕ) → option_and_then (λ k. k.id) (slice_get (those_of f ks) i) ≡ Some id → number_of_id ks id ≡ Some (f, i)
