-- What the program looks up among the objects that it keeps of a report. It does not define the profile: `Found` and
-- `ReferenceLookups` prove that it finds what `Lookups` and `Objects` say.
use Rattle.std.specs.Prelude.{ℕ, List, Bool, ◌&&◌, ◌==◌, Option, Some, None, option_and_then, filter, find, if◌then◌else◌}
use Rattle.erd_tables.specs.Classes.{family_number}
use Rattle.erd_tables.specs.declared.class.Family.{Family}
use Rattle.erd_meaning.specs.code.ObjectWalk.{Kept, same_id, same_key}
use Rattle.erd_meaning.specs.declared.keys.key.Key.{Key}

-- True if the object is of the family.
abbrev pub is_of_family : Family → Kept → Bool
is_of_family f k = family_number k.family == family_number f

-- The objects of a family.
abbrev pub those_of : Family → List Kept → List Kept
those_of f ks = filter (is_of_family f) ks

-- True if the object is of the family and has this key.
abbrev pub is_keyed : Family → Key → Kept → Bool
is_keyed f key k = is_of_family f k && same_key k.key (Some key)

-- True if the object has this `@id`.
abbrev pub keeps_id : List ℕ → Kept → Bool
keeps_id id k = same_id k.id (Some id)

-- The first object with this `@id`, or none if that object is of another family.
abbrev pub object_among : List Kept → Family → List ℕ → Option Kept
object_among ks f id = option_and_then (λ k. if is_of_family f k then Some k else None) (find (keeps_id id) ks)

-- The key of the object of the family with this `@id`, or none.
abbrev pub key_among : List Kept → Family → List ℕ → Option Key
key_among ks f id = option_and_then (λ k. k.key) (object_among ks f id)
