-- The order in which the program chooses among the identifiers of an object.
use Rattle.std.specs.Prelude.{List, [], ◌∷◌, if◌then◌else◌, Bool, false, Option, Some, None}
use Rattle.std.specs.Ordering.{bool_cmp, ordering_then, is_lt}
use Rattle.std.specs.declared.cmp.Ordering.{Ordering}
use Rattle.erd_meaning.specs.Keys.{Preference, is_of_type, key_cmp}
use Rattle.erd_meaning.specs.declared.keys.key.Key.{Key}

-- True if the triple is of the preferred type.
abbrev pub is_preferred : Preference → Key → Bool
is_preferred None k = false
is_preferred (Some type) k = is_of_type type k

-- Triples of the preferred type come before all others. Beyond that, triples are compared as keys.
abbrev pub choice_cmp : Preference → Key → Key → Ordering
choice_cmp π a b = ordering_then (bool_cmp (is_preferred π b) (is_preferred π a)) (key_cmp a b)

-- The one of two triples that is chosen.
abbrev pub choice_of_two : Preference → Key → Key → Key
choice_of_two π a b = if is_lt (choice_cmp π b a) then b else a

-- The triple that is chosen among one triple and a list of others.
abbrev pub choice_of : Preference → Key → List Key → Key
choice_of π k [] = k
choice_of π k (l ∷ ls) = choice_of π (choice_of_two π k l) ls

-- The triple that is chosen from a list, or none if the list is empty.
abbrev pub choice : Preference → List Key → Option Key
choice π [] = None
choice π (k ∷ ks) = Some (choice_of π k ks)
