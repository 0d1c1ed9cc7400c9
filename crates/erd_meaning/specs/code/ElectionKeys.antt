-- What the program keeps of the elections of a report: their keys.
use Rattle.std.specs.Prelude.{◌≡◌, List, [], ◌∷◌, ◌++◌, Bool, false, if◌then◌else◌, Option, Some, None}
use Rattle.std.specs.List.{list_any}
use Rattle.std.specs.Ordering.{is_eq}
use Rattle.erd_meaning.specs.Keys.{key_cmp}
use Rattle.erd_meaning.specs.code.ObjectWalk.{same_key}
use Rattle.erd_meaning.specs.declared.keys.key.Key.{Key}

-- A key is among those seen if and only if an election has it.
abbrev pub AreSeen : List (Option Key) → List Key → Type 0
AreSeen keys seen = (key : Key) → list_any (λ k. is_eq (key_cmp key k)) seen ≡ list_any (same_key (Some key)) keys

-- True if the key is among those seen.
abbrev pub is_seen : List Key → Option Key → Bool
is_seen seen None = false
is_seen seen (Some key) = list_any (λ k. is_eq (key_cmp key k)) seen

-- The keys seen after one more election, which has this key or none.
abbrev pub seen_with : List Key → Option Key → List Key
seen_with seen None = seen
seen_with seen (Some key) = if is_seen seen (Some key) then seen else seen ++ key ∷ []
