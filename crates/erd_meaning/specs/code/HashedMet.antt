-- What the indexes hash of what the program meets.
use Rattle.std.specs.Prelude.{Option, Some, None}
use Rattle.erd_meaning.specs.SaltWrites.{Hashed, whole_selection}
use Rattle.erd_meaning.specs.code.ObjectWalk.{Met, an_election, an_object}

-- What the indexes hash of what was met.
abbrev pub hashed : Met → Hashed
hashed (an_object k) = record { family = Some k.family; id = k.id; key = k.key; selection = whole_selection k.family k.value }
hashed (an_election needed key) = record { family = None; id = None; key = key; selection = None }
