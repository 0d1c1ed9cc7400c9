-- What clauses see of the structs of the program: the value of a pointer, the texts of an `@id`, the steps of a path.
use Rattle.std.specs.Prelude.{option_map}
use Rattle.serde_json.specs.View.{view}
use Rattle.erd_meaning.specs.code.ObjectWalk.{Kept}
use Rattle.erd_check.specs.Paths.{steps_of}
use Rattle.erd_check.specs.declared.path.Path.{Path}
use Rattle.serde_json.specs.declared.value.Value.{Value}
use Rattle.erd_meaning.specs.Objects.{Placed}
use Rattle.erd_meaning.specs.declared.objects.table.Object.{Object}

-- What clauses see of an `Object`, which is what is kept of it.
abbrev pub shown : Object → Kept
shown o = record { family = o.family; value = view o.value.now; key = o.key; id = option_map (λ s. s.now) o.id; election = o.election }

-- A value at the place that the path leads to.
abbrev pub placed_at : Path → Value → Placed
placed_at p v = record { place = steps_of p; value = view v }
