-- What the code tells of a place, as it is told here.
use Rattle.std.specs.Prelude.{option_map, List, map}
use Rattle.serde_json.specs.View.{view}
use Rattle.erd_prepare.specs.Rules.{Told}
use Rattle.erd_prepare.specs.declared.change.Change.{Change}

-- What is told of one place.
abbrev pub told_of : Change → Told
told_of c = record { place = c.place; before = option_map view c.before; after = option_map view c.after }

-- What is told of several places, in their order.
abbrev pub told_by : List Change → List Told
told_by cs = map told_of cs
