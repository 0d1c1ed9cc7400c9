-- What clauses see of the walks over objects and over selections: how far each has come.
use Rattle.std.specs.Prelude.{map}
use Rattle.erd_meaning.specs.code.ObjectWalk.{ObjectsMet}
use Rattle.erd_meaning.specs.code.RanksAmong.{names_of}
use Rattle.erd_meaning.specs.code.SelectionWalk.{NamesMet}
use Rattle.erd_meaning.specs.code.Shown.{shown}
use Rattle.erd_meaning.specs.declared.objects.filled.Tables.{Tables}
use Rattle.erd_meaning.specs.declared.names.selection_walk.SelectionWalk.{SelectionWalk}

-- What clauses see of the tables of the elections and the objects: how far they are filled.
abbrev pub met_of : Tables → ObjectsMet
met_of w = record { objects = map shown w.objects.objects; elections = w.elections.keys; faults = w.faults.items }

-- What clauses see of the walk over the selections: how far it has come.
abbrev pub names_met : SelectionWalk → NamesMet
names_met w = record { names = names_of w.names.keys; faults = w.faults.items }
