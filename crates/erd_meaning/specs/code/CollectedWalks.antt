-- What clauses see of the walk that collects the elections and the objects.
use Rattle.std.specs.Global.{Vec}
use Rattle.std.specs.Prelude.{List, map, option_map}
use Rattle.serde_json.specs.View.{view}
use Rattle.erd_meaning.specs.code.ObjectWalk.{Located, an_object, an_election, holder_at}
use Rattle.erd_meaning.specs.code.Spots.{election_place, object_place}
use Rattle.erd_meaning.specs.declared.objects.collected.Found.{Found}
use Rattle.erd_meaning.specs.declared.objects.collected.Found.TheVariants.{Election, Object}

-- What was found, and its place.
abbrev pub found : Found → Located
found (Election index needed key) = record { place = election_place index; met = an_election needed key }
found (Object f spot v key id) = record {
  place = object_place f spot;
  met = an_object record { family = f; value = view v.now; key = key; id = option_map (λ s. s.now) id; election = holder_at f (object_place f spot) };
}

-- What the walk has collected.
abbrev pub collected_in : Vec Found → List Located
collected_in w = map found w.items
