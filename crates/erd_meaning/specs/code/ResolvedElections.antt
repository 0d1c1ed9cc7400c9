-- What a report keeps of its elections.
use Rattle.std.specs.Prelude.{◌≡◌}
use Rattle.serde_json.specs.View.{view}
use Rattle.serde_json.specs.declared.value.Value.{Value}
use Rattle.erd_meaning.specs.Keys.{Preference}
use Rattle.erd_meaning.specs.code.KeyOrders.{IsOrder}
use Rattle.erd_meaning.specs.code.ObjectWalk.{election_keys}
use Rattle.erd_meaning.specs.declared.report.Elections.{Elections}

-- These are the keys of the elections of the report, and their order by these.
pub record AreElections (π : Preference) (tree : Value) (elections : Elections) : Type 0 where
  pub keys : elections.keys.keys ≡ election_keys π (view tree)
  pub ordered : IsOrder (election_keys π (view tree)) elections.order
