-- What two reports have of the objects in a part, in the rising order of their keys.
use Rattle.std.specs.Prelude.{◌≡◌}
use Rattle.serde_json.specs.View.{view}
use Rattle.erd_meaning.specs.Judged.{Judged}
use Rattle.erd_meaning.specs.code.KeyOrders.{rising_positions}
use Rattle.erd_compare.specs.code.CommonRanks.{AreCommonRanks}
use Rattle.erd_compare.specs.code.KeyedDifferences.{IsComparable, keys_in_role, role_of_part}
use Rattle.erd_compare.specs.declared.difference.Part.{Part}
use Rattle.erd_compare.specs.declared.first.keyed_ways.Rising.{Rising}

-- The two reports can be compared, and these are the positions of their objects in the part, and the common ranks.
pub record AreRising (a b : Judged) (p : Part) (rising : Rising) : Type 0 where
  pub left : IsComparable a.prefer (view a.tree)
  pub right : IsComparable b.prefer (view b.tree)
  pub ones : rising.ones.now ≡ rising_positions (keys_in_role a.prefer (view a.tree) (role_of_part p))
  pub others : rising.others.now ≡ rising_positions (keys_in_role b.prefer (view b.tree) (role_of_part p))
  pub common : AreCommonRanks a b (role_of_part p) rising.common.now
