-- The orders in which the objects of a report are written, and the ranks of what references name.
use Rattle.std.specs.Prelude.{◌≡◌, ℕ, List, false, if◌then◌else◌, map}
use Rattle.serde_json.specs.Data.{Data}
use Rattle.serde_json.specs.Written.{has_float}
use Rattle.erd_tables.specs.Families.{entry_of}
use Rattle.erd_tables.specs.declared.class.Family.{Family}
use Rattle.erd_meaning.specs.Accepted.{IsAccepted}
use Rattle.erd_meaning.specs.Keys.{Preference, has_keys}
use Rattle.erd_meaning.specs.Lookups.{rank_of}
use Rattle.erd_meaning.specs.Objects.{IsBounded, contests}
use Rattle.erd_meaning.specs.SelectionNames.{key_named}
use Rattle.erd_normal.specs.code.ElectionObjects.{list_seen, positions_in_election}
use Rattle.erd_normal.specs.code.SelectionOrders.{AreSelectionRanks, rising_selections}
use Rattle.erd_normal.specs.declared.writer.Orders.{Orders}

-- The rank of the object of the family that has this `@id`, or 0 if there is none or the family has no keys.
abbrev pub rank_named : Preference → Data → Family → List ℕ → ℕ
rank_named π t f id = if has_keys f then rank_of π t f (key_named π t f id) else 0

-- The report is accepted, its families are few, it has no number that is not whole, and these are its orders.
pub record AreOrders (π : Preference) (t : Data) (o : Orders) : Type 0 where
  pub accepted : IsAccepted π t
  pub bounded : IsBounded t
  pub whole : has_float t ≡ false
  pub by_election : (f : Family) (i : ℕ) → list_seen (entry_of o.by_election f).items i ≡ positions_in_election π t f i
  pub contests : map (λ positions. positions.items) o.selections.rising.items ≡ map (λ c. rising_selections π t c.value) (contests t)
  pub selections : AreSelectionRanks π t o.selections.ranks.items
