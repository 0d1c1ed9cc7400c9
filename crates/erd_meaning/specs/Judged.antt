-- What clauses see of a report: the tree that was passed in, and the preference under which it is judged.
use Rattle.serde_json.specs.declared.value.Value.{Value}
use Rattle.erd_meaning.specs.Keys.{Preference}

-- A report, and the preference that its keys follow.
pub record Judged : Type 0 where
  pub tree : Value
  pub prefer : Preference
