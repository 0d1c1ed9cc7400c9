-- Members without a value: each member whose value is null goes, in all objects. An entry of an array stays.
use Rattle.std.specs.Prelude.{[], None, false, is_some}
use Rattle.serde_json.specs.Find.{as_null}
use Rattle.erd_prepare.specs.Rules.{Rule, scope_in}

-- The step that leaves out nulls.
abbrev pub nulls : Rule
nulls = record {
  scopes = scope_in;
  shapes = λ p w d. None;
  wraps = λ p w d. false;
  drops = λ p s k d. is_some (as_null d);
  lets_go = λ p w d. false;
  puts = λ p w d. [];
}
