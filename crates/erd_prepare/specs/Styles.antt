-- Ballot styles whose list of units is empty.
use Rattle.std.specs.Prelude.{[], Bool, false, Option, Some, None, codes}
use Rattle.std.specs.Option.{option_map_or}
use Rattle.serde_json.specs.Data.{Data}
use Rattle.serde_json.specs.Find.{get}
use Rattle.erd_tables.specs.declared.class.Family.TheVariants as family
use Rattle.erd_tables.specs.declared.member.MemberKind.TheVariants as kind
use Rattle.erd_check.specs.Faults.{is_empty_array}
use Rattle.erd_check.specs.declared.want.Want.{Want}
use Rattle.erd_check.specs.declared.want.Want.TheVariants.{Member}
use Rattle.erd_prepare.specs.Rules.{Rule, scope_in}

-- True for a style of no unit. The list of styles stands in an election.
abbrev pub is_unused_style : Option Want → Data → Bool
is_unused_style (Some (Member (kind.Keyed family.Style) required)) d = option_map_or is_empty_array (get (codes "GpUnitIds") d) false
is_unused_style w d = false

-- The step: each style of no unit goes.
abbrev pub unused_styles : Rule
unused_styles = record {
  scopes = scope_in;
  shapes = λ p w d. None;
  wraps = λ p w d. false;
  drops = λ p s k d. false;
  lets_go = λ p w d. is_unused_style w d;
  puts = λ p w d. [];
}
