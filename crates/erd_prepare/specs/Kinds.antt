-- Values of the wrong kind that have one right form.
use Rattle.std.specs.Prelude.{[], Bool, true, false, Option, Some}
use Rattle.erd_check.specs.declared.want.Want.{Want}
use Rattle.erd_check.specs.declared.want.Want.TheVariants.{Object}
use Rattle.erd_prepare.specs.Plans.{planned}
use Rattle.erd_prepare.specs.Rules.{Rule, entry_in, scope_in}
use Rattle.erd_prepare.specs.declared.plan.Plan.{Plan}

-- True where an object belongs.
abbrev pub is_object_wanted : Option Want → Bool
is_object_wanted (Some (Object r)) = true
is_object_wanted w = false

-- True where a list of objects belongs.
abbrev pub is_list_of_objects : Option Want → Bool
is_list_of_objects w = is_object_wanted (entry_in w)

-- The step: an object where a list of objects belongs becomes a list of itself, and what the plan writes gets its right form.
abbrev pub kinds : Plan → Rule
kinds plan = record {
  scopes = scope_in;
  shapes = (planned plan).shapes;
  wraps = λ p w d. is_list_of_objects w;
  drops = λ p s k d. false;
  lets_go = λ p w d. false;
  puts = λ p w d. [];
}
