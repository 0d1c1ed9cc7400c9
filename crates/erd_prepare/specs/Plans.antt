-- Steps that are planned before they are done: what happens at each place of a list of places.
use Rattle.std.specs.Prelude.{ℕ, List, [], ◌∷◌, Bool, true, false, if◌then◌else◌, Option, Some, None, option_and_then, string_bytes}
use Rattle.std.specs.BTreeMap.{get_by_text}
use Rattle.std.specs.Option.{option_map_or}
use Rattle.serde_json.specs.Data.{Data}
use Rattle.serde_json.specs.View.{view}
use Rattle.erd_tables.specs.Places.{pointer_text}
use Rattle.erd_tables.specs.declared.member.MemberKind.TheVariants as kind
use Rattle.erd_check.specs.declared.want.Scope.{Scope}
use Rattle.erd_check.specs.declared.want.Scope.TheVariants as scope
use Rattle.erd_check.specs.declared.want.Want.{Want}
use Rattle.erd_check.specs.declared.want.Want.TheVariants.{Carried, Member}
use Rattle.erd_prepare.specs.Rules.{Rule, scope_in, seen}
use Rattle.erd_prepare.specs.declared.plan.Edit.{Edit}
use Rattle.erd_prepare.specs.declared.plan.Edit.TheVariants as edit
use Rattle.erd_prepare.specs.declared.plan.Plan.{Plan}

-- True for a value that the table lists, or an entry of what it lists. A name of an identity or a reference is listed nowhere
-- inside a carried value.
abbrev pub is_listed : Option Want → Bool
is_listed (Some Carried) = false
is_listed (Some (Member kind.StrangeIdentity required)) = false
is_listed (Some w) = true
is_listed None = false

-- True for the members of an object that has a role in the table.
abbrev pub has_role : Scope → Bool
has_role (scope.Members r c) = true
has_role s = false

-- The value that an edit writes in place of another, if it does.
abbrev pub value_written : Edit → Option Data
value_written (edit.Write v) = Some (view v)
value_written e = None

-- True for an edit that leaves out what stands there.
abbrev pub is_left_out : Edit → Bool
is_left_out edit.LeaveOut = true
is_left_out e = false

-- The members that an edit puts into the object there.
abbrev pub member_put : Edit → List (List ℕ × Data)
member_put (edit.PutIn name v) = (string_bytes name, view v) ∷ []
member_put (edit.PutAll members) = seen members.items
member_put e = []

-- The step that does at each place what the plan says of its JSON Pointer, as far as the table lists what stands there.
abbrev pub planned_by : (List ℕ → Option Edit) → Rule
planned_by edit_at = record {
  scopes = scope_in;
  shapes = λ p w d. if is_listed w then option_and_then value_written (edit_at (pointer_text p)) else None;
  wraps = λ p w d. false;
  drops = λ p s k d. if has_role s then option_map_or is_left_out (edit_at (pointer_text p)) false else false;
  lets_go = λ p w d. if is_listed w then option_map_or is_left_out (edit_at (pointer_text p)) false else false;
  puts = λ p w d. if is_listed w then option_map_or member_put (edit_at (pointer_text p)) [] else [];
}

-- The step that a plan is.
abbrev pub planned : Plan → Rule
planned plan = planned_by (get_by_text plan.edits)
