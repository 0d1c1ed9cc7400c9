use Rattle.erd_compare.proofs.Common.{slice_get, Bool, Option, option_map, sym, ap, ◌∙◌, subst, IfOk-weaker, view, object_record, Key, Decides, TellsHeld}
use Rattle.erd_compare.proofs.Common.{role_of_part, objects_in, holder_key_in, TellsAtPositions, AreWays}
use Rattle.erd_compare.proofs.least_difference.RisingKeys.{records_here, whole_here}
use Rattle.erd_compare.proofs.first.keyed_ways.ways_at.Goals as goal

pub object_ways-requires-clause-one : goal.object_ways-requires-clause-one
object_ways-requires-clause-one c =
    whole_here c.args.comparer.now.left.prefer (view c.args.comparer.now.left.tree) c.in-Some-Some.ensures.comparable c.args.part c.args.position
    (view c.in-Some-Some.value.now)
    (c.in-Some-Some.ensures.found ∙ ap (λ r. option_map (λ o. o.value) (slice_get (objects_in r (view c.args.comparer.now.left.tree)) c.args.position))
    c.role_of-role.ensures.role)

pub object_ways-requires-clause-other : goal.object_ways-requires-clause-other
object_ways-requires-clause-other c =
    whole_here c.args.comparer.now.right.prefer (view c.args.comparer.now.right.tree) c.in-Some-Some.ensures'.comparable c.args.part c.args.other_position
    (view c.in-Some-Some.other_value.now)
    (c.in-Some-Some.ensures'.found ∙ ap (λ r. option_map (λ o. o.value) (slice_get (objects_in r (view c.args.comparer.now.right.tree)) c.args.other_position))
    c.role_of-role.ensures.role)

pub object_ways-requires-clause-one_placed : goal.object_ways-requires-clause-one_placed
object_ways-requires-clause-one_placed c = sym c.in-Some-Some.ensures.found

pub object_ways-requires-clause-other_placed : goal.object_ways-requires-clause-other_placed
object_ways-requires-clause-other_placed c = sym c.in-Some-Some.ensures'.found

pub returns-in_ok-own-in-Some-Some : goal.returns-in_ok-own-in-Some-Some
returns-in_ok-own-in-Some-Some c =
    let a = c.args.comparer.now.left in
    let b = c.args.comparer.now.right in
    let all = c.args.all in
    let p = c.args.part in
    let own = c.in_ok-own-in-Some-Some.own in
    let role = c.role_of-role in
    let k = holder_key_in a.prefer (role_of_part p) (view a.tree) c.args.position in
    let l = holder_key_in b.prefer (role_of_part p) (view b.tree) c.args.other_position in
    IfOk-weaker c.held_ways.result (λ held. (all : Bool) (k l : Option Key) → Decides c.is_same_holder.result k l → TellsHeld all own k l held)
    (TellsAtPositions all a b p c.args.position c.args.other_position)
    (λ held on. records_here all a b c.in-Some-Some.ensures.comparable c.in-Some-Some.ensures'.comparable p c.args.position c.args.other_position
    (view c.in-Some-Some.value.now) (view c.in-Some-Some.other_value.now)
    (c.in-Some-Some.ensures.found ∙ ap (λ r. option_map (λ o. o.value) (slice_get (objects_in r (view a.tree)) c.args.position)) role.ensures.role)
    (c.in-Some-Some.ensures'.found ∙ ap (λ r. option_map (λ o. o.value) (slice_get (objects_in r (view b.tree)) c.args.other_position)) role.ensures.role) own
    (subst (λ r. AreWays all (object_record a.prefer (view a.tree) r (view c.in-Some-Some.value.now))
    (object_record b.prefer (view b.tree) r (view c.in-Some-Some.other_value.now)) own) role.ensures.role c.in_ok-own-in-Some-Some.ensures) held
    (on all k l
    (subst (λ r. Decides c.is_same_holder.result (holder_key_in a.prefer r (view a.tree) c.args.position)
    (holder_key_in b.prefer r (view b.tree) c.args.other_position)) role.ensures.role c.is_same_holder.ensures)))
    c.held_ways.ensures
