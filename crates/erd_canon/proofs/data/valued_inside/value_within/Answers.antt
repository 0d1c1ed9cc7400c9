use Rattle.erd_canon.proofs.Common.{sym, ap, ◌∙◌}
use Rattle.erd_canon.specs.ValuedData.{room_behind}
use Rattle.erd_canon.specs.code.ValuedInside.{room_after, value_in_contest}
use Rattle.erd_canon.proofs.data_values.ValuedInside.{room_told}
use Rattle.erd_canon.proofs.data.valued_inside.value_within.Goals as goal

pub returns-in_ok-text-in-Some-clause-leaves : goal.returns-in_ok-text-in-Some-clause-leaves
returns-in_ok-text-in-Some-clause-leaves c =
    let v = value_in_contest c.args.contest.now c.args.selection.now in
    c.room_after.ensures ∙ ap (room_after c.in-Some.bytes) (c.text_of.ensures ∙ c.in_ok-text-in-Some.ensures) ∙ room_told c.in-Some.bytes v
    ∙ ap (λ o. room_behind o v) (sym c.in-Some.is)
