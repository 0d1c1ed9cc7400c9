use Rattle.erd_compare.proofs.Common.{subst}
use Rattle.erd_compare.specs.code.ContestSelections.{differences_at, size_of_list, Leaves}
use Rattle.erd_compare.proofs.contest_selections.SelectionTexts.{list_beyond, nothing_there, some_there}
use Rattle.erd_compare.proofs.inside.room.left_after_text.Goals as goal

pub returns-in_default : goal.returns-in_default
returns-in_default c =
    let ds = differences_at c.args.ways.now in
    list_beyond ds c.args.room (subst (λ o. Leaves (size_of_list ds) c.args.room o) c.in_default.is c.in_ok-left.ensures)

pub returns-then-left-room : goal.returns-then-left-room
returns-then-left-room c =
    let ds = differences_at c.args.ways.now in
    nothing_there ds c.args.room c.in-Some.left c.left_after_bytes.result
    (subst (λ o. Leaves (size_of_list ds) c.args.room o) c.in-Some.is c.in_ok-left.ensures) c.if-left-room.true c.left_after_bytes.ensures

pub returns-else-left-room : goal.returns-else-left-room
returns-else-left-room c =
    let ds = differences_at c.args.ways.now in
    some_there ds c.args.room c.in-Some.left c.left_after_bytes-else-left-room.result
    (subst (λ o. Leaves (size_of_list ds) c.args.room o) c.in-Some.is c.in_ok-left.ensures) c.if-left-room.false
    c.left_after_bytes-else-left-room.ensures
