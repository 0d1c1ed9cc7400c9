use Rattle.erd_normal.proofs.Common.{sym, IfOk-weaker}
use Rattle.erd_normal.proofs.texts.DueTokens.{apart_at, equal_through, greater_through, less_through, rise_from}
use Rattle.erd_normal.proofs.objects.due_members.+write_through.Goals as goal

pub returns-in-Greater : goal.returns-in-Greater
returns-in-Greater t c rise =
    greater_through (apart_at c.args.due.now c.args.at c.in-Some.first.now c.in-Some.ensures.lookup.3.0 c.in-Some.ensures.lookup.1)
    (rise_from c.args.at c.args.due.now rise) c.args.name.now c.args.out.now (sym c.in-Greater.ensures)

pub returns-in_ok-write_due-in-Equal : goal.returns-in_ok-write_due-in-Equal
returns-in_ok-write_due-in-Equal t c rise =
    let first = c.in-Some.first.now in
    let low = c.in-Some.ensures.lookup.3.0 in
    let is = c.in-Some.ensures.lookup.1 in
    equal_through (apart_at c.args.due.now c.args.at first low is) (rise_from c.args.at c.args.due.now rise) c.args.name.now c.args.out.now c.write_due.new.out
    (sym c.in-Equal.ensures)
    c.in_ok-write_due-in-Equal.ensures

pub returns-in_ok-write_due-in-Less : goal.returns-in_ok-write_due-in-Less
returns-in_ok-write_due-in-Less t c =
    let first = c.in-Some.first.now in
    let low = c.in-Some.ensures.lookup.3.0 in
    let is = c.in-Some.ensures.lookup.1 in
    let due = c.args.due.now in
    IfOk-weaker c.write_through.result _ _
    (λ r rest rise.
    less_through (apart_at due c.args.at first low is) (rise_from c.args.at due rise) _ c.args.name.now r.0 c.args.out.now c.write_due-in-Less.new.out
    c.write_through.new.out (sym c.in-Less.ensures)
    c.in_ok-write_due-in-Less.ensures
    (rest rise))
    c.write_through.ensures
