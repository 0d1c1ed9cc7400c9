use Rattle.erd_normal.proofs.Common.{on_ok_weaker}
use Rattle.erd_normal.proofs.texts.DueTokens.{apart_at, first_of_all, rise_from}
use Rattle.erd_normal.proofs.objects.due_members.+write_rest.Goals as goal

pub returns : goal.returns
returns t c =
    on_ok_weaker c.write_rest.result
    (λ rest rise.
    let first = c.in-Some.first.now in
    let low = c.in-Some.ensures.lookup.3.0 in
    let is = c.in-Some.ensures.lookup.1 in
    first_of_all (apart_at c.args.due.now c.args.at first low is) (rise_from c.args.at c.args.due.now rise) c.args.out.now
    c.write_due.new.out c.write_rest.new.out
    c.in_ok-write_due.ensures
    (rest rise))
    c.write_rest.ensures
