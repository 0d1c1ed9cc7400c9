use Rattle.std.proofs.Common.{inr, refl}
use Rattle.erd_prepare.proofs.numbers.tell_number.Goals as goal

pub returns-in_ok-push : goal.returns-in_ok-push
returns-in_ok-push c =
    let h = rw c.in-Some.is at c.in_ok-before.ensures in
    inr record { one = _; added = c.in_ok-push.ensures.items; line_told = refl; column_told = refl; before = h.0; changed = h.1 }
