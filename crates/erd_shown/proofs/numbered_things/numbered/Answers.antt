use Rattle.std.proofs.Common.{subst}
use Rattle.std.specs.Ordering.{eq_by_cmp}
use Rattle.std.proofs.lemmas.Cmp.{eq_by_cmp_equiv}
use Rattle.erd_shown.specs.code.NumbersGiven.{AreAllNumbered}
use Rattle.erd_shown.proofs.NumberLists.{both_numbered}
use Rattle.erd_shown.proofs.numbered_things.numbered.Goals as goal

pub returns : goal.returns
returns g c =
    let same = eq_by_cmp g.K.Ord.cmp in
    let left = c.args.left.now in
    let one = c.numbers_of.new.numbering in
    let other = c.numbers_of-2.new.numbering in
    both_numbered same (eq_by_cmp_equiv g.met.K.Ord.total) left c.args.right.now one.numbers.entries other.numbers.entries one.next other.next
    c.in_ok-ones.ones.items c.in_ok-others.others.items
    (subst (λ es. AreAllNumbered same left es 0 one.numbers.entries one.next c.in_ok-ones.ones.items) c.new.ensures.empty c.in_ok-ones.ensures)
    c.in_ok-others.ensures
