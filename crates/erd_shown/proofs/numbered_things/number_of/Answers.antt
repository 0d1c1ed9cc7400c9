use Rattle.std.proofs.Common.{sym, ◌∙◌}
use Rattle.std.specs.Ordering.{eq_by_cmp}
use Rattle.std.proofs.lemmas.Cmp.{eq_by_cmp_equiv}
use Rattle.erd_shown.proofs.NumberLists.{gets_number}
use Rattle.erd_shown.proofs.numbered_things.number_of.Goals as goal

pub returns-in_ok-insert-in-None : goal.returns-in_ok-insert-in-None
returns-in_ok-insert-in-None g c =
    let old = c.args.numbering.now in
    gets_number (eq_by_cmp g.K.Ord.cmp) (eq_by_cmp_equiv g.met.K.Ord.total) c.args.thing old.numbers.entries c.insert.new.self.entries old.next
    c.in_ok-numbering-in-None.field-0 (sym (c.copied.ensures ∙ c.get.ensures.value) ∙ c.in-None.is) c.in_ok-numbering-in-None.ensures
    c.in_ok-insert-in-None.ensures.updates.0
