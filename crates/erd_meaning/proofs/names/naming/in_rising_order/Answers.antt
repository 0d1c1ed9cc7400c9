use Rattle.erd_meaning.proofs.Common.{nat_cmp, rules, nat_cmp_total, on_total, answers_always}
use Rattle.erd_text.proofs.RisingLists.{rising_from_sort}
use Rattle.erd_meaning.proofs.names.naming.in_rising_order.Goals as goal

pub returns : goal.returns
returns c =
    rising_from_sort (λ a b. nat_cmp a.0 b.0) (on_total (λ a. a.0) nat_cmp_total) c.args.chosen.items c.sort_by_key.new.self.items
    (c.in_ok-sort_by_key.ensures.sorted (λ a. a.0) (answers_always _ _ _ (λ f a r g called. search rules)))
    (c.in_ok-sort_by_key.ensures.stable (λ a. a.0) (answers_always _ _ _ (λ f a r g called. search rules)))
