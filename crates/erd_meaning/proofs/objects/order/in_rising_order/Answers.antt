use Rattle.erd_meaning.proofs.Common.{rules, on_total, answers_always, lent_key_cmp}
use Rattle.erd_text.proofs.RisingLists.{rising_from_sort}
use Rattle.erd_meaning.proofs.selections.RankedKeys.{lent_key_cmp_total}
use Rattle.erd_meaning.proofs.objects.order.in_rising_order.Goals as goal

pub returns : goal.returns
returns c =
    rising_from_sort (λ a b. lent_key_cmp a.0 b.0) (on_total (λ a. a.0) lent_key_cmp_total) c.args.keys.items c.sort_by_key.new.self.items
    (c.in_ok-sort_by_key.ensures.sorted (λ a. a.0) (answers_always _ _ _ (λ f a r g called. search rules)))
    (c.in_ok-sort_by_key.ensures.stable (λ a. a.0) (answers_always _ _ _ (λ f a r g called. search rules)))
