use Rattle.erd_text.proofs.Common.{◌≡◌, ◌++◌, length, take, drop, sym, subst, arith, rules, take-append_seam}
use Rattle.erd_text.proofs.StableRising.{sorted_by_keys}
use Rattle.erd_text.specs.StableOrder.{IsStablySorted}
use Rattle.erd_text.proofs.stable_sort.in_order.Goals as goal

pub returns : goal.returns
returns g c =
    let cmp = g.K.SetOrder.cmp in
    let given = c.as_mut_slice.result.now in
    let new = c.sort_by.new.self in
    let rest = drop (length new) c.args.pairs.items in
    let long : length new ≡ c.args.pairs.len = omega (arith, c.in_ok-sort_by.ensures.len, c.as_mut_slice.ensures.len) in
    let whole : take c.args.pairs.len (new ++ rest) ≡ new = subst (λ n. take n (new ++ rest) ≡ new) long (take-append_seam new rest) in
    let sorted = sorted_by_keys cmp g.met.K.SetOrder.total given new c.in_ok-sort_by.ensures.sorted c.in_ok-sort_by.ensures.stable
    (λ a r f' call. search rules) in
    subst (IsStablySorted cmp c.args.pairs.items) (sym whole) (subst (λ pairs. IsStablySorted cmp pairs new) c.as_mut_slice.ensures.value sorted)
