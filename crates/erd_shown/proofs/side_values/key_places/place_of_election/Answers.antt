use Rattle.erd_shown.proofs.Common.{◌≡◌, sym, ap, subst, rules, length, slice_get, get_or, view, option_copied, elections, IsAccepted}
use Rattle.std.specs.Prelude.{Ok, Err}
use Rattle.std.specs.List.Sorted.{IsBinarySearchResult, IsSearchInRange}
use Rattle.std.proofs.lemmas.Fn.{always_returns_same}
use Rattle.erd_meaning.specs.Records.{election_with_key}
use Rattle.erd_shown.proofs.ElectionsFound.{order_at, searched}
use Rattle.erd_shown.proofs.side_values.key_places.place_of_election.Goals as goal

pub returns-in-Ok : goal.returns-in-Ok
returns-in-Ok c =
    let π = c.args.report.now.prefer in
    let t = view c.args.report.now.tree in
    let k = option_copied c.args.key in
    let rises = c.rising_elections-rising.ensures in
    let r = Ok c.in-Ok.index in
    let accepted : IsAccepted π t = subst (IsAccepted π) (ap view c.tree-tree.ensures.tree) c.tree-tree.ensures.accepted in
    let by_key = c.in-Ok.ensures.position (order_at π t k) (always_returns_same _ _ _ (λ a r f called. search rules)) in
    subst (λ ps. slice_get (elections t) (get_or ps c.in-Ok.index 0) ≡ election_with_key π t k) (sym rises)
    (searched π t accepted k r (subst (λ ps. IsSearchInRange r (length ps)) rises c.in-Ok.ensures.bound)
    (subst (λ ps. IsBinarySearchResult (order_at π t k) ps r) rises by_key))

pub returns-in-Err : goal.returns-in-Err
returns-in-Err c =
    let π = c.args.report.now.prefer in
    let t = view c.args.report.now.tree in
    let k = option_copied c.args.key in
    let rises = c.rising_elections-rising.ensures in
    let r = Err c.in-Err.field-0 in
    let accepted : IsAccepted π t = subst (IsAccepted π) (ap view c.tree-tree.ensures.tree) c.tree-tree.ensures.accepted in
    let by_key = c.in-Err.ensures.position (order_at π t k) (always_returns_same _ _ _ (λ a r f called. search rules)) in
    searched π t accepted k r (subst (λ ps. IsSearchInRange r (length ps)) rises c.in-Err.ensures.bound)
    (subst (λ ps. IsBinarySearchResult (order_at π t k) ps r) rises by_key)
