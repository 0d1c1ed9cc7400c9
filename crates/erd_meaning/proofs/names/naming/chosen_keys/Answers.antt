use Rattle.erd_meaning.proofs.Common.{◌≡◌, ℕ, List, map, IfOk, nat_cmp, ap, ◌∙◌, subst, view, family_chosen, rising_list, keys_of_selection, key_among}
use Rattle.erd_meaning.proofs.Common.{ranked_key, shown, Key}
use Rattle.erd_meaning.proofs.selections.RankedKeys.{IsKeyAmong, all_chosen, ranked_in_order, referred_known}
use Rattle.erd_meaning.proofs.names.naming.chosen_keys.Goals as goal

pub returns : goal.returns
returns c =
    let ks = map shown c.args.objects.now.objects in
    let f = family_chosen c.args.class in
    let keys = keys_of_selection (key_among ks) c.args.class (view c.args.selection.now) in
    subst (λ (found : List (ℕ × Key)). IfOk c.in_rising_order.result (λ rising. rising.items ≡ found))
    (ap (rising_list (λ a b. nat_cmp a.0 b.0)) (c.in_ok-chosen.ensures ∙ ap (map (ranked_key ks f)) (c.references_chosen-references.ensures ks))
    ∙ ranked_in_order ks f keys (all_chosen (IsKeyAmong ks) (key_among ks) (referred_known ks) c.args.class (view c.args.selection.now)))
    c.in_rising_order.ensures
