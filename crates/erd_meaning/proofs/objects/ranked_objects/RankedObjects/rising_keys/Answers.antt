use Rattle.erd_meaning.proofs.Common.{◌≡◌, List, map, sym, ap, ◌∙◌, IfOk-weaker, option_cmp, key_cmp, rising_list, seen_keys, lent_key_cmp, key_at_among}
use Rattle.erd_meaning.proofs.Common.{rising_keys_among, shown, HeldObjects}
use Rattle.erd_meaning.proofs.selections.PositionedKeys.{KeyPosition, from_positions, rising_seen}
use Rattle.erd_meaning.proofs.objects.ranked_objects.RankedObjects.rising_keys.Goals as goal

pub returns-in_ok-keys_of_family-in-Selection : goal.returns-in_ok-keys_of_family-in-Selection
returns-in_ok-keys_of_family-in-Selection c =
    let f = c.args.family in
    let keys = c.in_ok-keys_of_family-in-Selection.field-0.items in
    IfOk-weaker c.in_rising_order.result (λ rising. rising.items ≡ rising_list (λ a b. lent_key_cmp a.0 b.0) keys)
    (λ rising. seen_keys rising.items ≡ rising_keys_among (map shown c.args.self.now.objects) f)
    (λ rising is. ap (λ es. seen_keys es) is ∙ rising_seen keys
    ∙ ap (λ (ps : List KeyPosition). rising_list (λ a b. option_cmp key_cmp a.0 b.0) ps) c.in_ok-keys_of_family-in-Selection.ensures
    ∙ ap (λ (os : HeldObjects). rising_keys_among (map shown os.objects) f) c.self.view_is)
    c.in_rising_order.ensures

pub returns-in_default : goal.returns-in_default
returns-in_default c =
    let f = c.args.family in
    let ks = map shown c.self.inside.table.objects in
    let positions : c.rising.result.now ≡ map (λ (p : KeyPosition). p.1) (rising_keys_among ks f) =
    c.rising.ensures ∙ ap (λ (os : HeldObjects). map (λ (p : KeyPosition). p.1) (rising_keys_among (map shown os.objects) f)) (sym c.self.view_is) in
    IfOk-weaker c.keys_at.result (λ keys. seen_keys keys.items ≡ map (λ i. (key_at_among ks f i, i)) c.rising.result.now)
    (λ keys. seen_keys keys.items ≡ rising_keys_among (map shown c.args.self.now.objects) f)
    (λ keys is. is ∙ ap (map (λ i. (key_at_among ks f i, i))) positions ∙ from_positions ks f
    ∙ ap (λ (os : HeldObjects). rising_keys_among (map shown os.objects) f) c.self.view_is)
    c.keys_at.ensures
