use Rattle.erd_meaning.proofs.Common.{HeldObjects, List, map, ap, ◌∙◌, rising_positions, family_keys, shown, Object, Order}
use Rattle.erd_meaning.proofs.objects.ranked_objects.RankedObjects.rising.Goals as goal

pub returns : goal.returns
returns c =
    c.deref.ensures.value ∙ ap (λ (order : Order). order.rising.items) c.get.ensures ∙ (c.self.invariant c.args.family c.requires.keyed).rises
    ∙ ap (λ (os : HeldObjects). rising_positions (family_keys (map shown os.objects) c.args.family)) c.self.view_is
