use Rattle.erd_shown.proofs.Common.{◌≡◌, false, Some, None, Option, Data, Key, option_map, option_map_or, ap, ap₂, ◌∙◌, same_Some, view, IfOk-weaker}
use Rattle.erd_shown.specs.Reworded.{has_other_words, with_key}
use Rattle.erd_shown.proofs.KeysFound.{key_in_place}
use Rattle.erd_shown.proofs.reworded.is_reworded.Goals as goal

pub returns-in-Some : goal.returns-in-Some
returns-in-Some c =
    let π = c.args.left.now.prefer in
    let t = view c.args.left.now.tree in
    let ρ = c.args.right.now.prefer in
    let u = view c.args.right.now.tree in
    let f = c.args.family in
    IfOk-weaker c.is_object_reworded.result _ _
    (λ it is o there.
    is
    ∙ ap₂ (λ (d : Data) (k : Option Key). option_map_or (λ k. option_map_or (has_other_words π t ρ u f d) (with_key ρ u f k) false) k false)
    (same_Some (view c.in-Some.object.now) o.value (c.in-Some.ensures.there ∙ ap (option_map (λ o. o.value)) there))
    (c.key_at-key.ensures ∙ key_in_place π t f c.requires.keyed o c.args.position there))
    c.is_object_reworded.ensures

pub returns-in-None : goal.returns-in-None
returns-in-None c o there =
    let clash : None ≡ Some o.value = c.in-None.ensures.there ∙ ap (option_map (λ o. o.value)) there in
    absurd (cc clash)
