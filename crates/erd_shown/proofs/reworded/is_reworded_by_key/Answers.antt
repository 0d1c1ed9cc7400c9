use Rattle.erd_shown.proofs.Common.{false, option_map_or, ap, ◌∙◌, view, IfOk-weaker}
use Rattle.erd_shown.specs.Reworded.{has_other_words}
use Rattle.erd_shown.proofs.reworded.is_reworded_by_key.Goals as goal

pub returns-in-Some : goal.returns-in-Some
returns-in-Some c =
    let other = has_other_words c.args.left.now.prefer (view c.args.left.now.tree) c.args.right.now.prefer (view c.args.right.now.tree) c.args.family
    (view c.args.object.now) in
    IfOk-weaker c.has_other_words.result _ _ (λ it is. is ∙ ap (λ o. option_map_or other o false) c.in-Some.ensures.there) c.has_other_words.ensures

pub returns-in-None : goal.returns-in-None
returns-in-None c =
    let other = has_other_words c.args.left.now.prefer (view c.args.left.now.tree) c.args.right.now.prefer (view c.args.right.now.tree) c.args.family
    (view c.args.object.now) in
    ap (λ o. option_map_or other o false) c.in-None.ensures.there
