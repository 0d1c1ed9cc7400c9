use Rattle.erd_normal.proofs.Common.{◌++◌, Some, option_map, sym, ap, ◌∙◌, on_ok_weaker, view, class_of_object, normal_object_with, with_id, value_tokens}
use Rattle.erd_normal.proofs.texts.DueTokens.{put_id}
use Rattle.erd_normal.proofs.objects.family_objects.write_identified.Goals as goal

pub returns-in-Some : goal.returns-in-Some
returns-in-Some g c =
    let built = normal_object_with (g.R.MemberRule.value_of c.args.rule.now) (class_of_object c.args.role (view c.args.value.now)) (view c.args.value.now) in
    on_ok_weaker c.write_object.result
    (λ written.
    written ∙ ap (λ d. c.args.out.now ++ value_tokens d)
    (put_id c.as_str.result.now built ∙ (ap (λ s. with_id (Some s) built) c.as_str.ensures.value
    ∙ ap (λ id. with_id (option_map (λ text. text.bytes) id) built) (sym c.in-Some.is))))
    c.write_object.ensures
