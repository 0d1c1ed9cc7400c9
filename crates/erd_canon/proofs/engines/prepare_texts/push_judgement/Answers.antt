use Rattle.erd_canon.proofs.Common.{[], ◌∷◌, codes, option_copied, refl, subst, inl, RefusedAs}
use Rattle.erd_canon.proofs.engines.prepare_texts.push_judgement.Goals as goal

pub returns-in_ok-push_str-in-Err-NotJson : goal.returns-in_ok-push_str-in-Err-NotJson
returns-in_ok-push_str-in-Err-NotJson c =
    let refused = subst (RefusedAs (option_copied c.args.prefer) c.args.bytes.now) c.in-Err-NotJson.field-0-is c.in-Err-NotJson.ensures.refused in
    (codes "not JSON" ∷ [], inl (refused, refl), c.in_ok-push_str-in-Err-NotJson.ensures.bytes)
