use Rattle.erd_canon.proofs.Common.{None, subst, inl, IfOk-weaker, RefusedAs}
use Rattle.erd_canon.proofs.engines.prepare_texts.listed_texts.Goals as goal

pub returns-in-Err-NotJson : goal.returns-in-Err-NotJson
returns-in-Err-NotJson c =
    let refused = subst (RefusedAs None c.args.bytes.now) c.in-Err-NotJson.field-0-is (c.in-Err-NotJson.ensures.refused None) in
    IfOk-weaker c.not_json.result _ _ (λ texts are. inl (refused, are)) c.not_json.ensures
