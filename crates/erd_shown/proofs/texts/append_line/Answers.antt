use Rattle.erd_shown.proofs.Common.{[], ◌∷◌, ◌++◌, string_bytes, sym, ap, ◌∙◌, append_assoc, append-nil, on_ok_weaker}
use Rattle.erd_shown.proofs.texts.append_line.Goals as goal

pub returns : goal.returns
returns c =
    let old = string_bytes c.args.text.now in
    let line = c.args.line.now in
    on_ok_weaker c.append_text-2.result
    (λ last. last ∙ ap (λ ts. ts ++ 10 ∷ []) c.in_ok-append_text.ensures ∙ append_assoc old line (10 ∷ [])
    ∙ ap (λ ts. old ++ ts) (sym (append-nil (line ++ 10 ∷ []))))
    c.append_text-2.ensures
