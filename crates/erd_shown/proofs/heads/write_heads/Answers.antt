use Rattle.erd_text.proofs.Common.{◌++◌, List, map, sym, ap, ◌∙◌, view, Data, value_tokens}
use Rattle.std.proofs.lemmas.Result.{on_ok_weaker}
use Rattle.std.proofs.lemmas.Simd.{map-map}
use Rattle.erd_shown.specs.Heads.{head_in}
use Rattle.erd_shown.specs.KeyData.{array_of}
use Rattle.erd_shown.specs.code.LineLists.{of_place}
use Rattle.erd_shown.proofs.heads.write_heads.Goals as goal

pub returns : goal.returns
returns c =
    let f = head_in c.args.report.now.prefer (view c.args.report.now.tree) in
    on_ok_weaker c.write_heads_at.result
    (λ wrote.
    wrote
    ∙ ap (λ (ds : List Data). c.args.out.now ++ value_tokens (array_of ds))
    (sym (map-map f of_place c.deref.result.now) ∙ ap (map f) (ap (map of_place) c.deref.ensures.value ∙ c.in_ok-places.ensures)))
    c.write_heads_at.ensures
