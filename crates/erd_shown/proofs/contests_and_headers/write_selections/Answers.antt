use Rattle.erd_text.proofs.Common.{◌≡◌, ◌++◌, List, map, sym, ap, ◌∙◌, subst, Data, view, value_tokens}
use Rattle.std.specs.Prelude.{OnOk}
use Rattle.std.proofs.lemmas.Simd.{map-map}
use Rattle.erd_shown.proofs.contests_and_headers.write_selections.Goals as goal
use Rattle.erd_shown.specs.KeyData.{array_of}
use Rattle.erd_shown.specs.ContentData.{shown_name_named}

pub returns : goal.returns
returns c =
    let one = shown_name_named c.args.report.now.prefer (view c.args.report.now.tree) in
    subst (λ (ds : List Data). OnOk c.write_names.result (c.write_names.new.out ≡ c.args.out.now ++ value_tokens (array_of ds)))
    (sym (map-map one view c.entries_at.result.now) ∙ ap (map one) c.entries_at.ensures)
    c.write_names.ensures
