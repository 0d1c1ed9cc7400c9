use Rattle.erd_text.proofs.Common.{◌++◌, ℕ, List, map, sym, ap, ◌∙◌, view, Data, value_tokens}
use Rattle.std.proofs.lemmas.Result.{on_ok_weaker}
use Rattle.std.proofs.lemmas.Simd.{map-map}
use Rattle.erd_shown.specs.BallotWords.{selection_words}
use Rattle.erd_shown.specs.KeyData.{array_of}
use Rattle.erd_shown.specs.code.LineLists.{of_line}
use Rattle.erd_shown.proofs.selection_words.write_selections_of.Goals as goal

pub returns : goal.returns
returns c =
    let f : ℕ × Data → Data = λ l. selection_words c.args.report.now.prefer (view c.args.report.now.tree) l.1 in
    on_ok_weaker c.write_lines.result
    (λ wrote.
    wrote
    ∙ ap (λ (ds : List Data). c.args.out.now ++ value_tokens (array_of ds))
    (sym (map-map f of_line c.deref.result.now) ∙ ap (map f) (ap (map of_line) c.deref.ensures.value ∙ c.in_ok-lines.ensures)))
    c.write_lines.ensures
