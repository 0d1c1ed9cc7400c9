use Rattle.erd_shown.proofs.Common.{map, sym, ap, ◌∙◌, view, IfOk-weaker}
use Rattle.std.proofs.lemmas.Simd.{map-map}
use Rattle.erd_shown.specs.BallotLines.{head_line, lines_text}
use Rattle.erd_shown.specs.code.LineLists.{of_place}
use Rattle.erd_shown.proofs.ballot_lines.ballots_lines.Goals as goal

pub returns : goal.returns
returns c =
    let line = head_line (view c.args.report.now.tree) in
    IfOk-weaker c.lines_at.result _ _
    (λ text is. is
    ∙ ap lines_text (sym (map-map line of_place c.deref.result.now) ∙ ap (map line) (ap (map of_place) c.deref.ensures.value ∙ c.in_ok-places.ensures)))
    c.lines_at.ensures
