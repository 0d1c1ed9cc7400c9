use Rattle.erd_shown.proofs.Common.{◌≡◌, ◌++◌, ℕ, Bool, List, codes, string_bytes, ap, ap₂, ◌∙◌, view, on_ok_weaker}
use Rattle.erd_shown.specs.BallotLines.{headed_unless, lines_text, nested_lines, thing_line}
use Rattle.erd_shown.specs.Ballots.{thing_at}
use Rattle.erd_shown.specs.code.LineLists.{of_line}
use Rattle.erd_shown.specs.code.Pairs.{is_same_line_in}
use Rattle.erd_shown.specs.code.SelectionsFound.{of_selections}
use Rattle.erd_shown.proofs.differing_lines.push_changed.Goals as goal

headed_told : (old new : List ℕ) (nested : List (List ℕ)) (so same : Bool) (line words below : List ℕ)
    → ((told : List (List ℕ)) → below ≡ lines_text told → new ≡ old ++ lines_text (headed_unless so line told)) → below ≡ lines_text nested → so ≡ same
    → line ≡ words → new ≡ old ++ lines_text (headed_unless same words nested)
headed_told old new nested so same line words below is here one other =
    is nested here ∙ ap₂ (λ (s : Bool) (l : List ℕ). old ++ lines_text (headed_unless s l nested)) one other

pub returns : goal.returns
returns c =
    let pair = c.args.pair.now in
    let line = of_line c.args.one in
    let nested = nested_lines (of_selections c.args.inside.now) in
    let below = c.as_str-2.ensures.value ∙ c.in_ok-push_nested.ensures ∙ ap (λ (ts : List ℕ). ts ++ lines_text nested) c.new-below.ensures.bytes in
    let words = c.as_str.ensures.value ∙ c.in_ok-line.ensures ∙ ap (thing_line (codes "changed")) c.thing_at.ensures in
    on_ok_weaker c.append_headed.result
    (λ is.
    headed_told (string_bytes c.args.text.now) (string_bytes c.append_headed.new.text) nested c.in_ok-same.same
    (is_same_line_in pair line (of_line c.args.other))
    c.as_str.result.now (thing_line (codes "changed") (thing_at pair.left.now.prefer (view pair.left.now.tree) line.1)) c.as_str-2.result.now is below
    c.in_ok-same.ensures words)
    c.append_headed.ensures
