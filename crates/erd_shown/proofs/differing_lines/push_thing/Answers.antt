use Rattle.erd_shown.proofs.Common.{[], ◌∷◌, ◌++◌, string_bytes, ap, ◌∙◌, on_ok_weaker}
use Rattle.erd_shown.specs.BallotLines.{lines_text, thing_line}
use Rattle.erd_shown.proofs.differing_lines.push_thing.Goals as goal

pub returns : goal.returns
returns c =
    let old = string_bytes c.args.text.now in
    on_ok_weaker c.append_line.result
    (λ is. is ∙ ap (λ line. old ++ lines_text (line ∷ [])) (c.as_str.ensures.value ∙ c.in_ok-words.ensures ∙ ap (thing_line c.args.how.now) c.thing_at.ensures))
    c.append_line.ensures
