use Rattle.erd_shown.proofs.Common.{◌≡◌, ◌∷◌, [], ◌++◌, ℕ, List, option_copied, string_bytes, ap, ◌∙◌, append_assoc, on_ok_weaker}
use Rattle.erd_shown.specs.BallotLines.{ballot_line}
use Rattle.erd_shown.proofs.differing_styles.push_style.Goals as goal

line_then : (old line below one new : List ℕ) → one ≡ old ++ (line ++ 10 ∷ []) → new ≡ one ++ below → new ≡ old ++ (line ++ 10 ∷ below)
line_then old line below one new first last =
    last ∙ ap (λ ts. ts ++ below) first ∙ append_assoc old (line ++ 10 ∷ []) below ∙ ap (λ ts. old ++ ts) (append_assoc line (10 ∷ []) below)

pub returns : goal.returns
returns c =
    let key = option_copied c.args.style.now.key in
    let old = string_bytes c.args.text.now in
    on_ok_weaker c.append_text.result
    (λ last.
    line_then old (ballot_line key c.side_words.result.now) c.args.below.now (string_bytes c.push_line.new.text) (string_bytes c.append_text.new.text)
    c.in_ok-push_line.ensures last
    ∙ ap (λ words. old ++ (ballot_line key words ++ 10 ∷ c.args.below.now)) c.side_words.ensures)
    c.append_text.ensures
