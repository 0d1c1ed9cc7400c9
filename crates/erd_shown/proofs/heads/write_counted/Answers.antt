use Rattle.erd_text.proofs.Common.{◌≡◌, ◌++◌, codes, pos, length, map, sym, ap, ◌∙◌, view, value_tokens, length-map}
use Rattle.std.proofs.lemmas.Result.{on_ok_weaker}
use Rattle.erd_shown.proofs.MembersWritten.{member_then}
use Rattle.erd_shown.specs.Ballots.{lines_of, voters_members}
use Rattle.erd_shown.specs.KeyData.{shown_whole}
use Rattle.erd_shown.specs.code.LineLists.{of_line}
use Rattle.erd_shown.proofs.heads.write_counted.Goals as goal

pub returns : goal.returns
returns c =
    let d = view c.args.style.now in
    let lines = c.deref.result.now in
    let same : map of_line lines ≡ lines_of d = ap (map of_line) c.deref.ensures.value ∙ c.in_ok-lines.ensures in
    let count : length lines ≡ length (lines_of d) = sym (length-map lines of_line) ∙ ap length same in
    on_ok_weaker c.write_voters.result
    (λ last.
    member_then c.args.out.now c.key.new.self c.write_count.new.out c.write_voters.new.out (codes "lines") (shown_whole (pos (length (lines_of d))))
    (voters_members c.args.report.now.prefer (view c.args.report.now.tree) d) c.in_ok-key.ensures
    (c.in_ok-write_count.ensures ∙ ap (λ n. c.key.new.self ++ value_tokens (shown_whole (pos n))) (c.count_of.ensures ∙ count)) last)
    c.write_voters.ensures
