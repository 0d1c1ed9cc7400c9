use Rattle.erd_text.proofs.Common.{codes, view, member}
use Rattle.std.proofs.lemmas.Result.{on_ok_weaker}
use Rattle.std.specs.Option.{option_copied}
use Rattle.erd_shown.proofs.MembersWritten.{member_then}
use Rattle.erd_shown.specs.Ballots.{lines_data, voters_members}
use Rattle.erd_shown.specs.KeyData.{shown_key_or_null}
use Rattle.erd_shown.proofs.ballots.write_keyed.Goals as goal

pub returns : goal.returns
returns c =
    let π = c.args.report.now.prefer in
    let t = view c.args.report.now.tree in
    let d = view c.args.style.now in
    on_ok_weaker c.write_voters.result
    (λ last.
    member_then c.args.out.now c.key.new.self c.write_key_or_null.new.out c.write_voters.new.out (codes "key") (shown_key_or_null (option_copied c.args.key))
    (member (codes "lines") (lines_data π t d) (voters_members π t d)) c.in_ok-key.ensures c.in_ok-write_key_or_null.ensures
    (member_then c.write_key_or_null.new.out c.key-2.new.self c.write_lines_of.new.out c.write_voters.new.out (codes "lines") (lines_data π t d)
    (voters_members π t d) c.in_ok-key-2.ensures c.in_ok-write_lines_of.ensures last))
    c.write_voters.ensures
