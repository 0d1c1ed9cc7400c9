use Rattle.erd_text.proofs.Common.{codes, view, member}
use Rattle.std.proofs.lemmas.Result.{on_ok_weaker}
use Rattle.std.specs.Option.{option_copied}
use Rattle.erd_shown.proofs.MembersWritten.{member_then, object_then}
use Rattle.erd_shown.specs.Ballots.{keyed_members}
use Rattle.erd_shown.specs.KeyData.{shown_key_or_null}
use Rattle.erd_shown.proofs.ballots.write_held.Goals as goal

pub returns : goal.returns
returns c =
    let election = shown_key_or_null (option_copied c.args.election) in
    let ms = keyed_members c.args.report.now.prefer (view c.args.report.now.tree) (option_copied c.args.key) (view c.args.style.now) in
    on_ok_weaker c.write_keyed.result
    (λ last.
    object_then c.args.out.now c.begin_object.new.self c.write_keyed.new.out (member (codes "election") election ms) c.in_ok-begin_object.ensures
    (member_then c.begin_object.new.self c.key.new.self c.write_key_or_null.new.out c.write_keyed.new.out (codes "election") election ms
    c.in_ok-key.ensures c.in_ok-write_key_or_null.ensures last))
    c.write_keyed.ensures
