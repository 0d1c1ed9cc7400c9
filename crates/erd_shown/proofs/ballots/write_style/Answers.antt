use Rattle.erd_text.proofs.Common.{view}
use Rattle.std.proofs.lemmas.Result.{on_ok_weaker}
use Rattle.std.specs.Option.{option_copied}
use Rattle.erd_shown.proofs.MembersWritten.{object_then}
use Rattle.erd_shown.specs.Ballots.{keyed_members}
use Rattle.erd_shown.proofs.ballots.write_style.Goals as goal

pub returns : goal.returns
returns c =
    on_ok_weaker c.write_keyed.result
    (λ last.
    object_then c.args.out.now c.begin_object.new.self c.write_keyed.new.out
    (keyed_members c.args.report.now.prefer (view c.args.report.now.tree) (option_copied c.args.key) (view c.args.style.now))
    c.in_ok-begin_object.ensures last)
    c.write_keyed.ensures
