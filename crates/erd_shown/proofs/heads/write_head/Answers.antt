use Rattle.erd_text.proofs.Common.{codes, pos, view}
use Rattle.std.proofs.lemmas.Result.{on_ok_weaker}
use Rattle.std.specs.Option.{option_copied}
use Rattle.erd_shown.proofs.Written.{two_then}
use Rattle.erd_shown.specs.Heads.{counted_members}
use Rattle.erd_shown.specs.KeyData.{shown_key_or_null, shown_whole}
use Rattle.erd_shown.proofs.heads.write_head.Goals as goal

pub returns : goal.returns
returns c =
    on_ok_weaker c.write_counted.result
    (λ last.
    two_then c.args.out.now c.begin_object.new.self c.key.new.self c.write_count.new.out c.key-2.new.self c.write_key_or_null.new.out c.write_counted.new.out
    (codes "at") (codes "key")
    (shown_whole (pos c.args.position)) (shown_key_or_null (option_copied c.args.key))
    (counted_members c.args.report.now.prefer (view c.args.report.now.tree) (view c.args.style.now))
    c.in_ok-begin_object.ensures c.in_ok-key.ensures c.in_ok-write_count.ensures c.in_ok-key-2.ensures c.in_ok-write_key_or_null.ensures last)
    c.write_counted.ensures
