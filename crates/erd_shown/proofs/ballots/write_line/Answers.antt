use Rattle.erd_text.proofs.Common.{◌++◌, codes, pos, boolean, ap, ◌∙◌, view, value_tokens}
use Rattle.std.proofs.lemmas.Result.{on_ok_weaker}
use Rattle.erd_shown.proofs.Written.{two_then}
use Rattle.erd_shown.specs.Ballots.{listed_members}
use Rattle.erd_shown.specs.KeyData.{shown_whole}
use Rattle.erd_shown.specs.ListedNames.{lists_selections}
use Rattle.erd_shown.proofs.ballots.write_line.Goals as goal

pub returns : goal.returns
returns c =
    let π = c.args.report.now.prefer in
    let t = view c.args.report.now.tree in
    let d = view c.args.line.now.node.now in
    on_ok_weaker c.write_inside.result
    (λ last.
    two_then c.args.out.now c.begin_object.new.self c.key.new.self c.write_count.new.out c.key-2.new.self c.boolean.new.self c.write_inside.new.out
    (codes "depth") (codes "listed")
    (shown_whole (pos c.args.line.now.depth)) (boolean (lists_selections d)) (listed_members π t d)
    c.in_ok-begin_object.ensures c.in_ok-key.ensures c.in_ok-write_count.ensures c.in_ok-key-2.ensures
    (c.in_ok-boolean.ensures ∙ ap (λ b. c.key-2.new.self ++ value_tokens (boolean b)) c.lists_selections.ensures) last)
    c.write_inside.ensures
