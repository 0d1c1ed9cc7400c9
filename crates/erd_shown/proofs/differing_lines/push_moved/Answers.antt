use Rattle.erd_shown.proofs.Common.{codes, option_map, string_bytes, view, on_ok_weaker}
use Rattle.erd_shown.proofs.LineLaws.{two_pieces}
use Rattle.erd_shown.specs.BallotLines.{side_lines}
use Rattle.erd_shown.specs.code.LineLists.{of_line}
use Rattle.erd_shown.specs.code.Pairs.{pair_lines_in}
use Rattle.erd_shown.specs.code.SelectionsFound.{of_selections}
use Rattle.erd_shown.proofs.differing_lines.push_moved.Goals as goal

pub returns : goal.returns
returns c =
    let pair = c.args.pair.now in
    let one = option_map of_line c.args.one in
    let other = option_map of_line c.args.other in
    on_ok_weaker c.push_pair.result
    (two_pieces (string_bytes c.args.text.now) (string_bytes c.push_side.new.text) (string_bytes c.push_pair.new.text)
    (side_lines pair.right.now.prefer (view pair.right.now.tree) (codes "moved") other) (pair_lines_in pair one other (of_selections c.args.inside.now))
    c.in_ok-push_side.ensures)
    c.push_pair.ensures
