use Rattle.erd_text.proofs.Common.{codes, no_members}
use Rattle.std.proofs.lemmas.Result.{on_ok_weaker}
use Rattle.erd_shown.proofs.MembersWritten.{member_then}
use Rattle.erd_shown.specs.SelectionRows.{rows_of_selections}
use Rattle.erd_shown.specs.code.SelectionsFound.{of_selections}
use Rattle.erd_shown.proofs.row_texts.write_inside.Goals as goal

pub returns : goal.returns
returns c =
    on_ok_weaker c.end_object.result
    (λ last.
    member_then c.args.out.now c.key.new.self c.write_selection_rows.new.out c.end_object.new.self (codes "selections")
    (rows_of_selections (of_selections c.args.inside.now)) no_members c.in_ok-key.ensures
    c.in_ok-write_selection_rows.ensures last)
    c.end_object.ensures
