use Rattle.erd_text.proofs.Common.{◌++◌, List, codes, map, sym, ap, ◌∙◌, Data, no_members, value_tokens}
use Rattle.std.proofs.lemmas.Result.{on_ok_weaker}
use Rattle.std.proofs.lemmas.Simd.{map-map}
use Rattle.erd_shown.proofs.MembersWritten.{member_then}
use Rattle.erd_shown.specs.KeyData.{array_of}
use Rattle.erd_shown.specs.RowData.{row_data}
use Rattle.erd_shown.specs.code.SelectionsFound.{of_row}
use Rattle.erd_shown.proofs.ballots_beside.write_rows_member.Goals as goal

pub returns : goal.returns
returns c =
    on_ok_weaker c.end_object.result
    (λ last.
    member_then c.args.out.now c.key.new.self c.write_rows.new.out c.end_object.new.self (codes "rows") (array_of (map row_data (map of_row c.args.rows.now)))
    no_members c.in_ok-key.ensures
    (c.in_ok-write_rows.ensures ∙ ap (λ (ds : List Data). c.key.new.self ++ value_tokens (array_of ds)) (sym (map-map row_data of_row c.args.rows.now))) last)
    c.end_object.ensures
