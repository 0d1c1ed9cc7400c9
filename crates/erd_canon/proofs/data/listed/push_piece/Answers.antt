use Rattle.erd_canon.proofs.Common.{string_bytes, iter_rest, length}
use Rattle.erd_canon.proofs.data_values.Fronts.{in_brackets}
use Rattle.erd_canon.proofs.data.listed.push_piece.Goals as goal

pub returns : goal.returns
unfolding lib.Utf8.encode
returns g c =
    in_brackets g.T.Listed.value c.args.piece.now (iter_rest c.args.entries) (record { count = c.in_ok-count.count; all = length (iter_rest c.args.entries) })
    (string_bytes c.args.text.now)
    (string_bytes c.push.new.self) (string_bytes c.push_entries.new.text) (string_bytes c.push-2.new.self) c.in_ok-push.ensures.bytes c.in_ok-count.ensures
    c.in_ok-push-2.ensures.bytes
