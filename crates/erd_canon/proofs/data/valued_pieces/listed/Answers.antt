use Rattle.erd_canon.proofs.Common.{length}
use Rattle.erd_canon.proofs.data_values.ValuedLists.{entries_told}
use Rattle.erd_canon.proofs.data.valued_pieces.listed.Goals as goal

pub returns-clause-text : goal.returns-clause-text
returns-clause-text c =
    let found = c.args.found.now in
    entries_told c.args.sides.now c.args.piece.now found (record { count = c.in_ok-count.count; all = length found }) c.new-text.result.items
    c.push.new.self.items c.push_entries.new.text.items c.push-2.new.self.items
    c.new-text.ensures.items c.in_ok-push.ensures.items c.in_ok-count.ensures c.in_ok-push-2.ensures.items
