use Rattle.std.proofs.Common.{◌≡◌, ◌++◌}
use Rattle.std.specs.Vec.Iter.{into_iter_items}
use Rattle.serde_json.specs.View.{view, members_view}
use Rattle.erd_check.specs.Paths.{steps_of}
use Rattle.erd_prepare.specs.Changes.{told_by}
use Rattle.erd_prepare.specs.Rules.{put_all, seen, told_puts}
use Rattle.erd_prepare.proofs.engine.put_in.Given as goal

abbrev pub invariant-loop-name : goal.invariant-loop-name
invariant-loop-name l =
    (put_all (seen (into_iter_items l.name-iterator)) (members_view l.kept.entries) ≡ put_all (seen l.fn.puts.items) (members_view l.initial.kept.entries))
    × (told_by l.changes.items ++ told_puts (steps_of l.path) (view l.object) (seen (into_iter_items l.name-iterator)) ≡ told_by l.initial.changes.items
    ++ told_puts (steps_of l.path) (view l.object) (seen l.fn.puts.items))
