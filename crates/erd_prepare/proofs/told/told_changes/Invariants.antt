use Rattle.std.proofs.Common.{◌≡◌, [], map, take}
use Rattle.serde_json.specs.View.{view}
use Rattle.erd_prepare.specs.Tellings.{AreEach, HaveBytes, IsChangeTold}
use Rattle.erd_prepare.proofs.told.told_changes.Given as goal

abbrev pub invariant-loop-change : goal.invariant-loop-change
invariant-loop-change l =
    AreEach (IsChangeTold (l.moves.items ≡ [])) (take l.change-index l.changes.items) (map view l.told.entries.items)
    × HaveBytes (map view l.told.entries.items) l.told.bytes
