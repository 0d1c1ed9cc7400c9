use Rattle.std.proofs.Common.{◌≡◌, [], map, take}
use Rattle.serde_json.specs.View.{view}
use Rattle.erd_prepare.specs.Tellings.{AreEach, HaveBytes, IsLeftTold}
use Rattle.erd_prepare.proofs.told.told_left.Given as goal

abbrev pub invariant-loop-it : goal.invariant-loop-it
invariant-loop-it l =
    AreEach IsLeftTold (take l.it-index l.left.items) (map view l.told.entries.items) × HaveBytes (map view l.told.entries.items) l.told.bytes
