use Rattle.std.proofs.Common.{◌≡◌, [], map, take}
use Rattle.serde_json.specs.View.{view}
use Rattle.erd_prepare.specs.Tellings.{AreEach, HaveBytes, IsNumberShown}
use Rattle.erd_prepare.proofs.told.told_numbers.Given as goal

abbrev pub invariant-loop-number : goal.invariant-loop-number
invariant-loop-number l =
    AreEach IsNumberShown (take l.number-index l.numbers.items) (map view l.told.entries.items) × HaveBytes (map view l.told.entries.items) l.told.bytes
