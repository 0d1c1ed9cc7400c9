use Rattle.erd_check.proofs.Common.{◌≡◌, true, map, length, take, view, StandsFor}
use Rattle.erd_check.specs.code.EarlierEntries.{TellsEarlier}
use Rattle.erd_check.proofs.earlier.equal_before.Given as goal

abbrev pub invariant-loop-item : goal.invariant-loop-item
invariant-loop-item l = record {
  count : length l.told.items ≡ l.item-index;
  told : TellsEarlier true l.items l.told.items;
  stands : StandsFor (map view (take l.item-index l.items)) l.passed;
}
