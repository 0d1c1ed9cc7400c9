use Rattle.std.proofs.Common.{◌≡◌, drop, map}
use Rattle.erd_prepare.proofs.Chosen.{with_more}
use Rattle.erd_prepare.specs.StepWords.{steps_chosen}
use Rattle.erd_prepare.proofs.step_group.steps_named.Given as goal

abbrev pub invariant-loop-word : goal.invariant-loop-word
invariant-loop-word l = with_more l.steps.items (drop l.word-index (map (λ word. word.now) l.word-items)) ≡ steps_chosen l.fn.words
