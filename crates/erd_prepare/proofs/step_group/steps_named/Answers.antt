use Rattle.std.proofs.Common.{◌∙◌, sym}
use Rattle.erd_prepare.proofs.Chosen.{all_chosen, nothing_chosen, word_adds, word_ends, words_end, words_of}
use Rattle.erd_prepare.specs.StepWords.{words_at_commas}
use Rattle.erd_prepare.proofs.step_group.steps_named.Goals as goal

pub loop-word-init : goal.loop-word-init
loop-word-init c =
    rw (c.new-steps.ensures.items, c.deref-word-items.ensures.value, c.in_ok-words_at_commas.ensures) (nothing_chosen (words_at_commas c.args.words.now))

pub loop-word-preserved : goal.loop-word-preserved
loop-word-preserved c =
    sym (word_adds c.deref-word-items.result.now c.loop-word.word-index _ _ _ _ c.loop-word-test.true c.if-not-branch.false c.in_ok-add_word.ensures)
    ∙ c.loop-word.invariant

pub returns-then-not-branch : goal.returns-then-not-branch
returns-then-not-branch c =
    sym (word_ends c.deref-word-items.result.now c.loop-word.word-index _ _ _ _ c.loop-word-test.true c.if-not-branch.true c.in_ok-add_word.ensures)
    ∙ c.loop-word.invariant

pub returns : goal.returns
returns c =
    sym (all_chosen c.loop-word.steps.items (words_of c.deref-word-items.result.now) c.loop-word.word-index
    (words_end c.deref-word-items.result.now c.loop-word.word-index c.loop-word-test.false)) ∙ c.loop-word.invariant
