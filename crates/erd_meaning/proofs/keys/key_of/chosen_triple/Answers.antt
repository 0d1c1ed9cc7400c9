-- The one that is chosen is the key.
use Rattle.erd_meaning.proofs.Common.{◌≡◌, map, Some, codes, option_copied, sym, ◌∙◌, arith, view, entries_at, triple_of, choice}
use Rattle.std.proofs.lemmas.Grind.{common_steps}
use Rattle.erd_meaning.proofs.rising.ChoiceOrder.{key_is_choice}
use Rattle.erd_meaning.proofs.keys.key_of.chosen_triple.Goals as goal

pub returns-after-loop-identifier : goal.returns-after-loop-identifier
returns-after-loop-identifier c =
    let π = option_copied c.args.prefer in
    let ds = entries_at (codes "ExternalIdentifier") (view c.args.object.now) in
    let chosen : Some c.loop-identifier.chosen ≡ choice π (map triple_of ds) = grind (arith, common_steps) in
    chosen ∙ sym (key_is_choice π ds)
