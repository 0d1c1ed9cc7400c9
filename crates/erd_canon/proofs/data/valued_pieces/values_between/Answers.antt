use Rattle.erd_canon.proofs.Common.{ap, ◌∙◌, subst}
use Rattle.erd_canon.specs.DataAnswers.{listing_outcome}
use Rattle.erd_canon.specs.code.ValuedTexts.{TellsEntries}
use Rattle.erd_canon.proofs.runs.Listings.{both_facts}
use Rattle.erd_canon.proofs.data_values.ValuedLists.{values_told}
use Rattle.erd_canon.proofs.data.valued_pieces.values_between.Goals as goal

pub returns : goal.returns
returns c =
    both_facts c.listed.result _ _ _
    (λ answer ends text. values_told c.args.left c.args.right c.args.piece.now c.in_ok-found.found.items answer.told answer.outcome answer.text.items
    c.requires.one_preference c.in_ok-found.ensures
    (ends ∙ ap listing_outcome c.deref.ensures.value)
    (subst (λ found. TellsEntries (record { left = c.args.left; right = c.args.right; most_bytes = c.args.piece.now.enough_bytes }) c.args.piece.now found
    answer.told answer.text.items)
    c.deref.ensures.value text))
    c.listed.ensures.outcome c.listed.ensures.text
