use Rattle.erd_canon.proofs.Common.{◌+◌, ◌∷◌, drop, sym, ap, ◌∙◌, subst, arith}
use Rattle.std.proofs.lemmas.List.{drop_more, drop_all}
use Rattle.erd_canon.specs.code.Fronts.{IsReached}
use Rattle.erd_canon.specs.code.ValuedTexts.{Anything, valued_size, valued_text}
use Rattle.erd_canon.proofs.data_values.Fronts.{ended}
use Rattle.erd_canon.proofs.data.valued_pieces.push_entries.Goals as goal

pub loop-difference-preserved : goal.loop-difference-preserved
loop-difference-preserved c =
    let found = c.args.found.now in
    let i = c.loop-difference.difference-index in
    let size = valued_size c.args.sides.now in
    let text_of = valued_text c.args.sides.now in
    c.in_ok-pass_entry.ensures found c.args.text.now.items (drop (i + 1) found)
    (subst (IsReached size text_of Anything c.args.piece.now found c.args.text.now.items c.loop-difference.text.items c.loop-difference.ahead)
    (drop_more found i c.difference-item.result c.loop-difference-test.true ∙ ap (λ w. w ∷ drop (i + 1) found) (sym c.difference-item.is))
    c.loop-difference.invariant)

pub returns : goal.returns
returns c =
    let found = c.args.found.now in
    let size = valued_size c.args.sides.now in
    let text_of = valued_text c.args.sides.now in
    ended size text_of Anything c.args.piece.now found c.args.text.now.items c.loop-difference.text.items c.loop-difference.ahead
    (subst (IsReached size text_of Anything c.args.piece.now found c.args.text.now.items c.loop-difference.text.items c.loop-difference.ahead)
    (drop_all c.loop-difference.difference-index found (omega (arith, c.loop-difference-test.false))) c.loop-difference.invariant)
