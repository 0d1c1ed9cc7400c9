use Rattle.erd_text.proofs.Common.{◌≡◌, ℕ, ◌+◌, ◌<◌, List, [], ◌∷◌, ◌++◌, None, length, get_or, sym, ap, ◌∙◌, subst, arith}
use Rattle.std.proofs.lemmas.Option.{slice_get-get_or}
use Rattle.erd_shown.specs.code.RowsSoFar.{AreUpTo}
use Rattle.erd_shown.specs.declared.rows.Row.{Row}
use Rattle.erd_shown.proofs.RowLists.{up_right}
use Rattle.erd_shown.proofs.rows.push_rights.Goals as goal

pub loop-other-preserved : goal.loop-other-preserved
loop-other-preserved c left i h =
    let j = c.loop-other.other in
    let right = c.args.right.now in
    let low : j < length right = omega (arith, c.loop-other-test.true, c.requires.within) in
    subst (λ (rows : List Row). AreUpTo left right rows i (j + 1))
    (sym (c.in_ok-push.ensures.items ∙ ap (λ r. c.loop-other.rows.items ++ r ∷ []) c.right_row.ensures))
    (up_right left right c.loop-other.rows.items i j (c.loop-other.invariant left i h) (get_or right j None) (slice_get-get_or right j None low))

pub returns : goal.returns
returns c left i h =
    let end : c.loop-other.other ≡ c.args.to = omega (arith, c.loop-other-test.false, c.loop-other.auto.other-end c.requires.rises) in
    subst (λ (j : ℕ). AreUpTo left c.args.right.now c.loop-other.rows.items i j) end (c.loop-other.invariant left i h)
