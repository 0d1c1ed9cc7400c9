use Rattle.erd_text.proofs.Common.{◌+◌, List, [], ◌∷◌, ◌++◌, Some, sym, ap, ◌∙◌, subst}
use Rattle.erd_shown.specs.code.RowsSoFar.{AreUpTo}
use Rattle.erd_shown.specs.declared.rows.Row.{Row}
use Rattle.erd_shown.proofs.RowLists.{up_both, up_left}
use Rattle.erd_shown.proofs.rows.push_line.Goals as goal

pub returns-in_ok-push-in-Some-clause-rows : goal.returns-in_ok-push-in-Some-clause-rows
returns-in_ok-push-in-Some-clause-rows c left e h =
    subst (λ (rows : List Row). AreUpTo left c.args.right.now rows (c.args.one + 1) (c.in-Some.there + 1)) (sym c.in_ok-push-in-Some.ensures.items)
    (up_both left c.args.right.now c.push_rights.new.rows.items c.args.one c.in-Some.there (c.in_ok-push_rights-in-Some.ensures left c.args.one h)
    (e ∙ ap Some c.in-Some.ensures.partner))

pub returns-in_ok-push-in-None-clause-rows : goal.returns-in_ok-push-in-None-clause-rows
returns-in_ok-push-in-None-clause-rows c left e h =
    subst (λ (rows : List Row). AreUpTo left c.args.right.now rows (c.args.one + 1) c.args.other)
    (sym (c.in_ok-push-in-None.ensures.items ∙ ap (λ r. c.args.rows.now.items ++ r ∷ []) c.left_row.ensures))
    (up_left left c.args.right.now c.args.rows.now.items c.args.one c.args.other h c.args.partner e)
