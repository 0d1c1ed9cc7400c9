use Rattle.erd_compare.proofs.Common.{ℕ, List, slice_get, Option, option_map, option_and_then, sym, ap, ◌∙◌, view, family, Judged, objects, name_named}
use Rattle.erd_compare.proofs.Common.{number_of_name, on_side, ComparedReport}
use Rattle.erd_compare.proofs.same_values.SameValues.{found_elsewhere, found_here, found_nowhere, number_kept, number_owned}
use Rattle.erd_compare.proofs.values.references.number_of_name_named.Goals as goal

-- the number of the name that a text names
abbrev number_at : Judged → Judged → ComparedReport → Option (List ℕ) → Option ℕ
number_at a b side o = option_map (number_of_name a b) (option_and_then (name_named (on_side side a b).prefer (view (on_side side a b).tree)) o)

pub returns-in_err-found : goal.returns-in_err-found
returns-in_err-found c =
    let a = c.args.comparer.now.left in
    let b = c.args.comparer.now.right in
    c.from_residual-in_err-found.ensures
    ∙ (found_nowhere (number_owned a b c.args.side) c.on-report.ensures.same family.Selection c.in_ok-id.id.now c.in_err-found.ensures
    ∙ ap (number_at a b c.args.side) c.in_ok-id.ensures)

pub returns-then-is_same_family : goal.returns-then-is_same_family
returns-then-is_same_family c =
    let a = c.args.comparer.now.left in
    let b = c.args.comparer.now.right in
    c.name_number_at.ensures ∙ (number_kept a b c.args.side (slice_get (objects family.Selection (view (on_side c.args.side a b).tree)) c.in_ok-found.position)
    ∙ (found_here (number_owned a b c.args.side) c.on-report.ensures.same family.Selection c.in_ok-id.id.now c.in_ok-found.ensures
    (sym c.is_same_family.ensures ∙ c.if-is_same_family.true) ∙ ap (number_at a b c.args.side) c.in_ok-id.ensures))

pub returns-else-is_same_family : goal.returns-else-is_same_family
returns-else-is_same_family c =
    let a = c.args.comparer.now.left in
    let b = c.args.comparer.now.right in
    found_elsewhere (number_owned a b c.args.side) c.on-report.ensures.same family.Selection c.in_ok-id.id.now c.in_ok-found.ensures
    (sym c.is_same_family.ensures ∙ c.if-is_same_family.false) ∙ ap (number_at a b c.args.side) c.in_ok-id.ensures
