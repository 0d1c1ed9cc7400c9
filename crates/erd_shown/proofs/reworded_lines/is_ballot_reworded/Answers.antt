use Rattle.erd_shown.proofs.Common.{ℕ, Bool, ◌||◌, Data, list_any, map, ap, ap₂, ◌∙◌, view}
use Rattle.erd_shown.specs.Reworded.{is_line_reworded}
use Rattle.erd_shown.specs.code.LineLists.{of_line}
use Rattle.erd_shown.proofs.MarkLists.{any_map}
use Rattle.erd_shown.proofs.reworded_lines.is_ballot_reworded.Goals as goal

pub returns : goal.returns
returns c =
    let P : ℕ × Data → Bool = λ l. is_line_reworded c.args.left.now.prefer (view c.args.left.now.tree) c.args.right.now.prefer
    (view c.args.right.now.tree) l.1 in
    c.one_of.ensures
    ∙ ap₂ (λ x y. x || y)
    (c.any_line_reworded-line.ensures ∙ any_map P of_line c.deref.result.now ∙ ap (list_any P) (ap (map of_line) c.deref.ensures.value ∙ c.in_ok-lines.ensures))
    c.are_voters_reworded-voters.ensures
