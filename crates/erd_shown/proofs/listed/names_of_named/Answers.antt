use Rattle.erd_shown.proofs.Common.{[], ap, ◌∙◌, IfOk-weaker, codes, view, entries_at}
use Rattle.std.specs.Option.{option_map_or}
use Rattle.erd_shown.specs.ListedNames.{sorted_names}
use Rattle.erd_shown.proofs.listed.names_of_named.Goals as goal

pub returns-in-Some : goal.returns-in-Some
returns-in-Some c =
    IfOk-weaker c.names_of_contest.result _ _
    (λ names are. are
    ∙ ap (λ o. sorted_names c.args.report.now.prefer (view c.args.report.now.tree) (option_map_or (entries_at (codes "ContestSelection")) o []))
    c.in-Some.ensures)
    c.names_of_contest.ensures
