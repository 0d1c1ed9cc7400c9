use Rattle.erd_text.proofs.Common.{◌≡◌, ◌++◌, map, drop, items_of, items_tokens, view}
use Rattle.erd_shown.proofs.contests_and_headers.write_names.Given as goal
use Rattle.erd_shown.specs.ContentData.{shown_name_named}

abbrev pub invariant-loop-value : goal.invariant-loop-value
invariant-loop-value l =
    l.out ++ items_tokens (items_of (map (λ v. shown_name_named l.report.prefer (view l.report.tree) (view v)) (drop l.value-index l.values)))
    ≡ l.initial.out ++ items_tokens (items_of (map (λ v. shown_name_named l.report.prefer (view l.report.tree) (view v)) l.values))
