use Rattle.erd_shown.proofs.Common.{◌≡◌, ◌++◌, drop, view}
use Rattle.std.specs.List.{flat_map}
use Rattle.erd_shown.specs.WordList.{worded_with_role}
use Rattle.erd_shown.proofs.word_list.worded_objects.Given as goal

abbrev pub invariant-loop-role : goal.invariant-loop-role
invariant-loop-role l =
    l.found.items ++ flat_map (worded_with_role l.report.prefer (view l.report.tree)) (drop l.role-index l.roles)
    ≡ flat_map (worded_with_role l.report.prefer (view l.report.tree)) l.roles
