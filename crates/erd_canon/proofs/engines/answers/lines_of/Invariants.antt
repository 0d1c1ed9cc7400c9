use Rattle.erd_canon.proofs.Common.{◌≡◌, ◌++◌, drop, map, string_bytes, text_of_lines}
use Rattle.erd_compare.specs.DifferenceLine.{difference_line}
use Rattle.erd_canon.proofs.engines.answers.lines_of.Given as goal

-- with those that are left, all are appended
abbrev pub invariant-loop-difference : goal.invariant-loop-difference
invariant-loop-difference l =
    string_bytes l.text ++ text_of_lines (map (λ d. difference_line d.difference) (drop l.difference-index l.found))
    ≡ text_of_lines (map (λ d. difference_line d.difference) l.found)
