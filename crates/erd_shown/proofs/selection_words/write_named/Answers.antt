use Rattle.erd_shown.proofs.Common.{[], ◌++◌, map, ap, ◌∙◌, on_ok_weaker, codes, view, entries_at, family, value_tokens}
use Rattle.std.specs.Option.{option_map_or}
use Rattle.erd_shown.specs.BallotWords.{in_name_order, words_data}
use Rattle.erd_shown.specs.KeyData.{array_of}
use Rattle.erd_shown.proofs.selection_words.write_named.Goals as goal

pub returns-in-Some : goal.returns-in-Some
returns-in-Some c =
    let π = c.args.report.now.prefer in
    let t = view c.args.report.now.tree in
    on_ok_weaker c.write_contest.result
    (λ written. written
    ∙ ap (λ o. c.args.out.now
    ++ value_tokens (array_of (map (words_data π t family.Selection) (in_name_order π t (option_map_or (entries_at (codes "ContestSelection")) o [])))))
    c.in-Some.ensures)
    c.write_contest.ensures

pub returns-in-None : goal.returns-in-None
returns-in-None c =
    let π = c.args.report.now.prefer in
    let t = view c.args.report.now.tree in
    on_ok_weaker c.write_nothing.result
    (λ written. written
    ∙ ap (λ o. c.args.out.now
    ++ value_tokens (array_of (map (words_data π t family.Selection) (in_name_order π t (option_map_or (entries_at (codes "ContestSelection")) o [])))))
    c.in-None.ensures)
    c.write_nothing.ensures
