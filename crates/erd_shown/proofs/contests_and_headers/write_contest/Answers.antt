use Rattle.erd_text.proofs.Common.{ℕ, ◌++◌, List, ap, ◌∙◌, codes, map, view, value_tokens, entries_at, text_at, family}
use Rattle.std.proofs.lemmas.Result.{on_ok_weaker}
use Rattle.erd_meaning.specs.SelectionNames.{key_named}
use Rattle.erd_shown.proofs.Written.{contest_tokens}
use Rattle.erd_shown.proofs.contests_and_headers.write_contest.Goals as goal
use Rattle.erd_shown.specs.KeyData.{array_of, shown_key_or_null}
use Rattle.erd_shown.specs.ContentData.{carried_data, shown_name_named}

pub returns : goal.returns
returns c =
    let π = c.args.report.now.prefer in
    let t = view c.args.report.now.tree in
    let d = view c.args.value.now in
    on_ok_weaker c.end_object.result
    (λ last whole.
    contest_tokens c.args.out.now c.begin_object.new.self c.key.new.self c.write_carried.new.out c.key-2.new.self c.write_key_named.new.out c.key-3.new.self
    c.write_selections.new.out c.end_object.new.self
    (carried_data d) (shown_key_or_null (key_named π t family.Contest (text_at (codes "ContestId") d)))
    (array_of (map (shown_name_named π t) (entries_at (codes "OrderedContestSelectionIds") d)))
    c.in_ok-begin_object.ensures c.in_ok-key.ensures (c.in_ok-write_carried.ensures whole) c.in_ok-key-2.ensures
    (c.in_ok-write_key_named.ensures ∙ ap (λ (id : List ℕ). c.key-2.new.self ++ value_tokens (shown_key_or_null (key_named π t family.Contest id)))
    c.text_at.ensures)
    c.in_ok-key-3.ensures c.in_ok-write_selections.ensures last)
    c.end_object.ensures
