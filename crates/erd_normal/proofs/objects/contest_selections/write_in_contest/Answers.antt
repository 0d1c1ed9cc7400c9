use Rattle.erd_normal.proofs.Common.{◌≡◌, ℕ, ◌+◌, ◌<◌, [], ◌++◌, length, get_or, drop, slice_get, Some, codes, option_map, sym, ap, ◌∙◌, subst, ap₂, length-map}
use Rattle.erd_normal.proofs.Common.{same_Some, slice_get-map, slice_get_within, on_ok_weaker, Data, items_of, view, family, entries_at, class_of_object}
use Rattle.erd_normal.proofs.Common.{rank_of, contests, selection_role, canonical_selection_id, normal_value, normal_object_with, with_id, rising_selections}
use Rattle.erd_normal.proofs.Common.{value_tokens, items_tokens, map_from, written_selection}
use Rattle.erd_normal.proofs.ranks.WrittenTrees.{seen_key, seen_value}
use Rattle.erd_normal.proofs.ranks.SelectionRanks.{next_selection, none_left, selections_left}
use Rattle.erd_normal.proofs.texts.DueTokens.{entry_whole}
use Rattle.erd_text.proofs.WrittenTokens.{then_rest}
use Rattle.erd_normal.proofs.objects.contest_selections.write_in_contest.Goals as goal

pub entry_at-requires : goal.entry_at-requires
entry_at-requires c =
    let π = c.args.writer.now.prefer in
    let t = view c.args.writer.now.tree in
    let d = view c.args.contest.now in
    let rising = c.rising_selections-rising.result.now in
    let k = c.loop-rank.rank in
    let are = c.rising_selections-rising.ensures ∙ seen_value (rising_selections π t) [] (slice_get (contests t) c.args.position) d c.requires.there in
    let x = next_selection π t d rising k are c.loop-rank-test.true in
    let long = sym (ap length c.entries_at-selections.ensures) ∙ length-map c.entries_at-selections.result.now view in
    record { there = subst (λ n. get_or rising k 0 < n) long (slice_get_within (entries_at (codes "ContestSelection") d) (get_or rising k 0) x.entry x.there) }

pub write_selection-requires : goal.write_selection-requires
write_selection-requires c =
    let d = view c.args.contest.now in
    let i = get_or c.rising_selections-rising.result.now c.loop-rank.rank 0 in
    record {
      whole = entry_whole (codes "ContestSelection") d c.requires.whole i (view c.entry_at.result.now)
          (ap (λ xs. slice_get xs i) (sym c.entries_at-selections.ensures)
          ∙ (slice_get-map view c.entries_at-selections.result.now i ∙ ap (option_map view) c.entry_at.ensures));
    }

pub loop-rank-preserved : goal.loop-rank-preserved
loop-rank-preserved c =
    let π = c.args.writer.now.prefer in
    let t = view c.args.writer.now.tree in
    let d = view c.args.contest.now in
    let rising = c.rising_selections-rising.result.now in
    let k = c.loop-rank.rank in
    let i = get_or rising k 0 in
    let are = c.rising_selections-rising.ensures ∙ seen_value (rising_selections π t) [] (slice_get (contests t) c.args.position) d c.requires.there in
    let x = next_selection π t d rising k are c.loop-rank-test.true in
    let at = ap (λ xs. slice_get xs i) (sym c.entries_at-selections.ensures)
    ∙ (slice_get-map view c.entries_at-selections.result.now i ∙ ap (option_map view) c.entry_at.ensures) in
    let same : view c.entry_at.result.now ≡ x.entry = same_Some _ x.entry (sym at ∙ x.there) in
    let rank = c.rank_at-contest_rank.ensures ∙ ap (rank_of π t family.Contest) (seen_key π (slice_get (contests t) c.args.position) d c.requires.there) in
    let each = written_selection π t d in
    let made : (ℕ → Data → Data) = λ m v. with_id (Some (canonical_selection_id m k))
    (normal_object_with (λ name k v. normal_value π t k v) (class_of_object selection_role v) v) in
    then_rest c.loop-rank.out (value_tokens (each k x.entry)) c.write_selection.new.out (items_tokens (items_of (map_from each (k + 1) (drop (k + 1) _)))) _
    (c.in_ok-write_selection.ensures ∙ ap (λ (v : Data). c.loop-rank.out ++ value_tokens v) (ap₂ made rank same))
    (ap (λ ds. c.loop-rank.out ++ items_tokens (items_of (map_from each k ds))) (sym (selections_left π t d k i x.entry x.at)) ∙ c.loop-rank.invariant)

pub returns : goal.returns
returns c =
    let π = c.args.writer.now.prefer in
    let t = view c.args.writer.now.tree in
    let d = view c.args.contest.now in
    let k = c.loop-rank.rank in
    let are = c.rising_selections-rising.ensures ∙ seen_value (rising_selections π t) [] (slice_get (contests t) c.args.position) d c.requires.there in
    on_ok_weaker c.end_array.result
    (λ written.
    written ∙ (ap (λ ds. c.loop-rank.out ++ items_tokens (items_of (map_from (written_selection π t d) k ds)))
    (sym (none_left π t d c.rising_selections-rising.result.now k are c.loop-rank-test.false)) ∙ c.loop-rank.invariant))
    c.end_array.ensures
