use Rattle.erd_normal.proofs.Common.{List, [], ◌∷◌, ◌++◌, slice_get, option_map, sym, refl, ap, ◌∙◌, append_assoc, on_ok_weaker, begin_array, Data, items_of}
use Rattle.erd_normal.proofs.Common.{view, contests, array_of, value_tokens, items_tokens, written_in_contest}
use Rattle.erd_normal.proofs.ranks.WrittenTrees.{seen_value, unseen_value}
use Rattle.erd_normal.proofs.texts.DueTokens.{array_written}
use Rattle.erd_normal.proofs.objects.contest_selections.write_selections.Goals as goal

pub write_in_contest-requires : goal.write_in_contest-requires
write_in_contest-requires c = record {
  there = sym c.object.ensures.object ∙ ap (option_map (λ v. view v.now)) c.in-Some.is;
  whole = c.object.ensures.whole c.in-Some.contest c.in-Some.is;
}

pub returns-in-Some : goal.returns-in-Some
returns-in-Some c =
    let π = c.args.writer.now.prefer in
    let t = view c.args.writer.now.tree in
    let d = view c.in-Some.contest.now in
    let all = items_tokens (items_of (written_in_contest π t d)) in
    on_ok_weaker c.write_in_contest.result
    (λ written.
    written ∙ (ap (λ ts. ts ++ all) c.in_ok-begin_array.ensures ∙ (append_assoc c.args.out.now (begin_array ∷ []) all
    ∙ ap (λ (ds : List Data). c.args.out.now ++ value_tokens (array_of ds))
    (sym (seen_value (written_in_contest π t) [] (slice_get (contests t) c.args.position) d
    (sym c.object.ensures.object ∙ ap (option_map (λ v. view v.now)) c.in-Some.is))))))
    c.write_in_contest.ensures

pub returns-in-None : goal.returns-in-None
returns-in-None c =
    let π = c.args.writer.now.prefer in
    let t = view c.args.writer.now.tree in
    on_ok_weaker c.end_array.result
    (λ written.
    written ∙ (array_written c.args.out.now c.begin_array.new.self c.begin_array.new.self [] [] c.in_ok-begin_array.ensures refl refl
    ∙ ap (λ (ds : List Data). c.args.out.now ++ value_tokens (array_of ds))
    (unseen_value (written_in_contest π t) (slice_get (contests t) c.args.position)
    (sym (ap (option_map (λ v. view v.now)) c.in-None.is) ∙ c.object.ensures.object))))
    c.end_array.ensures
