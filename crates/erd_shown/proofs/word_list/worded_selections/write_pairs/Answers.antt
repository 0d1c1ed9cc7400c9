use Rattle.erd_shown.proofs.Common.{◌+◌, ◌++◌, length, drop, map, Some, refl, sym, ap, ◌∙◌, or_parts, items_of, items_have_float, has_float, view, value_tokens}
use Rattle.erd_shown.proofs.Common.{items_tokens}
use Rattle.std.proofs.lemmas.Option.{slice_get_read}
use Rattle.erd_text.proofs.WrittenTokens.{then_rest}
use Rattle.erd_shown.specs.WordList.{named_words}
use Rattle.erd_shown.specs.code.Worded.{words_of_pair}
use Rattle.erd_shown.proofs.Written.{drop_there}
use Rattle.erd_shown.proofs.word_list.worded_selections.write_pairs.Goals as goal

pub loop-pair-preserved : goal.loop-pair-preserved
loop-pair-preserved c whole =
    let π = c.args.report.now.prefer in
    let t = view c.args.report.now.tree in
    let ps = c.args.pairs.now in
    let i = c.loop-pair.pair-index in
    let p = c.pair-item.result in
    let before = c.loop-pair.invariant whole in
    let left = drop_there ps i p (slice_get_read ps (length ps) i p refl c.loop-pair-test.true c.pair-item.is) in
    let floats = or_parts (has_float (view p.1.now)) (items_have_float (items_of (map (λ q. view q.1.now) (drop (i + 1) ps))))
    (ap (λ xs. items_have_float (items_of (map (λ q. view q.1.now) xs))) (sym left) ∙ before.0) in (
      floats.1,
      then_rest c.loop-pair.out (value_tokens (words_of_pair π t p)) c.write_named.new.out
          (items_tokens (items_of (map (words_of_pair π t) (drop (i + 1) ps)))) _
          (c.in_ok-write_named.ensures floats.0 ∙ ap (λ n. c.loop-pair.out ++ value_tokens (named_words π t (Some n) (view p.1.now))) c.lent.ensures)
          (ap (λ xs. c.loop-pair.out ++ items_tokens (items_of (map (words_of_pair π t) xs))) (sym left) ∙ before.1),
    )
