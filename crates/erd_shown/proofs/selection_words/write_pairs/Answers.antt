use Rattle.erd_shown.proofs.Common.{◌+◌, ◌++◌, length, drop, map, refl, sym, ap, ◌∙◌, or_parts, Bor, Value, Data, family, items_of, items_have_float, has_float}
use Rattle.erd_shown.proofs.Common.{view, value_tokens, items_tokens, NameParts}
use Rattle.std.proofs.lemmas.Option.{slice_get_read}
use Rattle.erd_text.proofs.WrittenTokens.{then_rest}
use Rattle.erd_shown.specs.BallotWords.{words_data}
use Rattle.erd_shown.proofs.Written.{drop_there}
use Rattle.erd_shown.proofs.selection_words.write_pairs.Goals as goal

pub loop-pair-preserved : goal.loop-pair-preserved
loop-pair-preserved c whole =
    let words : NameParts × Bor Value → Data = λ p. words_data c.args.report.now.prefer (view c.args.report.now.tree) family.Selection (view p.1.now) in
    let ps = c.args.pairs.now in
    let i = c.loop-pair.pair-index in
    let p = c.pair-item.result in
    let before = c.loop-pair.invariant whole in
    let left = drop_there ps i p (slice_get_read ps (length ps) i p refl c.loop-pair-test.true c.pair-item.is) in
    let floats = or_parts (has_float (view p.1.now)) (items_have_float (items_of (map (λ q. view q.1.now) (drop (i + 1) ps))))
    (ap (λ xs. items_have_float (items_of (map (λ q. view q.1.now) xs))) (sym left) ∙ before.0) in (
      floats.1,
      then_rest c.loop-pair.out (value_tokens (words p)) c.write_words.new.out (items_tokens (items_of (map words (drop (i + 1) ps)))) _
          (c.in_ok-write_words.ensures floats.0)
          (ap (λ xs. c.loop-pair.out ++ items_tokens (items_of (map words xs))) (sym left) ∙ before.1),
    )
