use Rattle.std.proofs.Common.{◌≡◌, ◌++◌, ◌∷◌, [], map, ℕ, Vec, Global, subst, ap, ◌∙◌}
use Rattle.std.proofs.Math.ListN.{drop_of_length-le}
use Rattle.std.proofs.lemmas.List.{map-append}
use Rattle.erd_c.specs.Lines.{words_in}
use Rattle.erd_c.proofs.Words.{after_other, after_zero, empty_is, full_is, held, joined, last_word, nothing_left}
use Rattle.erd_c.proofs.line.words_in.Goals.{then-byte-eq0+in_ok-push, else-byte-eq0+in_ok-push-2, then-not-is_empty+in_ok-push-3, else-not-is_empty}
use Rattle.erd_c.proofs.line.words_in.Goals as goal

pub loop-byte-preserved : goal.loop-byte-preserved
loop-byte-preserved c =
    let done = map held c.loop-byte.words.items in
    let low = c.loop-byte-test.true in
    elim c.if-byte-eq0.branch [
      | then-byte-eq0+in_ok-push w ↦
          after_zero c.args.bytes.now done (map held c.if-byte-eq0.words.items) c.loop-byte.word.items c.if-byte-eq0.word.items
          c.loop-byte.byte-index low w.if-byte-eq0.true
          (ap (λ (v : Vec (Vec ℕ Global) Global). map held v.items) w.words-is ∙ ap (map held) w.in_ok-push.ensures.items
          ∙ map-append held c.loop-byte.words.items (c.loop-byte.word ∷ []))
          (ap held w.word-is ∙ w.new-word-then-byte-eq0.ensures.items) c.loop-byte.invariant
      | else-byte-eq0+in_ok-push-2 w ↦
          after_other c.args.bytes.now done (map held c.if-byte-eq0.words.items) c.loop-byte.word.items c.if-byte-eq0.word.items c.loop-byte.byte-index
          low w.if-byte-eq0.false
          (ap (λ (v : Vec (Vec ℕ Global) Global). map held v.items) w.words-is) (ap held w.word-is ∙ w.in_ok-push-2.ensures.items) c.loop-byte.invariant
    ]

pub returns : goal.returns
returns c =
    let done = map held c.loop-byte.words.items in
    let word = c.loop-byte.word in
    let at_end = subst (λ r. done ++ joined word.items (words_in r) ≡ words_in c.args.bytes.now) (drop_of_length-le c.args.bytes.now c.loop-byte-test.false)
    c.loop-byte.invariant in
    elim c.if-not-is_empty.branch [
      | then-not-is_empty+in_ok-push-3 w ↦
          ap (λ (v : Vec (Vec ℕ Global) Global). map held v.items) w.words-is ∙ ap (map held) w.in_ok-push-3.ensures.items
          ∙ map-append held c.loop-byte.words.items (word ∷ [])
          ∙ last_word done word.items (words_in c.args.bytes.now) (full_is word c.is_empty.result c.is_empty.ensures w.if-not-is_empty.true) at_end
      | else-not-is_empty w ↦
          ap (λ (v : Vec (Vec ℕ Global) Global). map held v.items) w.words-is
          ∙ nothing_left done word.items (words_in c.args.bytes.now) (empty_is word c.is_empty.result c.is_empty.ensures w.if-not-is_empty.false) at_end
    ]
