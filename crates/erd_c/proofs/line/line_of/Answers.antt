use Rattle.std.proofs.Common.{◌≡◌, MatchOption, map, string_bytes, sym, subst, ap, ◌∙◌, inr}
use Rattle.std.proofs.lemmas.Result.{IfOk-weaker}
use Rattle.erd_c.specs.Lines.{AreTexts, words_in}
use Rattle.erd_c.proofs.Words.{held, texts_answered}
use Rattle.erd_c.proofs.line.line_of.Goals as goal

pub returns-in-Some : goal.returns-in-Some
returns-in-Some c =
    let given = c.as_slice.result.now in
    let found = subst (λ o. MatchOption o (¬ AreTexts (map held given)) (λ texts. map string_bytes texts.items ≡ map held given)) c.in-Some.is
    c.in_ok-words-2.ensures in
    let same : map string_bytes c.as_slice-in-Some.result.now ≡ words_in c.args.bytes.now =
    ap (map string_bytes) c.as_slice-in-Some.ensures.value ∙ found ∙ ap (map held) c.as_slice.ensures.value ∙ c.in_ok-words.ensures in
    IfOk-weaker c.command_line_data.result _ _ (λ answer a. texts_answered c.args.bytes.now c.as_slice-in-Some.result.now answer.status
    (string_bytes answer.text) same a) c.command_line_data.ensures

pub returns : goal.returns
returns c =
    let given = c.as_slice.result.now in
    let none = subst (λ o. MatchOption o (¬ AreTexts (map held given)) (λ texts. map string_bytes texts.items ≡ map held given)) c.in-None.is
    c.in_ok-words-2.ensures in
    let same : map held given ≡ words_in c.args.bytes.now = ap (map held) c.as_slice.ensures.value ∙ c.in_ok-words.ensures in
    IfOk-weaker c.not_text.result _ _ (λ answer a. inr (λ all. none (subst AreTexts (sym same) all), a.0, a.1)) c.not_text.ensures
