use Rattle.erd_canon.proofs.Common.{◌≡◌, ℕ, string_bytes, ap, sym, subst, ◌∙◌, length, view}
use Rattle.erd_canon.specs.WordAnswers.{TellsWords}
use Rattle.erd_canon.specs.declared.data.piece.Told.{Told}
use Rattle.erd_canon.proofs.data_values.WordLists.{words_told}
use Rattle.erd_canon.proofs.data.word_pieces.listed.Goals as goal

pub returns-clause-text : goal.returns-clause-text
unfolding lib.Utf8.encode
returns-clause-text c =
    let r = c.args.report.now in
    let objects = c.deref.result.now in
    let told : Told = record { count = c.in_ok-count.count; all = length objects } in
    let all : c.len.result ≡ length objects = c.len.ensures ∙ c.in_ok-objects.objects.ok.0 ∙ ap length (sym c.deref.ensures.value) in
    subst (λ (n : ℕ). TellsWords r.prefer (view r.tree) c.args.piece.now (record { count = c.in_ok-count.count; all = n }) c.into_bytes.result.items) (sym all)
    (subst (TellsWords r.prefer (view r.tree) c.args.piece.now told) (ap (λ v. v.items) (sym c.into_bytes.ensures.value))
    (words_told r c.args.piece.now objects told (string_bytes c.new-text.result) (string_bytes c.push.new.self) (string_bytes c.push_entries.new.text)
    (string_bytes c.push-2.new.self) (c.deref.ensures.value ∙ c.in_ok-objects.ensures) c.new-text.ensures.bytes c.in_ok-push.ensures.bytes
    c.in_ok-count.ensures c.in_ok-push-2.ensures.bytes))
