use Rattle.erd_canon.proofs.Common.{ap, subst, option_copied, err_from_is_err_and, view, Preference}
use Rattle.erd_canon.specs.WordAnswers.{TellsWords}
use Rattle.erd_canon.proofs.data_values.WordLists.{words_accepted}
use Rattle.erd_canon.proofs.forms.Refusing.{refused_tree}
use Rattle.erd_canon.proofs.data.word_pieces.words_in.Goals as goal

pub returns-in_err-report-clause-refused : goal.returns-in_err-report-clause-refused
returns-in_err-report-clause-refused c =
    let p = err_from_is_err_and c.from_residual.result c.from_residual.ensures.1 in
    rw (p.1, p.2) (λ b read. refused_tree (option_copied c.args.prefer) b (view c.args.tree.now) c.in_err-report.field-0.0 read c.in_err-report.ensures.refused)

pub returns-in-Ok-clause-told : goal.returns-in-Ok-clause-told
returns-in-Ok-clause-told c =
    let answer = c.in-Ok.answer in
    let one = view c.in_ok-report.report.tree in
    λ b read. words_accepted (option_copied c.args.prefer) b (view c.args.tree.now) one c.args.piece.now answer.outcome answer.told answer.text.items
    read c.in_ok-report.ensures.accepted (ap view c.in_ok-report.ensures.tree) c.in-Ok.ensures.outcome
    (subst (λ (ρ : Preference). TellsWords ρ one c.args.piece.now answer.told answer.text.items) c.in_ok-report.ensures.prefer c.in-Ok.ensures.text)
