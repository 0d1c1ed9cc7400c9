use Rattle.std.proofs.Common.{IfOk, subst, sym}
use Rattle.std.specs.Option.{option_copied}
use Rattle.erd_c.specs.code.Questions.{answers_of}
use Rattle.erd_c.proofs.questions.Question.answer.Goals as goal

pub returns-in-CheckData : goal.returns-in-CheckData
returns-in-CheckData c =
    subst (λ asked. IfOk c.check_data_piece.result (λ it. answers_of asked (option_copied c.args.prefer) c.args.piece.now it.outcome it.told it.text.items))
    (sym c.in-CheckData.is) c.check_data_piece.ensures

pub returns-in-CompareData : goal.returns-in-CompareData
returns-in-CompareData c =
    subst (λ asked. IfOk c.compare_data_piece.result (λ it. answers_of asked (option_copied c.args.prefer) c.args.piece.now it.outcome it.told it.text.items))
    (sym c.in-CompareData.is) c.compare_data_piece.ensures

pub returns-in-DifferencesData : goal.returns-in-DifferencesData
returns-in-DifferencesData c =
    subst (λ asked. IfOk c.differences_data_piece.result (λ it. answers_of asked (option_copied c.args.prefer) c.args.piece.now it.outcome it.told
    it.text.items)) (sym c.in-DifferencesData.is) c.differences_data_piece.ensures
