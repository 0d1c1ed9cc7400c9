use Rattle.std.proofs.Common.{IfOk, subst}
use Rattle.erd_meaning.specs.Keys.{Preference}
use Rattle.erd_canon.specs.declared.data.piece.Piece.{Piece}
use Rattle.erd_c.specs.Told.{IsWrong, preference}
use Rattle.erd_c.specs.code.Questions.{answers_of, longest_of}
use Rattle.erd_c.proofs.Answered.{piece_call_of}
use Rattle.erd_c.proofs.questions.Question.tell.Goals as goal

pub returns-in-Ok : goal.returns-in-Ok
returns-in-Ok c =
    let is = λ (π : Preference) (piece : Piece). IfOk c.answer.result (λ it. answers_of c.args.self π piece it.outcome it.told it.text.items) in
    piece_call_of (answers_of c.args.self) c.args.prefer.now (longest_of c.args.self) c.answer.result c.args.wanted.now c.tell_piece.new.wanted
    c.tell_piece.result c.args.room.now c.tell_piece.new.room
    (subst (λ n. ¬ IsWrong c.args.wanted.now.prefers c.args.prefer.now n) c.longest.ensures c.in-Ok.ensures.right)
    (subst (λ piece. is (preference c.args.wanted.now.prefers c.args.prefer.now) piece) c.piece.ensures
    (subst (λ π. is π c.piece.result) c.in-Ok.ensures.given c.answer.ensures))
    c.tell_piece.ensures.answered c.tell_piece.ensures.faulty
