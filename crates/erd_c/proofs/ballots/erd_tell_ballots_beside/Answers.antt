use Rattle.std.proofs.Common.{IfOk, subst}
use Rattle.erd_canon.specs.BallotAnswers.{IsBallotsBesideData}
use Rattle.erd_c.specs.Told.{IsWrong}
use Rattle.erd_c.proofs.Answered.{call_of}
use Rattle.erd_c.proofs.ballots.erd_tell_ballots_beside.Goals as goal

pub returns-in-Ok : goal.returns-in-Ok
returns-in-Ok c =
    call_of (λ it. it.0) (λ it. it.1.items) (λ π. IsBallotsBesideData c.args.at.now.left c.args.at.now.right π c.args.left.now c.args.right.now)
    c.args.at.now.prefers c.args.prefer.now _ c.beside.result c.tell.result c.args.room.now c.tell.new.room
    (subst (λ n. ¬ IsWrong c.args.at.now.prefers c.args.prefer.now n) c.max.ensures c.in-Ok.ensures.right)
    (subst (λ π. IfOk c.beside.result (λ it. IsBallotsBesideData c.args.at.now.left c.args.at.now.right π c.args.left.now c.args.right.now it.0 it.1.items))
    c.in-Ok.ensures.given c.beside.ensures)
    c.tell.ensures.answered c.tell.ensures.faulty
