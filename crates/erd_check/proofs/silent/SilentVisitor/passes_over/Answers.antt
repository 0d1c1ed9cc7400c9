use Rattle.std.specs.Prelude.{⊤}
use Rattle.erd_check.proofs.Common.{[], refl, view}
use Rattle.erd_check.proofs.Silence.{known_inside, silent_member}
use Rattle.erd_check.proofs.silent.SilentVisitor.passes_over.Goals as goal

pub returns-clause-silent : goal.returns-clause-silent
returns-clause-silent c passed =
    silent_member (λ outer w repeated d. []) (λ w. ⊤)
    (record { nothing = λ outer w repeated d h. refl; of_entries = λ w v h e. tt; of_members = λ w ms h name v e. tt }) (view c.args.member.owner.now)
    c.args.member.want (view c.args.member.value.now) tt

pub returns-clause-known : goal.returns-clause-known
returns-clause-known c passed = known_inside (λ w d. ⊤) (λ w d. tt) c.args.member.want (view c.args.member.value.now)
