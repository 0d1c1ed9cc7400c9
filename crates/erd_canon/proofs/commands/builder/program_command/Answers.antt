use Rattle.erd_canon.proofs.Common.{ap, ◌∙◌, ap₂, IfOk-weaker, App, with_subcommand}
use Rattle.erd_canon.proofs.commands.builder.program_command.Goals as goal

pub returns : goal.returns
returns c =
    let top = λ (a : App). a.top in
    IfOk-weaker c.subcommand-6.result _ _ (λ r h. h.shape c.in_ok-prepare_command.ensures.local
    ∙ ap₂ with_subcommand (c.in_ok-subcommand-5.ensures.shape c.in_ok-ballots_command.ensures.local
    ∙ ap₂ with_subcommand (c.in_ok-subcommand-4.ensures.shape c.in_ok-differences_command.ensures.local
    ∙ ap₂ with_subcommand (c.in_ok-subcommand-3.ensures.shape c.in_ok-compare_command.ensures.local
    ∙ ap₂ with_subcommand (c.in_ok-subcommand-2.ensures.shape c.in_ok-canon_command.ensures.local
    ∙ ap₂ with_subcommand (c.in_ok-subcommand.ensures.shape c.in_ok-check_command.ensures.local
    ∙ ap₂ with_subcommand c.described.ensures.app (ap top c.in_ok-check_command.ensures.app)) (ap top c.in_ok-canon_command.ensures.app))
    (ap top c.in_ok-compare_command.ensures.app)) (ap top c.in_ok-differences_command.ensures.app)) (ap top c.in_ok-ballots_command.ensures.app))
    (ap top c.in_ok-prepare_command.ensures.app)) c.subcommand-6.ensures
