use Rattle.std.proofs.Common.{◌∙◌, ap, codes, inr, option_map, refl, sym}
use Rattle.erd_program.specs.declared.files.WorldFault.TheVariants.{Memory, Refused}
use Rattle.erd_program.proofs.Closing.{not_given}
use Rattle.erd_program.proofs.steps.by_steps.Goals as goal

pub returns-in-Ok-None : goal.returns-in-Ok-None
returns-in-Ok-None g c =
    inr (
      refl,
      (
        refl,
        (
          Refused,
          (
            λ is. sym c.in-Ok-None.ensures ∙ ap (option_map (λ steps. steps.items)) c.in-Ok-None.field-0-is,
            not_given (codes "unknown step") refl c.refused.ensures.status c.refused.ensures.said,
          ),
        ),
      ),
    )

pub returns-in-Err : goal.returns-in-Err
returns-in-Err g c =
    inr (refl, (refl, (Memory, (λ is. absurd (cc), not_given (codes "unknown step") refl c.refused-in-Err.ensures.status c.refused-in-Err.ensures.said))))
