use Rattle.std.proofs.Common.{◌∙◌, ap}
use Rattle.std.specs.Option.{option_copied}
use Rattle.erd_c.proofs.Answered.{refusal_of}
use Rattle.erd_c.proofs.answers.canonical.Goals as goal

pub returns-in_default : goal.returns-in_default
returns-in_default c =
    refusal_of (option_copied c.args.prefer) _ c.in_ok-outcome.outcome c.args.bytes.now _ _ _ _ _ _ c.in_default.not-Good
    (ap (λ r. r.now) c.of-reader.ensures.reader)
    (ap (λ w. w.items) c.of-err.ensures.writer ∙ c.new-2.ensures.items) c.in_ok-outcome.ensures.whole
