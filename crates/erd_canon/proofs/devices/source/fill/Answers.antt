use Rattle.erd_canon.proofs.Common.{◌≡◌, Err, ap}
use Rattle.erd_canon.specs.declared.engines.outcome.RunFault.TheVariants.{TooLong}
use Rattle.erd_canon.proofs.runs.KnownBytes.{Exceeds-more}
use Rattle.erd_canon.proofs.devices.source.fill.Goals as goal

pub returns-in-Err-clause-too_long : goal.returns-in-Err-clause-too_long
returns-in-Err-clause-too_long g c = λ e.
    let is_long : c.in-Err.fault ≡ TooLong = cc in
    let more = c.in-Err.ensures.too_long (ap Err is_long) in
    Exceeds-more _ _ _ _ c.reads.bytes.items more.0 c.reads.invariant.came more.1 more.2
