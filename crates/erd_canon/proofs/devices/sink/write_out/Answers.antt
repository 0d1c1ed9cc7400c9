use Rattle.erd_canon.proofs.Common.{◌≡◌, ◌-◌, length, take, drop, ◌∙◌, arith}
use Rattle.std.proofs.lemmas.Grind.{common_steps}
use Rattle.erd_canon.proofs.runs.KnownBytes.{Appends-more}
use Rattle.erd_canon.proofs.devices.sink.write_out.Goals as goal

pub loop-at-preserved : goal.loop-at-preserved
loop-at-preserved g c =
    let bytes = c.args.bytes.now in
    let at = c.loop-at.at in
    let rest : take (length bytes - at) (drop at bytes) ≡ drop at bytes = grind (arith, common_steps) in
    record {
      in_range = grind (arith, common_steps);
      works = c.in_ok-at.ensures.ok ∙ c.loop-at.invariant.works;
      counted = c.in_ok-at.ensures.counted ∙ c.loop-at.invariant.counted;
      empty = λ none. grind (arith, common_steps);
      written = Appends-more _ _ _ bytes at c.in_ok-at.field-0 c.loop-at.invariant.written (rw rest at c.in_ok-at.ensures.bytes);
    }
