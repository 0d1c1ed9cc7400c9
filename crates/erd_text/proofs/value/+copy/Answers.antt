use Rattle.erd_text.proofs.Common.{Entry}
use Rattle.erd_text.proofs.WholeValues.{whole_first, whole_rest}
use Rattle.erd_text.proofs.WrittenTokens.{member_written}
use Rattle.erd_text.proofs.value.+copy.Goals as goal

pub write_members-loop-name-preserved : goal.write_members-loop-name-preserved
write_members-loop-name-preserved t c whole =
    let entry : Entry = (c.in-Some.name.now, c.in-Some.member.now) in
    let before = c.loop-name.invariant whole in (
      whole_rest c.loop-name.name-iterator c.next.new.self entry c.in-Some.ensures.steps before.0,
      member_written c.loop-name.name-iterator c.next.new.self entry c.as_str.result.now c.loop-name.out c.key.new.self c.write_value.new.out _
          c.in-Some.ensures.steps c.as_str.ensures.value c.in_ok-key.ensures
          (c.in_ok-write_value.ensures (whole_first c.loop-name.name-iterator c.next.new.self entry c.in-Some.ensures.steps before.0))
          before.1,
    )
