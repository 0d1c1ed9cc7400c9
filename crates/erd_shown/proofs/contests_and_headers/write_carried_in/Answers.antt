use Rattle.erd_text.proofs.Common.{◌++◌, sym, ap, ◌∙◌, cond, members_tokens, view}
use Rattle.serde_json.specs.Data.{member as member_of}
use Rattle.serde_json.specs.View.{members_view}
use Rattle.serde_json.proofs.Views.{Entry}
use Rattle.erd_text.proofs.WholeValues.{whole_first, whole_rest}
use Rattle.erd_shown.proofs.Written.{carried_one}
use Rattle.erd_shown.proofs.contests_and_headers.write_carried_in.Goals as goal
use Rattle.erd_shown.specs.ContentData.{carried_in, is_carried}

pub loop-name-preserved : goal.loop-name-preserved
loop-name-preserved c whole =
    let entry : Entry = (c.in-Some.name.now, c.in-Some.member.now) in
    let before = c.loop-name.invariant whole in
    let left = c.loop-name.name-iterator in
    let rest = c.next.new.self in
    let name = c.as_str-name.result.now in
    let d = view c.in-Some.member.now in
    let ms = carried_in c.args.class (members_view rest) in (
      whole_rest left rest entry c.in-Some.ensures.steps before.0,
      carried_one (is_carried c.args.class name) name d ms c.loop-name.out c.write_if_carried.new.out _
          (c.in_ok-write_if_carried.ensures (whole_first left rest entry c.in-Some.ensures.steps before.0))
          (ap (λ n. c.loop-name.out ++ members_tokens (cond (is_carried c.args.class n) (member_of n d ms) ms)) c.as_str-name.ensures.value
          ∙ (ap (λ es. c.loop-name.out ++ members_tokens (carried_in c.args.class (members_view es))) (sym c.in-Some.ensures.steps)
          ∙ before.1)),
    )
