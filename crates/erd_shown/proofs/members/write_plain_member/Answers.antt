use Rattle.erd_shown.proofs.Common.{◌++◌, sym, ap, ◌∙◌, on_ok_weaker, view, kind_of_member, is_in_envelope, value_tokens}
use Rattle.erd_shown.specs.Shown.{shown_plain, shown_value}
use Rattle.erd_shown.specs.code.Writing.{names_keys}
use Rattle.erd_shown.proofs.KeyedKinds.{keyed_kind}
use Rattle.erd_shown.proofs.Written.{told_member, untold_member}
use Rattle.erd_shown.proofs.members.write_plain_member.Goals as goal

pub write_shown-requires : goal.write_shown-requires
write_shown-requires c = record { keyed = ap names_keys c.member_kind.ensures ∙ keyed_kind c.args.class c.args.name.now }

pub returns-in_ok-key : goal.returns-in_ok-key
returns-in_ok-key c =
    let π = c.args.report.now.prefer in
    let t = view c.args.report.now.tree in
    let d = view c.args.member.now in
    on_ok_weaker c.write_shown.result
    (λ written whole.
    told_member (is_in_envelope c.args.class c.args.name.now) (shown_value π t (kind_of_member c.args.class c.args.name.now) d) c.args.name.now
    c.args.out.now c.write_shown.new.out
    (sym (c.is_written.ensures π t) ∙ c.if-is_written.true)
    (λ v is. written whole v (ap (λ k. shown_value π t k d) c.member_kind.ensures ∙ is) ∙ ap (λ o. o ++ value_tokens v) c.in_ok-key.ensures))
    c.write_shown.ensures

pub returns-else-is_written : goal.returns-else-is_written
returns-else-is_written c whole =
    let π = c.args.report.now.prefer in
    let t = view c.args.report.now.tree in
    untold_member (shown_plain π t c.args.class c.args.name.now (view c.args.member.now)) c.args.name.now c.args.out.now
    (sym (c.is_written.ensures π t) ∙ c.if-is_written.false)
