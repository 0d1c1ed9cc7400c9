use Rattle.erd_shown.proofs.Common.{◌≡◌, ◌++◌, Bool, true, false, cond, None, Some, Option, ap, ◌∙◌, IfOk-weaker, Data, value_tokens, view, kind_of_member}
use Rattle.erd_shown.proofs.Common.{is_in_envelope}
use Rattle.erd_shown.specs.Shown.{shown_value}
use Rattle.erd_shown.specs.SideValues.{is_told_whole}
use Rattle.erd_shown.specs.code.Writing.{names_keys}
use Rattle.erd_shown.proofs.KeyedKinds.{keyed_kind}
use Rattle.erd_shown.proofs.side_values.told_text.Goals as goal

told_is : (b e : Bool) (o : Option Data) (d : Data) → cond b (cond e None o) None ≡ Some d → o ≡ Some d
told_is true true o d is = cc
told_is true false o d is = is
told_is false e o d is = cc

pub write_shown-requires : goal.write_shown-requires
write_shown-requires c = record { keyed = ap names_keys c.member_kind.ensures ∙ keyed_kind c.args.class c.args.name.now }

pub returns : goal.returns
returns c =
    let π = c.args.report.now.prefer in
    let t = view c.args.report.now.tree in
    let k = kind_of_member c.args.class c.args.name.now in
    let v = view c.args.member.now in
    IfOk-weaker c.text_of.result _ _
    (λ text is whole d told.
    is d
    (c.in_ok-write_shown.ensures whole d (ap (λ k. shown_value π t k v) c.member_kind.ensures
    ∙ told_is (is_told_whole k) (is_in_envelope c.args.class c.args.name.now) (shown_value π t k v) d told)
    ∙ ap (λ ts. ts ++ value_tokens d) c.new-out.ensures)) c.text_of.ensures
