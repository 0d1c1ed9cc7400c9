use Rattle.erd_shown.proofs.Common.{cond, sym, ap, ◌∙◌, option_and_then, option_copied, option_map, IfOk-weaker, compact_text, get, view}
use Rattle.erd_shown.specs.KeyData.{shown_key}
use Rattle.erd_shown.specs.SideValues.{told_plain}
use Rattle.erd_shown.proofs.side_values.member_text.Goals as goal

pub returns-then-is_election : goal.returns-then-is_election
returns-then-is_election c =
    let o = c.args.object.now in
    let name = c.args.name.now in
    let held = option_map shown_key (option_copied o.holder) in
    let own = option_and_then (told_plain c.args.report.now.prefer (view c.args.report.now.tree) o.class name) (get name (view o.value.now)) in
    IfOk-weaker c.key_text.result _ _ (λ text is whole. is ∙ ap (λ b. option_map compact_text (cond b held own))
    (sym (sym c.is_election.ensures ∙ c.if-is_election.true))) c.key_text.ensures

pub returns-else-is_election : goal.returns-else-is_election
returns-else-is_election c =
    let o = c.args.object.now in
    let name = c.args.name.now in
    let held = option_map shown_key (option_copied o.holder) in
    let own = option_and_then (told_plain c.args.report.now.prefer (view c.args.report.now.tree) o.class name) (get name (view o.value.now)) in
    IfOk-weaker c.own_text.result _ _ (λ text is whole. is whole ∙ ap (λ b. option_map compact_text (cond b held own))
    (sym (sym c.is_election.ensures ∙ c.if-is_election.false))) c.own_text.ensures
