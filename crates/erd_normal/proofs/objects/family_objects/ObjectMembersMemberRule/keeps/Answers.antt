use Rattle.erd_normal.proofs.Common.{◌≡◌, false, not, is_some, if◌then◌else◌, sym, ap, ◌∙◌, view, is_empty_array, normal_value, holds_objects}
use Rattle.erd_normal.proofs.texts.DueTokens.{kept_in_object}
use Rattle.erd_normal.proofs.objects.family_objects.ObjectMembersMemberRule.keeps.Goals as goal

pub returns-else-holds_objects : goal.returns-else-holds_objects
returns-else-holds_objects c =
    let π = c.args.self.now.writer.now.prefer in
    let t = view c.args.self.now.writer.now.tree in
    let d = view c.args.member.now in
    let other : holds_objects c.args.kind ≡ false = sym c.holds_objects.ensures ∙ c.if-holds_objects.false in
    c.is_kept.ensures π t ∙ (ap (λ b. if b then not (is_empty_array d) else is_some (normal_value π t c.args.kind d)) (sym other)
    ∙ sym (kept_in_object π t c.args.self.now.position c.args.kind d))
