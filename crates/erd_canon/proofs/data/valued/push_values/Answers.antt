use Rattle.erd_canon.proofs.Common.{◌-◌, ◌++◌, sym, ap, ◌∙◌, length, take, option_copied, on_ok_weaker}
use Rattle.std.proofs.Common.{cond}
use Rattle.erd_canon.specs.code.ValuedTexts.{sides_text}
use Rattle.erd_canon.proofs.data.valued.push_values.Goals as goal

pub returns-then-have_any : goal.returns-then-have_any
returns-then-have_any c =
    let was = c.args.text.now.items in
    let put = take (length was - 1) was ++ sides_text (option_copied c.args.left) (option_copied c.args.right) in
    on_ok_weaker c.push_sides.result (λ is. is ∙ ap (λ b. cond b put was) (sym (sym c.have_any.ensures ∙ c.if-have_any.true))) c.push_sides.ensures

pub returns-else-have_any : goal.returns-else-have_any
returns-else-have_any c =
    let was = c.args.text.now.items in
    let put = take (length was - 1) was ++ sides_text (option_copied c.args.left) (option_copied c.args.right) in
    ap (λ b. cond b put was) (sym (sym c.have_any.ensures ∙ c.if-have_any.false))
