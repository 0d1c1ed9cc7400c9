use Rattle.erd_shown.proofs.Common.{Bor, Option, option_map, Data, subst, Value, view, on_ok_weaker}
use Rattle.erd_shown.specs.RowData.{style_in}
use Rattle.erd_shown.specs.code.BesideWritten.{WritesBesideIf}
use Rattle.erd_shown.proofs.beside_texts.write_beside_at.Goals as goal

pub returns : goal.returns
returns c =
    let π = c.args.left.now.prefer in
    let t = view c.args.left.now.tree in
    let ρ = c.args.right.now.prefer in
    let u = view c.args.right.now.tree in
    let before = c.args.out.now in
    let after = c.write_beside_if.new.out in
    on_ok_weaker c.write_beside_if.result
    (λ wrote.
    subst (λ (p : Option Data). WritesBesideIf π t (style_in t c.args.one) ρ u p before after) c.object-other.ensures
    (subst (λ (o : Option Data). WritesBesideIf π t o ρ u (option_map (λ (v : Bor Value). view v.now) c.object-other.result) before after)
    c.object-one.ensures wrote))
    c.write_beside_if.ensures
