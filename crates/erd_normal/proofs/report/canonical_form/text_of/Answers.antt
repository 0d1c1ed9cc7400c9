use Rattle.erd_normal.proofs.Common.{◌≡◌, ◌++◌, sym, ap, ◌∙◌, subst, view, HasFittingNumbers, IsAccepted, IsTree, Judged, value_tokens}
use Rattle.erd_normal.specs.code.View.{style_of, whole}
use Rattle.erd_normal.proofs.texts.FormTexts.{text_of_form}
use Rattle.erd_normal.proofs.report.canonical_form.text_of.Goals as goal

pub write_report-requires : goal.write_report-requires
write_report-requires c = record {
  root = c.tree-root.ensures.tree ∙ sym (ap (λ (r : Judged). r.tree) c.of.ensures);
  accepted = subst (λ (r : Judged). IsAccepted r.prefer (view c.tree-root.result.now)) (sym c.of.ensures) c.tree-root.ensures.accepted;
  is_tree = c.tree-root.ensures.is_tree;
  whole = c.tree-root.ensures.whole;
}

pub returns-clause-text : goal.returns-clause-text
returns-clause-text c =
    let same : view c.tree-root.result.now ≡ view c.args.report.now.tree = ap view c.tree-root.ensures.tree in
    text_of_form c.args.report.now.prefer (view c.args.report.now.tree) c.in_ok-orders.ensures.accepted (subst IsTree same c.tree-root.ensures.is_tree)
    c.in_ok-orders.ensures.bounded (subst HasFittingNumbers same c.tree-root.ensures.fits)
    c.write_report.new.out c.into_text.result.items
    (c.in_ok-write_report.ensures
    ∙ (ap (λ ts. ts ++ value_tokens (whole (style_of c.of.result.prefer (view c.of.result.tree)) (view c.of.result.tree))) c.new-out.ensures
    ∙ ap (λ (r : Judged). value_tokens (whole (style_of r.prefer (view r.tree)) (view r.tree))) c.of.ensures))
    c.into_text.ensures.text c.into_text.ensures.reads_back c.into_text.ensures.utf8
