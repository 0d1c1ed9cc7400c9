use Rattle.erd_normal.proofs.Common.{◌≡◌, sym, ap, ◌∙◌, subst, read, view, has_float, IsTree, IsNoDeeper, IsCanonicalFormOf}
use Rattle.erd_normal.proofs.texts.FormTexts.{read_form}
use Rattle.erd_normal.proofs.report.canonical_form.normal_tree.Goals as goal

-- the tree that was read is the form
same_form : (c : goal.After-drop-text) → c.in_ok-text.ensures.text.tree ≡ view c.in-Ok.tree
same_form c =
    let t = view c.args.report.now.tree in
    read_form c.args.report.now.prefer t (view c.in-Ok.tree) c.in_ok-text.text.items c.in_ok-text.ensures.text c.in_ok-text.ensures.nests
    (ap read (sym c.deref.ensures.value) ∙ c.in-Ok.ensures.ok.1)

pub returns-in-Ok-clause-canonical : goal.returns-in-Ok-clause-canonical
returns-in-Ok-clause-canonical c = subst (IsCanonicalFormOf c.args.report.now.prefer (view c.args.report.now.tree)) (same_form c) c.in_ok-text.ensures.text.form

pub returns-in-Ok-clause-unique : goal.returns-in-Ok-clause-unique
returns-in-Ok-clause-unique c u tree form = c.in_ok-text.ensures.text.only u tree form ∙ same_form c

pub returns-in-Ok-clause-depth : goal.returns-in-Ok-clause-depth
returns-in-Ok-clause-depth c = subst (λ d. IsNoDeeper d (view c.args.report.now.tree)) (same_form c) c.in_ok-text.ensures.text.no_deeper

pub returns-in-Ok-clause-is_tree : goal.returns-in-Ok-clause-is_tree
returns-in-Ok-clause-is_tree c = subst IsTree (same_form c) c.in_ok-text.ensures.text.is_tree

pub returns-in-Ok-clause-whole : goal.returns-in-Ok-clause-whole
returns-in-Ok-clause-whole c = ap has_float (sym (same_form c)) ∙ c.in_ok-text.ensures.text.whole
