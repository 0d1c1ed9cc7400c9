use Rattle.erd_meaning.proofs.Common.{List, map, sym, ap, ◌∙◌, subst, err_from_is_err_and, view, Value, RefusedFor, SelectionFault, IsBounded, HaveDistinctKeys}
use Rattle.erd_meaning.proofs.Common.{kept_objects, IsIdentified, IsReferred, IsToldApart, shown, HeldObjects}
use Rattle.erd_meaning.proofs.accepted.DistinctKeys.{kept_distinct}
use Rattle.erd_meaning.proofs.report.resolving.with_names.Goals as goal

pub of-requires : goal.of-requires
of-requires c = record { distinct = subst HaveDistinctKeys (sym c.requires.kept) (kept_distinct c.args.keys.now (view c.args.shaped) c.requires.identified) }

pub returns-in_err-names-clause-refused : goal.returns-in_err-names-clause-refused
returns-in_err-names-clause-refused c =
    let e = c.in_err-names.field-0.0 in
    let refused : RefusedFor (SelectionFault c.args.keys.now (view c.args.shaped)) e =
    subst (λ (v : Value). RefusedFor (SelectionFault c.args.keys.now (view v)) e) c.tree-tree.ensures.tree c.in_err-names.ensures.refused in
    let p = err_from_is_err_and c.from_residual-in_err-names.result c.from_residual-in_err-names.ensures.1 in
    rw (p.1, p.2) refused

pub indexed-requires-clause-resolved : goal.indexed-requires-clause-resolved
indexed-requires-clause-resolved c = record {
  faultless = c.tree-tree.ensures.faultless;
  shallow = c.tree-tree.ensures.nests;
  is_tree = c.tree-tree.ensures.is_tree;
  whole = c.tree-tree.ensures.whole;
  fits = c.tree-tree.ensures.fits;
  few = subst (λ (v : Value). IsBounded (view v)) (sym c.tree-tree.ensures.tree) c.requires.few;
  identified = subst (λ (v : Value). IsIdentified c.args.keys.now v) (sym c.tree-tree.ensures.tree) c.requires.identified;
  referred = subst IsReferred (sym c.tree-tree.ensures.tree) c.requires.referred;
  told_apart = c.in_ok-names.ensures.told_apart;
  kept = ap (λ (os : HeldObjects). map shown os.objects) c.in_ok-objects.ensures ∙ c.requires.kept ∙ ap (λ (v : Value). kept_objects c.args.keys.now (view v))
      (sym c.tree-tree.ensures.tree);
  named = c.in_ok-names.ensures.named;
}

pub returns-clause-told_apart : goal.returns-clause-told_apart
returns-clause-told_apart c = subst (λ (v : Value). IsToldApart c.args.keys.now v) c.tree-tree.ensures.tree c.in_ok-names.ensures.told_apart
