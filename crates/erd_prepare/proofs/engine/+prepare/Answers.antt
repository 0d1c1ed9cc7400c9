use Rattle.std.proofs.Common.{arith, ◌≡◌, [], ◌∷◌, ◌++◌, map, drop, ap, sym, ◌∙◌, subst, refl, string_bytes, append_assoc, append-nil}
use Rattle.std.proofs.lemmas.List.{drop_all}
use Rattle.serde_json.specs.Data.{no_members}
use Rattle.serde_json.specs.View.{view, items_of, items_view, members_view}
use Rattle.serde_json.proofs.Views.{Entry}
use Rattle.erd_check.specs.Paths.{steps_of}
use Rattle.erd_prepare.specs.Changes.{told_by}
use Rattle.erd_prepare.specs.Rules.{prepared_items, prepared_members, told_members}
use Rattle.erd_prepare.proofs.Rising.{Built, built_more, items_again, join, join_none, rising_entries}
use Rattle.erd_prepare.proofs.engine.+prepare.Goals as goal

pub items_after-returns-clause-tree : goal.items_after-returns-clause-tree
items_after-returns-clause-tree g t c =
    let r = g.M.Mender.rule c.args.mending.now.mender.now in
    let p = steps_of c.args.path.now in
    let kept = map view c.loop-index.kept.items in
    let none : drop c.loop-index.index c.deref-item-items.result.now ≡ [] =
    drop_all c.loop-index.index c.deref-item-items.result.now (omega (arith, c.deref-item-items.ensures.len)) in
    ap items_of (sym (append-nil kept) ∙ rw none at c.loop-index.invariant.0)
    ∙ items_again (prepared_items r p c.args.want 0 (items_view c.deref-item-items.result.now))
    ∙ ap (λ xs. prepared_items r p c.args.want 0 (items_view xs)) c.deref-item-items.ensures.value

pub members_after-loop-name-init : goal.members_after-loop-name-init
members_after-loop-name-init g t c =
    let r = g.M.Mender.rule c.args.mending.now.mender.now in
    let p = steps_of c.args.path.now in
    let all = c.args.members.now.entries in
    let it = c.into_iter-name-iterator.result in
    let from : it ≡ all = c.into_iter-name-iterator.ensures.into_iter_gives ∙ c.iter-name-items.ensures.rest in
    let begun : Built r p c.args.scope (members_view []) (members_view all) (members_view all) =
    record { rising = rising_entries all c.iter-name-items.ensures.ordered; is = refl } in (
      subst (λ es. Built r p c.args.scope (members_view es) (members_view it) (members_view all)) (sym c.new-kept.ensures.empty)
          (subst (λ es. Built r p c.args.scope no_members (members_view es) (members_view all)) (sym from) begun),
      ap (λ es. told_by c.args.changes.now.items ++ told_members r p c.args.scope (members_view es)) from,
    )

pub members_after-loop-name-preserved : goal.members_after-loop-name-preserved
members_after-loop-name-preserved g t c =
    let r = g.M.Mender.rule c.args.mending.now.mender.now in
    let p = steps_of c.args.path.now in
    let l = c.loop-name in
    let all = members_view c.args.members.now.entries in
    let rest = c.next.new.self in
    let e : Entry = (c.in-Some.name.now, c.in-Some.member.now) in
    let steps : l.name-iterator ≡ e ∷ rest = c.in-Some.ensures.steps in (
      built_more r p c.args.scope (string_bytes e.0) (view e.1) (members_view l.kept.entries) (members_view c.add_member.new.kept.entries)
          (members_view rest) all
          (subst (λ es. Built r p c.args.scope (members_view l.kept.entries) (members_view es) all) steps l.invariant.0) c.in_ok-add_member.ensures.tree,
      ap (λ ps. ps ++ told_members r p c.args.scope (members_view rest)) c.in_ok-add_member.ensures.changes
          ∙ append_assoc (told_by l.changes.items) _ _
          ∙ ap (λ es. told_by l.changes.items ++ told_members r p c.args.scope (members_view es)) (sym steps) ∙ l.invariant.1,
    )

pub members_after-returns-clause-tree : goal.members_after-returns-clause-tree
members_after-returns-clause-tree g t c =
    let r = g.M.Mender.rule c.args.mending.now.mender.now in
    let kept = members_view c.loop-name.kept.entries in
    let done : c.loop-name.name-iterator ≡ [] = c.in-None.ensures.steps.0 in
    sym (join_none kept) ∙ ap (λ es. join kept (prepared_members r (steps_of c.args.path.now) c.args.scope (members_view es))) (sym done)
    ∙ c.loop-name.invariant.0.is
