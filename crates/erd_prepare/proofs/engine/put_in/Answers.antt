use Rattle.std.proofs.Common.{◌≡◌, ℕ, List, [], ◌∷◌, ◌++◌, ap, sym, ◌∙◌, string_bytes, append_assoc, Some}
use Rattle.std.specs.Vec.Iter.{into_iter_items}
use Rattle.serde_json.specs.Data.{put}
use Rattle.serde_json.specs.Find.{get}
use Rattle.serde_json.specs.View.{view, members_view}
use Rattle.serde_json.proofs.Views.{members_view-insert_entry}
use Rattle.erd_tables.specs.declared.place.Step.TheVariants.{Name}
use Rattle.erd_check.specs.Paths.{steps_of}
use Rattle.erd_prepare.specs.Changes.{told_by}
use Rattle.erd_prepare.specs.Rules.{Told, put_all, seen, told_puts}
use Rattle.erd_prepare.proofs.engine.put_in.Goals as goal

pub loop-name-preserved : goal.loop-name-preserved
loop-name-preserved c =
    let l = c.loop-name in
    let rest = into_iter_items c.next.new.self in
    let path = steps_of c.args.path.now in
    let object = view c.args.object.now in
    let name = c.in-Some.name in
    let value = c.in-Some.value in
    let one : List ℕ → Told = λ n. record { place = path ++ Name n ∷ []; before = get n object; after = Some (view value) } in
    let steps : into_iter_items l.name-iterator ≡ (name, value) ∷ rest = c.in-Some.ensures.steps.0 in
    let now : members_view c.insert.new.self.entries ≡ put (string_bytes name) (view value) (members_view l.kept.entries) =
    ap members_view c.in_ok-insert.ensures.entries ∙ members_view-insert_entry l.kept.entries name value in (
      ap (put_all (seen rest)) now ∙ ap (λ es. put_all (seen es) (members_view l.kept.entries)) (sym steps) ∙ l.invariant.0,
      ap (λ cs. cs ++ told_puts path object (seen rest)) c.in_ok-push_put.ensures ∙ append_assoc (told_by l.changes.items) _ _
          ∙ ap (λ n. told_by l.changes.items ++ one n ∷ told_puts path object (seen rest)) c.as_str.ensures.value
          ∙ ap (λ es. told_by l.changes.items ++ told_puts path object (seen es)) (sym steps) ∙ l.invariant.1,
    )
