use Rattle.erd_meaning.proofs.Common.{ℕ, ◌&&◌, List, map, is_some, ◌==◌, bytes_eq, ap, ◌∙◌, Bor, get_by, is_known, shown, Salted, HeldObjects}
use Rattle.erd_meaning.proofs.finding.Known.{id_known}
use Rattle.erd_meaning.proofs.objects.table.ObjectTable.has_id.Goals as goal

pub returns : goal.returns
returns c =
    c.contains_key.ensures
    ∙ ap (λ n. is_some (get_by (λ (k : Salted (Bor (List ℕ))). (n == k.number) && bytes_eq c.args.id.now k.key.now) c.self.inside.ids))
    c.text_number-number.ensures ∙ ap is_some (c.self.invariant.ids_are c.args.id.now) ∙ id_known (map shown c.self.inside.objects.items) c.args.id.now
    ∙ ap (λ (os : HeldObjects). is_known (map shown os.objects) c.args.id.now) c.self.view_is
