use Rattle.erd_meaning.proofs.Common.{ℕ, List, Some, option_map, option_and_then, sym, ap, ◌∙◌, Bor, bytes_decides, Kept, shown, Object}
use Rattle.erd_meaning.proofs.objects.table.ObjectTable.has_id_at.Goals as goal

pub returns-in-Some-id : goal.returns-in-Some-id
returns-in-Some-id c e own =
    own c.args.family c.args.position c.args.id.now
    (ap (option_and_then (λ (k : Kept). k.id)) (sym c.get.ensures ∙ ap (option_map (λ (o : Bor Object). shown o.now)) c.in-Some.is)
    ∙ ap (option_map (λ (s : Bor (List ℕ)). s.now)) c.in-Some-id.is ∙ ap Some ((bytes_decides c.in-Some-id.own.now c.args.id.now).0 (sym c.eq.ensures ∙ e)))
