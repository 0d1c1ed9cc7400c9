use Rattle.erd_normal.proofs.Common.{[], ◌∷◌, ◌++◌, ap, ◌∙◌}
use Rattle.erd_normal.proofs.ranks.RankedReferences.{list_is, list_kept, list_set}
use Rattle.erd_normal.proofs.writer.election_objects.put_in_list.Goals as goal

pub returns-in_ok-push-clause-here : goal.returns-in_ok-push-clause-here
returns-in_ok-push-clause-here c low =
    let lists = c.args.lists.now.items in
    list_set (λ p. p.items) lists c.args.election c.push.new.self low ∙ c.in_ok-push.ensures.items
    ∙ ap (λ xs. xs ++ c.args.position ∷ []) (ap (λ p. p.items) c.index_mut.ensures.value ∙ list_is (λ p. p.items) lists c.args.election _ low)

pub returns-in_ok-push-clause-elsewhere : goal.returns-in_ok-push-clause-elsewhere
returns-in_ok-push-clause-elsewhere c i other = list_kept (λ p. p.items) c.args.lists.now.items c.args.election i c.push.new.self other
