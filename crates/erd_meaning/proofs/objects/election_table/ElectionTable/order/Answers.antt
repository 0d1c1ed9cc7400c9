use Rattle.erd_meaning.proofs.Common.{List, Option, sym, ap, ◌∙◌, subst, IfOk-weaker, positioned, keys_seen, AreDistinct, IsOrder, Key}
use Rattle.erd_meaning.proofs.selections.PositionedKeys.{keys_placed}
use Rattle.erd_meaning.proofs.objects.election_table.ElectionTable.order.Goals as goal

pub of-requires-clause-placed : goal.of-requires-clause-placed
of-requires-clause-placed c = c.in_ok-lent_keys.ensures ∙ ap (positioned 0)
    (sym (keys_placed c.in_ok-lent_keys.field-0.items c.args.self.now.keys c.in_ok-lent_keys.ensures))

pub of-requires-clause-distinct : goal.of-requires-clause-distinct
of-requires-clause-distinct c = subst AreDistinct (sym (keys_placed c.in_ok-lent_keys.field-0.items c.args.self.now.keys c.in_ok-lent_keys.ensures))
    c.requires.distinct

pub returns : goal.returns
returns c =
    let keys = c.in_ok-lent_keys.field-0.items in
    IfOk-weaker c.of.result (IsOrder (keys_seen keys)) (IsOrder c.args.self.now.keys)
    (λ order is. subst (λ (ks : List (Option Key)). IsOrder ks order) (keys_placed keys c.args.self.now.keys c.in_ok-lent_keys.ensures) is) c.of.ensures
