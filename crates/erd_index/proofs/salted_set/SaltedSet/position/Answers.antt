use Rattle.std.proofs.Common.{position, ap, ◌∙◌}
use Rattle.erd_index.proofs.NumberedKeys.{position_numbered}
use Rattle.erd_index.proofs.salted_set.SaltedSet.position.Goals as goal

pub returns : goal.returns
returns g c =
    c.get_index_of.ensures.index
    ∙ position_numbered g.K.Hash.hash_input c.self.inside.salt c.number-number.result (g.Q.Sought.finds c.args.sought) c.number-number.ensures
    c.self.inside.set.keys c.self.invariant ∙ ap (λ s. position (g.Q.Sought.finds c.args.sought) s.keys) c.self.view_is
