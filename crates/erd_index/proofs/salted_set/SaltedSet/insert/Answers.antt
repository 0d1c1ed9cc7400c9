use Rattle.std.proofs.Common.{not, ap, ◌∙◌}
use Rattle.std.specs.List.{list_any}
use Rattle.indexmap.specs.IndexSet.{insert_key}
use Rattle.erd_index.specs.Salts.{keys_in}
use Rattle.erd_index.proofs.Results.{on_error}
use Rattle.erd_index.proofs.NumberedKeys.{inserted_any, inserted_keys}
use Rattle.erd_index.proofs.salted_set.SaltedSet.insert.Goals as goal

pub returns-clause-added : goal.returns-clause-added
returns-clause-added g c =
    c.in_ok-insert.ensures.added
    ∙ ap not (inserted_any g.K.Hash.hash_input c.self.inside.salt g.K.PartialEq.eq g.met.K.Hash.respects_eq c.number-number.result c.args.key
    c.number-number.ensures c.self.inside.set.keys c.self.invariant ∙ ap (λ s. list_any (g.K.PartialEq.eq c.args.key) s.keys) c.self.view_is)

pub returns-clause-keys : goal.returns-clause-keys
returns-clause-keys g c =
    ap keys_in c.in_ok-insert.ensures.keys
    ∙ inserted_keys g.K.Hash.hash_input c.self.inside.salt g.K.PartialEq.eq g.met.K.Hash.respects_eq c.number-number.result c.args.key c.number-number.ensures
    c.self.inside.set.keys c.self.invariant ∙ ap (λ s. insert_key g.K.PartialEq.eq s.keys c.args.key) c.self.view_is

pub returns-in_err-insert-clause-kept : goal.returns-in_err-insert-clause-kept
returns-in_err-insert-clause-kept g c = on_error c.from_residual.result (ap keys_in c.in_err-insert.ensures.err ∙ ap (λ s. s.keys) c.self.view_is)
