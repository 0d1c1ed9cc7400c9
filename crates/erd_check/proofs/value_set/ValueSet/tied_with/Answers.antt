use Rattle.erd_check.proofs.Common.{map, sym, ap, ◌∙◌, list_any, view, is_same_json}
use Rattle.std.proofs.Math.Bool.{or-false}
use Rattle.erd_check.proofs.ValueSets.{none_tied, one_tied}
use Rattle.erd_check.proofs.value_set.ValueSet.tied_with.Goals as goal

pub returns-in-Some : goal.returns-in-Some
returns-in-Some c =
    let d = view c.args.value.now in
    ap (λ vs. list_any (is_same_json d) (map view vs)) c.from_ref.ensures.value ∙ (or-false (is_same_json d (view c.in-Some.found.now.value.now))
    ∙ sym (one_tied c.args.self.now.ordered.keys d c.in-Some.found.now (sym c.in-Some.ensures.key)))

pub returns-in-None : goal.returns-in-None
returns-in-None c = sym (none_tied c.args.self.now.ordered.keys (view c.args.value.now) (sym c.in-None.ensures.key))
