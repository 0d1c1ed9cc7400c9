use Rattle.erd_meaning.proofs.Common.{◌≡◌, true, false, List, ◌++◌, sym, ap, ◌∙◌, subst, append-nil, not-true, not-false, TwinSelection, steps_of, fault_at}
use Rattle.erd_meaning.proofs.Common.{PlacedName, fault_if, names_of, AllAreRanked, is_taken}
use Rattle.erd_meaning.proofs.selections.RankedTests.{any_ranked, inserted_names, inserted_ranked}
use Rattle.erd_meaning.proofs.names.selection_walk.meet_name.Goals as goal

pub returns-in_ok-push_fault-clause-met : goal.returns-in_ok-push_fault-clause-met
returns-in_ok-push_fault-clause-met c ks all is =
    let before = c.args.walk.now.names.keys in
    let names = ap names_of c.in_ok-insert.ensures.keys ∙ inserted_names ks c.args.contest c.args.name before is all in
    let taken : is_taken (names_of before) c.args.contest c.args.name.name ≡ true =
    sym (any_ranked ks c.args.contest c.args.name before is all) ∙ not-false _ (sym c.in_ok-insert.ensures.added ∙ c.if-not-branch.true) in
    let told = c.in_ok-push_fault.ensures ∙ ap (λ b. c.args.walk.now.faults.items ++ fault_if b (fault_at (steps_of c.args.path.now) TwinSelection))
    (sym taken) in
    λ i. record { names = names i; faults = told i }

pub returns-in_ok-push_fault-clause-ranked : goal.returns-in_ok-push_fault-clause-ranked
returns-in_ok-push_fault-clause-ranked c ks all is =
    subst (λ (names : List PlacedName). AllAreRanked ks names) (sym c.in_ok-insert.ensures.keys)
    (inserted_ranked ks c.args.contest c.args.name c.args.walk.now.names.keys is all)

pub returns-else-not-branch-clause-met : goal.returns-else-not-branch-clause-met
returns-else-not-branch-clause-met c ks all is =
    let before = c.args.walk.now.names.keys in
    let names = ap names_of c.in_ok-insert.ensures.keys ∙ inserted_names ks c.args.contest c.args.name before is all in
    let taken : is_taken (names_of before) c.args.contest c.args.name.name ≡ false =
    sym (any_ranked ks c.args.contest c.args.name before is all) ∙ not-true _ (sym c.in_ok-insert.ensures.added ∙ c.if-not-branch.false) in
    let told = sym (append-nil c.args.walk.now.faults.items)
    ∙ ap (λ b. c.args.walk.now.faults.items ++ fault_if b (fault_at (steps_of c.args.path.now) TwinSelection)) (sym taken) in
    λ i. record { names = names i; faults = told i }

pub returns-else-not-branch-clause-ranked : goal.returns-else-not-branch-clause-ranked
returns-else-not-branch-clause-ranked c ks all is =
    subst (λ (names : List PlacedName). AllAreRanked ks names) (sym c.in_ok-insert.ensures.keys)
    (inserted_ranked ks c.args.contest c.args.name c.args.walk.now.names.keys is all)
