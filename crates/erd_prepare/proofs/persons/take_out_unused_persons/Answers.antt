use Rattle.std.proofs.Common.{rules, ◌≡◌, ℕ, List, [], Some, IfOk, ◌∙◌, subst}
use Rattle.std.specs.BTreeSet.{contains_text}
use Rattle.serde_json.specs.View.{view}
use Rattle.erd_tables.specs.declared.class.Role.TheVariants.{Report}
use Rattle.erd_check.specs.declared.want.Want.TheVariants.{Object}
use Rattle.erd_prepare.specs.Changes.{told_by}
use Rattle.erd_prepare.specs.Persons.{is_among, persons_unless, references, unused_persons}
use Rattle.erd_prepare.specs.Rules.{Rule, told}
use Rattle.erd_prepare.proofs.Adding.{added_to_none}
use Rattle.erd_prepare.proofs.persons.take_out_unused_persons.Goals as goal

pub returns-clause-changes : goal.returns-clause-changes
returns-clause-changes c =
    let t = view c.args.report.now in
    let each : (id : List ℕ) → contains_text c.add_references.new.used id ≡ is_among (references t) id =
    λ id. c.in_ok-add_references.ensures id ∙ added_to_none (is_among (references t) id) (contains_text c.new-used.result id) (search rules) in
    let same : persons_unless (contains_text c.add_references.new.used) ≡ unused_persons t = λ i. persons_unless (λ id. each id i) in
    subst (λ (r : Rule). IfOk c.prepare.result (λ done. told_by done.changes.items ≡ told r [] (Some (Object Report)) t)) same c.prepare.ensures.changes
