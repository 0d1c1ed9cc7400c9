use Rattle.erd_check.proofs.Common.{sym, ◌∙◌, view}
use Rattle.erd_check.proofs.ValueSets.{new_untied, one_more}
use Rattle.erd_check.proofs.value_set.ValueSet.insert_tied.Goals as goal

pub returns-then-branch-clause-tied : goal.returns-then-branch-clause-tied
returns-then-branch-clause-tied c = sym (new_untied c.args.self.now.ordered.keys (view c.args.value.now) (sym c.if-branch.true ∙ c.in_ok-insert.ensures.added))

pub returns-then-branch-clause-stands : goal.returns-then-branch-clause-stands
returns-then-branch-clause-stands c = λ ds h. one_more c.args.self.now (record { ordered = c.insert.new.self }) (record { value = c.args.value }) ds
    c.in_ok-insert.ensures.keys h

pub returns-else-branch-clause-stands : goal.returns-else-branch-clause-stands
returns-else-branch-clause-stands c = λ ds h. one_more c.args.self.now (record { ordered = c.insert.new.self }) (record { value = c.args.value }) ds
    c.in_ok-insert.ensures.keys h
