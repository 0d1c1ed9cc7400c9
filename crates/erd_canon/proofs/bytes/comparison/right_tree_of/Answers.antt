use Rattle.erd_canon.proofs.bytes.comparison.right_tree_of.Goals as goal

pub returns-in-Err-clause-refused : goal.returns-in-Err-clause-refused
returns-in-Err-clause-refused g c π left accepted = (accepted, c.in-Err.ensures.refused π)
