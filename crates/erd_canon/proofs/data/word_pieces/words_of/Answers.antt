use Rattle.erd_canon.proofs.Common.{option_copied, err_from_is_err_and}
use Rattle.erd_canon.proofs.data.word_pieces.words_of.Goals as goal

pub returns-in_err-tree-clause-refused : goal.returns-in_err-tree-clause-refused
returns-in_err-tree-clause-refused c =
    let p = err_from_is_err_and c.from_residual.result c.from_residual.ensures.1 in
    rw (p.1, p.2) (c.in_err-tree.ensures.refused (option_copied c.args.prefer))
