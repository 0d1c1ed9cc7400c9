use Rattle.erd_canon.proofs.Common.{option_copied, ap, Err, most_bytes, rules}
use Rattle.erd_canon.proofs.runs.CheckTexts.{not_of_fault}
use Rattle.erd_canon.proofs.runs.Comparisons.{broken_compare, told_of_compare}
use Rattle.erd_canon.proofs.runs.KnownBytes.{read_whole}
use Rattle.erd_canon.proofs.engines.comparison_runs.run_compare_disposing.Goals as goal

pub returns : goal.returns
returns g c =
    let left = c.in_ok-left_bytes.ensures in
    let right = c.in_ok-right_bytes.ensures in
    let left_whole = read_whole left.all c.in_ok-left_bytes.left_bytes.ok.0 left.limit in
    let right_whole = read_whole right.all c.in_ok-right_bytes.right_bytes.ok.0 right.limit in
    search (
      rules,
      told_of_compare (option_copied c.args.prefer) most_bytes c.write_compared.result c.in_ok-left_bytes.left_bytes.items c.in_ok-right_bytes.right_bytes.items
          (g.S.Source.reader.remaining c.args.left.now)
          (g.S.Source.reader.remaining c.read_all.new.source) (g.T.Source.reader.remaining c.args.right.now)
          (g.T.Source.reader.remaining c.read_all-2.new.source) _ _ left_whole right_whole c.write_compared.ensures.written,
      broken_compare left_whole right_whole c.write_compared.ensures.broken,
    )

pub returns-in_err-left_bytes : goal.returns-in_err-left_bytes
returns-in_err-left_bytes g c = let not = not_of_fault c.from_residual.result c.in_err-left_bytes.field-0.0 c.from_residual.ensures.1
    (λ w. c.in_err-left_bytes.ensures.no_write (ap Err w)) in search (rules, not)

pub returns-in_err-right_bytes : goal.returns-in_err-right_bytes
returns-in_err-right_bytes g c = let not = not_of_fault c.from_residual-in_err-right_bytes.result c.in_err-right_bytes.field-0.0
    c.from_residual-in_err-right_bytes.ensures.1 (λ w. c.in_err-right_bytes.ensures.no_write (ap Err w)) in search (rules, not)
