use Rattle.erd_canon.proofs.Common.{option_copied, ap, Err, most_bytes, rules}
use Rattle.erd_canon.proofs.runs.CheckTexts.{broken_check, not_of_fault, told_of_check}
use Rattle.erd_canon.proofs.runs.KnownBytes.{read_whole}
use Rattle.erd_canon.proofs.engines.runs.run_check_disposing.Goals as goal

pub returns : goal.returns
returns g c =
    let whole = read_whole c.in_ok-bytes.ensures.all c.in_ok-bytes.bytes.ok.0 c.in_ok-bytes.ensures.limit in
    search (
      rules,
      told_of_check (option_copied c.args.prefer) most_bytes c.write_checked.result c.in_ok-bytes.bytes.items (g.S.Source.reader.remaining c.args.reader.now)
          (g.S.Source.reader.remaining c.read_all.new.source) _ _ whole c.write_checked.ensures.written,
      broken_check whole c.write_checked.ensures.broken,
    )

pub returns-in_err-bytes : goal.returns-in_err-bytes
returns-in_err-bytes g c = let not = not_of_fault c.from_residual.result c.in_err-bytes.field-0.0 c.from_residual.ensures.1
    (λ w. c.in_err-bytes.ensures.no_write (ap Err w)) in search (rules, not)
