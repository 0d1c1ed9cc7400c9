use Rattle.erd_canon.proofs.Common.{option_copied, ap, Err, most_bytes, rules}
use Rattle.erd_canon.proofs.runs.CheckTexts.{accepted_input, broken_run, not_of_fault, refused_input, told_of_run}
use Rattle.erd_canon.proofs.runs.KnownBytes.{read_whole}
use Rattle.erd_canon.proofs.engines.runs.run_canon_disposing.Goals as goal

pub returns : goal.returns
returns g c =
    let whole = read_whole c.in_ok-bytes.ensures.all c.in_ok-bytes.bytes.ok.0 c.in_ok-bytes.ensures.limit in
    search (
      rules,
      told_of_run (option_copied c.args.prefer) most_bytes c.write_answer.result c.in_ok-bytes.bytes.items (g.S.Source.reader.remaining c.args.reader.now)
          (g.S.Source.reader.remaining c.read_all.new.source) _ _ _ _ whole c.write_answer.ensures.written,
      broken_run whole c.write_answer.ensures.broken,
      accepted_input (option_copied c.args.prefer) whole c.write_answer.ensures.out_needed,
      refused_input (option_copied c.args.prefer) whole c.write_answer.ensures.err_needed,
    )

pub returns-in_err-bytes : goal.returns-in_err-bytes
returns-in_err-bytes g c = let not = not_of_fault c.from_residual.result c.in_err-bytes.field-0.0 c.from_residual.ensures.1
    (λ w. c.in_err-bytes.ensures.no_write (ap Err w)) in search (rules, not)
