use Rattle.erd_canon.proofs.Common.{option_copied, ap, sym, subst, Err, IsReadWhole, most_bytes, rules}
use Rattle.erd_canon.specs.code.PrepareCommands.{prepare_answers}
use Rattle.erd_canon.proofs.runs.CheckTexts.{not_of_fault}
use Rattle.erd_canon.proofs.runs.KnownBytes.{read_whole}
use Rattle.erd_canon.proofs.runs.TextRuns.{broken_texts, read_with, whole_texts}
use Rattle.erd_canon.proofs.engines.prepare.run_asked.Goals as goal

pub returns : goal.returns
returns g c =
    let whole = subst (IsReadWhole most_bytes (g.S.Source.reader.remaining c.args.reader.now) (g.S.Source.reader.remaining c.read_all.new.source))
    (sym c.as_slice.ensures.value)
    (read_whole c.in_ok-bytes.ensures.all c.in_ok-bytes.bytes.ok.0 c.in_ok-bytes.ensures.limit) in
    search (
      rules,
      whole_texts (prepare_answers c.args.asked.0 c.args.asked.1.now (option_copied c.args.asked.2)) _ _ _ _ c.write_asked.result whole
          c.write_asked.ensures.written,
      broken_texts whole c.write_asked.ensures.broken,
      read_with whole c.write_asked.ensures.out_needed,
      read_with whole c.write_asked.ensures.err_needed,
    )

pub returns-in_err-bytes : goal.returns-in_err-bytes
returns-in_err-bytes g c = let not = not_of_fault c.from_residual.result c.in_err-bytes.field-0.0 c.from_residual.ensures.1
    (λ w. c.in_err-bytes.ensures.no_write (ap Err w)) in search (rules, not)
