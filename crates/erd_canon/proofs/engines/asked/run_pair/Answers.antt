use Rattle.erd_canon.proofs.Common.{option_copied, ap, sym, subst, Err, IsReadWhole, most_bytes, rules}
use Rattle.erd_canon.specs.AskedCommands.{pair_answers}
use Rattle.erd_canon.proofs.runs.Answering.{broken_pair, whole_pair}
use Rattle.erd_canon.proofs.runs.CheckTexts.{not_of_fault}
use Rattle.erd_canon.proofs.runs.KnownBytes.{read_whole}
use Rattle.erd_canon.proofs.engines.asked.run_pair.Goals as goal

pub returns : goal.returns
returns g c =
    let left = c.in_ok-left_bytes.ensures in
    let right = c.in_ok-right_bytes.ensures in
    let left_whole = subst (IsReadWhole most_bytes (g.S.Source.reader.remaining c.args.left.now) (g.S.Source.reader.remaining c.read_all.new.source))
    (sym c.as_slice.ensures.value)
    (read_whole left.all c.in_ok-left_bytes.left_bytes.ok.0 left.limit) in
    let right_whole = subst (IsReadWhole most_bytes (g.T.Source.reader.remaining c.args.right.now) (g.T.Source.reader.remaining c.read_all-2.new.source))
    (sym c.as_slice-2.ensures.value)
    (read_whole right.all c.in_ok-right_bytes.right_bytes.ok.0 right.limit) in
    search (
      rules,
      whole_pair (pair_answers c.args.command (option_copied c.args.prefer)) _ _ c.write_pair.result left_whole right_whole
          c.write_pair.ensures.written,
      broken_pair left_whole right_whole c.write_pair.ensures.broken,
    )

pub returns-in_err-left_bytes : goal.returns-in_err-left_bytes
returns-in_err-left_bytes g c = let not = not_of_fault c.from_residual.result c.in_err-left_bytes.field-0.0 c.from_residual.ensures.1
    (λ w. c.in_err-left_bytes.ensures.no_write (ap Err w)) in search (rules, not)

pub returns-in_err-right_bytes : goal.returns-in_err-right_bytes
returns-in_err-right_bytes g c = let not = not_of_fault c.from_residual-in_err-right_bytes.result c.in_err-right_bytes.field-0.0
    c.from_residual-in_err-right_bytes.ensures.1 (λ w. c.in_err-right_bytes.ensures.no_write (ap Err w)) in search (rules, not)
