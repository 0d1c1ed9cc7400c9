use Rattle.erd_canon.proofs.Common.{◌≡◌, true, ◌⊎◌, [], ◌∷◌, map, string_bytes, sym, ap, ◌∙◌, subst, kind_of, App, is_simple, subcommand_of, subcommand_rows_of}
use Rattle.erd_canon.proofs.Common.{takes, IsAmong, fault_of, is_simple_and_free, OutOfMemory, words_of, request_in, program}
use Rattle.erd_canon.proofs.lines.LineReadings.{line_taken, program_free, program_simple, exact_of, fault_read, read_of}
use Rattle.erd_canon.proofs.commands.words.command_line.Goals as goal

pub returns-in-Ok : goal.returns-in-Ok
returns-in-Ok c =
    let matches = c.in-Ok.matches in
    let words = map string_bytes c.args.words.now in
    let is = c.in_ok-command.ensures in
    let found : subcommand_rows_of matches ≡ subcommand_of program words =
    (c.in-Ok.ensures.matches (ap is_simple is ∙ program_simple)).1 ∙ ap (λ (a : App). subcommand_of a words) is in
    let none : fault_of program words ≡ [] =
    sym (ap (λ (a : App). fault_of a words) is) ∙ c.in-Ok.ensures.kinds (ap is_simple_and_free is ∙ program_free) in
    record {
      exact = λ request name names e.
          exact_of c.request_of.result (request_in (subcommand_rows_of matches)) request c.request_of.ensures
          (ap request_in (found ∙ ap (subcommand_of program) e) ∙ (line_taken request name names).1);
      read = read_of words c.request_of.result (request_in (subcommand_rows_of matches)) c.request_of.ensures (ap request_in found) none;
    }

pub returns-in-Err : goal.returns-in-Err
returns-in-Err c =
    let words = map string_bytes c.args.words.now in
    let is = c.in_ok-command.ensures in
    let passes : takes program words ≡ true → kind_of c.in-Err.error ≡ OutOfMemory =
    λ taken. c.in-Err.ensures.passes (ap (λ (a : App). takes a words) is ∙ taken) in
    let among : (kind_of c.in-Err.error ≡ OutOfMemory) ⊎ IsAmong (kind_of c.in-Err.error) (fault_of program words) =
    subst (λ (a : App). (kind_of c.in-Err.error ≡ OutOfMemory) ⊎ IsAmong (kind_of c.in-Err.error) (fault_of a words)) is
    (c.in-Err.ensures.kinds (ap is_simple_and_free is ∙ program_free)) in
    record {
      exact = λ request name names e. c.fault_of.ensures.memory (passes (ap (takes program) e ∙ (line_taken request name names).0));
      read = fault_read words (kind_of c.in-Err.error) c.fault_of.result c.fault_of.ensures.kind passes c.fault_of.ensures.memory among;
    }
