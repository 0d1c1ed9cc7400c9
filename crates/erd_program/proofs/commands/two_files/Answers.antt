use Rattle.std.proofs.Common.{◌++◌, ◌∷◌, ◌∙◌, [], ap, refl}
use Rattle.erd_program.proofs.Closing.{after_opening, both_done_from, unopened}
use Rattle.erd_program.proofs.commands.two_files.Goals as goal

pub returns-in-Ok-Ok : goal.returns-in-Ok-Ok
returns-in-Ok-Ok g c =
    let files = c.open_both-left_file.ensures in
    after_opening c.open_both-left_file.new.files files.opened files.beside c.in-Ok-Ok.is-0 c.in-Ok-Ok.is-1 c.open_files.ensures.opened
    c.open_files.ensures.beside c.open_files.ensures.input
    (both_done_from files.closed c.open_files.ensures.done)

pub returns-in-Ok-Err : goal.returns-in-Ok-Err
returns-in-Ok-Err g c =
    let files = c.open_both-left_file.ensures in
    after_opening c.open_both-left_file.new.files files.opened files.beside c.in-Ok-Err.is-0 c.in-Ok-Err.is-1 c.close.ensures.opened c.close.ensures.beside refl
    (c.close.ensures.closed ∙ ap (λ l. l ++ (c.args.names.0.now, c.in-Ok-Err.left_file) ∷ []) files.closed, unopened c.not_opened.ensures)

pub returns-in-Err-Ok : goal.returns-in-Err-Ok
returns-in-Err-Ok g c =
    let files = c.open_both-left_file.ensures in
    after_opening c.open_both-left_file.new.files files.opened files.beside c.in-Err-Ok.is-0 c.in-Err-Ok.is-1 c.close-in-Err-Ok.ensures.opened
    c.close-in-Err-Ok.ensures.beside refl
    (c.close-in-Err-Ok.ensures.closed ∙ ap (λ l. l ++ (c.args.names.1.now, c.in-Err-Ok.right_file) ∷ []) files.closed, unopened c.not_opened-in-Err-Ok.ensures)

pub returns-in-Err-Err : goal.returns-in-Err-Err
returns-in-Err-Err g c =
    let files = c.open_both-left_file.ensures in
    after_opening c.open_both-left_file.new.files files.opened files.beside c.in-Err-Err.is-0 c.in-Err-Err.is-1 refl refl refl
    (files.closed, unopened c.not_opened-in-Err-Err.ensures)
