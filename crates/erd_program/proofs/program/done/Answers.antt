use Rattle.std.proofs.Common.{subst}
use Rattle.erd_canon.specs.Devices.{between}
use Rattle.erd_program.specs.World.{outside}
use Rattle.erd_program.specs.code.Tasks.{IsTaskOf}
use Rattle.erd_program.proofs.Asked.{one_done, steps_done, two_done}
use Rattle.erd_program.proofs.program.done.Goals as goal

pub returns-in-OneFile : goal.returns-in-OneFile
returns-in-OneFile g c =
    let known = outside g.F.Files.opened g.F.Files.beside g.F.Files.closed g.F.File.Source.reader g.I.Source.reader g.O.Sink.writer g.E.Sink.writer in
    one_done known c.one_file.result (between c.args.world.now c.one_file.new.world) c.args.request.now c.in-OneFile.name
    c.in-OneFile.command c.in-OneFile.prefer
    (subst (IsTaskOf c.args.request.now) c.in-OneFile.is c.task_of.ensures) c.one_file.ensures

pub returns-in-TwoFiles : goal.returns-in-TwoFiles
returns-in-TwoFiles g c =
    let known = outside g.F.Files.opened g.F.Files.beside g.F.Files.closed g.F.File.Source.reader g.I.Source.reader g.O.Sink.writer g.E.Sink.writer in
    two_done known c.two_files.result (between c.args.world.now c.two_files.new.world) c.args.request.now c.in-TwoFiles.left c.in-TwoFiles.right
    c.in-TwoFiles.command c.in-TwoFiles.prefer
    (subst (IsTaskOf c.args.request.now) c.in-TwoFiles.is c.task_of.ensures) c.two_files.ensures

pub returns-in-BySteps : goal.returns-in-BySteps
returns-in-BySteps g c =
    let known = outside g.F.Files.opened g.F.Files.beside g.F.Files.closed g.F.File.Source.reader g.I.Source.reader g.O.Sink.writer g.E.Sink.writer in
    steps_done known c.by_steps.result (between c.args.world.now c.by_steps.new.world) c.args.request.now c.in-BySteps.name c.in-BySteps.command
    c.in-BySteps.words c.in-BySteps.prefer
    (subst (IsTaskOf c.args.request.now) c.in-BySteps.is c.task_of.ensures) c.by_steps.ensures
