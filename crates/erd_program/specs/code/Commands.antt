-- What a command does with its one file or its two files, and what a command needs of the streams.
use Rattle.std.specs.Prelude.{◌≡◌, false, List, Result}
use Rattle.erd_canon.specs.Answering.{IsPairRun}
use Rattle.erd_canon.specs.AskedCommands.{pair_answers}
use Rattle.erd_canon.specs.Devices.{BeforeAfter, Reader, Writer}
use Rattle.erd_canon.specs.Engines.{IsCompareRun}
use Rattle.erd_meaning.specs.Keys.{Preference}
use Rattle.erd_canon.specs.declared.engines.outcome.Outcome.{Outcome}
use Rattle.erd_canon.specs.declared.engines.outcome.RunFault.{RunFault}
use Rattle.erd_program.specs.declared.commands.FileCommand.{FileCommand}
use Rattle.erd_program.specs.declared.commands.FileCommand.TheVariants.{Answer, Canon, Check, Prepare, PrepareList, PrepareReport}
use Rattle.erd_program.specs.declared.commands.TwoFilesCommand.{TwoFilesCommand}
use Rattle.erd_program.specs.declared.commands.TwoFilesCommand.TheVariants as pair
use Rattle.erd_program.specs.declared.steps.StepsCommand.{StepsCommand}
use Rattle.erd_program.specs.declared.steps.StepsCommand.TheVariants as steps
use Rattle.erd_prepare.specs.declared.step_name.StepName.{StepName}
use Rattle.erd_program.specs.Files.{IsEachStepTried, IsFileAnswered, IsFileCanonicalised, IsFileChecked, IsFilePrepared, IsPreparationReported}
use Rattle.erd_program.specs.World.{Outside}

-- No stream has failed.
pub record StreamsWork {I O E : Type 0} (reader : Reader I) (writer : Writer O) (errors : Writer E) (input : I) (out : O) (err : E) : Type 0 where
  pub input_works : reader.has_failed input ≡ false
  pub out_works : writer.has_failed out ≡ false
  pub err_works : errors.has_failed err ≡ false

-- What the engine did for the command.
abbrev pub run_of : {F File I O E : Type 0} → FileCommand → Preference → Outside F File I O E → Result Outcome RunFault → BeforeAfter File → BeforeAfter O
    → BeforeAfter E → Type 0
run_of Check prefer = λ known answer file out err. IsFileChecked prefer known answer file out err
run_of Canon prefer = λ known answer file out err. IsFileCanonicalised prefer known answer file out err
run_of (Answer asked) prefer = λ known answer file out err. IsFileAnswered asked prefer known answer file out err
run_of (Prepare chosen) prefer = λ known answer file out err. IsFilePrepared prefer chosen.now known answer file out err
run_of PrepareList prefer = λ known answer file out err. IsEachStepTried known answer file out err
run_of (PrepareReport chosen) prefer = λ known answer file out err. IsPreparationReported chosen.now known answer file out err

-- What the engine did for the command by the chosen steps.
abbrev pub steps_run : {F File I O E : Type 0} → StepsCommand → Preference → List StepName → Outside F File I O E → Result Outcome RunFault → BeforeAfter File
    → BeforeAfter O → BeforeAfter E → Type 0
steps_run steps.Prepare prefer chosen = λ known answer file out err. IsFilePrepared prefer chosen known answer file out err
steps_run steps.Report prefer chosen = λ known answer file out err. IsPreparationReported chosen known answer file out err

-- What the engine did for the command on two files, over what is known of their readers and of the writer.
abbrev pub pair_run : {File O : Type 0} → TwoFilesCommand → Preference → Reader File → Writer O → Result Outcome RunFault → BeforeAfter File → BeforeAfter File
    → BeforeAfter O → Type 0
pair_run pair.Compare prefer reader writer answer left right out = IsCompareRun reader reader writer prefer answer left right out
pair_run (pair.Answer asked) prefer reader writer answer left right out = IsPairRun reader reader writer (pair_answers asked prefer) answer left right out

-- The same over what is known of the outside.
abbrev pub pair_run_of : {F File I O E : Type 0} → TwoFilesCommand → Preference → Outside F File I O E → Result Outcome RunFault → BeforeAfter File
    → BeforeAfter File → BeforeAfter O → Type 0
pair_run_of command prefer = λ known answer left right out. pair_run command prefer known.file known.out answer left right out
