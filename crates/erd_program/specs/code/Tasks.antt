-- The task of a request.
use Rattle.std.specs.Prelude.{◌≡◌, ℕ, List, Option, None, option_copied}
use Rattle.erd_canon.specs.declared.commands.request.Request.{Request}
use Rattle.erd_canon.specs.declared.commands.request.Request.TheVariants.{Filter, Check, Canon, Compare, CheckData, CompareData, Differences, DifferencesData}
use Rattle.erd_canon.specs.declared.commands.request.Request.TheVariants.{Prepare, PrepareList, PrepareReport, Ballots, BallotsData, BallotDifferences}
use Rattle.erd_canon.specs.declared.commands.request.Request.TheVariants.{BallotDifferencesData}
use Rattle.erd_program.specs.declared.commands.FileCommand.{FileCommand}
use Rattle.erd_program.specs.declared.commands.FileCommand.TheVariants as file
use Rattle.erd_canon.specs.declared.engines.asked.PairCommand.TheVariants as asked_of_two
use Rattle.erd_canon.specs.declared.engines.asked.ReportCommand.TheVariants as asked_of_one
use Rattle.erd_program.specs.declared.commands.TwoFilesCommand.{TwoFilesCommand}
use Rattle.erd_program.specs.declared.commands.TwoFilesCommand.TheVariants as pair
use Rattle.erd_program.specs.declared.steps.StepsCommand.{StepsCommand}
use Rattle.erd_program.specs.declared.steps.StepsCommand.TheVariants as steps
use Rattle.erd_program.specs.declared.tasks.Task.{Task}
use Rattle.erd_program.specs.declared.tasks.Task.TheVariants as task

-- The task is this command on the file with this name, under the preference.
abbrev pub IsOneFile : List ℕ → FileCommand → Option (List ℕ) → Task → Type 0
IsOneFile name command prefer (task.OneFile n c p) = (n.now ≡ name) × (c ≡ command) × (option_copied p ≡ prefer)
IsOneFile name command prefer _ = ⊥

-- The task is this command on the files with these names, under the preference.
abbrev pub AreTwoFiles : List ℕ → List ℕ → TwoFilesCommand → Option (List ℕ) → Task → Type 0
AreTwoFiles left right command prefer (task.TwoFiles l r c p) = (l.now ≡ left) × (r.now ≡ right) × (c ≡ command) × (option_copied p ≡ prefer)
AreTwoFiles left right command prefer _ = ⊥

-- The task is this command on the file with this name by the steps that the words name, under the preference.
abbrev pub IsBySteps : List ℕ → StepsCommand → Option (List ℕ) → Option (List ℕ) → Task → Type 0
IsBySteps name command words prefer (task.BySteps n c w p) = (n.now ≡ name) × (c ≡ command) × (option_copied w ≡ words) × (option_copied p ≡ prefer)
IsBySteps name command words prefer _ = ⊥

-- The task is to canonicalise standard input.
abbrev pub IsFilter : Task → Type 0
IsFilter task.Filter = Unit {0}
IsFilter _ = ⊥

-- The task of the request.
abbrev pub IsTaskOf : Request → Task → Type 0
IsTaskOf Filter found = IsFilter found
IsTaskOf (Check name prefer) found = IsOneFile name file.Check prefer found
IsTaskOf (Canon name prefer) found = IsOneFile name file.Canon prefer found
IsTaskOf (CheckData name prefer) found = IsOneFile name (file.Answer asked_of_one.CheckData) prefer found
IsTaskOf (Ballots name prefer) found = IsOneFile name (file.Answer asked_of_one.Ballots) prefer found
IsTaskOf (BallotsData name prefer) found = IsOneFile name (file.Answer asked_of_one.BallotsData) prefer found
IsTaskOf (PrepareList name) found = IsOneFile name file.PrepareList None found
IsTaskOf (Compare left right prefer) found = AreTwoFiles left right pair.Compare prefer found
IsTaskOf (CompareData left right prefer) found = AreTwoFiles left right (pair.Answer asked_of_two.CompareData) prefer found
IsTaskOf (Differences left right prefer) found = AreTwoFiles left right (pair.Answer asked_of_two.Differences) prefer found
IsTaskOf (DifferencesData left right prefer) found = AreTwoFiles left right (pair.Answer asked_of_two.DifferencesData) prefer found
IsTaskOf (BallotDifferences left right prefer) found = AreTwoFiles left right (pair.Answer asked_of_two.BallotDifferences) prefer found
IsTaskOf (BallotDifferencesData left right prefer) found = AreTwoFiles left right (pair.Answer asked_of_two.BallotDifferencesData) prefer found
IsTaskOf (Prepare name words prefer) found = IsBySteps name steps.Prepare words prefer found
IsTaskOf (PrepareReport name words) found = IsBySteps name steps.Report words None found
