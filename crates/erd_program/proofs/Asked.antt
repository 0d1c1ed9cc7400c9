-- What was done for the task of a request is what the request asks for.
use Rattle.std.proofs.Common.{◌≡◌, ℕ, List, Option, None, refl, subst}
use Rattle.std.specs.Prelude.{option_copied}
use Rattle.std.specs.Borrow.{Bor}
use Rattle.erd_canon.specs.Devices.{BeforeAfter}
use Rattle.erd_canon.specs.declared.commands.request.Request.{Request}
use Rattle.erd_canon.specs.declared.commands.request.Request.TheVariants.{Filter, Check, Canon, Compare, CheckData, CompareData, Differences, DifferencesData}
use Rattle.erd_canon.specs.declared.commands.request.Request.TheVariants.{Prepare, PrepareList, PrepareReport, Ballots, BallotsData, BallotDifferences}
use Rattle.erd_canon.specs.declared.commands.request.Request.TheVariants.{BallotDifferencesData}
use Rattle.erd_program.specs.declared.commands.FileCommand.{FileCommand}
use Rattle.erd_program.specs.declared.commands.FileCommand.TheVariants as file
use Rattle.erd_canon.specs.declared.engines.asked.PairCommand.TheVariants as asked_of_two
use Rattle.erd_canon.specs.declared.engines.asked.ReportCommand.TheVariants as asked_of_one
use Rattle.erd_program.specs.declared.commands.TwoFilesCommand.{TwoFilesCommand}
use Rattle.erd_program.specs.declared.commands.TwoFilesCommand.TheVariants as pair
use Rattle.erd_program.specs.declared.steps.StepsCommand.{StepsCommand}
use Rattle.erd_program.specs.declared.steps.StepsCommand.TheVariants as steps
use Rattle.erd_program.specs.declared.tasks.Task.{Task}
use Rattle.erd_program.specs.declared.tasks.Task.TheVariants as task
use Rattle.erd_program.specs.declared.world.World.{World}
use Rattle.erd_program.specs.Program.{AreFilesOpened, IsDone, IsDoneBySteps, IsFileOpened}
use Rattle.erd_program.specs.World.{Outside}
use Rattle.erd_program.specs.code.Commands.{pair_run_of, run_of, steps_run}
use Rattle.erd_program.specs.code.Tasks.{IsTaskOf}

module _ {F File I O E : Type 0} (known : Outside F File I O E) (status : ℕ) (world : BeforeAfter (World F I O E)) where
  -- a command on one file, by what is the name, the command and the preference
  one_file : (n name : List ℕ) (c command : FileCommand) (p prefer : Option (List ℕ)) → n ≡ name → c ≡ command → p ≡ prefer
      → IsFileOpened known (run_of c p) n status world → IsFileOpened known (run_of command prefer) name status world
  one_file n name c command p prefer e f g h =
      subst (λ m. IsFileOpened known (run_of command prefer) m status world) e
      (subst (λ d. IsFileOpened known (run_of d prefer) n status world) f (subst (λ q. IsFileOpened known (run_of c q) n status world) g h))

  -- a command on two files
  two_files : (l left r right : List ℕ) (c command : TwoFilesCommand) (p prefer : Option (List ℕ)) → l ≡ left → r ≡ right → c ≡ command → p ≡ prefer
      → AreFilesOpened known (pair_run_of c p) l r status world → AreFilesOpened known (pair_run_of command prefer) left right status world
  two_files l left r right c command p prefer e d f g h =
      subst (λ m. AreFilesOpened known (pair_run_of command prefer) m right status world) e
      (subst (λ m. AreFilesOpened known (pair_run_of command prefer) l m status world) d
      (subst (λ d. AreFilesOpened known (pair_run_of d prefer) l r status world) f (subst (λ q. AreFilesOpened known (pair_run_of c q) l r status world) g h)))

  -- a command by steps
  by_steps : (n name : List ℕ) (c command : StepsCommand) (w words p prefer : Option (List ℕ)) → n ≡ name → c ≡ command → w ≡ words → p ≡ prefer
      → IsDoneBySteps known w (steps_run c p) n status world → IsDoneBySteps known words (steps_run command prefer) name status world
  by_steps n name c command w words p prefer e f d g h =
      subst (λ m. IsDoneBySteps known words (steps_run command prefer) m status world) e
      (subst (λ v. IsDoneBySteps known v (steps_run command prefer) n status world) d
      (subst (λ d. IsDoneBySteps known w (steps_run d prefer) n status world) f (subst (λ q. IsDoneBySteps known w (steps_run c q) n status world) g h)))

  pub one_done : (request : Request) (n : Bor (List ℕ)) (c : FileCommand) (p : Option (Bor (List ℕ))) → IsTaskOf request (task.OneFile n c p)
      → IsFileOpened known (run_of c (option_copied p)) n.now status world → IsDone known request status world
  one_done (Check name prefer) n c p is h = one_file n.now name c file.Check (option_copied p) prefer is.0 is.1 is.2 h
  one_done (Canon name prefer) n c p is h = one_file n.now name c file.Canon (option_copied p) prefer is.0 is.1 is.2 h
  one_done (CheckData name prefer) n c p is h = one_file n.now name c (file.Answer asked_of_one.CheckData) (option_copied p) prefer is.0 is.1 is.2 h
  one_done (Ballots name prefer) n c p is h = one_file n.now name c (file.Answer asked_of_one.Ballots) (option_copied p) prefer is.0 is.1 is.2 h
  one_done (BallotsData name prefer) n c p is h = one_file n.now name c (file.Answer asked_of_one.BallotsData) (option_copied p) prefer is.0 is.1 is.2 h
  one_done (PrepareList name) n c p is h = one_file n.now name c file.PrepareList (option_copied p) None is.0 is.1 is.2 h
  one_done _ n c p is h = absurd is

  pub two_done : (request : Request) (l r : Bor (List ℕ)) (c : TwoFilesCommand) (p : Option (Bor (List ℕ))) → IsTaskOf request (task.TwoFiles l r c p)
      → AreFilesOpened known (pair_run_of c (option_copied p)) l.now r.now status world → IsDone known request status world
  two_done (Compare left right prefer) l r c p is h = two_files l.now left r.now right c pair.Compare (option_copied p) prefer is.0 is.1 is.2 is.3 h
  two_done (CompareData left right prefer) l r c p is h = two_files l.now left r.now right c (pair.Answer asked_of_two.CompareData) (option_copied p)
      prefer is.0 is.1 is.2 is.3 h
  two_done (Differences left right prefer) l r c p is h = two_files l.now left r.now right c (pair.Answer asked_of_two.Differences) (option_copied p)
      prefer is.0 is.1 is.2 is.3 h
  two_done (DifferencesData left right prefer) l r c p is h =
      two_files l.now left r.now right c (pair.Answer asked_of_two.DifferencesData) (option_copied p) prefer is.0 is.1 is.2 is.3 h
  two_done (BallotDifferences left right prefer) l r c p is h =
      two_files l.now left r.now right c (pair.Answer asked_of_two.BallotDifferences) (option_copied p) prefer is.0 is.1 is.2 is.3 h
  two_done (BallotDifferencesData left right prefer) l r c p is h =
      two_files l.now left r.now right c (pair.Answer asked_of_two.BallotDifferencesData) (option_copied p) prefer is.0 is.1 is.2 is.3 h
  two_done _ l r c p is h = absurd is

  pub steps_done : (request : Request) (n : Bor (List ℕ)) (c : StepsCommand) (w p : Option (Bor (List ℕ))) → IsTaskOf request (task.BySteps n c w p)
      → IsDoneBySteps known (option_copied w) (steps_run c (option_copied p)) n.now status world → IsDone known request status world
  steps_done (Prepare name words prefer) n c w p is h = by_steps n.now name c steps.Prepare (option_copied w) words (option_copied p)
      prefer is.0 is.1 is.2 is.3 h
  steps_done (PrepareReport name words) n c w p is h = by_steps n.now name c steps.Report (option_copied w) words (option_copied p) None is.0 is.1 is.2 is.3 h
  steps_done _ n c w p is h = absurd is

-- only one request is the filter's
pub filter_is : (request : Request) → IsTaskOf request task.Filter → request ≡ Filter
filter_is Filter is = refl
filter_is _ is = absurd is
