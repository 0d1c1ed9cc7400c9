-- What was done with files, from the lists of closed files before they were opened.
use Rattle.std.proofs.Common.{◌≡◌, ◌++◌, ◌∷◌, ◌∙◌, [], ℕ, List, Result, refl, ap, ap₂, append_assoc, inl, inr, subst}
use Rattle.erd_canon.specs.Devices.{BeforeAfter, Writer, between}
use Rattle.erd_canon.specs.declared.engines.outcome.Outcome.{Outcome}
use Rattle.erd_canon.specs.declared.engines.outcome.RunFault.{RunFault}
use Rattle.erd_program.specs.declared.files.WorldFault.{WorldFault}
use Rattle.erd_program.specs.declared.world.World.{World}
use Rattle.erd_program.specs.Files.{AreFilesDone, IsFileDone, IsPairAnswer, IsRefused, IsUnopened}
use Rattle.erd_program.specs.Messages.{IsSaid, world_status, world_text}
use Rattle.erd_program.specs.Program.{AreFilesOpened}
use Rattle.erd_program.specs.World.{Outside}
use Rattle.erd_program.specs.code.Unopened.{IsUnopenedTold}

-- two entries, one after the other
pub twice : {A : Type 0} (a b c : List A) (x y : A) → b ≡ a ++ x ∷ [] → c ≡ b ++ y ∷ [] → c ≡ a ++ x ∷ y ∷ []
twice a b c x y p q = q ∙ (ap (λ l. l ++ y ∷ []) p ∙ append_assoc a (x ∷ []) (y ∷ []))

-- something that the outside did not give, by the line that says so
pub not_given : {O E : Type 0} {errors : Writer E} {fault : WorldFault} {status : ℕ} {out : O} {err : BeforeAfter E} {line : List ℕ} (words : List ℕ)
    → line ≡ words ++ 10 ∷ [] → status ≡ world_status fault
    → ((words : List ℕ) → line ≡ words ++ 10 ∷ [] → IsSaid errors (world_text words fault) err) → IsRefused errors words fault status (between out out) err
not_given words is status said = record { status_is = status; said = said words is; quiet = refl }

-- a file that cannot be opened
pub unopened : {O E : Type 0} {errors : Writer E} {name : List ℕ} {fault : WorldFault} {status : ℕ} {out : O} {err : BeforeAfter E}
    → IsUnopenedTold errors name fault status err
    → IsUnopened errors name fault status (between out out) err
unopened (inl told) = inl (record { status_is = told.status_is; said = told.said; quiet = refl })
unopened (inr told) = inr (record { status_is = told.status_is; said = told.said; quiet = refl })

pub done_from : {F File I O E : Type 0} {known : Outside F File I O E}
    {Run : Outside F File I O E → Result Outcome RunFault → BeforeAfter File → BeforeAfter O → BeforeAfter E → Type 0} {name : List ℕ} {file : File}
    {status : ℕ} {a b c : List (List ℕ × File)} {out : BeforeAfter O} {err : BeforeAfter E}
    → b ≡ a → IsFileDone known Run name file status (between b c) out err → IsFileDone known Run name file status (between a c) out err
done_from {known = known} {Run} {name} {file} {status} {c = c} {out} {err} e is =
    subst (λ closed. IsFileDone known Run name file status (between closed c) out err) e is

pub both_done_from : {F File I O E : Type 0} {known : Outside F File I O E}
    {Run : Outside F File I O E → Result Outcome RunFault → BeforeAfter File → BeforeAfter File → BeforeAfter O → Type 0} {left_name right_name : List ℕ}
    {left right : File} {status : ℕ} {a b c : List (List ℕ × File)} {out : BeforeAfter O} {err : BeforeAfter E}
    → b ≡ a → AreFilesDone known Run left_name right_name left right status (between b c) out err → AreFilesDone known Run left_name right_name left right
    status (between a c) out err
both_done_from {known = known} {Run} {left_name} {right_name} {left} {right} {status} {c = c} {out} {err} e is =
    subst (λ closed. AreFilesDone known Run left_name right_name left right status (between closed c) out err) e is

-- from what opening both files gave, and what was done with them after that
pub after_opening : {F File I O E : Type 0} {known : Outside F File I O E} {left right : List ℕ}
    {Run : Outside F File I O E → Result Outcome RunFault → BeforeAfter File → BeforeAfter File → BeforeAfter O → Type 0} {status : ℕ} {old new : World F I O E}
    {x y u v : Result File WorldFault} (files : F)
    → known.opened files ≡ known.opened old.files ++ (left, x) ∷ (right, y) ∷ [] → known.beside files ≡ known.beside old.files
    ++ (right, x) ∷ [] → x ≡ u → y ≡ v
    → known.opened new.files ≡ known.opened files → known.beside new.files ≡ known.beside files → new.input ≡ old.input
    → IsPairAnswer known Run left right u v status (between (known.closed old.files) (known.closed new.files)) (between old.out new.out)
    (between old.err new.err)
    → AreFilesOpened known Run left right status (between old new)
after_opening {known = known} {left} {right} {old = old} {u = u} {v} files opened beside is_u is_v same_opened same_beside input answer = record {
  left_given = u;
  right_given = v;
  input = input;
  opened = same_opened ∙ opened ∙ ap₂ (λ x y. known.opened old.files ++ (left, x) ∷ (right, y) ∷ []) is_u is_v;
  beside = same_beside ∙ beside ∙ ap (λ x. known.beside old.files ++ (right, x) ∷ []) is_u;
  answer = answer;
}
