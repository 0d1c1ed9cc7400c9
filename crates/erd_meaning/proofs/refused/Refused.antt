-- A report that is refused for the faults of its first phase with any is refused for all its faults; and the list of them.
use Rattle.erd_meaning.proofs.Common.{◌≡◌, ◌≢◌, List, [], ◌∷◌, length, refl, subst, inl, inr, Data, ListsAll, Fault, Reason, Step, none_from_empty}
use Rattle.erd_meaning.proofs.Common.{contains_from_In, ShapeFault, NoneOf, RefusedFor, IsTree, OrElse, IsFault, IsAccepted, Preference, IdentityFault}
use Rattle.erd_meaning.proofs.Common.{ReferenceFault, SelectionFault}
use Rattle.erd_check.specs.declared.error.CheckError.{CheckError}
use Rattle.erd_check.specs.declared.error.CheckError.TheVariants.{Faults, Memory}
use Rattle.erd_meaning.proofs.identity.IdentityFaults.{identity_listed, identity_told}
use Rattle.erd_meaning.proofs.accepted.Standing.{accepted_by_phases}
use Rattle.erd_meaning.proofs.references.ReferenceWalks.{reference_faults, reference_faults_listed}
use Rattle.erd_meaning.proofs.selections.NamesTold.{selections_listed, selections_told}

-- ---- the list of all faults by the first phase that has any

-- where the first phase has faults, they are all
pub first_refused : (First Second : List Step → Reason → Type 0) (faults : List Fault) → ListsAll First faults → faults ≢ []
    → ListsAll (OrElse First Second) faults
first_refused First Second [] all some = absurd (some refl)
first_refused First Second (f ∷ fs) all some = record {
  rising = all.rising;
  each = λ g. (λ h. inl ((all.each g).0 h), λ h. (all.each g).1 (only g.place g.reason h));
}
  where
    first : First f.place f.reason
    first = (all.each f).0 (contains_from_In f (f ∷ fs) (inl refl))

    only : (p : List Step) (r : Reason) → OrElse First Second p r → First p r
    only p r (inl h) = h
    only p r (inr (n, h)) = absurd (n f.place f.reason first)

-- where it has none, those of the second phase are all
pub second_refused : (First Second : List Step → Reason → Type 0) (faults : List Fault) → NoneOf First → ListsAll Second faults
    → ListsAll (OrElse First Second) faults
second_refused First Second faults none all = record {
  rising = all.rising;
  each = λ g. (λ h. inr (none, (all.each g).0 h), λ h. (all.each g).1 (only g.place g.reason h));
}
  where
    only : (p : List Step) (r : Reason) → OrElse First Second p r → Second p r
    only p r (inl h) = absurd (none p r h)
    only p r (inr (n, h)) = h

pub refused_by_shape : (π : Preference) (t : Data) {f : Fault} {fs : List Fault} → ListsAll (ShapeFault t) (f ∷ fs) → ListsAll (IsFault π t) (f ∷ fs)
refused_by_shape π t {f} {fs} all = first_refused (ShapeFault t) _ (f ∷ fs) all (λ e. cc)

-- ---- by the lists that compute

pub refused_by_identity : (π : Preference) (t : Data) (f : Fault) (fs : List Fault) → NoneOf (ShapeFault t) → identity_told π t ≡ f ∷ fs
    → ListsAll (IsFault π t) (f ∷ fs)
refused_by_identity π t f fs shape found =
    second_refused (ShapeFault t) _ (f ∷ fs) shape
    (first_refused (IdentityFault π t) _ (f ∷ fs) (subst (ListsAll (IdentityFault π t)) found (identity_listed π t)) (λ e. cc))

pub refused_by_references : (π : Preference) (t : Data) (f : Fault) (fs : List Fault) → IsTree t → NoneOf (ShapeFault t) → length (identity_told π t) ≡ 0
    → reference_faults t ≡ f ∷ fs → ListsAll (IsFault π t) (f ∷ fs)
refused_by_references π t f fs tree shape identity found =
    second_refused (ShapeFault t) _ (f ∷ fs) shape
    (second_refused (IdentityFault π t) _ (f ∷ fs) (none_from_empty (IdentityFault π t) (identity_told π t) (identity_listed π t) identity)
    (first_refused (ReferenceFault t) _ (f ∷ fs) (subst (ListsAll (ReferenceFault t)) found (reference_faults_listed t tree)) (λ e. cc)))

pub refused_by_selections : (π : Preference) (t : Data) (f : Fault) (fs : List Fault) → IsTree t → NoneOf (ShapeFault t) → length (identity_told π t) ≡ 0
    → length (reference_faults t) ≡ 0 → selections_told π t ≡ f ∷ fs → ListsAll (IsFault π t) (f ∷ fs)
refused_by_selections π t f fs tree shape identity references found =
    second_refused (ShapeFault t) _ (f ∷ fs) shape
    (second_refused (IdentityFault π t) _ (f ∷ fs) (none_from_empty (IdentityFault π t) (identity_told π t) (identity_listed π t) identity)
    (second_refused (ReferenceFault t) (SelectionFault π t) (f ∷ fs)
    (none_from_empty (ReferenceFault t) (reference_faults t) (reference_faults_listed t tree) references)
    (subst (ListsAll (SelectionFault π t)) found (selections_listed π t))))

pub accepted_by_lists : (π : Preference) (t : Data) → IsTree t → NoneOf (ShapeFault t) → length (identity_told π t) ≡ 0 → length (reference_faults t) ≡ 0
    → length (selections_told π t) ≡ 0 → IsAccepted π t
accepted_by_lists π t tree shape identity references selections =
    accepted_by_phases π t shape (none_from_empty (IdentityFault π t) (identity_told π t) (identity_listed π t) identity)
    (none_from_empty (ReferenceFault t) (reference_faults t) (reference_faults_listed t tree) references)
    (none_from_empty (SelectionFault π t) (selections_told π t) (selections_listed π t) selections)

-- ---- a report that is refused

first_phase : (First Second : List Step → Reason → Type 0) (e : CheckError) → RefusedFor First e → RefusedFor (OrElse First Second) e
first_phase First Second (Faults faults) h = (first_refused First Second faults h.0 h.1, h.1)
first_phase First Second Memory h = h

second_phase : (First Second : List Step → Reason → Type 0) (e : CheckError) → NoneOf First → RefusedFor Second e → RefusedFor (OrElse First Second) e
second_phase First Second (Faults faults) none h = (second_refused First Second faults none h.0, h.1)
second_phase First Second Memory none h = h

-- the faults of each phase, and of those after it
abbrev FromReferences : Preference → Data → List Step → Reason → Type 0
FromReferences π t = OrElse (ReferenceFault t) (SelectionFault π t)

abbrev FromIdentity : Preference → Data → List Step → Reason → Type 0
FromIdentity π t = OrElse (IdentityFault π t) (FromReferences π t)

pub refused_for_shape : (π : Preference) (t : Data) (e : CheckError) → RefusedFor (ShapeFault t) e → RefusedFor (IsFault π t) e
refused_for_shape π t e h = first_phase (ShapeFault t) (FromIdentity π t) e h

pub refused_for_identity : (π : Preference) (t : Data) (e : CheckError) → NoneOf (ShapeFault t) → RefusedFor (IdentityFault π t) e → RefusedFor (IsFault π t) e
refused_for_identity π t e shape h = second_phase (ShapeFault t) (FromIdentity π t) e shape (first_phase (IdentityFault π t) (FromReferences π t) e h)

pub refused_for_references : (π : Preference) (t : Data) (e : CheckError) → NoneOf (ShapeFault t) → NoneOf (IdentityFault π t) → RefusedFor (ReferenceFault t) e
    → RefusedFor (IsFault π t) e
refused_for_references π t e shape identity h =
    second_phase (ShapeFault t) (FromIdentity π t) e shape
    (second_phase (IdentityFault π t) (FromReferences π t) e identity (first_phase (ReferenceFault t) (SelectionFault π t) e h))

pub refused_for_selections : (π : Preference) (t : Data) (e : CheckError) → NoneOf (ShapeFault t) → NoneOf (IdentityFault π t) → NoneOf (ReferenceFault t)
    → RefusedFor (SelectionFault π t) e → RefusedFor (IsFault π t) e
refused_for_selections π t e shape identity references h =
    second_phase (ShapeFault t) (FromIdentity π t) e shape
    (second_phase (IdentityFault π t) (FromReferences π t) e identity (second_phase (ReferenceFault t) (SelectionFault π t) e references h))
