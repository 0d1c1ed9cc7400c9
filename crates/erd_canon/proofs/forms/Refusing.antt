-- Why a tree is not accepted, and so the bytes that are it.
use Rattle.erd_canon.proofs.Common.{◌≡◌, ℕ, List, [], ◌∷◌, Some, ◌⊎◌, sym, refl, ◌∙◌, subst, inl, inr, Data, Fault, IsAccepted, IsFault, Preference, IsTreeOf}
use Rattle.erd_canon.proofs.Common.{IsAcceptedReport, IsRefusedReport, IsSomeReport, RefusedAs, RefusedSide, Refusal, refusal_for}
use Rattle.erd_check.proofs.Order.{contains_from_In}
use Rattle.erd_check.specs.Refusals.{RefusedFor}
use Rattle.erd_check.specs.declared.error.CheckError.{CheckError}
use Rattle.erd_check.specs.declared.error.CheckError.TheVariants.{Faults, Memory}
use Rattle.erd_canon.specs.code.SideRefusals.{OnSide}
use Rattle.erd_canon.specs.declared.bytes.refusal.Side.{Side}
use Rattle.erd_canon.specs.declared.bytes.refusal.Side.TheVariants as side

-- bytes are no two trees
pub one_tree : (b : List ℕ) (t u : Data) → IsTreeOf b t → IsTreeOf b u → t ≡ u
one_tree b t u (utf8, is) (also, was) = let both : Some t ≡ Some u = sym is ∙ was in cc

-- bytes with a fault are no accepted report
pub refused_is_none : (π : Preference) (b : List ℕ) (faults : List Fault) → IsRefusedReport π b faults → ¬ IsSomeReport π b
refused_is_none π b [] r (t, a) = absurd (r.some refl)
refused_is_none π b (f ∷ fs) r (t, a) =
    let fault : IsFault π r.tree f.place f.reason = (r.all.each f).0 (contains_from_In f (f ∷ fs) (inl refl)) in
    a.accepted f.place f.reason (subst (λ u. IsFault π u f.place f.reason) (one_tree b r.tree t r.read a.read) fault)

-- bytes are refused as their tree is
pub refused_tree : (π : Preference) (b : List ℕ) (t : Data) (e : CheckError) → IsTreeOf b t → RefusedFor (IsFault π t) e → RefusedAs π b (refusal_for e)
refused_tree π b t (Faults faults) read (all, some) =
    let refused : IsRefusedReport π b faults = record { tree = t; read = read; all = all; some = some } in
    (refused, refused_is_none π b faults refused)
refused_tree π b t Memory read h = tt

-- what follows from why the bytes of a side are refused, and from what is told of it
pub of_side : (π : Preference) (left right one other : List ℕ) (s : Side) (Tells : List ℕ → Refusal → Type 0)
    (IsTold : List ℕ → List ℕ → Type 0) (Both : Type 0)
    → ((words bytes : List ℕ) (refused : Refusal) → RefusedAs π bytes refused → Tells words refused → IsTold words bytes)
    → RefusedSide π left right s → OnSide one other Tells s → IsTold one left ⊎ ((IsSomeReport π left × IsTold other right) ⊎ Both)
of_side π left right one other (side.Left refused) Tells IsTold Both follows is told = inl (follows one left refused is told)
of_side π left right one other (side.Right refused) Tells IsTold Both follows is told = inr (inl (is.0, follows other right refused is.1 told))
of_side π left right one other side.Memory Tells IsTold Both follows is told = absurd told

-- bytes of an accepted tree are an accepted report, under each equal preference and for each equal tree
as_report : (π ρ : Preference) (b : List ℕ) (t r : Data) → ρ ≡ π → r ≡ t → IsTreeOf b t → IsAccepted π t → IsAcceptedReport ρ b r
as_report π ρ b t r p e read accepted = subst (λ (σ : Preference). IsAcceptedReport σ b r) (sym p)
    (subst (IsAcceptedReport π b) (sym e) (record { read = read; accepted = accepted }))

-- what holds of the bytes of an accepted report holds of the bytes of its tree
pub of_report : (π ρ : Preference) (t r : Data) (P : Preference → List ℕ → Type 0) → ρ ≡ π → r ≡ t → IsAccepted π t
    → ((b : List ℕ) → IsAcceptedReport ρ b r → P ρ b) → (b : List ℕ) → IsTreeOf b t → P π b
of_report π ρ t r P p e accepted holds b read = subst (λ (σ : Preference). P σ b) p (holds b (as_report π ρ b t r p e read accepted))
