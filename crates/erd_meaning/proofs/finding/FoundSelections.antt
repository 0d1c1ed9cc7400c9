-- What is found of the selections of a report by position, and by contest and name.
use Rattle.erd_meaning.proofs.Common.{◌≡◌, ℕ, List, Some, None, Option, position, sym, ap, ◌∙◌, subst, same_Some, view, Value, Preference, selection_in}
use Rattle.erd_meaning.proofs.Common.{FindsSelection, NameParts, IsResolved, NumberedName, is_selection_named, Object, in_at}
use Rattle.erd_meaning.proofs.selections.NamesTold.{is_named_from, is_named_itself}
use Rattle.erd_meaning.proofs.finding.OneObject.{hit, missed}
use Rattle.erd_meaning.proofs.selections.WalkedNames.{one_selection}

pub selection_found : (π : Preference) (v : Value) (os : List Object) (ns : List NumberedName) (c : ℕ) (n : NameParts) (found : Option ℕ) → IsResolved π v os ns
    → position (is_selection_named c n) ns ≡ found → FindsSelection π (view v) c n found
selection_found π v os ns c n None r e i =
    (λ same. cc, λ there. absurd (missed (is_selection_named c n) ns (c, n) e (in_at {A = NumberedName} ns i (c, n) (r.named i ∙ there)) (is_named_itself c n)))
selection_found π v os ns c n (Some k) r e i =
    let h = hit (is_selection_named c n) ns k e in
    let here : selection_in π (view v) k ≡ Some (c, n) = sym (r.named k) ∙ h.at ∙ ap Some (is_named_from h.one c n h.passes) in (
      λ same. subst (λ m. selection_in π (view v) m ≡ Some (c, n)) (same_Some k i same) here,
      λ there. ap Some (one_selection π (view v) c n k i r.told_apart here there),
    )
