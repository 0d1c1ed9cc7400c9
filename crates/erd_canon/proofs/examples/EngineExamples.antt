-- What the engines write for bytes that are no JSON, and for the JSON `null`, which has one fault.
use Rattle.erd_canon.proofs.Common.{◌≡◌, ℕ, zero, suc, List, [], ◌∷◌, None, codes, Contains, refl, subst, inl, inr, arith, lit<, Data, null, Reason, reason}
use Rattle.erd_canon.proofs.Common.{fault_cmp, Fault, IsFault, serde_json_on_literals, IsNotJson, IsAcceptedReport, IsRefusal, IsCheckText, IsCanonicalOutput}
use Rattle.erd_canon.proofs.Common.{IsCanonicalErrors, IsCompareText, IsRefusedReport, IsCompared, Bad, Good, NotJson}
use Rattle.std.proofs.lemmas.Option.{none-some}
use Rattle.std.specs.List.Sorted.{IsStrictlySortedBy}
use Rattle.erd_tables.specs.declared.place.Step.{Step}
use Rattle.erd_check.specs.Faults.{ShapeFault}

-- ---- no bytes are no JSON

pub no_bytes : IsNotJson []
unfolding serde_json_on_literals
no_bytes t is = none-some t is.1

not_json : IsRefusal None [] (codes "not JSON" ∷ [])
not_json = inl (no_bytes, refl)

checked : IsCheckText None [] (codes "not JSON\n")
checked = inr (codes "not JSON" ∷ [], not_json, refl)

pub canonical_errors : IsCanonicalErrors None [] (codes "not JSON\n")
canonical_errors = inr (codes "not JSON" ∷ [], not_json, refl)

pub canonical_output : IsCanonicalOutput None [] []
canonical_output = inr ((λ t accepted. no_bytes t accepted.read), refl)

-- the left report is judged first, whatever the right one is
compared : (right : List ℕ) → IsCompareText None [] right (codes "left: not JSON\n")
compared right = inl (codes "not JSON" ∷ [], not_json, refl)

compared_so : (right : List ℕ) → IsCompared None [] right NotJson (codes "left: not JSON\n")
compared_so right = inl (no_bytes, refl)

-- the right report is judged where the left one is accepted
compared_right : (left : List ℕ) (t : Data) → IsAcceptedReport None left t → IsCompared None left [] NotJson (codes "right: not JSON\n")
compared_right left t accepted = inr (inl ((t, accepted), (no_bytes, refl)))

-- an accepted report means the same as itself
compared_same : (b : List ℕ) (t : Data) → IsAcceptedReport None b t → IsCompared None b b Good (codes "same\n")
compared_same b t accepted =
    inr (inr (None, record { left_tree = t; right_tree = t; left_accepted = accepted; right_accepted = accepted; difference = refl }, refl, refl))

-- ---- `null` is of a wrong kind, and nothing else is at fault

unfoldable pub root_kind : Fault
root_kind = record { place = []; reason = reason.WrongKind }

fault_is : (p : List Step) (r : Reason) → ShapeFault null p r → root_kind ≡ record { place = p; reason = r }
unfolding root_kind
fault_is [] reason.WrongKind h = refl
fault_is [] r h = absurd (cc h)
fault_is (s ∷ ss) r h = absurd h

listed : (f : Fault) → Contains (root_kind ∷ []) f → IsFault None null f.place f.reason
unfolding root_kind
listed f (zero, less, is) = subst (λ g. IsFault None null g.place g.reason) is (inl refl)
listed f (suc k, less, is) = absurd (omega (arith, less))

found : (f : Fault) → IsFault None null f.place f.reason → Contains (root_kind ∷ []) f
found f (inl h) = (0, lit< tt, fault_is f.place f.reason h)
found f (inr (none, h)) = absurd (none [] reason.WrongKind refl)

one_sorted : IsStrictlySortedBy fault_cmp (root_kind ∷ [])
unfolding IsStrictlySortedBy
one_sorted = (tt, tt)

pub null_refused : IsRefusedReport None (codes "null") (root_kind ∷ [])
unfolding serde_json_on_literals
null_refused = record {
  tree = null;
  read = ((codes "null", (refl, refl)), refl);
  all = record { rising = one_sorted; each = λ f. (listed f, found f) };
  some = λ e. absurd (cc e);
}

pub null_checked : IsCheckText None (codes "null") (codes ": wrong kind\n")
unfolding root_kind
null_checked = inr (codes ": wrong kind" ∷ [], inr (root_kind ∷ [], null_refused, refl), refl)

pub null_compared : (right : List ℕ) → IsCompared None (codes "null") right Bad (codes "left: : wrong kind\n")
unfolding root_kind
null_compared right = inl (root_kind ∷ [], null_refused, refl)
