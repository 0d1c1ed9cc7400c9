-- The reasons of a reference at its place: they rise, each is a fault, and none is left out.
use Rattle.erd_meaning.proofs.Common.{◌≡◌, ℕ, ◌-◌, Bool, true, false, ◌&&◌, List, [], ◌∷◌, ◌++◌, length, take, drop, IsSomeAnd, IsTrue, Some, None, codes}
use Rattle.erd_meaning.proofs.Common.{filter, Option, bytes_eq, sym, refl, ap, ◌∙◌, subst, inl, inr, true≢false, arith, length-append, take-append-drop, rules}
use Rattle.erd_meaning.proofs.Common.{drop-append_seam, take-append_seam, and_parts, and_from, bytes_eq-Decides, IsStrictlySortedBy, option_map_or, Data}
use Rattle.erd_meaning.proofs.Common.{reason_cmp, Reason, Repeated, SelectionOfOtherContest, Unresolved, WrongFamily, Step, At, Name, In, In-filter_kept}
use Rattle.erd_meaning.proofs.Common.{outer_place, Asked, asked_at, is_reference_fault, is_other_selection, entry_place, ReferenceFault, NamesOtherContest}

-- ---- the entries of an object's list

-- the last two steps of a place, if it has so many
abbrev pub last_steps : List Step → List Step
last_steps p = drop (length p - 2) p

-- steps from an object to an entry of its list
abbrev pub are_entry_steps : List Step → Bool
are_entry_steps (Name n ∷ At i ∷ []) = bytes_eq n (codes "OrderedContestSelectionIds")
are_entry_steps ss = false

entry_steps_from : (ss : List Step) → are_entry_steps ss ≡ true → (i : ℕ) × (ss ≡ Name (codes "OrderedContestSelectionIds") ∷ At i ∷ [])
entry_steps_from (Name n ∷ At i ∷ []) h = (i, ap (λ (m : List ℕ). Name m ∷ At i ∷ []) ((bytes_eq-Decides n (codes "OrderedContestSelectionIds")).0 h))
entry_steps_from ss h = absurd (true≢false (sym h))

-- such a place is that of an entry
entry_place_from : (p : List Step) → are_entry_steps (last_steps p) ≡ true → (i : ℕ) × (p ≡ entry_place (outer_place p) i)
entry_place_from p h =
    let steps = entry_steps_from (last_steps p) h in
    (steps.0, sym (take-append-drop (length p - 2) p) ∙ ap (λ ss. outer_place p ++ ss) steps.1)

two_less : (q : List Step) (i : ℕ) → length (entry_place q i) - 2 ≡ length q
two_less q i =
    let last : List Step = Name (codes "OrderedContestSelectionIds") ∷ At i ∷ [] in
    omega (arith, length-append q last)

pub outer_place_entry : (q : List Step) (i : ℕ) → outer_place (entry_place q i) ≡ q
outer_place_entry q i = ap (λ n. take n (entry_place q i)) (two_less q i) ∙ take-append_seam q (Name (codes "OrderedContestSelectionIds") ∷ At i ∷ [])

last_steps_of_entry : (q : List Step) (i : ℕ) → last_steps (entry_place q i) ≡ Name (codes "OrderedContestSelectionIds") ∷ At i ∷ []
last_steps_of_entry q i = ap (λ n. drop n (entry_place q i)) (two_less q i) ∙ drop-append_seam q (Name (codes "OrderedContestSelectionIds") ∷ At i ∷ [])

-- ---- the reasons at one place

-- what is asked there is a selection of another contest than that of the object
abbrev pub stands_elsewhere : Data → List Step → Asked → Bool
stands_elsewhere t p a = option_map_or (λ contest. is_other_selection t contest.value a.want a.value) (asked_at t (outer_place p)) false

-- whether a reference has a fault, by what is asked of it and of the object of its list
abbrev pub has_reference_reason : Data → List Step → Asked → Reason → Bool
has_reference_reason t p a SelectionOfOtherContest = are_entry_steps (last_steps p) && stands_elsewhere t p a
has_reference_reason t p a r = is_reference_fault t a r

abbrev pub reference_reasons : List Reason
reference_reasons = Repeated ∷ Unresolved ∷ WrongFamily ∷ SelectionOfOtherContest ∷ []

-- the reasons of a place, in the order of reasons
abbrev pub reference_reasons_at : Data → List Step → Asked → List Reason
reference_reasons_at t p a = filter (has_reference_reason t p a) reference_reasons

pub reference_reasons_rise : IsStrictlySortedBy reason_cmp reference_reasons
unfolding IsStrictlySortedBy
reference_reasons_rise = search rules

-- ---- each is a fault

object_from : (P : Asked → Bool) (o : Option Asked) → option_map_or P o false ≡ true → (a : Asked) × (o ≡ Some a) × (P a ≡ true)
object_from P None h = absurd (true≢false (sym h))
object_from P (Some a) h = (a, refl, h)

other_contest : (t : Data) (p : List Step) (a : Asked) → asked_at t p ≡ Some a → has_reference_reason t p a SelectionOfOtherContest ≡ true
    → NamesOtherContest t p
other_contest t p a e h =
    let both = and_parts (are_entry_steps (last_steps p)) (stands_elsewhere t p a) h in
    let entry = entry_place_from p both.0 in
    let object = object_from (λ contest. is_other_selection t contest.value a.want a.value) (asked_at t (outer_place p)) both.1 in
    record {
      object_place = outer_place p;
      position = entry.0;
      place = entry.1;
      ordered_contest = object.0;
      ordered_contest_stands = object.1;
      entry = a;
      entry_stands = e;
      elsewhere = object.2;
    }

said_at : (P : Asked → Type 0) (o : Option Asked) (a : Asked) → o ≡ Some a → P a → IsSomeAnd o P
said_at P o a e h = subst (λ q. IsSomeAnd q P) (sym e) h

pub fault_of_reason : (t : Data) (p : List Step) (a : Asked) (r : Reason) → asked_at t p ≡ Some a → has_reference_reason t p a r ≡ true → ReferenceFault t p r
fault_of_reason t p a SelectionOfOtherContest e h = other_contest t p a e h
fault_of_reason t p a r e h = said_at (λ b. IsTrue (is_reference_fault t b r)) (asked_at t p) a e h

-- ---- none is left out

-- what is asked there, and the reason that it has
abbrev pub HasReason : Data → List Step → Reason → Type 0
HasReason t p r = (a : Asked) × (asked_at t p ≡ Some a) × In r (reference_reasons_at t p a)

kept_there : (t : Data) (p : List Step) (r : Reason) (P : Asked → Bool) → ((a : Asked) → P a ≡ true → In r (reference_reasons_at t p a)) → (o : Option Asked)
    → asked_at t p ≡ o → IsSomeAnd o (λ a. IsTrue (P a)) → HasReason t p r
kept_there t p r P kept None e h = absurd h
kept_there t p r P kept (Some a) e h = (a, e, kept a h)

kept : (t : Data) (p : List Step) (r : Reason) (a : Asked) → In r reference_reasons → has_reference_reason t p a r ≡ true → In r (reference_reasons_at t p a)
kept t p r a i h = In-filter_kept (has_reference_reason t p a) r reference_reasons i h

other_kept : (t : Data) (p : List Step) → NamesOtherContest t p → HasReason t p SelectionOfOtherContest
other_kept t p h =
    let steps : are_entry_steps (last_steps p) ≡ true = ap (λ q. are_entry_steps (last_steps q)) h.place
    ∙ ap are_entry_steps (last_steps_of_entry h.object_place h.position) in
    let object : outer_place p ≡ h.object_place = ap outer_place h.place ∙ outer_place_entry h.object_place h.position in
    let elsewhere : stands_elsewhere t p h.entry ≡ true = rw (object, h.ordered_contest_stands) h.elsewhere in (
      h.entry,
      h.entry_stands,
      kept t p SelectionOfOtherContest h.entry (inr (inr (inr (inl refl))))
          (and_from (are_entry_steps (last_steps p)) (stands_elsewhere t p h.entry) steps elsewhere),
    )

pub reason_of_fault : (t : Data) (p : List Step) (r : Reason) → ReferenceFault t p r → HasReason t p r
reason_of_fault t p SelectionOfOtherContest h = other_kept t p h
reason_of_fault t p Repeated h = kept_there t p Repeated (λ a. is_reference_fault t a Repeated) (λ a e. kept t p Repeated a (inl refl) e) (asked_at t p) refl h
reason_of_fault t p Unresolved h = kept_there t p Unresolved (λ a. is_reference_fault t a Unresolved)
    (λ a e. kept t p Unresolved a (inr (inl refl)) e) (asked_at t p) refl h
reason_of_fault t p WrongFamily h = kept_there t p WrongFamily (λ a. is_reference_fault t a WrongFamily)
    (λ a e. kept t p WrongFamily a (inr (inr (inl refl))) e) (asked_at t p) refl h
reason_of_fault t p r h = kept_there t p r (λ a. false) (λ a e. absurd (true≢false (sym e))) (asked_at t p) refl h
