-- The faults of one value: the list of its reasons holds each of them, and rises.
use Rattle.erd_check.proofs.Common.{◌≡◌, ℕ, ◌<◌, ◌≤◌, Bool, true, false, List, [], ◌∷◌, ◌++◌, Some, None, filter, bytes_eq, nat_cmp, Less, sym, refl, subst}
use Rattle.erd_check.proofs.Common.{inl, inr, true≢false, arith, rules, and_parts, and_from, or_right, bytes_eq-Decides, slice_cmp, AllByRecursion, list_any}
use Rattle.erd_check.proofs.Common.{IsStrictlySortedBy, Data, reason_number, reason_cmp, required_names, Class, class, Reason, CarriedIdentity, ElectionCount}
use Rattle.erd_check.proofs.Common.{EmptyArray, MissingMember, NotPreElection, NotWhole, OutsideProfile, Repeated, UnknownReference, WrongClassText, WrongKind}
use Rattle.erd_check.proofs.Common.{lacks, names_wanted, is_shape_fault, scope_inside, asked_with, missing, other_reasons, reasons, Scope, scope, Want}
use Rattle.std.proofs.lemmas.List.Kept.{IsStrictlySortedBy-filter}
use Rattle.erd_check.proofs.Order.{In, In-append, In-append_left, In-append_right, In-map, In-map_from, In-filter, In-filter_kept, Below, sorted_append}
use Rattle.erd_check.proofs.Order.{sorted_map, In-all}

-- ---- tests

in_head : (n x : List ℕ) (xs : List (List ℕ)) (b : Bool) → bytes_eq n x ≡ b → (list_any (bytes_eq n) xs ≡ true → In n xs)
    → list_any (bytes_eq n) (x ∷ xs) ≡ true → In n (x ∷ xs)
in_head n x xs true e more h = inl (sym ((bytes_eq-Decides n x).0 e))
in_head n x xs false e more h = inr (more (rw e at h))

In-from_any : (n : List ℕ) (xs : List (List ℕ)) → list_any (bytes_eq n) xs ≡ true → In n xs
In-from_any n [] h = absurd (true≢false (sym h))
In-from_any n (x ∷ xs) h = in_head n x xs (bytes_eq n x) refl (In-from_any n xs) h

any_from_In : (n : List ℕ) (xs : List (List ℕ)) → In n xs → list_any (bytes_eq n) xs ≡ true
any_from_In n [] h = absurd h
any_from_In n (x ∷ xs) (inl e) = rw ((bytes_eq-Decides n x).1 (sym e))
any_from_In n (x ∷ xs) (inr t) = or_right (bytes_eq n x) _ (any_from_In n xs t)

-- ---- the parts of the list

abbrev others : List Reason
others = WrongClassText ∷ NotWhole ∷ OutsideProfile ∷ UnknownReference ∷ CarriedIdentity ∷ NotPreElection ∷ ElectionCount ∷ EmptyArray ∷ []

abbrev kinds : Want → Data → List Reason
kinds w d = filter (is_shape_fault (asked_with w false d)) (WrongKind ∷ [])

abbrev repeats : Want → Bool → Data → List Reason
repeats w repeated d = filter (is_shape_fault (asked_with w repeated d)) (Repeated ∷ [])

-- only the last reason reads whether the value is repeated
unrepeated : (w : Want) (repeated : Bool) (d : Data) (r : Reason) → is_shape_fault (asked_with w false d) r ≡ true
    → is_shape_fault (asked_with w repeated d) r ≡ true
unrepeated w repeated d Repeated h = absurd (true≢false (sym h))
unrepeated w repeated d r h = h

missing_sound : (w : Want) (repeated : Bool) (d : Data) (r : Reason) → In r (missing (scope_inside w d) d) → is_shape_fault (asked_with w repeated d) r ≡ true
missing_sound w repeated d r h =
    let from = In-map_from MissingMember (filter (lacks d) (names_wanted (scope_inside w d))) r h in
    let kept = In-filter (lacks d) from.0 (names_wanted (scope_inside w d)) from.1 in
    subst (λ q. is_shape_fault (asked_with w repeated d) q ≡ true) from.2 (and_from _ _ (any_from_In from.0 (names_wanted (scope_inside w d)) kept.0) kept.1)

repeats_sound : (w : Want) (repeated : Bool) (d : Data) (r : Reason) → In r (repeats w repeated d) → is_shape_fault (asked_with w repeated d) r ≡ true
repeats_sound w repeated d r h = (In-filter (is_shape_fault (asked_with w repeated d)) r (Repeated ∷ []) h).1

pub reasons_sound : (w : Want) (repeated : Bool) (d : Data) (r : Reason) → In r (reasons w repeated d) → is_shape_fault (asked_with w repeated d) r ≡ true
reasons_sound w repeated d r h =
    let tests = is_shape_fault (asked_with w false d) in
    elim (In-append r (kinds w d ++ missing (scope_inside w d) d ++ other_reasons w d) (repeats w repeated d) h) [
      | inl abc ↦ elim (In-append r (kinds w d ++ missing (scope_inside w d) d) (other_reasons w d) abc) [
        | inl ab ↦ elim (In-append r (kinds w d) (missing (scope_inside w d) d) ab) [
          | inl a ↦ unrepeated w repeated d r (In-filter tests r (WrongKind ∷ []) a).1
          | inr b ↦ missing_sound w repeated d r b
        ]
        | inr c ↦ unrepeated w repeated d r (In-filter tests r others c).1
      ]
      | inr e ↦ repeats_sound w repeated d r e
    ]

other_complete : (w : Want) (repeated : Bool) (d : Data) (r : Reason) → In r others → is_shape_fault (asked_with w false d) r ≡ true
    → In r (reasons w repeated d)
other_complete w repeated d r i h =
    In-append_left r (kinds w d ++ missing (scope_inside w d) d ++ other_reasons w d) (repeats w repeated d)
    (In-append_right r (kinds w d ++ missing (scope_inside w d) d) (other_reasons w d) (In-filter_kept (is_shape_fault (asked_with w false d)) r others i h))

missing_complete : (w : Want) (repeated : Bool) (d : Data) (n : List ℕ) → is_shape_fault (asked_with w repeated d) (MissingMember n) ≡ true
    → In (MissingMember n) (reasons w repeated d)
missing_complete w repeated d n h =
    let needed = names_wanted (scope_inside w d) in
    let both = and_parts (list_any (bytes_eq n) needed) (lacks d n) h in
    In-append_left (MissingMember n) (kinds w d ++ missing (scope_inside w d) d ++ other_reasons w d) (repeats w repeated d)
    (In-append_left (MissingMember n) (kinds w d ++ missing (scope_inside w d) d) (other_reasons w d)
    (In-append_right (MissingMember n) (kinds w d) (missing (scope_inside w d) d)
    (In-map MissingMember n (filter (lacks d) needed) (In-filter_kept (lacks d) n needed (In-from_any n needed both.0) both.1))))

pub reasons_complete : (w : Want) (repeated : Bool) (d : Data) (r : Reason) → is_shape_fault (asked_with w repeated d) r ≡ true → In r (reasons w repeated d)
reasons_complete w repeated d WrongKind h =
    In-append_left WrongKind (kinds w d ++ missing (scope_inside w d) d ++ other_reasons w d) (repeats w repeated d)
    (In-append_left WrongKind (kinds w d ++ missing (scope_inside w d) d) (other_reasons w d)
    (In-append_left WrongKind (kinds w d) (missing (scope_inside w d) d)
    (In-filter_kept (is_shape_fault (asked_with w false d)) WrongKind (WrongKind ∷ []) (inl refl) h)))
reasons_complete w repeated d (MissingMember n) h = missing_complete w repeated d n h
reasons_complete w repeated d WrongClassText h = other_complete w repeated d WrongClassText (inl refl) h
reasons_complete w repeated d NotWhole h = other_complete w repeated d NotWhole (inr (inl refl)) h
reasons_complete w repeated d OutsideProfile h = other_complete w repeated d OutsideProfile (inr (inr (inl refl))) h
reasons_complete w repeated d UnknownReference h = other_complete w repeated d UnknownReference (inr (inr (inr (inl refl)))) h
reasons_complete w repeated d CarriedIdentity h = other_complete w repeated d CarriedIdentity (inr (inr (inr (inr (inl refl))))) h
reasons_complete w repeated d NotPreElection h = other_complete w repeated d NotPreElection (inr (inr (inr (inr (inr (inl refl)))))) h
reasons_complete w repeated d ElectionCount h = other_complete w repeated d ElectionCount (inr (inr (inr (inr (inr (inr (inl refl))))))) h
reasons_complete w repeated d EmptyArray h = other_complete w repeated d EmptyArray (inr (inr (inr (inr (inr (inr (inr (inl refl)))))))) h
reasons_complete w repeated d Repeated h =
    In-append_right Repeated (kinds w d ++ missing (scope_inside w d) d ++ other_reasons w d) (repeats w repeated d)
    (In-filter_kept (is_shape_fault (asked_with w repeated d)) Repeated (Repeated ∷ []) (inl refl) h)
reasons_complete w repeated d r h = absurd (true≢false (sym h))

-- ---- their order

pub required_sorted : (c : Class) → IsStrictlySortedBy (slice_cmp nat_cmp) (required_names c)
unfolding IsStrictlySortedBy
required_sorted class.ElectionReport = ((refl, tt), (tt, tt))
required_sorted c = search rules

needed_sorted : (s : Scope) → IsStrictlySortedBy (slice_cmp nat_cmp) (names_wanted s)
unfolding IsStrictlySortedBy
needed_sorted (scope.Members r None) = (tt, tt)
needed_sorted (scope.Members r (Some c)) = required_sorted c
needed_sorted d = tt

others_sorted : IsStrictlySortedBy reason_cmp others
unfolding IsStrictlySortedBy
others_sorted = search rules

alone_sorted : (r : Reason) → IsStrictlySortedBy reason_cmp (r ∷ [])
unfolding IsStrictlySortedBy
alone_sorted r = (tt, tt)

by_number : (q r : Reason) → reason_number q < reason_number r → reason_cmp q r ≡ Less
by_number q r h = grind arith

abbrev Between : ℕ → ℕ → List Reason → Type 0
Between low high xs = (r : Reason) → In r xs → (low ≤ reason_number r) × (reason_number r ≤ high)

below_between : (m n k l : ℕ) (xs ys : List Reason) → n < k → Between m n xs → Between k l ys → Below reason_cmp xs ys
below_between m n k l xs ys h p q x y i j =
    let a = p x i in
    let b = q y j in
    by_number x y (omega arith)

between_append : (low high : ℕ) (xs ys : List Reason) → Between low high xs → Between low high ys → Between low high (xs ++ ys)
between_append low high xs ys p q r i = elim (In-append r xs ys i) [ inl a ↦ p r a | inr b ↦ q r b ]

between_weaker : (m n k l : ℕ) (xs : List Reason) → k ≤ m → n ≤ l → Between m n xs → Between k l xs
between_weaker m n k l xs p q b r i =
    let a = b r i in
    (omega arith, omega arith)

between_filter : (low high : ℕ) (test : Reason → Bool) (xs : List Reason) → AllByRecursion (λ r. (low ≤ reason_number r) × (reason_number r ≤ high)) xs
    → Between low high (filter test xs)
between_filter low high test xs a r i = In-all (λ r. (low ≤ reason_number r) × (reason_number r ≤ high)) r xs a (In-filter test r xs i).0

between_missing : (s : Scope) (d : Data) → Between 2 2 (missing s d)
between_missing s d r i =
    let from = In-map_from MissingMember (filter (lacks d) (names_wanted s)) r i in
    subst (λ q. (2 ≤ reason_number q) × (reason_number q ≤ 2)) from.2 (omega arith, omega arith)

pub reasons_sorted : (w : Want) (repeated : Bool) (d : Data) → IsStrictlySortedBy reason_cmp (reasons w repeated d)
reasons_sorted w repeated d =
    let s = scope_inside w d in
    let one : Between 1 1 (kinds w d) = between_filter 1 1 (is_shape_fault (asked_with w false d)) (WrongKind ∷ []) ((omega arith, omega arith), tt) in
    let two : Between 2 2 (missing s d) = between_missing s d in
    let three : Between 3 10 (other_reasons w d) = between_filter 3 10 (is_shape_fault (asked_with w false d)) others (
      (omega arith, omega arith),
      (
        (omega arith, omega arith),
        (
          (omega arith, omega arith),
          (
            (omega arith, omega arith),
            ((omega arith, omega arith), ((omega arith, omega arith), ((omega arith, omega arith), ((omega arith, omega arith), tt)))),
          ),
        ),
      ),
    ) in
    let four : Between 11 11 (repeats w repeated d) = between_filter 11 11 (is_shape_fault (asked_with w repeated d)) (Repeated ∷ [])
    ((omega arith, omega arith), tt) in
    let one_two : Between 1 2 (kinds w d ++ missing s d) =
    between_append 1 2 (kinds w d) (missing s d) (between_weaker 1 1 1 2 (kinds w d) (omega arith) (omega arith) one)
    (between_weaker 2 2 1 2 (missing s d) (omega arith) (omega arith) two) in
    let to_three : Between 1 10 (kinds w d ++ missing s d ++ other_reasons w d) =
    between_append 1 10 (kinds w d ++ missing s d) (other_reasons w d) (between_weaker 1 2 1 10 (kinds w d ++ missing s d) (omega arith) (omega arith) one_two)
    (between_weaker 3 10 1 10 (other_reasons w d) (omega arith) (omega arith) three) in
    sorted_append reason_cmp (kinds w d ++ missing s d ++ other_reasons w d) (repeats w repeated d)
    (sorted_append reason_cmp (kinds w d ++ missing s d) (other_reasons w d)
    (sorted_append reason_cmp (kinds w d) (missing s d)
    (IsStrictlySortedBy-filter reason_cmp (is_shape_fault (asked_with w false d)) (WrongKind ∷ []) (alone_sorted WrongKind))
    (sorted_map MissingMember (slice_cmp nat_cmp) reason_cmp (λ x y e. e) (filter (lacks d) (names_wanted s))
    (IsStrictlySortedBy-filter (slice_cmp nat_cmp) (lacks d) (names_wanted s) (needed_sorted s)))
    (below_between 1 1 2 2 (kinds w d) (missing s d) (omega arith) one two))
    (IsStrictlySortedBy-filter reason_cmp (is_shape_fault (asked_with w false d)) others others_sorted)
    (below_between 1 2 3 10 (kinds w d ++ missing s d) (other_reasons w d) (omega arith) one_two three))
    (IsStrictlySortedBy-filter reason_cmp (is_shape_fault (asked_with w repeated d)) (Repeated ∷ []) (alone_sorted Repeated))
    (below_between 1 10 11 11 (kinds w d ++ missing s d ++ other_reasons w d) (repeats w repeated d) (omega arith) to_three four)
