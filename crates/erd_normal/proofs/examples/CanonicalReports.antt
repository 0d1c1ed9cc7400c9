-- Whole reports that are canonical, the canonical forms of two, pairs in a stable order, and rearrangements, by computation.
use Rattle.erd_normal.proofs.Common.{◌≡◌, ℕ, List, [], ◌++◌, None, codes, refl, tree_of, small_ballot, small_ballot_canonical, one_unit, two_elections}
use Rattle.erd_normal.proofs.Common.{three_contests, serde_json_on_literals, digits, identifier, ◌^◌, ◌<◌, false, length, slice_get, bytes_eq, unwrap_or, ap}
use Rattle.erd_normal.proofs.Common.{subst, true≢false, arith, lit<, option_map_or, Data, Family, family, IsAccepted, Placed, report_of, objects}
use Rattle.erd_normal.proofs.Common.{HasFittingNumbers, IsNoDeeper, IsObject, HasCanonicalEnvelope, HasCanonicalIds, IsCanonical, IsCanonicalFormOf, Bool, true}
use Rattle.erd_normal.proofs.Common.{not, ◌&&◌, ◌∷◌, map, Some, Option, is_lt, Ordering, Less, not-true, and_parts, list_all, IsStrictlySortedBy, option_cmp}
use Rattle.erd_normal.proofs.Common.{MemberKind, kind, Step, less, entries_of, Asked, asked_at, key_cmp, compact_cmp, name_of, name_cmp, kind_wanted}
use Rattle.erd_normal.proofs.Common.{HasNoEmptyArray, keys_of, keys_referred, RisesAs, AreSetsInOrder, all_from_In, each_holds, is_empty_array, zero, suc, ◌+◌}
use Rattle.erd_normal.proofs.Common.{◌≤◌, get_or as slice_index_or, nat_cmp, is_eq, Equal, sym, ◌∙◌, tied_itself, nat_cmp_total, on_total, then_total}
use Rattle.erd_normal.proofs.Common.{nat_list_cmp_total, IsTotalOrder, ordering_reverse, local_key, Key, pairs_of, IsStablySorted, option_map, At, Name, a_key}
use Rattle.erd_normal.proofs.Common.{a_plain, NameParts, contests, members_of, canonical_id, canonical_selection_id, placed_keys, ids_in, names_in, Renaming}
use Rattle.erd_normal.proofs.Common.{renamed, exchanged, HasEntries, a_renaming, an_exchange, changed}
use Rattle.erd_check.proofs.AskedInside.{AskedPlace, all_asked, tested_at}
use Rattle.erd_check.proofs.WholeExamples.{IsFaultless, one_unit_is_faultless, small_ballot_is_faultless}
use Rattle.erd_normal.proofs.view.ViewForms.{form_written}
use Rattle.erd_normal.specs.code.View.{style_of, whole}
use Rattle.erd_meaning.proofs.examples.RefusedExamples.{one_unit_is_accepted, small_ballot_is_accepted}

-- the canonical form of the report of one unit
abbrev pub one_unit_canonical : List ℕ
one_unit_canonical = codes "{\"@type\":\"ElectionResults.ElectionReport\",\"Election\":[{\"@type\":\"ElectionResults.Election\",\"ElectionScopeId\":\"gp1\""
    ++ codes ",\"EndDate\":\"2026-11-03\",\"Name\":\"Test\",\"StartDate\":\"2026-11-03\",\"Type\":\"general\"}],\"Format\":\"summary-contest\""
    ++ codes ",\"GeneratedDate\":\"2000-01-01T00:00:00Z\",\"GpUnit\":[{\"@id\":\"gp1\",\"@type\":\"ElectionResults.ReportingUnit\""
    ++ codes ",\"ExternalIdentifier\":[{\"@type\":\"ElectionResults.ExternalIdentifier\",\"Type\":\"local-level\",\"Value\":\"U1\"}],\"Type\":\"county\"}]"
    ++ codes ",\"Issuer\":\"canonical\",\"IssuerAbbreviation\":\"canonical\",\"SequenceEnd\":1,\"SequenceStart\":1,\"Status\":\"pre-election\""
    ++ codes ",\"VendorApplicationId\":\"canonical\"}"

pub one_unit_built : whole (style_of None (tree_of one_unit)) (tree_of one_unit) ≡ tree_of one_unit_canonical
unfolding serde_json_on_literals digits
one_unit_built = refl

pub small_ballot_built : whole (style_of None (tree_of small_ballot)) (tree_of small_ballot) ≡ tree_of small_ballot_canonical
unfolding serde_json_on_literals digits
small_ballot_built = refl

canonical_built_again : whole (style_of None (tree_of small_ballot_canonical)) (tree_of small_ballot_canonical) ≡ tree_of small_ballot_canonical
unfolding serde_json_on_literals digits
canonical_built_again = refl

-- ---- reports of two elections: they rise by key, and the numbers of contests count both

-- a contest of the canonical form
abbrev numbered_contest : List ℕ → List ℕ → List ℕ
numbered_contest id value = codes "{\"@id\":\"" ++ id ++ codes "\",\"@type\":\"ElectionResults.PartyContest\",\"ElectionDistrictId\":\"gp1\","
    ++ identifier value ++ codes ",\"Name\":\"N\"}"

-- an election of the canonical form, with this member for its contests
abbrev rising_election : List ℕ → List ℕ → List ℕ → List ℕ
rising_election contests value name =
    codes "{\"@type\":\"ElectionResults.Election\"," ++ contests ++ codes "\"ElectionScopeId\":\"gp1\",\"EndDate\":\"2026-11-03\"," ++ identifier value
    ++ codes ",\"Name\":\"" ++ name ++ codes "\",\"StartDate\":\"2026-11-03\",\"Type\":\"general\"}"

-- the canonical form of the report of one unit with these elections
abbrev canonical_with : List ℕ → List ℕ → List ℕ
canonical_with first second =
    codes "{\"@type\":\"ElectionResults.ElectionReport\",\"Election\":[" ++ first ++ codes "," ++ second
    ++ codes "],\"Format\":\"summary-contest\",\"GeneratedDate\":\"2000-01-01T00:00:00Z\",\"GpUnit\":[{\"@id\":\"gp1\""
    ++ codes ",\"@type\":\"ElectionResults.ReportingUnit\",\"ExternalIdentifier\":[{\"@type\":\"ElectionResults.ExternalIdentifier\""
    ++ codes ",\"Type\":\"local-level\",\"Value\":\"U1\"}],\"Type\":\"county\"}],\"Issuer\":\"canonical\",\"IssuerAbbreviation\":\"canonical\""
    ++ codes ",\"SequenceEnd\":1,\"SequenceStart\":1,\"Status\":\"pre-election\",\"VendorApplicationId\":\"canonical\"}"

-- the election E1 stands first
two_elections_built : whole (style_of None (tree_of two_elections)) (tree_of two_elections)
    ≡ tree_of (canonical_with (rising_election [] (codes "E1") (codes "Other")) (rising_election [] (codes "E2") (codes "Test")))
unfolding serde_json_on_literals digits
two_elections_built = refl

-- E1 has the first and the third contest, and E2 the second
three_contests_built : whole (style_of None (tree_of three_contests)) (tree_of three_contests) ≡ tree_of
    (canonical_with
    (rising_election (codes "\"Contest\":[" ++ numbered_contest (codes "co1") (codes "C1") ++ codes "," ++ numbered_contest (codes "co3") (codes "C3")
    ++ codes "],") (codes "E1") (codes "Other"))
    (rising_election (codes "\"Contest\":[" ++ numbered_contest (codes "co2") (codes "C2") ++ codes "],") (codes "E2") (codes "Test")))
unfolding serde_json_on_literals digits
three_contests_built = refl

-- ---- the tree that is built for a report is its canonical form

form_of : (text form : List ℕ) → IsFaultless text → IsAccepted None (tree_of text) → ((f : Family) → length (objects f (tree_of text)) < 2 ^ 64)
    → HasFittingNumbers (tree_of text)
    → whole (style_of None (tree_of text)) (tree_of text) ≡ tree_of form → IsCanonicalFormOf None (tree_of text) (tree_of form)
form_of text form faultless accepted few fits built = subst (IsCanonicalFormOf None (tree_of text)) built
    (form_written None (tree_of text) accepted faultless.tree (record { few = few }) fits)

few : (f : Family) → (length (objects f (tree_of one_unit)) < 2 ^ 64) × (length (objects f (tree_of small_ballot)) < 2 ^ 64)
unfolding serde_json_on_literals
few family.Unit = (lit< tt, lit< tt)
few f = (lit< tt, lit< tt)

both_fit : HasFittingNumbers (tree_of one_unit) × HasFittingNumbers (tree_of small_ballot)
unfolding serde_json_on_literals
both_fit = (grind arith, grind arith)

pub form_of_one_unit : IsCanonicalFormOf None (tree_of one_unit) (tree_of one_unit_canonical)
form_of_one_unit = form_of one_unit one_unit_canonical one_unit_is_faultless one_unit_is_accepted (λ f. (few f).0) both_fit.0 one_unit_built

pub form_of_small_ballot : IsCanonicalFormOf None (tree_of small_ballot) (tree_of small_ballot_canonical)
form_of_small_ballot = form_of small_ballot small_ballot_canonical small_ballot_is_faultless small_ballot_is_accepted (λ f. (few f).1)
    both_fit.1 small_ballot_built

-- a canonical form is nested no deeper than its report
no_deeper : IsNoDeeper (tree_of small_ballot_canonical) (tree_of small_ballot)
unfolding serde_json_on_literals
no_deeper = omega arith

-- ---- a test finds both in form: no member of the table is an empty array, and each set rises

-- each entry is below each later one
abbrev rises : {A : Type 0} → (A → A → Ordering) → List A → Bool
rises cmp [] = true
rises cmp (x ∷ xs) = list_all (λ y. is_lt (cmp x y)) xs && rises cmp xs

rising : {A : Type 0} (cmp : A → A → Ordering) (xs : List A) → rises cmp xs ≡ true → IsStrictlySortedBy cmp xs
unfolding IsStrictlySortedBy
rising cmp [] e = tt
rising cmp (x ∷ xs) e =
    let both = and_parts (list_all (λ y. is_lt (cmp x y)) xs) (rises cmp xs) e in
    (all_from_In (λ y. cmp x y ≡ Less) xs (λ y i. less (cmp x y) (each_holds (λ y. is_lt (cmp x y)) xs y both.0 i)), rising cmp xs both.1)

-- the same of the entries of a set of this kind
abbrev rises_as : Data → MemberKind → List Data → Bool
rises_as t (kind.Keyed family.Selection) ds = rises (option_cmp name_cmp) (map (name_of None t) ds)
rises_as t (kind.Keyed f) ds = rises (option_cmp key_cmp) (keys_of None ds)
rises_as t kind.Elections ds = rises (option_cmp key_cmp) (keys_of None ds)
rises_as t kind.Identifiers ds = rises compact_cmp ds
rises_as t kind.Languages ds = rises compact_cmp ds
rises_as t (kind.Many f) ds = rises (option_cmp key_cmp) (keys_referred None t f ds)
rises_as t k ds = true

keyed_rising : (t : Data) (f : Family) (ds : List Data) → rises_as t (kind.Keyed f) ds ≡ true → RisesAs None t (kind.Keyed f) ds
keyed_rising t family.Selection ds e = rising (option_cmp name_cmp) (map (name_of None t) ds) e
keyed_rising t f ds e = rising (option_cmp key_cmp) (keys_of None ds) e

rising_as : (t : Data) (k : MemberKind) (ds : List Data) → rises_as t k ds ≡ true → RisesAs None t k ds
rising_as t (kind.Keyed f) ds e = keyed_rising t f ds e
rising_as t kind.Elections ds e = rising (option_cmp key_cmp) (keys_of None ds) e
rising_as t kind.Identifiers ds e = rising compact_cmp ds e
rising_as t kind.Languages ds e = rising compact_cmp ds e
rising_as t (kind.Many f) ds e = rising (option_cmp key_cmp) (keys_referred None t f ds) e
rising_as t k ds e = tt

abbrev is_in_form : Data → Option MemberKind → Data → Bool
is_in_form t None d = true
is_in_form t (Some k) d = not (is_empty_array d) && rises_as t k (entries_of d)

abbrev are_in_form : Data → Bool
are_in_form t = list_all {X = AskedPlace} (λ x. is_in_form t (kind_wanted x.1.want) x.1.value) (all_asked t)

in_form : (t : Data) → are_in_form t ≡ true → (p : List Step) (a : Asked) (k : MemberKind) → asked_at t p ≡ Some a → kind_wanted a.want ≡ Some k
    → (is_empty_array a.value ≡ false) × RisesAs None t k (entries_of a.value)
in_form t test p a k at wanted =
    let here : is_in_form t (kind_wanted a.want) a.value ≡ true = tested_at (λ x. is_in_form t (kind_wanted x.1.want) x.1.value) t test p a at in
    let both = and_parts (not (is_empty_array a.value)) (rises_as t k (entries_of a.value)) (subst (λ o. is_in_form t o a.value ≡ true) wanted here) in
    (not-true (is_empty_array a.value) both.0, rising_as t k (entries_of a.value) both.1)

-- so the test says what the definitions do
tested : (t : Data) → are_in_form t ≡ true → HasNoEmptyArray t × AreSetsInOrder None t
tested t test = (λ p a k at wanted. (in_form t test p a k at wanted).0, λ p a k at wanted. (in_form t test p a k at wanted).1)

both_in_form : (are_in_form (tree_of one_unit_canonical) ≡ true) × (are_in_form (tree_of small_ballot_canonical) ≡ true)
unfolding serde_json_on_literals
both_in_form = (refl, refl)

-- ---- as its vendor wrote it, a report is not canonical

small_ballot_is_not : IsCanonical None (tree_of small_ballot) → ⊥
unfolding serde_json_on_literals
small_ballot_is_not h = absurd (cc h.envelope.format)

no_envelope : HasCanonicalEnvelope (tree_of one_unit) → ⊥
unfolding serde_json_on_literals
no_envelope h = absurd (cc h.format)

abbrev first_unit : Data → Placed
first_unit t = unwrap_or (slice_get (objects family.Unit t) 0) (report_of t)

first_stands : IsObject (tree_of small_ballot) family.Unit (first_unit (tree_of small_ballot))
unfolding serde_json_on_literals
first_stands = (0, lit< tt, refl)

other_ids : HasCanonicalIds None (tree_of small_ballot) → ⊥
unfolding serde_json_on_literals digits
other_ids h =
    true≢false (ap (λ id. option_map_or (bytes_eq (codes "a2")) id false) (h.families family.Unit (first_unit (tree_of small_ballot)) refl first_stands))

-- ---- pairs sorted by their keys with the order of equal keys kept, and lists that are no such sorting

-- no key is equal to two of which one is less
not_both : {K : Type 0} (cmp : K → K → Ordering) (total : IsTotalOrder cmp) (a b k : K) → cmp a b ≡ Less → (one two : Ordering) → cmp a k ≡ one → cmp b k ≡ two
    → is_eq one ≡ true → is_eq two ≡ true → ⊥
not_both cmp total a b k less Equal Equal is_one is_two h g =
    let back : cmp k b ≡ Equal = total.antisymm k b ∙ ap ordering_reverse is_two in
    let same : Less ≡ Equal = sym less ∙ (total.congr a k b is_one ∙ back) in absurd (cc same)
not_both cmp total a b k less one two is_one is_two h g = absurd (cc)

-- ---- two keys, twice each

-- the greater key first
abbrev given : {K : Type 0} → K → K → List (K × ℕ)
given a b = (b, 10) ∷ (a, 11) ∷ (b, 12) ∷ (a, 13) ∷ []

abbrev sorted : {K : Type 0} → K → K → List (K × ℕ)
sorted a b = (a, 11) ∷ (a, 13) ∷ (b, 10) ∷ (b, 12) ∷ []

same_pairs : {K : Type 0} (cmp : K → K → Ordering) (a b k : K) (one two : Bool) → is_eq (cmp a k) ≡ one → is_eq (cmp b k) ≡ two
    → (one ≡ true → two ≡ true → ⊥) → pairs_of cmp k (sorted a b) ≡ pairs_of cmp k (given a b)
same_pairs cmp a b k true true is_one is_two apart = absurd (apart refl refl)
same_pairs cmp a b k one two is_one is_two apart = rw (is_one, is_two)

keys_rise : {K : Type 0} (cmp : K → K → Ordering) (total : IsTotalOrder cmp) (a b : K) → cmp a b ≡ Less → (k : ℕ) (d : K × ℕ) → 0 ≤ k → k + 1 < 4
    → is_lt (cmp (slice_index_or (sorted a b) (k + 1) d).0 (slice_index_or (sorted a b) k d).0) ≡ false
keys_rise cmp total a b less zero d low high = ap is_lt (tied_itself total a)
keys_rise cmp total a b less (suc zero) d low high = ap is_lt (total.antisymm b a ∙ ap ordering_reverse less)
keys_rise cmp total a b less (suc (suc zero)) d low high = ap is_lt (tied_itself total b)
keys_rise cmp total a b less (suc (suc (suc k))) d low high = absurd (omega arith)

-- the pairs of each key follow one another as they did
stably_sorted : {K : Type 0} (cmp : K → K → Ordering) → IsTotalOrder cmp → (a b : K) → cmp a b ≡ Less → IsStablySorted cmp (given a b) (sorted a b)
stably_sorted cmp total a b less = record {
  never_falls = keys_rise cmp total a b less;
  same = λ k. same_pairs cmp a b k (is_eq (cmp a k)) (is_eq (cmp b k)) refl refl (not_both cmp total a b k less (cmp a k) (cmp b k) refl refl);
}

abbrev IsSortedByNumber : List (ℕ × ℕ) → List (ℕ × ℕ) → Type 0
IsSortedByNumber = IsStablySorted nat_cmp

abbrev IsSortedByKey : List (Key × ℕ) → List (Key × ℕ) → Type 0
IsSortedByKey = IsStablySorted key_cmp

by_numbers : IsSortedByNumber ((2, 10) ∷ (1, 11) ∷ (2, 12) ∷ (1, 13) ∷ []) ((1, 11) ∷ (1, 13) ∷ (2, 10) ∷ (2, 12) ∷ [])
by_numbers = stably_sorted nat_cmp nat_cmp_total 1 2 refl

-- keys are in a total order
keys_total : IsTotalOrder key_cmp
keys_total = then_total (on_total (λ k. k.kind) nat_list_cmp_total)
    (then_total (on_total (λ k. k.other) nat_list_cmp_total) (on_total (λ k. k.value) nat_list_cmp_total))

by_keys : (let u = local_key (codes "U1") in let v = local_key (codes "U2") in
    IsSortedByKey ((v, 10) ∷ (u, 11) ∷ (v, 12) ∷ (u, 13) ∷ []) ((u, 11) ∷ (u, 13) ∷ (v, 10) ∷ (v, 12) ∷ []))
by_keys = stably_sorted key_cmp keys_total (local_key (codes "U1")) (local_key (codes "U2")) refl

-- nothing to sort
of_nothing : IsSortedByNumber [] []
of_nothing = record {
  never_falls = λ k d low high. absurd (omega arith);
  same = λ k. refl;
}

-- ---- refused

-- the pairs of the lesser key change places
pairs_exchanged : IsSortedByNumber ((2, 10) ∷ (1, 11) ∷ (2, 12) ∷ (1, 13) ∷ []) ((1, 13) ∷ (1, 11) ∷ (2, 10) ∷ (2, 12) ∷ []) → ⊥
pairs_exchanged h = absurd (cc (ap (map (λ pair. pair.1)) (h.same 1)))

-- a pair of the lesser key is left out; one stands twice; one of another key is added
dropped : IsSortedByNumber ((2, 10) ∷ (1, 11) ∷ (2, 12) ∷ (1, 13) ∷ []) ((1, 11) ∷ (2, 10) ∷ (2, 12) ∷ []) → ⊥
dropped h = absurd (cc (h.same 1))

doubled : IsSortedByNumber ((2, 10) ∷ (1, 11) ∷ []) ((1, 11) ∷ (1, 11) ∷ (2, 10) ∷ []) → ⊥
doubled h = absurd (cc (h.same 1))

added : IsSortedByNumber ((2, 10) ∷ (1, 11) ∷ []) ((1, 11) ∷ (2, 10) ∷ (3, 12) ∷ []) → ⊥
added h = absurd (cc (h.same 3))

-- the keys fall
unsorted : IsSortedByNumber ((2, 10) ∷ (1, 11) ∷ []) ((2, 10) ∷ (1, 11) ∷ []) → ⊥
unsorted h = absurd (cc (h.never_falls 0 (0, 0) (omega arith) (omega arith)))

-- ---- `@id` texts

ids_of_units : canonical_id family.Unit 9 ≡ Some (codes "gp10")
unfolding digits
ids_of_units = refl

ids_of_selections : canonical_selection_id 2 0 ≡ codes "cs3-1"
unfolding digits
ids_of_selections = refl

abbrev ranked : Family → ℕ → List (Option (List ℕ))
ranked f zero = []
ranked f (suc n) = ranked f n ++ canonical_id f n ∷ []

-- the objects of the canonical small ballot have these names; the style has none
canonical_ids : (let u = tree_of small_ballot_canonical in
    map (λ f. ids_in f u) (family.Unit ∷ family.Party ∷ family.Person ∷ family.Office ∷ family.Header ∷ family.Candidate ∷ family.Contest ∷ family.Style ∷ []))
    ≡ ranked family.Unit 2 ∷ ranked family.Party 1 ∷ ranked family.Person 1 ∷ ranked family.Office 1 ∷ ranked family.Header 1 ∷ ranked family.Candidate 3
    ∷ ranked family.Contest 2 ∷ (None ∷ []) ∷ []
unfolding serde_json_on_literals digits
canonical_ids = refl

canonical_selection_ids : ids_in family.Selection (tree_of small_ballot_canonical)
    ≡ Some (canonical_selection_id 0 0) ∷ Some (canonical_selection_id 0 1) ∷ Some (canonical_selection_id 0 2) ∷ Some (canonical_selection_id 1 0)
    ∷ Some (canonical_selection_id 1 1) ∷ []
unfolding serde_json_on_literals digits
canonical_selection_ids = refl

-- ---- orders

abbrev entries_at_place : Data → List Step → List Data
entries_at_place t p = unwrap_or (option_map (λ a. entries_of a.value) (asked_at t p)) []

-- units, candidates, contests; the selections of each contest; a set of references; translations
abbrev orders : Data → List Step → List Step → List Bool
orders t references translations =
    map (λ f. rises (option_cmp key_cmp) (placed_keys None f t)) (family.Unit ∷ family.Candidate ∷ family.Contest ∷ [])
    ++ (map (λ contest. rises (option_cmp name_cmp) (names_in None t contest)) (contests t)
    ++ rises (option_cmp key_cmp) (keys_referred None t family.Candidate (entries_at_place t references)) ∷ rises compact_cmp
    (entries_at_place t translations) ∷ [])

canonical_orders : orders (tree_of small_ballot_canonical) (Name (codes "Election") ∷ At 0 ∷ Name (codes "Contest") ∷ At 0 ∷ Name (codes "ContestSelection")
    ∷ At 1 ∷ Name (codes "CandidateIds") ∷ []) (Name (codes "Election") ∷ At 0 ∷ Name (codes "Contest") ∷ At 1 ∷ Name (codes "ContestSelection") ∷ At 1
    ∷ Name (codes "Selection") ∷ Name (codes "Text") ∷ []) ≡ true ∷ true ∷ true ∷ true ∷ true ∷ true ∷ true ∷ []
unfolding serde_json_on_literals
canonical_orders = refl

-- the input has its contests in order, and nothing else
other_orders : orders (tree_of small_ballot) (Name (codes "Election") ∷ At 0 ∷ Name (codes "Contest") ∷ At 0 ∷ Name (codes "ContestSelection") ∷ At 0
    ∷ Name (codes "CandidateIds") ∷ []) (Name (codes "Election") ∷ At 0 ∷ Name (codes "Contest") ∷ At 1 ∷ Name (codes "ContestSelection") ∷ At 0
    ∷ Name (codes "Selection") ∷ Name (codes "Text") ∷ []) ≡ false ∷ false ∷ true ∷ false ∷ false ∷ false ∷ false ∷ []
unfolding serde_json_on_literals
other_orders = refl

-- ---- rearrangements

-- the `@id` and the references follow; labels and carried texts of the same bytes stay
renamed_unit : renamed ((codes "u7", codes "k") ∷ []) (tree_of (codes "{\"@type\":\"ElectionResults.ElectionReport\",\"Status\":\"pre-election\""
    ++ codes ",\"Note\":\"u7\",\"GpUnit\":[{\"@id\":\"u7\",\"@type\":\"ElectionResults.ReportingUnit\",\"Type\":\"u7\",\"ComposingGpUnitIds\":[\"u7\"]"
    ++ codes ",\"ContactInformation\":{\"Name\":\"u7\"}}],\"Election\":[{\"@type\":\"ElectionResults.Election\",\"Name\":\"u7\",\"ElectionScopeId\":\"u7\"}]}"))
    ≡ tree_of (codes "{\"@type\":\"ElectionResults.ElectionReport\",\"Status\":\"pre-election\",\"Note\":\"u7\",\"GpUnit\":[{\"@id\":\"k\""
    ++ codes ",\"@type\":\"ElectionResults.ReportingUnit\",\"Type\":\"u7\",\"ComposingGpUnitIds\":[\"k\"],\"ContactInformation\":{\"Name\":\"u7\"}}]"
    ++ codes ",\"Election\":[{\"@type\":\"ElectionResults.Election\",\"Name\":\"u7\",\"ElectionScopeId\":\"k\"}]}")
unfolding serde_json_on_literals
renamed_unit = refl

-- exchanged twice the report is as it was; once, its units and the keys of a set of references stand the other way round
exchanged_units : (let t = tree_of small_ballot in
    (changed (an_exchange (Name (codes "GpUnit") ∷ []) 0 1) (changed (an_exchange (Name (codes "GpUnit") ∷ []) 0 1) t) ≡ t)
    × (rises (option_cmp key_cmp) (placed_keys None family.Unit (exchanged (Name (codes "GpUnit") ∷ []) 0 1 t)) ≡ true) × (rises (option_cmp key_cmp)
    (keys_referred None t family.Candidate
    (entries_at_place
    (exchanged (Name (codes "Election") ∷ At 0 ∷ Name (codes "Contest") ∷ At 0 ∷ Name (codes "ContestSelection") ∷ At 0 ∷ Name (codes "CandidateIds") ∷ [])
    0 1 t) (Name (codes "Election") ∷ At 0 ∷ Name (codes "Contest") ∷ At 0 ∷ Name (codes "ContestSelection") ∷ At 0 ∷ Name (codes "CandidateIds") ∷ [])))
    ≡ true))
unfolding serde_json_on_literals
exchanged_units = (refl, refl, refl)

-- every `@id` of the small ballot with another text
abbrev other_texts : Renaming
other_texts =
    (codes "a1", codes "z1") ∷ (codes "a2", codes "z2") ∷ (codes "a3", codes "z3") ∷ (codes "a4", codes "z4") ∷ (codes "a5", codes "z5")
    ∷ (codes "a6", codes "z6") ∷ (codes "a7", codes "z7") ∷ (codes "a8", codes "z8") ∷ (codes "a9", codes "z9") ∷ (codes "a10", codes "z10")
    ∷ (codes "a11", codes "z11") ∷ (codes "a12", codes "z12") ∷ (codes "a13", codes "z13") ∷ (codes "a14", codes "z14") ∷ (codes "a15", codes "z15")
    ∷ (codes "a16", codes "z16") ∷ (codes "a17", codes "z17") ∷ []

abbrev rearranged : Data → Data
rearranged t =
    changed (an_exchange (Name (codes "Election") ∷ At 0 ∷ Name (codes "Contest") ∷ At 0 ∷ Name (codes "ContestSelection") ∷ At 0
    ∷ Name (codes "CandidateIds") ∷ []) 0 1)
    (changed (an_exchange (Name (codes "Election") ∷ At 0 ∷ Name (codes "Candidate") ∷ []) 0 2)
    (changed (a_renaming other_texts) (changed (an_exchange (Name (codes "GpUnit") ∷ []) 0 1) t)))

abbrev key_values : Option NameParts → List (List ℕ)
key_values name = option_map_or (λ n. map (λ k. k.value) n.keys) name []

-- renamed and with sets in other orders: the candidates stand in another order under other `@id` texts
rearranged_ids : (let u = rearranged (tree_of small_ballot) in ids_in family.Candidate u) ≡ Some (codes "z6") ∷ Some (codes "z5") ∷ Some (codes "z7") ∷ []
unfolding serde_json_on_literals
rearranged_ids = refl

-- the selections are named by the same keys, in the same order
rearranged_names : (let u = rearranged (tree_of small_ballot) in map (λ contest. map key_values (names_in None u contest)) (contests u))
    ≡ ((codes "K1" ∷ codes "K2" ∷ []) ∷ (codes "K3" ∷ []) ∷ [] ∷ []) ∷ ([] ∷ [] ∷ []) ∷ []
unfolding serde_json_on_literals
rearranged_names = refl

-- the references of a candidate and of a contest mean the same keys
rearranged_references : (let u = rearranged (tree_of small_ballot) in
    members_of u family.Candidate (codes "K1") (codes "PersonId" ∷ []) ++ members_of u family.Contest (codes "C1") (codes "ElectionDistrictId" ∷ []))
    ≡ Some (a_plain (a_key (Some (local_key (codes "Q1"))))) ∷ Some (a_plain (a_key (Some (local_key (codes "U1"))))) ∷ []
unfolding serde_json_on_literals
rearranged_references = refl

-- a set may be rearranged, the array of elections among them; the order of a ballot may not, nor a list of selections, nor a
-- position that has no entry
allowed_exchanges : (let t = tree_of small_ballot in
    HasEntries t (Name (codes "Election") ∷ At 0 ∷ Name (codes "Contest") ∷ At 1 ∷ Name (codes "ContestSelection") ∷ []) 0 1
    × ¬ HasEntries t (Name (codes "Election") ∷ At 0 ∷ Name (codes "BallotStyle") ∷ At 0 ∷ Name (codes "OrderedContent") ∷ []) 0 1
    × ¬ HasEntries t (Name (codes "Election") ∷ At 0 ∷ Name (codes "BallotStyle") ∷ At 0 ∷ Name (codes "OrderedContent") ∷ At 0 ∷ Name (codes "OrderedContent")
    ∷ At 0 ∷ Name (codes "OrderedContestSelectionIds") ∷ []) 0 1
    × HasEntries t (Name (codes "Election") ∷ []) 0 0 × ¬ HasEntries t (Name (codes "Election") ∷ []) 0 1)
unfolding serde_json_on_literals
allowed_exchanges = ((refl, lit< tt, lit< tt), λ h. true≢false (sym h.0), λ h. true≢false (sym h.0), (refl, lit< tt, lit< tt), λ h. absurd (omega (arith, h.2)))
