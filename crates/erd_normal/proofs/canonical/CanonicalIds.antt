-- Canonical `@id` texts, elections that are matched, entries that a contest has, and the envelope that is built.
use Rattle.erd_normal.proofs.Common.{HasCanonicalEnvelope, ◌≡◌, ℕ, ◌+◌, ◌^◌, ◌<◌, ◌≤◌, List, [], ◌∷◌, ◌++◌, length, take, drop, Some, None, Option, find}
use Rattle.erd_normal.proofs.Common.{flat_map, bytes_eq, unwrap_or, sym, refl, ap, ◌∙◌, subst, ap₂, arith, length-append, Data, families, Family, family}
use Rattle.erd_normal.proofs.Common.{Placed, contests, selections_of_contest, objects, IsBounded, decimal, decimal_is_IsNumeral, decimal_injective, id_prefix}
use Rattle.erd_normal.proofs.Common.{canonical_id, canonical_selection_id, In, inl, inr, true, map, nat_lt, true≢false, false_from_ne_true, tied_itself}
use Rattle.erd_normal.proofs.Common.{length-map, IsDistinct, election_has_identifier, no_identity_fault, distinct_from_one_place, distinct_map, distinct_one}
use Rattle.erd_normal.proofs.Common.{IsAccepted, Preference, key_of, elections, has_several, key_cmp_total, Key, In-map, In-map_from, false, codes}
use Rattle.erd_normal.proofs.Common.{option_and_then, AllByRecursion, array, object, Items, Members, get_member, get_item, as_str, class, role, kind, Step, At}
use Rattle.erd_normal.proofs.Common.{Name, array_from, Within-step, of_role, asked_inside_object, wanted_within, lacks_none, Within, list_of_items, entries_at}
use Rattle.erd_normal.proofs.Common.{text_at, Asked, asked, asked_inside, asked_at, Member, Reference, is_selection_in, owner, asked_at-steps, text_of, Object}
use Rattle.erd_normal.proofs.Common.{no_shape_fault, selected, class_of_node, IsSomeAnd, IsTrue, string, get, Reason, reason, ShapeFault, class_of_object}
use Rattle.erd_normal.proofs.Common.{member_want, asked_of_member, asked_from, Want, unsigned, number, is_shape_fault, envelope_rows, HasSoundEnvelope}
use Rattle.std.specs.Char.{digit_value}
use Rattle.std.specs.Str.Parse.{AllDigits}
use Rattle.erd_meaning.specs.code.ObjectWalk.{same_key}
use Rattle.erd_meaning.proofs.finding.Found.{one_election_key}
use Rattle.erd_meaning.proofs.identity.IdentityFaults.{same_key_from}
use Rattle.erd_normal.proofs.lists.Matched.{IsEven, Matched, distinct_matched, matched_back, matched_length}
use Rattle.erd_normal.proofs.inside.Entries.{all_items}
use Rattle.erd_normal.proofs.same.IdsOfObjects.{Refers, reference_refers}
use Rattle.erd_normal.proofs.inside.Homes.{row_named}

-- ---- canonical `@id` texts tell objects and selections apart, as long as a report has fewer of them than a word counts

-- the family that the first letters of an `@id` name
abbrev family_of_id : List ℕ → Option Family
family_of_id s = find (λ f. bytes_eq (unwrap_or (id_prefix f) []) (take 2 s)) families

-- the letters name the family, and the digits the number
kept : (f : Family) (i : ℕ) (s : List ℕ) → canonical_id f i ≡ Some s → (family_of_id s ≡ Some f) × (drop 2 s ≡ decimal (i + 1))
kept family.Style i s e = cc
kept family.Selection i s e = cc
kept f i s e = subst (λ x. (family_of_id x ≡ Some f) × (drop 2 x ≡ decimal (i + 1))) (ap (λ o. unwrap_or o []) e) (refl, refl)

-- one `@id`, one family and position
pub canonical_id_exact : (f g : Family) (i j : ℕ) (s : List ℕ) → i + 1 < 2 ^ 64 → j + 1 < 2 ^ 64 → canonical_id f i ≡ Some s → canonical_id g j
    ≡ Some s → (f ≡ g) × (i ≡ j)
canonical_id_exact f g i j s low low' e h =
    let families_same : Some f ≡ Some g = sym (kept f i s e).0 ∙ (kept g j s h).0 in
    let numbers : i + 1 ≡ j + 1 = decimal_injective (i + 1) (j + 1) low low' (sym (kept f i s e).1 ∙ (kept g j s h).1) in
    (cc, omega arith)

-- no object of another family has the `@id` of a selection
pub selection_id_apart : (f : Family) (i j k : ℕ) → canonical_id f k ≡ Some (canonical_selection_id i j) → ⊥
selection_id_apart f i j k e =
    let none : family_of_id (canonical_selection_id i j) ≡ None = refl in
    let h : Some f ≡ None = sym (kept f k (canonical_selection_id i j) e).0 ∙ none in
    cc

-- the dash is no digit
no_dash : (c : ℕ) → 45 ≡ c → digit_value c < 10 → ⊥
no_dash c same digit = let dash : digit_value 45 < 10 = subst (λ d. digit_value d < 10) (sym same) digit in absurd (omega (arith, dash))

-- digits before a dash end at the dash
digits_before : (xs ys us vs : List ℕ) → AllDigits 10 xs → AllDigits 10 us → xs ++ 45 ∷ ys ≡ us ++ 45 ∷ vs → (xs ≡ us) × (ys ≡ vs)
digits_before [] ys [] vs a b e = let rest : ys ≡ vs = cc in (refl, rest)
digits_before [] ys (u ∷ us) vs a b e = let first : 45 ≡ u = cc in absurd (no_dash u first b.0)
digits_before (x ∷ xs) ys [] vs a b e = let first : 45 ≡ x = cc in absurd (no_dash x first a.0)
digits_before (x ∷ xs) ys (u ∷ us) vs a b e =
    let first : x ≡ u = cc in
    let more : xs ++ 45 ∷ ys ≡ us ++ 45 ∷ vs = cc in
    let rest = digits_before xs ys us vs a.1 b.1 more in
    (ap₂ (λ y ys. y ∷ ys) first rest.0, rest.1)

-- one text, one position of a contest and one of a selection
pub canonical_selection_id_exact : (i j k l : ℕ) → i + 1 < 2 ^ 64 → j + 1 < 2 ^ 64 → k + 1 < 2 ^ 64 → l + 1 < 2 ^ 64 → canonical_selection_id i j
    ≡ canonical_selection_id k l → (i ≡ k) × (j ≡ l)
canonical_selection_id_exact i j k l low_i low_j low_k low_l e =
    let texts : decimal (i + 1) ++ 45 ∷ decimal (j + 1) ≡ decimal (k + 1) ++ 45 ∷ decimal (l + 1) = ap (drop 2) e in
    let parts = digits_before (decimal (i + 1)) (decimal (j + 1)) (decimal (k + 1)) (decimal (l + 1)) (decimal_is_IsNumeral (i + 1) low_i).0.1
    (decimal_is_IsNumeral (k + 1) low_k).0.1 texts in
    let first : i + 1 ≡ k + 1 = decimal_injective (i + 1) (k + 1) low_i low_k parts.0 in
    let second : j + 1 ≡ l + 1 = decimal_injective (j + 1) (l + 1) low_j low_l parts.1 in
    (omega (arith, first), omega (arith, second))

-- one of the lists that are put together is no longer than the whole
part_short : {A B : Type 0} (f : A → List B) (xs : List A) (x : A) → In x xs → length (f x) ≤ length (flat_map f xs)
part_short f [] x h = absurd h
part_short f (y ∷ ys) x (inl e) = subst (λ z. length (f z) ≤ length (f y ++ flat_map f ys)) e (omega (arith, length-append (f y) (flat_map f ys)))
part_short f (y ∷ ys) x (inr h) = let rest : length (f x) ≤ length (flat_map f ys) = part_short f ys x h in
    omega (arith, rest, length-append (f y) (flat_map f ys))

-- a contest has few selections
pub few_selections : (t : Data) → IsBounded t → (contest : Placed) → In contest (objects family.Contest t) → length (selections_of_contest contest) < 2 ^ 64
few_selections t bounded contest h =
    let part : length (selections_of_contest contest) ≤ length (objects family.Selection t) = part_short selections_of_contest (contests t) contest h in
    let all : length (objects family.Selection t) < 2 ^ 64 = bounded.few family.Selection in
    omega (arith, part, all)

-- ---- elections that are matched with those of an accepted report, each with one of its key, have keys where they need them,
-- and no two have one

-- the elections of a report, without their places
abbrev pub election_values : Data → List Data
election_values t = map (λ e. e.value) (elections t)

module _ (π : Preference) where
  -- two elections with one key
  twin_from : (d e : Data) (k : Key) → key_of π d ≡ Some k → key_of π e ≡ Some k → same_key (key_of π d) (key_of π e) ≡ true
  twin_from d e k a b = rw (a, b, tied_itself key_cmp_total k)

  twins_even : IsEven (λ d e. same_key (key_of π d) (key_of π e))
  twins_even d e h =
      false_from_ne_true (same_key (key_of π e) (key_of π d)) (λ g. let s = same_key_from (key_of π e) (key_of π d) g in
      true≢false (sym (twin_from d e s.0 s.2 s.1) ∙ h))

  elections_distinct : (t : Data) → IsAccepted π t → IsDistinct (λ d e. same_key (key_of π d) (key_of π e)) (election_values t)
  elections_distinct t accepted =
      distinct_map (λ (e : Placed). e.value) (λ d e. same_key (key_of π d) (key_of π e)) (elections t)
      (distinct_from_one_place (λ (d e : Placed). same_key (key_of π d.value) (key_of π e.value)) (elections t) (λ i j d e at there h.
      let s = same_key_from (key_of π d.value) (key_of π e.value) h in
      one_election_key π t (no_identity_fault π t accepted) i j d e s.0 at there s.1 s.2))

  module _ (t u : Data) (accepted : IsAccepted π t) (m : Matched (λ d e. key_of π d ≡ key_of π e) (election_values t) (election_values u)) where
    as_many : has_several u ≡ has_several t
    as_many =
        ap (nat_lt 1) (sym (length-map (elections u) (λ (e : Placed). e.value)) ∙ sym (matched_length m) ∙ length-map (elections t) (λ (e : Placed). e.value))

    pub none_keyless : (e : Placed) → has_several u ≡ true → In e (elections u) → key_of π e.value ≡ None → ⊥
    none_keyless e several h none =
        let b = matched_back e.value m (In-map (λ (x : Placed). x.value) e (elections u) h) in
        let o = In-map_from (λ (x : Placed). x.value) (elections t) b.0 b.1 in
        let k = election_has_identifier π t (no_identity_fault π t accepted) (sym as_many ∙ several) o.0 o.1 in
        let same : key_of π o.0.value ≡ None = ap (key_of π) o.2 ∙ b.2 ∙ none in
        let h : Some k.0 ≡ None = sym k.1 ∙ same in
        cc

    pub one_election : (d e : Placed) (k : Key) → In d (elections u) → In e (elections u) → key_of π d.value ≡ Some k → key_of π e.value ≡ Some k → d ≡ e
    one_election d e k h i a b =
        distinct_one (λ (x : Placed). x.value) (λ x y. same_key (key_of π x) (key_of π y)) (elections u)
        (distinct_matched (λ x y. same_key (key_of π x) (key_of π y)) (λ x y. same_key (key_of π x) (key_of π y)) twins_even
        (λ x x' y y' i j r r' h. let s = same_key_from (key_of π y) (key_of π y') h in twin_from x x' s.0 (r ∙ s.1) (r' ∙ s.2)) m
        (elections_distinct t accepted))
        d e h i (twin_from d.value e.value k a b) (twin_from e.value d.value k b a)

-- ---- each entry of an object's list in an accepted report is a selection of the contest that the object names

-- the name of the list of an object of the class OrderedContest
abbrev pub list_name : List ℕ
list_name = codes "OrderedContestSelectionIds"

module _ (π : Preference) (t : Data) (accepted : IsAccepted π t)
    (ms : Members) (w : Within t (asked (Object role.Content) (object ms))) (among : class_of_node (object ms) ≡ Some class.OrderedContest) where
  -- the reference to the contest
  pub contest_named : (v : Data) × (get_member (codes "ContestId") ms ≡ Some v) × Refers t family.Contest v
  contest_named =
      (elim (get_member (codes "ContestId") ms) as (λ o. get_member (codes "ContestId") ms ≡ o → (v : Data) × (get_member (codes "ContestId") ms ≡ Some v)
      × Refers t family.Contest v) [
        | None ↦ λ is. absurd (lacks_none t (no_shape_fault π t accepted) (asked (Object role.Content) (object ms)) (codes "ContestId") w (rw among refl) is)
        | Some v ↦ λ is. (
          v,
          is,
          reference_refers π t accepted family.Contest v
              (Within-step t (asked (Object role.Content) (object ms)) (asked (Reference family.Contest) v) (Name (codes "ContestId")) w
              (asked_inside_object (Object role.Content) role.Content ms class.OrderedContest (codes "ContestId") v of_role among refl is)),
        )
      ]) refl

  -- a reference names a selection of the contest
  abbrev pub IsChosen : Data → Type 0
  IsChosen e = Refers t family.Selection e × (is_selection_in contest_named.2.2.0 (text_of e) ≡ true)

  -- so does each reference of the list
  entry_in : (i : ℕ) (ds : Items) (e : Data) → get_member list_name ms ≡ Some (array ds) → get_item i ds ≡ Some e → IsChosen e
  entry_in i ds e stands found =
      let list : Asked = asked (Member kind.Ordered false) (array ds) in
      let first : asked_inside (Object role.Content) (object ms) (Name list_name) ≡ Some list =
      asked_inside_object (Object role.Content) role.Content ms class.OrderedContest list_name (array ds) of_role among refl stands in
      let second : asked_inside list.want list.value (At i) ≡ Some (asked (Reference family.Selection) e) = rw found refl in
      let place : List Step = w.place ++ Name list_name ∷ At i ∷ [] in
      let is : asked_at t place ≡ Some (asked (Reference family.Selection) e) =
      asked_at-steps t w.place (asked (Object role.Content) (object ms)) list (asked (Reference family.Selection) e) (Name list_name)
      (At i) w.is first second in
      let r : Refers t family.Selection e = reference_refers π t accepted family.Selection e (record { place = place; is = is }) in
      let named : owner t family.Contest (text_at (codes "ContestId") (object ms)) ≡ Some contest_named.2.2.0 =
      ap (λ o. owner t family.Contest (unwrap_or (option_and_then as_str o) [])) contest_named.1
      ∙ ap (λ x. owner t family.Contest (text_of x)) contest_named.2.1 ∙ contest_named.2.2.1 in
      let chosen : is_selection_in contest_named.2.2.0 r.0 ≡ true =
      selected π t accepted (asked (Object role.Content) (object ms)) contest_named.2.2.0 w named i r.0
      (is ∙ ap (λ x. Some (asked (Reference family.Selection) x)) r.1) in
      (r, ap (λ x. is_selection_in contest_named.2.2.0 (text_of x)) r.1 ∙ chosen)

  pub entries_chosen : AllByRecursion IsChosen (entries_at list_name (object ms))
  entries_chosen = at (get_member list_name ms) refl
    where
      at : (o : Option Data) → get_member list_name ms ≡ o → AllByRecursion IsChosen (entries_at list_name (object ms))
      at None is = rw is tt
      at (Some v) is =
          let inside : Within t (asked (Member kind.Ordered false) v) =
          Within-step t (asked (Object role.Content) (object ms)) (asked (Member kind.Ordered false) v) (Name list_name) w
          (asked_inside_object (Object role.Content) role.Content ms class.OrderedContest list_name v of_role among refl is) in
          let ds = array_from v (wanted_within t (no_shape_fault π t accepted) (asked (Member kind.Ordered false) v) inside) in
          let all : AllByRecursion IsChosen (list_of_items ds.0) = all_items IsChosen ds.0 (λ i e found. entry_in i ds.0 e (is ∙ ap Some ds.1) found) in
          rw (is, ds.1) all

-- ---- the envelope of the report that is built has no fault of shape

-- what is asked under a name of a report
asked_under : (u : Data) (n : List ℕ) → class_of_object role.Report u ≡ Some class.ElectionReport → bytes_eq n (codes "@type") ≡ false
    → asked_inside (Object role.Report) u (Name n) ≡ asked_of_member (Some (member_want class.ElectionReport n)) (get n u)
asked_under (object ms) n among other = rw (among, other) refl
asked_under u n among other = cc

-- the value has a fault of shape at a place inside what is found
abbrev FaultIn : Option Asked → List Step → Reason → Type 0
FaultIn o q r = IsSomeAnd (option_and_then (λ b. asked_from b q) o) (λ a. IsTrue (is_shape_fault a r))

word_local : (s : List ℕ) (r : Reason) → is_shape_fault (asked (Member kind.Word false) (string s)) r ≡ false
word_local s reason.WrongKind = refl
word_local s r = refl

word_sound : (s : List ℕ) (q : List Step) (r : Reason) → FaultIn (Some (asked (Member kind.Word false) (string s))) q r → ⊥
word_sound s [] r h = true≢false (sym h ∙ word_local s r)
word_sound s d r h = h

whole_local : (n : ℕ) (r : Reason) → is_shape_fault (asked (Member kind.Whole false) (number (unsigned n))) r ≡ false
whole_local n reason.NotWhole = refl
whole_local n r = refl

whole_sound : (n : ℕ) (q : List Step) (r : Reason) → FaultIn (Some (asked (Member kind.Whole false) (number (unsigned n)))) q r → ⊥
whole_sound n [] r h = true≢false (sym h ∙ whole_local n r)
whole_sound n d r h = h

module _ (u : Data) (known : class_of_object role.Report u ≡ Some class.ElectionReport) (e : HasCanonicalEnvelope u) where
  -- nothing has a fault of shape under the name
  abbrev IsSoundUnder : List ℕ → Type 0
  IsSoundUnder n = (q : List Step) (r : Reason) → ShapeFault u (Name n ∷ q) r → ⊥

  sound_under : (n : List ℕ) (w : Want) (o : Option Data) → bytes_eq n (codes "@type") ≡ false → member_want class.ElectionReport n ≡ w → get n u ≡ o
      → ((q : List Step) (r : Reason) → FaultIn (asked_of_member (Some w) o) q r → ⊥) → IsSoundUnder n
  sound_under n w o other wants stands sound q r h =
      sound q r (subst (λ x. FaultIn x q r) (asked_under u n known other ∙ ap₂ (λ v x. asked_of_member (Some v) x) wants stands) h)

  word_under : (n s : List ℕ) → bytes_eq n (codes "@type") ≡ false → member_want class.ElectionReport n ≡ Member kind.Word false
      → get n u ≡ Some (string s) → IsSoundUnder n
  word_under n s other wants stands = sound_under n (Member kind.Word false) (Some (string s)) other wants stands (word_sound s)

  whole_under : (n : List ℕ) (k : ℕ) → bytes_eq n (codes "@type") ≡ false → member_want class.ElectionReport n ≡ Member kind.Whole false
      → get n u ≡ Some (number (unsigned k)) → IsSoundUnder n
  whole_under n k other wants stands = sound_under n (Member kind.Whole false) (Some (number (unsigned k))) other wants stands (whole_sound k)

  absent_under : (n : List ℕ) → bytes_eq n (codes "@type") ≡ false → get n u ≡ None → IsSoundUnder n
  absent_under n other stands = sound_under n (member_want class.ElectionReport n) None other refl stands (λ q r h. h)

  rows_sound : AllByRecursion (λ row. IsSoundUnder row.name) envelope_rows
  rows_sound =
      let numbers : AllByRecursion (λ row. IsSoundUnder row.name) (drop 6 envelope_rows) = (
        whole_under (codes "SequenceStart") _ refl refl e.start,
        (whole_under (codes "SequenceEnd") _ refl refl e.end, (absent_under (codes "ExternalIdentifier") refl e.identifiers, tt)),
      ) in
      let names : AllByRecursion (λ row. IsSoundUnder row.name) (drop 3 envelope_rows) = (
        word_under (codes "IssuerAbbreviation") _ refl refl e.abbreviation,
        (word_under (codes "VendorApplicationId") _ refl refl e.application, (absent_under (codes "Notes") refl e.notes, numbers)),
      ) in (
        word_under (codes "Format") _ refl refl e.format,
        (word_under (codes "GeneratedDate") _ refl refl e.date, (word_under (codes "Issuer") _ refl refl e.issuer, names)),
      )

  -- the envelope of the report that is built is sound
  pub sound_envelope : HasSoundEnvelope u
  sound_envelope (Name n ∷ q) r inside h = row_named IsSoundUnder envelope_rows n rows_sound inside q r h
  sound_envelope d r inside h = let x : false ≡ true = inside in cc
