-- The first difference of reports of elections: a contest in another election, and an election that has lost its key.
use Rattle.erd_compare.proofs.Common.{[], ◌≡◌, ℕ, Bool, true, false, List, ◌∷◌, ◌++◌, slice_get, Some, None, codes, Option, find, option_and_then, bytes_eq}
use Rattle.erd_compare.proofs.Common.{is_eq, unwrap_or, sym, refl, ap, ◌∙◌, subst, true≢false, option_cmp, Data, null, Family, family, role, tree_of, election}
use Rattle.erd_compare.proofs.Common.{one_unit, report_of_two, key_cmp, key_of, ObjectRecord, Placed, report_of, elections, meaning, member_of_class}
use Rattle.erd_compare.proofs.Common.{object_record, record_in_election, records_of, serde_json_on_literals, one_unit_report, status, unit, identifier}
use Rattle.erd_compare.proofs.Common.{other_election, party_contest, local_key, same_object, is_key_in, value_with_key, same_at_key, HaveKeys, keys_of_family}
use Rattle.erd_compare.proofs.Common.{nothing_at, election_has_key, no_election_id, equal_keys, Key, part_cmp, record_at, DifferFirstAt, IsFirstDifference}
use Rattle.erd_compare.proofs.Common.{Member, OnlyLeft, OnlyRight, Part}
use Rattle.std.specs.Prelude.{⊤}
use Rattle.std.specs.declared.cmp.Ordering.TheVariants.{Less}
use Rattle.erd_compare.proofs.examples.FirstDifferenceExamples.{before_elections, not_in, same_units}
use Rattle.std.specs.List.Sorted.{IsStrictlySortedBy}
use Rattle.erd_compare.specs.code.DifferingNames.{AreNames}
use Rattle.erd_compare.proofs.differing.RecordWays.{names_of_two}
use Rattle.erd_tables.specs.declared.class.Class.TheVariants as class
use Rattle.erd_compare.specs.declared.difference.Part.TheVariants as part

-- ---- reports

-- a report of the elections E2 and E1, with these contests
abbrev two_elections : List ℕ → List ℕ → Data
two_elections later earlier =
    tree_of (report_of_two (election ++ codes "," ++ identifier (codes "E2") ++ codes ",\"Contest\":[" ++ later ++ codes "]")
    (other_election ++ codes "," ++ identifier (codes "E1") ++ codes ",\"Contest\":[" ++ earlier ++ codes "]"))

-- the contest C2 stands in the election E2, or was moved into E1
abbrev left : Data
left = two_elections (party_contest (codes "c2") (codes "C2")) (party_contest (codes "c3") (codes "C3") ++ codes "," ++ party_contest (codes "c1") (codes "C1"))

abbrev moved : Data
moved = two_elections [] (party_contest (codes "c3") (codes "C3") ++ codes "," ++ party_contest (codes "c1") (codes "C1") ++ codes ","
    ++ party_contest (codes "c2") (codes "C2"))

-- ---- what is the same

-- the elections in two lists have one key each, and mean the same
abbrev AreSameElections : Data → Data → List Placed → List Placed → Type 0
AreSameElections t u [] [] = ⊤
AreSameElections t u (d ∷ ds) (e ∷ es) =
    (key_of None d.value ≡ key_of None e.value) × (object_record None t role.Election d.value ≡ object_record None u role.Election e.value)
    × AreSameElections t u ds es
AreSameElections t u ds es = ⊥

abbrev found : Data → Option Key → List Placed → Option ObjectRecord
found t k es = option_and_then (λ (e : Placed). object_record None t role.Election e.value) (find (election_has_key None k) es)

same_elections : (t u : Data) (ds es : List Placed) → AreSameElections t u ds es → (k : Option Key) → found t k ds ≡ found u k es
same_elections t u [] [] h k = refl
same_elections t u (d ∷ ds) (e ∷ es) h k = at (election_has_key None k d) refl (ap (λ l. is_eq (option_cmp key_cmp l k)) (sym h.0))
    (same_elections t u ds es h.2 k)
  where
    at : (b : Bool) → election_has_key None k d ≡ b → election_has_key None k e ≡ election_has_key None k d → found t k ds ≡ found u k es
        → found t k (d ∷ ds) ≡ found u k (e ∷ es)
    at true is also rest = let other : election_has_key None k e ≡ true = also ∙ is in rw (is, other) h.1
    at false is also rest = let other : election_has_key None k e ≡ false = also ∙ is in rw (is, other) rest
same_elections t u [] (e ∷ es) h k = absurd h
same_elections t u (d ∷ ds) [] h k = absurd h

-- the election at a position
abbrev election_at : Data → ℕ → Data
election_at t i = (unwrap_or (slice_get (elections t) i) (report_of null)).value

both_elections : AreSameElections left moved (elections left) (elections moved)
unfolding serde_json_on_literals
both_elections = (
  refl,
  same_object None left moved (election_at left 0) (election_at moved 0) role.Election class.Election refl refl refl,
  (refl, same_object None left moved (election_at left 1) (election_at moved 1) role.Election class.Election refl refl refl, tt),
)

-- ---- the contest that was moved

abbrev key : Key
key = local_key (codes "C2")

abbrev its_record : Data → ObjectRecord
its_record t = record { class = class.PartyContest; members = member_of_class None t (value_with_key None t family.Contest key) class.PartyContest }

same_contest : Some (its_record left) ≡ Some (its_record moved)
unfolding serde_json_on_literals
same_contest = same_object None left moved (value_with_key None left family.Contest key) (value_with_key None moved family.Contest key)
    (role.OfFamily family.Contest) class.PartyContest refl refl refl

abbrev is_later : Option Key → Bool
is_later None = false
is_later (Some k) = bytes_eq k.value (codes "E2")

apart : Some (local_key (codes "E2")) ≡ Some (local_key (codes "E1")) → ⊥
apart e = true≢false (ap is_later e)

its_members : (a b : ObjectRecord) → Some a ≡ Some b → a.members ≡ b.members
its_members a b e = let same : a ≡ b = cc in ap (λ (r : ObjectRecord). r.members) same

-- its class and all its members are the same; only its election is another
differs_in_election : DifferFirstAt (record_in_election (Some (local_key (codes "E2"))) (its_record left))
    (record_in_election (Some (local_key (codes "E1"))) (its_record moved)) (codes "ElectionId")
unfolding IsStrictlySortedBy
differs_in_election =
    let mine = its_record left in
    let its = its_record moved in
    let none : AreNames false mine.members its.members [] =
    record { rise = tt; differ = tt; first = its_members mine its same_contest; each = λ yes. absurd (true≢false (sym yes)) } in
    let told =
    names_of_two mine.members its.members (no_election_id None left (value_with_key None left family.Contest key) class.PartyContest)
    (no_election_id None moved (value_with_key None moved family.Contest key) class.PartyContest) false []
    none (Some (local_key (codes "E2"))) (Some (local_key (codes "E1"))) apart in
    record { same_class = refl; differ = told.first.differ; least = told.first.least }

earlier_contest : records_of None left family.Contest (local_key (codes "C1")) ≡ records_of None moved family.Contest (local_key (codes "C1"))
unfolding serde_json_on_literals
earlier_contest = same_at_key None left moved family.Contest (local_key (codes "C1")) class.PartyContest refl (refl, refl, refl, refl, refl, refl)

keys_left : HaveKeys None left family.Contest (key ∷ local_key (codes "C3") ∷ local_key (codes "C1") ∷ [])
unfolding serde_json_on_literals
keys_left = keys_of_family None left family.Contest (key ∷ local_key (codes "C3") ∷ local_key (codes "C1") ∷ []) refl

keys_moved : HaveKeys None moved family.Contest (local_key (codes "C3") ∷ local_key (codes "C1") ∷ key ∷ [])
unfolding serde_json_on_literals
keys_moved = keys_of_family None moved family.Contest (local_key (codes "C3") ∷ local_key (codes "C1") ∷ key ∷ []) refl

contests_below : (k : Key) → key_cmp k key ≡ Less → records_of None left family.Contest k ≡ records_of None moved family.Contest k
contests_below k less = at (is_eq (key_cmp (local_key (codes "C1")) k)) refl
  where
    none : (l : Key) (b : Bool) → is_eq (key_cmp l k) ≡ b → is_key_in (l ∷ []) k ≡ false → b ≡ false
    none l false is out = refl
    none l true is out = let clash : is_key_in (l ∷ []) k ≡ true = rw is in absurd (true≢false (sym clash ∙ out))

    second : is_eq (key_cmp key k) ≡ false
    second = none key (is_eq (key_cmp key k)) refl (not_in key k key less refl)

    third : is_eq (key_cmp (local_key (codes "C3")) k) ≡ false
    third = none (local_key (codes "C3")) (is_eq (key_cmp (local_key (codes "C3")) k)) refl (not_in (local_key (codes "C3")) k key less refl)

    at : (b : Bool) → is_eq (key_cmp (local_key (codes "C1")) k) ≡ b → records_of None left family.Contest k ≡ records_of None moved family.Contest k
    at true is = subst (λ l. records_of None left family.Contest l ≡ records_of None moved family.Contest l)
        (equal_keys (local_key (codes "C1")) k is) earlier_contest
    at false is =
        nothing_at None left family.Contest (key ∷ local_key (codes "C3") ∷ local_key (codes "C1") ∷ []) k keys_left (rw (second, third, is) refl)
        ∙ sym (nothing_at None moved family.Contest (local_key (codes "C3") ∷ local_key (codes "C1") ∷ key ∷ []) k keys_moved (rw (third, is, second) refl))

before_contest : (p : Part) (k : Option Key) → part_cmp p k part.Contest (Some key) ≡ Less → record_at (meaning None left) p k
    ≡ record_at (meaning None moved) p k
unfolding serde_json_on_literals
before_contest part.Report None less = same_object None left moved left moved role.Report class.ElectionReport refl refl refl
before_contest part.Report (Some k) less = refl
before_contest part.Unit None less = refl
before_contest part.Unit (Some k) less = same_units left moved (refl, refl, refl, refl, refl, refl) refl refl k
before_contest part.Election k less = same_elections left moved (elections left) (elections moved) both_elections k
before_contest part.Contest None less = refl
before_contest part.Contest (Some k) less = contests_below k less
before_contest part.Style k less = absurd (cc less)
before_contest p None less = refl
before_contest p (Some k) less = refl

first_is_election : IsFirstDifference (meaning None left) (meaning None moved)
    (record { part = part.Contest; key = Some key; how = Member (codes "ElectionId") })
unfolding serde_json_on_literals
first_is_election = record { differ = differs_in_election; least = before_contest }

-- ---- an election that has lost its key

-- the one election has the identifier E1, or none
abbrev with_key : Data
with_key = tree_of (one_unit_report status unit (election ++ codes "," ++ identifier (codes "E1")))

abbrev without_key : Data
without_key = tree_of one_unit

keyed_objects : (f : Family) (k : Key) → records_of None with_key f k ≡ records_of None without_key f k
unfolding serde_json_on_literals
keyed_objects family.Unit k = same_units with_key without_key (refl, refl, refl, refl, refl, refl) refl refl k
keyed_objects f k = refl

before_election : (p : Part) (k : Option Key) → part_cmp p k part.Election None ≡ Less → record_at (meaning None with_key) p k
    ≡ record_at (meaning None without_key) p k
unfolding serde_json_on_literals
before_election = before_elections (meaning None with_key) (meaning None without_key)
    (same_object None with_key without_key with_key without_key role.Report class.ElectionReport refl refl refl) keyed_objects

-- no key comes before each key, so the election on the right is told
first_is_without : IsFirstDifference (meaning None with_key) (meaning None without_key) (record { part = part.Election; key = None; how = OnlyRight })
unfolding serde_json_on_literals
first_is_without = record { differ = refl; least = before_election }

first_is_without_left : IsFirstDifference (meaning None without_key) (meaning None with_key) (record { part = part.Election; key = None; how = OnlyLeft })
unfolding serde_json_on_literals
first_is_without_left = record { differ = refl; least = λ p k less. sym (before_election p k less) }
