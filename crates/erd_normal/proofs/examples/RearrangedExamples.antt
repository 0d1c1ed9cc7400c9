-- Whole reports that are rearrangements of one another, changes that are refused, and reports under two preferences.
use Rattle.erd_normal.proofs.Common.{◌≡◌, Bool, true, ◌&&◌, and_parts, Data, tree_sound, is_same_json, is_tree, is_same_exact, ℕ, zero, suc, List, [], ◌∷◌}
use Rattle.erd_normal.proofs.Common.{◌++◌, map, length, if◌then◌else◌, ◌==◌, slice_get, Some, None, codes, Contains, Option, option_map, bytes_eq, unwrap_or}
use Rattle.erd_normal.proofs.Common.{sym, refl, ap, true≢false, arith, lit<, bytes_eq-Decides, list_all, list_any, option_map_or, families, family, Step, At}
use Rattle.erd_normal.proofs.Common.{Name, tree_of, small_ballot, small_ballot_canonical, one_unit, Placed, report_of, objects, id_of, IsDistinct}
use Rattle.erd_normal.proofs.Common.{serde_json_on_literals, Renaming, Change, a_renaming, an_exchange, IsRearrangement, IsRenaming, is_some, no_fault_listed}
use Rattle.erd_normal.proofs.Common.{IsTree, IsAccepted, Preference, meaning, ◌↔◌, faults_found, local_key, Key, placed_keys, SaysTheSame}
use Rattle.std.proofs.lemmas.Map.Views.{Contains-from_any}
use Rattle.erd_normal.proofs.lists.Lists.{passed, is_family}
use Rattle.erd_meaning.proofs.identity.IdentityFaults.{identity_told}
use Rattle.erd_meaning.proofs.references.ReferenceWalks.{reference_faults}
use Rattle.erd_meaning.proofs.refused.Refused.{accepted_by_lists}
use Rattle.erd_normal.proofs.rearranged.RearrangedReports.{renamed_says_the_same}
use Rattle.erd_meaning.proofs.selections.NamesTold.{selections_told}
use Rattle.erd_normal.proofs.same.complete.Complete.{preferences_agree}
use Rattle.erd_normal.proofs.same.means.Meanings.{saying_the_same_means_the_same}

-- ---- a test of equal trees

-- both are trees, and equal as JSON
abbrev pub same_tree : Data → Data → Bool
same_tree d e = is_tree d && (is_tree e && is_same_json d e)

pub equal_trees : (d e : Data) → same_tree d e ≡ true → d ≡ e
equal_trees d e h =
    let first = and_parts (is_tree d) _ h in
    let both = and_parts (is_tree e) _ first.1 in
    is_same_exact d e (tree_sound d first.0) (tree_sound e both.0) both.1

-- ---- texts with a part replaced

abbrev rest_after : List ℕ → List ℕ → Option (List ℕ)
rest_after [] text = Some text
rest_after (x ∷ xs) [] = None
rest_after (x ∷ xs) (y ∷ ys) = if x == y then rest_after xs ys else None

-- the text with the first part that is `old` replaced
abbrev pub edited : List ℕ → List ℕ → List ℕ → List ℕ
edited old new [] = []
edited old new (x ∷ xs) = unwrap_or (option_map (λ rest. new ++ rest) (rest_after old (x ∷ xs))) (x ∷ edited old new xs)

-- ---- what is a renaming

-- each `@id` of the objects is among these texts
abbrev are_among : List (List ℕ) → List Placed → Bool
are_among texts os = list_all (λ o. option_map_or (λ id. list_any (bytes_eq id) texts) (id_of o.value) true) os

-- a renaming, where no two of the pairs have one text on either side
pub renaming : (t : Data) (pairs : Renaming) → list_all (λ f. are_among (map (λ pair. pair.0) pairs) (objects f t)) families ≡ true
    → IsDistinct bytes_eq (map (λ pair. pair.0) pairs) → IsDistinct bytes_eq (map (λ pair. pair.1) pairs) → IsRenaming t pairs
renaming t pairs h left right = record {
  all = λ f o id stands is.
      let among = passed (λ o. option_map_or (λ id. list_any (bytes_eq id) (map (λ pair. pair.0) pairs)) (id_of o.value) true) (objects f t) o
      (passed (λ f. are_among (map (λ pair. pair.0) pairs) (objects f t)) families f h (is_family f)) stands in
      Contains-from_any (λ x y. (bytes_eq-Decides x y).0) id (map (λ pair. pair.0) pairs) (rw is at among);
  left = left;
  right = right;
}

-- ---- the report of one unit

abbrev pub new_name : Renaming
new_name = (codes "u7", codes "k") ∷ []

-- its `@id` and the reference to it are replaced
renamed_unit : IsRearrangement (a_renaming new_name ∷ []) (tree_of one_unit)
    (tree_of (codes "{\"@type\":\"ElectionResults.ElectionReport\",\"Status\":\"pre-election\",\"GpUnit\":[{\"@id\":\"k\""
    ++ codes ",\"@type\":\"ElectionResults.ReportingUnit\",\"Type\":\"county\""
    ++ codes ",\"ExternalIdentifier\":[{\"@type\":\"ElectionResults.ExternalIdentifier\",\"Type\":\"local-level\",\"Value\":\"U1\"}]}]"
    ++ codes ",\"Election\":[{\"@type\":\"ElectionResults.Election\",\"Name\":\"Test\",\"Type\":\"general\",\"StartDate\":\"2026-11-03\""
    ++ codes ",\"EndDate\":\"2026-11-03\",\"ElectionScopeId\":\"k\"}]}"))
unfolding serde_json_on_literals IsDistinct
renamed_unit = (renaming (tree_of one_unit) new_name refl (tt, tt) (tt, tt), refl)

-- ---- the small ballot

abbrev units_place : List Step
units_place = Name (codes "GpUnit") ∷ []

abbrev candidates_place : List Step
candidates_place = Name (codes "Election") ∷ At 0 ∷ Name (codes "Candidate") ∷ []

-- the selections of a contest
abbrev selections_place : ℕ → List Step
selections_place contest = Name (codes "Election") ∷ At 0 ∷ Name (codes "Contest") ∷ At contest ∷ Name (codes "ContestSelection") ∷ []

abbrev keys_place : ℕ → List Step
keys_place i = selections_place 0 ++ At i ∷ Name (codes "CandidateIds") ∷ []

abbrev translations_place : ℕ → List Step
translations_place i = selections_place 1 ++ At i ∷ Name (codes "Selection") ∷ Name (codes "Text") ∷ []

-- the candidates of one selection exchanged
exchanged_references : IsRearrangement (an_exchange (keys_place 0) 0 1 ∷ []) (tree_of small_ballot)
    (tree_of (edited (codes "[\"a6\",\"a5\"]") (codes "[\"a5\",\"a6\"]") small_ballot))
unfolding serde_json_on_literals
exchanged_references = ((refl, lit< tt, lit< tt), refl)

abbrev first_unit : List ℕ
first_unit = codes "{\"@id\":\"a2\",\"@type\":\"ElectionResults.ReportingUnit\",\"ExternalIdentifier\":[{\"@type\":\"ElectionResults.ExternalIdentifier\""
    ++ codes ",\"Type\":\"local-level\",\"Value\":\"U2\"}],\"Type\":\"precinct\"}"

abbrev second_unit : List ℕ
second_unit = codes "{\"@id\":\"a1\",\"@type\":\"ElectionResults.ReportingUnit\",\"ExternalIdentifier\":[{\"@type\":\"ElectionResults.ExternalIdentifier\""
    ++ codes ",\"Type\":\"local-level\",\"Value\":\"U1\"}],\"Type\":\"county\",\"ComposingGpUnitIds\":[\"a2\"]}"

-- its units exchanged
exchanged_units : IsRearrangement (an_exchange units_place 0 1 ∷ []) (tree_of small_ballot)
    (tree_of (edited (first_unit ++ codes "," ++ second_unit) (second_unit ++ codes "," ++ first_unit) small_ballot))
unfolding serde_json_on_literals
exchanged_units = ((refl, lit< tt, lit< tt), refl)

-- the names of the canonical form
abbrev pub canonical_names : Renaming
canonical_names =
    (codes "a1", codes "gp1") ∷ (codes "a2", codes "gp2") ∷ (codes "a3", codes "pa1") ∷ (codes "a4", codes "hd1") ∷ (codes "a5", codes "ca1")
    ∷ (codes "a6", codes "ca2") ∷ (codes "a7", codes "ca3")
    ∷ (codes "a8", codes "co1") ∷ (codes "a9", codes "cs1-2") ∷ (codes "a10", codes "cs1-3") ∷ (codes "a11", codes "cs1-1") ∷ (codes "a12", codes "co2")
    ∷ (codes "a13", codes "cs2-2") ∷ (codes "a14", codes "cs2-1") ∷ (codes "a16", codes "pe1") ∷ (codes "a17", codes "of1") ∷ []

-- the canonical form with the envelope of the small ballot
abbrev canonical_inside : List ℕ
canonical_inside =
    edited (codes "\"Format\":\"summary-contest\",\"GeneratedDate\":\"2000-01-01T00:00:00Z\"") (codes "\"GeneratedDate\":\"2026-08-01T09:00:00Z\"")
    (edited (codes "\"Issuer\":\"canonical\",\"IssuerAbbreviation\":\"canonical\"") (codes "\"Issuer\":\"Vendor A\"")
    (edited (codes "\"SequenceEnd\":1,\"SequenceStart\":1,") [] (edited (codes ",\"VendorApplicationId\":\"canonical\"") [] small_ballot_canonical)))

abbrev in_canonical_order : List Change
in_canonical_order =
    an_exchange units_place 0 1 ∷ an_exchange candidates_place 0 1 ∷ an_exchange candidates_place 1 2 ∷ an_exchange (selections_place 0) 0 2
    ∷ an_exchange (selections_place 0) 1 2
    ∷ an_exchange (keys_place 1) 0 1 ∷ an_exchange (selections_place 1) 0 1 ∷ an_exchange (translations_place 1) 0 1 ∷ []

old_names_differ : IsDistinct bytes_eq (map (λ pair. pair.0) canonical_names)
unfolding IsDistinct
old_names_differ = grind arith

new_names_differ : IsDistinct bytes_eq (map (λ pair. pair.1) canonical_names)
unfolding IsDistinct
new_names_differ = grind arith

-- but for its envelope the canonical form is a rearrangement of the small ballot
canonical_rearranged : IsRearrangement (a_renaming canonical_names ∷ in_canonical_order) (tree_of small_ballot) (tree_of canonical_inside)
unfolding serde_json_on_literals
canonical_rearranged = (
  renaming (tree_of small_ballot) canonical_names refl old_names_differ new_names_differ,
  (
    (refl, lit< tt, lit< tt),
    (
      (refl, lit< tt, lit< tt),
      (
        (refl, lit< tt, lit< tt),
        (
          (refl, lit< tt, lit< tt),
          (
            (refl, lit< tt, lit< tt),
            ((refl, lit< tt, lit< tt), ((refl, lit< tt, lit< tt), ((refl, lit< tt, lit< tt), equal_trees _ (tree_of canonical_inside) refl))),
          ),
        ),
      ),
    ),
  ),
)

-- ---- refused

abbrev report : Data
report = tree_of one_unit

-- two texts become one
two_to_one : IsRenaming report ((codes "u7", codes "k") ∷ (codes "u8", codes "k") ∷ []) → ⊥
unfolding IsDistinct
two_to_one h = true≢false h.right.0.0

-- one text becomes two
one_to_two : IsRenaming report ((codes "u7", codes "k") ∷ (codes "u7", codes "l") ∷ []) → ⊥
unfolding IsDistinct
one_to_two h = true≢false h.left.0.0

-- the unit's `@id` is left out
not_among : Contains (codes "u8" ∷ []) (codes "u7") → ⊥
not_among (zero, low, is) = true≢false (sym ((bytes_eq-Decides (codes "u8") (codes "u7")).1 is))
not_among (suc k, low, is) = absurd (omega arith)

abbrev the_unit : Placed
the_unit = unwrap_or (slice_get (objects family.Unit report) 0) (report_of report)

left_out : IsRenaming report ((codes "u8", codes "k") ∷ []) → ⊥
unfolding serde_json_on_literals
left_out h = not_among (h.all family.Unit the_unit (codes "u7") (0, lit< tt, refl) refl)

-- the order of a ballot and a list of selections are no sets; a set of two units has no third
abbrev content_place : List Step
content_place = Name (codes "Election") ∷ At 0 ∷ Name (codes "BallotStyle") ∷ At 0 ∷ Name (codes "OrderedContent") ∷ []

ballot_exchanged : (u : Data) (cs : List Change) → IsRearrangement (an_exchange content_place 0 1 ∷ cs) (tree_of small_ballot) u → ⊥
unfolding serde_json_on_literals
ballot_exchanged u cs h = true≢false (sym h.0.0)

selections_exchanged : (u : Data) (cs : List Change) → IsRearrangement
    (an_exchange (content_place ++ At 0 ∷ Name (codes "OrderedContent") ∷ At 0 ∷ Name (codes "OrderedContestSelectionIds") ∷ []) 0 1 ∷ cs)
    (tree_of small_ballot) u → ⊥
unfolding serde_json_on_literals
selections_exchanged u cs h = true≢false (sym h.0.0)

no_third : (u : Data) (cs : List Change) → IsRearrangement (an_exchange units_place 0 2 ∷ cs) (tree_of small_ballot) u → ⊥
unfolding serde_json_on_literals
no_third u cs h = absurd (omega (arith, h.0.2))

-- one report is no rearrangement of another by nothing
unchanged : IsRearrangement [] report (tree_of small_ballot) → ⊥
unfolding serde_json_on_literals
unchanged h = true≢false (ap (λ t. length (objects family.Unit t) == 1) h)

-- ---- three reports, and two preferences

-- the report of a unit with this `@id`, the number 20 in `fips` and this local identifier
abbrev identified : List ℕ → List ℕ → Data
identified id value =
    tree_of (codes "{\"@type\":\"ElectionResults.ElectionReport\",\"Status\":\"pre-election\",\"GpUnit\":[{\"@id\":\"" ++ id ++
    codes "\",\"@type\":\"ElectionResults.ReportingUnit\",\"Type\":\"county\",\"ExternalIdentifier\":[{\"@type\":\"ElectionResults.ExternalIdentifier\""
    ++ codes ",\"Type\":\"fips\",\"Value\":\"20\"},{\"@type\":\"ElectionResults.ExternalIdentifier\",\"Type\":\"local-level\",\"Value\":\"" ++ value ++
    codes "\"}]}],\"Election\":[{\"@type\":\"ElectionResults.Election\",\"Name\":\"Test\",\"Type\":\"general\",\"StartDate\":\"2026-11-03\""
    ++ codes ",\"EndDate\":\"2026-11-03\",\"ElectionScopeId\":\"" ++ id ++ codes "\"}]}")

abbrev given : Data
given = identified (codes "u7") (codes "U1")

-- another `@id`
abbrev renamed : Data
renamed = identified (codes "k") (codes "U1")

-- another local identifier
abbrev moved : Data
moved = identified (codes "u7") (codes "U2")

abbrev local : Preference
local = Some (codes "local-level")

abbrev fips_key : Key
fips_key = record { kind = codes "fips"; other = []; value = codes "20" }

-- the least of all keys is that of `fips`; with the preference the key is the local one
keys_of_reports : (map (placed_keys None family.Unit) (given ∷ renamed ∷ moved ∷ []) ≡ (Some fips_key ∷ []) ∷ (Some fips_key ∷ []) ∷ (Some fips_key ∷ []) ∷ [])
    × (map (placed_keys local family.Unit) (given ∷ renamed ∷ moved ∷ []) ≡ (Some (local_key (codes "U1")) ∷ []) ∷ (Some (local_key (codes "U1")) ∷ [])
    ∷ (Some (local_key (codes "U2")) ∷ []) ∷ [])
unfolding serde_json_on_literals
keys_of_reports = (refl, refl)

-- ---- they are accepted under both

-- a tree that is accepted under both
record IsUnderBoth (t : Data) : Type 0 where
  is_tree_at : IsTree t
  accepted : IsAccepted None t
  also_accepted : IsAccepted local t

-- a tree without faults under either preference
given_by : (t : Data) → is_tree t ≡ true → length (faults_found t) ≡ 0 → length (identity_told None t) ≡ 0 → length (identity_told local t) ≡ 0
    → length (reference_faults t) ≡ 0 → length (selections_told None t) ≡ 0 → length (selections_told local t) ≡ 0 → IsUnderBoth t
given_by t tree shape identity local_identity reference selection local_selection = record {
  is_tree_at = tree_sound t tree;
  accepted = accepted_by_lists None t (tree_sound t tree) (no_fault_listed t tree shape) identity reference selection;
  also_accepted = accepted_by_lists local t (tree_sound t tree) (no_fault_listed t tree shape) local_identity reference local_selection;
}

given_is : IsUnderBoth given
unfolding serde_json_on_literals
given_is = given_by given refl refl refl refl refl refl refl

renamed_is : IsUnderBoth renamed
unfolding serde_json_on_literals
renamed_is = given_by renamed refl refl refl refl refl refl refl

moved_is : IsUnderBoth moved
unfolding serde_json_on_literals
moved_is = given_by moved refl refl refl refl refl refl refl

-- what the law says of two of them
agree_on : (t u : Data) → IsUnderBoth t → IsUnderBoth u → (meaning None t ≡ meaning None u) ↔ (meaning local t ≡ meaning local u)
agree_on t u one other = preferences_agree None local t u one.is_tree_at other.is_tree_at one.accepted other.accepted one.also_accepted other.also_accepted

-- ---- equal under one, and so under the other

-- one says what the other says, under another `@id`
renamed_says : SaysTheSame given renamed
unfolding serde_json_on_literals IsDistinct
renamed_says = renamed_says_the_same None given new_name given_is.is_tree_at given_is.accepted (renaming given new_name refl (tt, tt) (tt, tt))

equal_under_both : (meaning None given ≡ meaning None renamed) × (meaning local given ≡ meaning local renamed)
equal_under_both =
    let same = sym (saying_the_same_means_the_same None given renamed given_is.is_tree_at renamed_is.is_tree_at given_is.accepted renamed_says) in
    (same, (agree_on given renamed given_is renamed_is).0 same)

-- ---- apart under one, and so under the other

-- with the preference, one alone has a unit of the key; without, both have one of the same key, and they mean different units
local_apart : ¬ (meaning local given ≡ meaning local moved)
unfolding serde_json_on_literals
local_apart same = true≢false (ap (λ m. is_some (m.objects family.Unit (local_key (codes "U1")))) same)

apart_under_both : ¬ (meaning local given ≡ meaning local moved) × ¬ (meaning None given ≡ meaning None moved)
apart_under_both = (local_apart, λ same. local_apart ((agree_on given moved given_is moved_is).0 same))
