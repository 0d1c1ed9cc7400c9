-- The first difference of whole reports, each of one unit: none, and one for each of some edits.
use Rattle.erd_compare.proofs.Common.{◌++◌}
use Rattle.erd_compare.proofs.Common.{[], ◌≡◌, ℕ, Bool, true, false, ◌≢◌, List, ◌∷◌, is_some, slice_get, Some, None, codes, Option, option_and_then, bytes_eq}
use Rattle.erd_compare.proofs.Common.{is_eq, is_lt, unwrap_or, sym, refl, ap, ◌∙◌, true≢false, option_cmp, lit<, Data, null, string, class, Family, family}
use Rattle.erd_compare.proofs.Common.{role, tree_of, election, one_unit, key_cmp, key_of, untranslated, a_json, a_label, MemberValue, a_plain, ObjectRecord}
use Rattle.erd_compare.proofs.Common.{Placed, report_of, elections, objects, meaning, member_of_class, records_of, serde_json_on_literals, is_eq-slice_cmp}
use Rattle.erd_compare.proofs.Common.{one_unit_report, status, unit, local_key, same_but_one, same_object, is_key_in, no_record, ObjectsAgree, same_at_key}
use Rattle.erd_compare.proofs.Common.{keys_of_family, same_family, same_sole_election, same_meaning, absent_member, equal_keys, Meaning, Key, part_cmp}
use Rattle.erd_compare.proofs.Common.{record_at, IsDifference, IsFirstDifference, How, Member, OnlyLeft, OnlyRight, Part}
use Rattle.std.specs.declared.cmp.Ordering.TheVariants.{Less}
use Rattle.erd_meaning.proofs.meanings.WholeMeanings.{have_keys}
use Rattle.erd_compare.specs.declared.difference.Part.TheVariants as part

-- ---- reports of one unit

abbrev left : Data
left = tree_of one_unit

-- the first election of a report, and its place
abbrev pub election_in : Data → Placed
election_in t = unwrap_or (slice_get (elections t) 0) (report_of null)

abbrev key : Key
key = local_key (codes "U1")

-- the report has one unit, with this key
abbrev pub HasOneUnit : Data → Type 0
HasOneUnit t = have_keys key_cmp (λ (o : Placed). key_of None o.value) (objects family.Unit t) (key ∷ []) ≡ true

-- the units of two such reports mean the same, if they do at the key
pub same_units : (t u : Data) → ObjectsAgree None t u family.Unit key class.ReportingUnit → HasOneUnit t → HasOneUnit u → (k : Key)
    → records_of None t family.Unit k ≡ records_of None u family.Unit k
same_units t u agree left right =
    same_family None t u family.Unit (key ∷ []) (key ∷ []) (keys_of_family None t family.Unit (key ∷ []) left)
    (keys_of_family None u family.Unit (key ∷ []) right) ((0, lit< tt, refl), tt)
    (same_at_key None t u family.Unit key class.ReportingUnit refl agree, tt)

-- with another `@id`, other orders of members, an envelope and empty arrays
abbrev respelled : Data
respelled = tree_of (codes "{\"Election\":[{\"ElectionScopeId\":\"k\",\"Name\":\"Test\",\"EndDate\":\"2026-11-03\",\"StartDate\":\"2026-11-03\""
    ++ codes ",\"Type\":\"general\",\"@type\":\"ElectionResults.Election\",\"Contest\":[]}],\"Issuer\":\"Vendor A\",\"SequenceStart\":1"
    ++ codes ",\"Status\":\"pre-election\",\"Party\":[],\"GpUnit\":[{\"Type\":\"county\",\"ComposingGpUnitIds\":[]"
    ++ codes ",\"ExternalIdentifier\":[{\"Value\":\"U1\",\"Type\":\"local-level\",\"@type\":\"ElectionResults.ExternalIdentifier\"}]"
    ++ codes ",\"@type\":\"ElectionResults.ReportingUnit\",\"@id\":\"k\"}],\"@type\":\"ElectionResults.ElectionReport\"}")

respelled_objects : (f : Family) (k : Key) → records_of None left f k ≡ records_of None respelled f k
unfolding serde_json_on_literals
respelled_objects family.Unit k = same_units left respelled (refl, refl, refl, refl, refl, refl) refl refl k
respelled_objects f k = refl

-- no difference
no_difference : IsDifference (meaning None left) (meaning None respelled) None
unfolding serde_json_on_literals
no_difference =
    same_meaning None None left respelled (same_object None left respelled left respelled role.Report class.ElectionReport refl refl refl)
    (same_sole_election None None left respelled (election_in left) (election_in respelled) refl refl refl
    (same_object None left respelled (election_in left).value (election_in respelled).value role.Election class.Election refl refl refl)) respelled_objects

-- ---- another name of the election

abbrev renamed : Data
renamed = tree_of (one_unit_report status unit (codes "\"@type\":\"ElectionResults.Election\",\"Name\":\"Trial\",\"Type\":\"general\""
    ++ codes ",\"StartDate\":\"2026-11-03\",\"EndDate\":\"2026-11-03\",\"ElectionScopeId\":\"u7\""))

abbrev election_member : Data → List ℕ → Option MemberValue
election_member t = member_of_class None t (election_in t).value class.Election

-- the label is this text
abbrev is_labelled : List ℕ → Option MemberValue → Bool
is_labelled text (Some (a_plain (a_label (untranslated s)))) = bytes_eq s text
is_labelled text v = false

names : (is_labelled (codes "Test") (election_member left (codes "Name")) ≡ true)
    × (is_labelled (codes "Test") (election_member renamed (codes "Name")) ≡ false)
unfolding serde_json_on_literals
names = (refl, refl)

other_name : election_member left (codes "Name") ≢ election_member renamed (codes "Name")
other_name e = true≢false (sym names.0 ∙ ap (is_labelled (codes "Test")) e ∙ names.1)

same_but_name : (name : List ℕ) → bytes_eq name (codes "Name") ≡ false → election_member left name ≡ election_member renamed name
unfolding serde_json_on_literals
same_but_name =
    same_but_one (election_member left) (election_member renamed) (election_in left).value (election_in renamed).value (codes "Name")
    (absent_member None left (election_in left).value class.Election)
    (absent_member None renamed (election_in renamed).value class.Election) refl

pub before_itself : (k : Option Key) → option_cmp key_cmp k None ≡ Less → ⊥
before_itself None less = cc
before_itself (Some k) less = cc

-- meanings with equal reports and objects agree at all that comes before an election without a key
pub before_elections : (m n : Meaning) → m.report ≡ n.report → ((f : Family) (k : Key) → m.objects f k ≡ n.objects f k) → (p : Part) (k : Option Key)
    → part_cmp p k part.Election None ≡ Less → record_at m p k ≡ record_at n p k
before_elections m n report objects part.Report None less = report
before_elections m n report objects part.Election k less = absurd (before_itself k less)
before_elections m n report objects part.Unit (Some k) less = objects family.Unit k
before_elections m n report objects part.Party (Some k) less = objects family.Party k
before_elections m n report objects part.Person (Some k) less = objects family.Person k
before_elections m n report objects part.Office (Some k) less = objects family.Office k
before_elections m n report objects part.Header (Some k) less = objects family.Header k
before_elections m n report objects part.Candidate k less = absurd (cc less)
before_elections m n report objects part.Contest k less = absurd (cc less)
before_elections m n report objects part.Style k less = absurd (cc less)
before_elections m n report objects p None less = refl
before_elections m n report objects p (Some k) less = refl

renamed_objects : (f : Family) (k : Key) → records_of None left f k ≡ records_of None renamed f k
unfolding serde_json_on_literals
renamed_objects family.Unit k = same_units left renamed (refl, refl, refl, refl, refl, refl) refl refl k
renamed_objects f k = refl

first_is_name : IsFirstDifference (meaning None left) (meaning None renamed) (record { part = part.Election; key = None; how = Member (codes "Name") })
unfolding serde_json_on_literals
first_is_name = record {
  differ = record {
    same_class = refl;
    differ = other_name;
    least = λ name less. same_but_name name (sym (is_eq-slice_cmp name (codes "Name")) ∙ ap is_eq less);
  };
  least = before_elections (meaning None left) (meaning None renamed)
      (same_object None left renamed left renamed role.Report class.ElectionReport refl refl refl) renamed_objects;
}

-- a later member is not the first; the two are not equal
not_a_later_member : IsFirstDifference (meaning None left) (meaning None renamed) (record { part = part.Election; key = None; how = Member (codes "Type") }) → ⊥
unfolding serde_json_on_literals
not_a_later_member h = other_name (h.differ.least (codes "Name") refl)

some_difference : IsDifference (meaning None left) (meaning None renamed) None → ⊥
unfolding serde_json_on_literals
some_difference h = other_name (ap (λ m. option_and_then (λ r. r.members (codes "Name")) (m.elections None)) h)

-- ---- another type of unit besides

abbrev in_city : List ℕ
in_city = codes "\"@type\":\"ElectionResults.ReportingUnit\",\"Type\":\"city\",\"ExternalIdentifier\":[{\"@type\":\"ElectionResults.ExternalIdentifier\""
    ++ codes ",\"Type\":\"local-level\",\"Value\":\"U1\"}]"

-- the unit has another type and the election another name
abbrev both_changed : Data
both_changed = tree_of (one_unit_report status in_city (codes "\"@type\":\"ElectionResults.Election\",\"Name\":\"Trial\",\"Type\":\"general\""
    ++ codes ",\"StartDate\":\"2026-11-03\",\"EndDate\":\"2026-11-03\",\"ElectionScopeId\":\"u7\""))

abbrev is_county : Option MemberValue → Bool
is_county (Some (a_plain (a_json (string s)))) = bytes_eq s (codes "county")
is_county v = false

abbrev unit_type : Option ObjectRecord → Bool
unit_type r = is_county (option_and_then (λ r. r.members (codes "Type")) r)

counties : (unit_type (records_of None left family.Unit key) ≡ true) × (unit_type (records_of None both_changed family.Unit key) ≡ false)
unfolding serde_json_on_literals
counties = (refl, refl)

-- the difference of the election is not the first
not_the_election : (h : How) → IsFirstDifference (meaning None left) (meaning None both_changed) (record { part = part.Election; key = None; how = h }) → ⊥
not_the_election h d = true≢false (sym counties.0 ∙ ap unit_type (d.least part.Unit (Some key) refl) ∙ counties.1)

-- ---- another key of the unit

abbrev other_key : Key
other_key = local_key (codes "U2")

abbrev rekeyed : Data
rekeyed = tree_of (one_unit_report status (codes "\"@type\":\"ElectionResults.ReportingUnit\",\"Type\":\"county\""
    ++ codes ",\"ExternalIdentifier\":[{\"@type\":\"ElectionResults.ExternalIdentifier\",\"Type\":\"local-level\",\"Value\":\"U2\"}]") election)

-- a key below a bound is none that is not below it
pub not_in : (l k bound : Key) → key_cmp k bound ≡ Less → is_lt (key_cmp l bound) ≡ false → is_key_in (l ∷ []) k ≡ false
not_in l k bound less not_less = at (is_eq (key_cmp l k)) refl
  where
    at : (b : Bool) → is_eq (key_cmp l k) ≡ b → is_key_in (l ∷ []) k ≡ false
    at true is = absurd (true≢false (sym (ap is_lt less) ∙ (ap (λ q. is_lt (key_cmp q bound)) (sym (equal_keys l k is)) ∙ not_less)))
    at false is = rw is

before_unit : (p : Part) (k : Option Key) → part_cmp p k part.Unit (Some key) ≡ Less → record_at (meaning None left) p k ≡ record_at (meaning None rekeyed) p k
unfolding serde_json_on_literals
before_unit part.Report None less = same_object None left rekeyed left rekeyed role.Report class.ElectionReport refl refl refl
before_unit part.Report (Some k) less = refl
before_unit part.Unit None less = refl
before_unit part.Unit (Some k) less = no_record None left family.Unit k (not_in key k key less refl)
    ∙ sym (no_record None rekeyed family.Unit k (not_in other_key k key less refl))
before_unit p k less = absurd (cc less)

first_is_unit : IsFirstDifference (meaning None left) (meaning None rekeyed) (record { part = part.Unit; key = Some key; how = OnlyLeft })
unfolding serde_json_on_literals
first_is_unit = record { differ = refl; least = before_unit }

first_is_unit_right : IsFirstDifference (meaning None rekeyed) (meaning None left) (record { part = part.Unit; key = Some key; how = OnlyRight })
unfolding serde_json_on_literals
first_is_unit_right = record { differ = refl; least = λ p k less. sym (before_unit p k less) }

-- the unit that the right side alone has comes later
not_the_later_unit : IsFirstDifference (meaning None left) (meaning None rekeyed) (record { part = part.Unit; key = Some other_key; how = OnlyRight }) → ⊥
unfolding serde_json_on_literals
not_the_later_unit h = true≢false (ap is_some (h.least part.Unit (Some key) refl))
