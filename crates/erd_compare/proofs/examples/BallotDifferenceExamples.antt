-- The first difference of the small ballot and of the ballot with its order exchanged is that order: all before it is the same.
use Rattle.erd_compare.proofs.Common.{◌≡◌, ℕ, Bool, true, false, List, [], ◌∷◌, ◌++◌, slice_get, Some, None, codes, Option, option_map, option_and_then, is_eq}
use Rattle.erd_compare.proofs.Common.{Less, unwrap_or, sym, refl, ap, ◌∙◌, true≢false, lit<, Data, null, Class, Family, family, role, tree_of}
use Rattle.erd_compare.proofs.Common.{small_ballot_with, header_node, contest_node, small_ballot, entries_at, has_keys, key_cmp, first_node, a_header}
use Rattle.erd_compare.proofs.Common.{MemberValue, a_plain, NameParts, contests, meaning, plain_member, selection_map, member_of_class, object_record}
use Rattle.erd_compare.proofs.Common.{records_of, election_records, name_of, serde_json_on_literals, is_eq-slice_cmp, local_key, same_but_one, same_object}
use Rattle.erd_compare.proofs.Common.{AgreeAt, AreAmong, value_with_key, ObjectsAgree, same_at_key, same_at_key_with, HaveKeys, keys_of_family, nothing_at}
use Rattle.erd_compare.proofs.Common.{same_family, selection_with_name, SelectionsAgreeButOne, same_at_name, names_of_selections, same_selections}
use Rattle.erd_compare.proofs.Common.{same_sole_election, absent_member, a_content, a_selection_map, Key, part_cmp, record_at, Differ, IsFirstDifference}
use Rattle.erd_compare.proofs.Common.{Member, Part}
use Rattle.erd_compare.proofs.examples.FirstDifferenceExamples.{election_in, not_in}
use Rattle.erd_tables.specs.declared.class.Class.TheVariants as class
use Rattle.erd_compare.specs.declared.difference.Part.TheVariants as part

-- the small ballot, and the same with its order exchanged
abbrev left : Data
left = tree_of small_ballot

abbrev right : Data
right = tree_of (small_ballot_with (codes "K3") (contest_node ++ codes "," ++ header_node))

-- ---- the style

abbrev style_member : Data → List ℕ → Option MemberValue
style_member t = member_of_class None t (value_with_key None t family.Style (local_key (codes "S1"))) class.BallotStyle

-- whether a member is an order that begins with a header
abbrev begins_with_header : Option MemberValue → Bool
begins_with_header (Some (a_plain (a_content (first_node (a_header k c carried) rest)))) = true
begins_with_header v = false

orders : (begins_with_header (style_member left (codes "OrderedContent")) ≡ true) × (begins_with_header (style_member right (codes "OrderedContent")) ≡ false)
unfolding serde_json_on_literals
orders = (refl, refl)

-- every member before its order is the same
first_member : Differ (record_at (meaning None left) part.Style (Some (local_key (codes "S1"))))
    (record_at (meaning None right) part.Style (Some (local_key (codes "S1")))) (Member (codes "OrderedContent"))
unfolding serde_json_on_literals
first_member =
    let one = value_with_key None left family.Style (local_key (codes "S1")) in
    let other = value_with_key None right family.Style (local_key (codes "S1")) in
    record {
      same_class = refl;
      differ = λ e. true≢false (sym orders.0 ∙ ap begins_with_header e ∙ orders.1);
      least = λ name less. same_but_one (style_member left) (style_member right) one other (codes "OrderedContent")
          (absent_member None left one class.BallotStyle) (absent_member None right other class.BallotStyle) refl
          name (sym (is_eq-slice_cmp name (codes "OrderedContent")) ∙ ap is_eq less);
    }

-- ---- the report and the election

same_report : object_record None left role.Report left ≡ object_record None right role.Report right
unfolding serde_json_on_literals
same_report = same_object None left right left right role.Report class.ElectionReport refl refl refl

same_election : (k : Option Key) → election_records None left k ≡ election_records None right k
unfolding serde_json_on_literals
same_election =
    same_sole_election None None left right (election_in left) (election_in right) refl refl refl
    (same_object None left right (election_in left).value (election_in right).value role.Election class.Election refl refl refl)

-- ---- selections

-- the selections of the contest at this position, and their names
abbrev selections_in : Data → ℕ → List Data
selections_in t i = entries_at (codes "ContestSelection") (unwrap_or (option_map (λ o. o.value) (slice_get (contests t) i)) null)

abbrev no_name : NameParts
no_name = record { class = class.CandidateSelection; keys = []; write_in = false; order = None; label = None; identifier = None }

abbrev name_at : ℕ → ℕ → NameParts
name_at i j = unwrap_or (option_and_then (name_of None left) (slice_get (selections_in left i) j)) no_name

abbrev selection_in : Data → ℕ → ℕ → Data
selection_in t i j = selection_with_name None t (selections_in t i) (name_at i j)

abbrev NamedTheSame : ℕ → ℕ → Type 0
NamedTheSame i j = selection_map None left (selections_in left i) (name_at i j) ≡ selection_map None right (selections_in right i) (name_at i j)

same_selection : (i j : ℕ) (c : Class) (one : List ℕ) → SelectionsAgreeButOne None left right (selections_in left i) (selections_in right i) (name_at i j) c one
    → plain_member None left (selection_in left i j) c one ≡ plain_member None right (selection_in right i j) c one → NamedTheSame i j
same_selection i j c one agree at_one = same_at_name None left right (selections_in left i) (selections_in right i) (name_at i j) c one agree at_one

first_three : NamedTheSame 0 0 × NamedTheSame 0 1 × NamedTheSame 0 2
unfolding serde_json_on_literals
first_three = (
  same_selection 0 0 class.CandidateSelection (codes "CandidateIds") (refl, refl, refl, refl, refl) refl,
  same_selection 0 1 class.CandidateSelection (codes "CandidateIds") (refl, refl, refl, refl, refl) refl,
  same_selection 0 2 class.CandidateSelection (codes "CandidateIds") (refl, refl, refl, refl, refl) refl,
)

yes_and_no : NamedTheSame 1 0 × NamedTheSame 1 1
unfolding serde_json_on_literals
yes_and_no = (
  same_selection 1 0 class.BallotMeasureSelection (codes "Selection") (refl, refl, refl, refl, refl) refl,
  same_selection 1 1 class.BallotMeasureSelection (codes "Selection") (refl, refl, refl, refl, refl) refl,
)

first_selections : selection_map None left (selections_in left 0) ≡ selection_map None right (selections_in right 0)
unfolding serde_json_on_literals
first_selections =
    let names = name_at 0 0 ∷ name_at 0 1 ∷ name_at 0 2 ∷ [] in
    same_selections None left right (selections_in left 0) (selections_in right 0) names names (names_of_selections None left (selections_in left 0) names refl)
    (names_of_selections None right (selections_in right 0) names refl)
    ((0, lit< tt, refl), ((1, lit< tt, refl), ((2, lit< tt, refl), tt))) (first_three.0, (first_three.1, (first_three.2, tt)))

second_selections : selection_map None left (selections_in left 1) ≡ selection_map None right (selections_in right 1)
unfolding serde_json_on_literals
second_selections =
    let names = name_at 1 0 ∷ name_at 1 1 ∷ [] in
    same_selections None left right (selections_in left 1) (selections_in right 1) names names (names_of_selections None left (selections_in left 1) names refl)
    (names_of_selections None right (selections_in right 1) names refl)
    ((0, lit< tt, refl), ((1, lit< tt, refl), tt)) (yes_and_no.0, (yes_and_no.1, tt))

-- ---- all that comes before the style

abbrev keys_of : Family → List Key
keys_of family.Unit = local_key (codes "U2") ∷ local_key (codes "U1") ∷ []
keys_of family.Party = local_key (codes "P1") ∷ []
keys_of family.Person = local_key (codes "Q1") ∷ []
keys_of family.Office = local_key (codes "O1") ∷ []
keys_of family.Header = local_key (codes "H1") ∷ []
keys_of family.Candidate = local_key (codes "K3") ∷ local_key (codes "K1") ∷ local_key (codes "K2") ∷ []
keys_of family.Contest = local_key (codes "C1") ∷ local_key (codes "C2") ∷ []
keys_of family.Style = local_key (codes "S1") ∷ []
keys_of family.Selection = []

keys_left : (f : Family) → has_keys f ≡ true → HaveKeys None left f (keys_of f)
unfolding serde_json_on_literals
keys_left family.Selection keyed = absurd (cc keyed)
keys_left f keyed = keys_of_family None left f (keys_of f) refl

keys_right : (f : Family) → has_keys f ≡ true → HaveKeys None right f (keys_of f)
unfolding serde_json_on_literals
keys_right family.Selection keyed = absurd (cc keyed)
keys_right f keyed = keys_of_family None right f (keys_of f) refl

by_keys : (f : Family) → has_keys f ≡ true → AreAmong (keys_of f) (keys_of f) → AgreeAt (records_of None left f) (records_of None right f) (keys_of f)
    → (k : Key) → records_of None left f k ≡ records_of None right f k
by_keys f keyed among agree = same_family None left right f (keys_of f) (keys_of f) (keys_left f keyed) (keys_right f keyed) among agree

same : (f : Family) (key : List ℕ) (c : Class) → has_keys f ≡ true → ObjectsAgree None left right f (local_key key) c → records_of None left f (local_key key)
    ≡ records_of None right f (local_key key)
same f key c keyed agree = same_at_key None left right f (local_key key) c keyed agree

abbrev is_style : Family → Bool
is_style family.Style = true
is_style f = false

-- each family but that of styles means the same
same_objects : (f : Family) (k : Key) → is_style f ≡ false → records_of None left f k ≡ records_of None right f k
unfolding serde_json_on_literals
same_objects family.Unit k other =
    by_keys family.Unit refl ((0, lit< tt, refl), ((1, lit< tt, refl), tt)) (
      same family.Unit (codes "U2") class.ReportingUnit refl (refl, refl, refl, refl, refl, refl),
      (same family.Unit (codes "U1") class.ReportingUnit refl (refl, refl, refl, refl, refl, refl), tt),
    ) k
same_objects family.Party k other = by_keys family.Party refl ((0, lit< tt, refl), tt)
    (same family.Party (codes "P1") class.Party refl (refl, refl, refl, refl, refl, refl), tt) k
same_objects family.Person k other = by_keys family.Person refl ((0, lit< tt, refl), tt)
    (same family.Person (codes "Q1") class.Person refl (refl, refl, refl, refl, refl, refl), tt) k
same_objects family.Office k other = by_keys family.Office refl ((0, lit< tt, refl), tt)
    (same family.Office (codes "O1") class.Office refl (refl, refl, refl, refl, refl, refl), tt) k
same_objects family.Header k other = by_keys family.Header refl ((0, lit< tt, refl), tt)
    (same family.Header (codes "H1") class.Header refl (refl, refl, refl, refl, refl, refl), tt) k
same_objects family.Candidate k other =
    by_keys family.Candidate refl ((0, lit< tt, refl), ((1, lit< tt, refl), ((2, lit< tt, refl), tt))) (
      same family.Candidate (codes "K3") class.Candidate refl (refl, refl, refl, refl, refl, refl),
      (
        same family.Candidate (codes "K1") class.Candidate refl (refl, refl, refl, refl, refl, refl),
        (same family.Candidate (codes "K2") class.Candidate refl (refl, refl, refl, refl, refl, refl), tt),
      ),
    ) k
same_objects family.Contest k other =
    by_keys family.Contest refl ((0, lit< tt, refl), ((1, lit< tt, refl), tt)) (
      same_at_key_with None left right family.Contest (local_key (codes "C1")) class.CandidateContest (codes "ContestSelection") refl
          (refl, refl, refl, refl, refl, refl) (ap (λ m. Some (a_selection_map m)) first_selections),
      (
        same_at_key_with None left right family.Contest (local_key (codes "C2")) class.BallotMeasureContest (codes "ContestSelection") refl
            (refl, refl, refl, refl, refl, refl) (ap (λ m. Some (a_selection_map m)) second_selections),
        tt,
      ),
    ) k
same_objects family.Style k other = absurd (cc other)
same_objects family.Selection k other = refl

styles_below : (k : Key) → key_cmp k (local_key (codes "S1")) ≡ Less → records_of None left family.Style k ≡ records_of None right family.Style k
styles_below k less =
    let none = not_in (local_key (codes "S1")) k (local_key (codes "S1")) less refl in
    nothing_at None left family.Style (keys_of family.Style) k (keys_left family.Style refl) none
    ∙ sym (nothing_at None right family.Style (keys_of family.Style) k (keys_right family.Style refl) none)

before_style : (p : Part) (k : Option Key) → part_cmp p k part.Style (Some (local_key (codes "S1"))) ≡ Less → record_at (meaning None left) p k
    ≡ record_at (meaning None right) p k
before_style part.Report None less = same_report
before_style part.Report (Some k) less = refl
before_style part.Election k less = same_election k
before_style part.Style (Some k) less = styles_below k less
before_style p None less = refl
before_style part.Unit (Some k) less = same_objects family.Unit k refl
before_style part.Party (Some k) less = same_objects family.Party k refl
before_style part.Person (Some k) less = same_objects family.Person k refl
before_style part.Office (Some k) less = same_objects family.Office k refl
before_style part.Header (Some k) less = same_objects family.Header k refl
before_style part.Candidate (Some k) less = same_objects family.Candidate k refl
before_style part.Contest (Some k) less = same_objects family.Contest k refl

first_is_order : IsFirstDifference (meaning None left) (meaning None right)
    (record { part = part.Style; key = Some (local_key (codes "S1")); how = Member (codes "OrderedContent") })
first_is_order = record { differ = first_member; least = before_style }
