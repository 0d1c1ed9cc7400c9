-- What objects of the small ballot mean, in it and in its canonical form, by computation.
use Rattle.erd_meaning.proofs.Common.{◌++◌, ◌≡◌, ℕ, Bool, true, false, not, List, [], ◌∷◌, map, Some, None, codes, filter, Option, option_map, option_and_then}
use Rattle.erd_meaning.proofs.Common.{bytes_eq, is_eq, unwrap_or, refl, ap, fun_ext, serde_json_on_literals, Data, null, boolean, string, families, unit_rows}
use Rattle.erd_meaning.proofs.Common.{party_rows, person_rows, office_rows, header_rows, candidate_rows, rows_of_class, class, Family, family, kind, Step, At}
use Rattle.erd_meaning.proofs.Common.{Name, tree_of, small_ballot, small_ballot_canonical, with_report_member, with_unit_member, entries_of, asked_at, key_cmp}
use Rattle.erd_meaning.proofs.Common.{Label, untranslated, Content, no_content, first_node, Node, a_contest, a_header, a_json, a_label, a_key, a_key_set}
use Rattle.erd_meaning.proofs.Common.{MemberValue, a_plain, json_set, carried_members, label_beside_text, label_of, content_of, meaning, plain_value}
use Rattle.erd_meaning.proofs.Common.{plain_member, selection_record, member_of_class, records_of, name_named, Key}
use Rattle.erd_check.proofs.ValueSets.{or_exchanged}
use Rattle.erd_meaning.proofs.meanings.WholeMeanings.{record_of_members, value_with_key}
use Rattle.erd_meaning.proofs.meanings.WholeRecords.{names_in, absent_plain, absent_member, same_at_every_name}

abbrev pub local_key : List ℕ → Key
local_key value = record { kind = codes "local-level"; other = []; value = value }

abbrev value_at : Data → List Step → Data
value_at t p = unwrap_or (option_map (λ a. a.value) (asked_at t p)) null

-- ---- the order of a ballot

-- contests and headers without their carried members
abbrev mutual
  bare : Content → Content
  bare no_content = no_content
  bare (first_node n c) = first_node (bare_node n) (bare c)

  bare_node : Node → Node
  bare_node (a_contest k names carried) = a_contest k names (λ name. None)
  bare_node (a_header k c carried) = a_header k (bare c) (λ name. None)

-- the header, in it the first contest with its three selections in the order of the ballot, then the second contest
content_of_the_style : (let t = tree_of small_ballot in
    bare (content_of None t (value_at t (Name (codes "Election") ∷ At 0 ∷ Name (codes "BallotStyle") ∷ At 0 ∷ Name (codes "OrderedContent") ∷ [])))
    ≡ first_node (a_header (Some (local_key (codes "H1")))
    (first_node
    (a_contest (Some (local_key (codes "C1"))) (name_named None t (codes "a10") ∷ name_named None t (codes "a9") ∷ name_named None t (codes "a11") ∷ [])
    (λ name. None)) no_content)
    (λ name. None))
    (first_node (a_contest (Some (local_key (codes "C2"))) [] (λ name. None)) no_content))
unfolding serde_json_on_literals
content_of_the_style = refl

-- the canonical form has the same content, under other `@id` texts
same_content : (let t = tree_of small_ballot in let u = tree_of small_ballot_canonical in
    bare (content_of None t (value_at t (Name (codes "Election") ∷ At 0 ∷ Name (codes "BallotStyle") ∷ At 0 ∷ Name (codes "OrderedContent") ∷ [])))
    ≡ bare (content_of None u (value_at u (Name (codes "Election") ∷ At 0 ∷ Name (codes "BallotStyle") ∷ At 0 ∷ Name (codes "OrderedContent") ∷ []))))
unfolding serde_json_on_literals
same_content = refl

-- an empty list of selections and of contests is as an absent one; a carried member of a node is kept
empty_lists : (bare
    (content_of None null
    (tree_of (codes
    "[{\"@type\":\"ElectionResults.OrderedHeader\",\"OrderedContent\":[]},{\"@type\":\"ElectionResults.OrderedContest\",\"OrderedContestSelectionIds\":[]}]")))
    ≡ bare (content_of None null (tree_of (codes "[{\"@type\":\"ElectionResults.OrderedHeader\"},{\"@type\":\"ElectionResults.OrderedContest\"}]"))))
    × (carried_members (Some class.OrderedContest) (tree_of (codes "{\"ContestId\":\"a8\",\"Note\":null}")) (codes "Note") ≡ Some null)
    × (carried_members (Some class.OrderedContest) (tree_of (codes "{\"ContestId\":\"a8\",\"Note\":null}")) (codes "ContestId") ≡ None)
unfolding serde_json_on_literals
empty_lists = (refl, refl, refl)

-- a header, in it a header first
abbrev begins_with_header : Content → Bool
begins_with_header (first_node (a_header k (first_node (a_header l c other) more) carried) rest) = true
begins_with_header c = false

abbrev is_untranslated : Label → Bool
is_untranslated (untranslated text) = true
is_untranslated label = false

-- a header inside another is not the same order of a ballot as its entries beside it; a label of one language is not the text
-- in it
other_contents : (begins_with_header
    (content_of None null
    (tree_of (codes "[{\"@type\":\"ElectionResults.OrderedHeader\",\"OrderedContent\":[{\"@type\":\"ElectionResults.OrderedHeader\"}]}]"))) ≡ true)
    × (begins_with_header
    (content_of None null
    (tree_of (codes "[{\"@type\":\"ElectionResults.OrderedHeader\",\"OrderedContent\":[{\"@type\":\"ElectionResults.OrderedContest\"}]}]"))) ≡ false)
    × (is_untranslated (label_of (tree_of (codes "\"Yes\""))) ≡ true)
    × (is_untranslated (label_of (tree_of (codes "{\"@type\":\"ElectionResults.InternationalizedText\""
    ++ codes ",\"Text\":[{\"@type\":\"ElectionResults.LanguageString\",\"Content\":\"Yes\",\"Language\":\"en\"}]}"))) ≡ false)
unfolding serde_json_on_literals
other_contents = (refl, refl, refl, refl)

-- ---- records

-- what these members of the object of a family with this key mean
abbrev pub members_of : Data → Family → List ℕ → List (List ℕ) → List (Option MemberValue)
members_of t f key names = map (λ name. option_and_then (λ r. r.members name) (records_of None t f (local_key key))) names

abbrev names_of_candidate : List (List ℕ)
names_of_candidate = codes "BallotName" ∷ codes "PersonId" ∷ codes "PartyId" ∷ codes "IsIncumbent" ∷ codes "@id" ∷ codes "@type" ∷ []

-- a reference means the key of what it names; the `@id` and the class are no members
record_of_a_candidate : members_of (tree_of small_ballot) family.Candidate (codes "K1") names_of_candidate
    ≡ Some (a_plain (a_label (untranslated (codes "Ann")))) ∷ Some (a_plain (a_key (Some (local_key (codes "Q1"))))) ∷ None ∷ None ∷ None ∷ None ∷ []
unfolding serde_json_on_literals
record_of_a_candidate = refl

-- under other names and in another order the candidate and the county mean the same, their identifiers too
same_records : (let t = tree_of small_ballot in let u = tree_of small_ballot_canonical in
    (members_of t family.Candidate (codes "K1") (codes "ExternalIdentifier" ∷ names_of_candidate) ≡ members_of u family.Candidate (codes "K1")
    (codes "ExternalIdentifier" ∷ names_of_candidate))
    × (members_of t family.Unit (codes "U1") (codes "Type" ∷ codes "ComposingGpUnitIds" ∷ codes "ExternalIdentifier" ∷ codes "@id" ∷ [])
    ≡ members_of u family.Unit (codes "U1") (codes "Type" ∷ codes "ComposingGpUnitIds" ∷ codes "ExternalIdentifier" ∷ codes "@id" ∷ [])))
unfolding serde_json_on_literals
same_records = (refl, refl)

classes_of_records : (let t = tree_of small_ballot in map (λ k. option_map (λ r. r.class) (records_of None t family.Contest (local_key k)))
    (codes "C1" ∷ codes "C2" ∷ codes "S1" ∷ [])) ≡ Some class.CandidateContest ∷ Some class.BallotMeasureContest ∷ None ∷ []
unfolding serde_json_on_literals
classes_of_records = refl

-- ---- sets

-- the candidates of a selection are the same set in either order
same_set_of_keys : (let t = tree_of small_ballot in let u = tree_of small_ballot_canonical in
    plain_value None t (kind.Many family.Candidate)
    (value_at t (Name (codes "Election") ∷ At 0 ∷ Name (codes "Contest") ∷ At 0 ∷ Name (codes "ContestSelection") ∷ At 0
    ∷ Name (codes "CandidateIds") ∷ [])) ≡ plain_value None u (kind.Many family.Candidate)
    (value_at u (Name (codes "Election") ∷ At 0 ∷ Name (codes "Contest") ∷ At 0 ∷ Name (codes "ContestSelection") ∷ At 1
    ∷ Name (codes "CandidateIds") ∷ [])))
unfolding serde_json_on_literals
same_set_of_keys =
    ap (λ s. Some (a_key_set s)) (fun_ext (λ k. or_exchanged (is_eq (key_cmp (local_key (codes "K2")) k)) (is_eq (key_cmp (local_key (codes "K1")) k)) false))

-- the translations of a label are the same set in either order, and nothing stands beside them
same_translations : (let t = tree_of small_ballot in let u = tree_of small_ballot_canonical in
    let texts =
    entries_of
    (value_at t (Name (codes "Election") ∷ At 0 ∷ Name (codes "Contest") ∷ At 1 ∷ Name (codes "ContestSelection") ∷ At 0 ∷ Name (codes "Selection")
    ∷ Name (codes "Text") ∷ [])) in
    let others =
    entries_of
    (value_at u (Name (codes "Election") ∷ At 0 ∷ Name (codes "Contest") ∷ At 1 ∷ Name (codes "ContestSelection") ∷ At 1 ∷ Name (codes "Selection")
    ∷ Name (codes "Text") ∷ [])) in
    (map (json_set texts) others ≡ true ∷ true ∷ []) × (map (json_set others) texts ≡ true ∷ true ∷ []) × (map (label_beside_text
    (value_at t (Name (codes "Election") ∷ At 0 ∷ Name (codes "Contest") ∷ At 1 ∷ Name (codes "ContestSelection") ∷ At 0 ∷ Name (codes "Selection") ∷ [])))
    (codes "@type" ∷ codes "Text" ∷ codes "Note" ∷ []) ≡ None ∷ None ∷ None ∷ []))
unfolding serde_json_on_literals
same_translations = (refl, refl, refl)

-- ---- whole records

abbrev object_of : Data → Family → List ℕ → Data
object_of t f key = value_with_key None t f (local_key key)

-- the candidate means the same in both, at every name
same_candidate : (let t = tree_of small_ballot in let u = tree_of small_ballot_canonical in
    records_of None t family.Candidate (local_key (codes "K1")) ≡ records_of None u family.Candidate (local_key (codes "K1")))
unfolding serde_json_on_literals
same_candidate =
    let t = tree_of small_ballot in let u = tree_of small_ballot_canonical in
    let d = object_of t family.Candidate (codes "K1") in let e = object_of u family.Candidate (codes "K1") in
    ap (record_of_members class.Candidate)
    (same_at_every_name (member_of_class None t d class.Candidate) (member_of_class None u e class.Candidate) d e (names_in d)
    (absent_member None t d class.Candidate) (absent_member None u e class.Candidate) (λ name h. h) (λ name h. h) refl)

abbrev selection_at : Data → ℕ → Data
selection_at t i = value_at t (Name (codes "Election") ∷ At 0 ∷ Name (codes "Contest") ∷ At 0 ∷ Name (codes "ContestSelection") ∷ At i ∷ [])

-- so does the selection of two candidates, which stand in another order
same_selection : (let t = tree_of small_ballot in let u = tree_of small_ballot_canonical in
    selection_record None t (selection_at t 0) ≡ selection_record None u (selection_at u 1))
unfolding serde_json_on_literals
same_selection =
    let t = tree_of small_ballot in let u = tree_of small_ballot_canonical in
    let d = selection_at t 0 in let e = selection_at u 1 in
    ap (record_of_members class.CandidateSelection)
    (same_at_every_name (plain_member None t d class.CandidateSelection) (plain_member None u e class.CandidateSelection) d e (names_in d)
    (absent_plain None t d class.CandidateSelection) (absent_plain None u e class.CandidateSelection) (λ name h. h) (λ name h. h)
    (ap (λ v. None ∷ None ∷ v ∷ []) same_set_of_keys))

-- ---- what is no part of the meaning

abbrev report_members : Data → List (List ℕ) → List (Option MemberValue)
report_members t names = map (λ name. option_and_then (λ r. r.members name) (meaning None t).report) names

-- the envelope, the elections, the keyed arrays and empty outside members are not; `Status` and carried members are
members_of_the_report : report_members (tree_of (with_report_member (codes "\"IsTest\":false,\"Issuer\":\"Vendor A\",\"OfficeGroup\":[],\"Note\":[]")))
    (codes "Status" ∷ codes "IsTest" ∷ codes "TestType" ∷ codes "Issuer" ∷ codes "ExternalIdentifier" ∷ codes "Election" ∷ codes "GpUnit" ∷ codes "OfficeGroup"
    ∷ codes "@type" ∷ codes "Note" ∷ [])
    ≡ Some (a_plain (a_json (string (codes "pre-election")))) ∷ Some (a_plain (a_json (boolean false))) ∷ None ∷ None ∷ None ∷ None ∷ None ∷ None ∷ None
    ∷ Some (a_plain (a_json (tree_of (codes "[]")))) ∷ []
unfolding serde_json_on_literals
members_of_the_report = refl

-- an empty array of the table is as an absent one, a carried one is not
empty_arrays : members_of (tree_of (with_unit_member (codes "\"ComposingGpUnitIds\":[],\"Text\":[]"))) family.Unit (codes "U1")
    (codes "ComposingGpUnitIds" ∷ codes "AuthorityIds" ∷ codes "Text" ∷ []) ≡ None ∷ None ∷ Some (a_plain (a_json (tree_of (codes "[]")))) ∷ []
unfolding serde_json_on_literals
empty_arrays = refl

-- ---- the whole

abbrev pub keys_and_names : Family → List (List ℕ) × List (List ℕ)
keys_and_names family.Unit = (codes "U1" ∷ codes "U2" ∷ [], map (λ row. row.name) unit_rows)
keys_and_names family.Party = (codes "P1" ∷ [], map (λ row. row.name) party_rows)
keys_and_names family.Person = (codes "Q1" ∷ [], map (λ row. row.name) person_rows)
keys_and_names family.Office = (codes "O1" ∷ [], map (λ row. row.name) office_rows)
keys_and_names family.Header = (codes "H1" ∷ [], map (λ row. row.name) header_rows)
keys_and_names family.Candidate = (codes "K1" ∷ codes "K2" ∷ codes "K3" ∷ codes "K4" ∷ [], map (λ row. row.name) candidate_rows)
keys_and_names family.Contest = (
  codes "C1" ∷ codes "C2" ∷ [],
  filter (λ name. not (bytes_eq name (codes "ContestSelection")))
      (map (λ row. row.name) (rows_of_class class.CandidateContest)),
)
keys_and_names family.Style = (codes "S1" ∷ [], codes "GpUnitIds" ∷ codes "PartyIds" ∷ codes "ExternalIdentifier" ∷ [])
keys_and_names family.Selection = ([], [])

abbrev pub members_of_family : Data → Family → List (List (Option MemberValue))
members_of_family t f = map (λ key. members_of t f key (keys_and_names f).1) (keys_and_names f).0

-- each object has the same members in the small ballot and in its canonical form, but for selections and contents, which are
-- above
same_members : map (members_of_family (tree_of small_ballot)) families ≡ map (members_of_family (tree_of small_ballot_canonical)) families
unfolding serde_json_on_literals
same_members = refl
