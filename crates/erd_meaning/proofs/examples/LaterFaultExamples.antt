-- Faults of identity, of references and of selections, as facts on small trees, by computation.
use Rattle.erd_meaning.proofs.Common.{◌++◌, ◌≡◌, ℕ, true, false, [], ◌∷◌, slice_get, Some, None, codes, option_and_then, unwrap_or, refl, lit<}
use Rattle.erd_meaning.proofs.Common.{serde_json_on_literals, Data, boolean, class, Family, DuplicateId, NoIdentifier, SelectionOfOtherContest, TwinIdentifier}
use Rattle.erd_meaning.proofs.Common.{TwinSelection, WrongFamily, At, Name, tree_of, asked, Reference, IdentityFault, ReferenceFault, SelectionFault, a_json}
use Rattle.erd_meaning.proofs.Common.{Placed, report_of, elections, objects, selection_record, name_in_class, name_of, role, family, key_named}
use Rattle.erd_meaning.proofs.identity.IdentityFaults.{lacks_identifier, repeats_id, repeats_key}
use Rattle.erd_check.specs.declared.want.Want.TheVariants.{Object}

-- the object at this position of its family
abbrev pub object_at : Data → Family → ℕ → Placed
object_at t f i = unwrap_or (slice_get (objects f t) i) (report_of t)

-- an empty array of identifiers is none, and a style needs one too
no_identifier : IdentityFault None (tree_of (codes "{\"GpUnit\":[{\"ExternalIdentifier\":[]}]}")) (Name (codes "GpUnit") ∷ At 0 ∷ []) NoIdentifier
    × IdentityFault None (tree_of (codes "{\"Election\":[{\"BallotStyle\":[{}]}]}"))
    (Name (codes "Election") ∷ At 0 ∷ Name (codes "BallotStyle") ∷ At 0 ∷ []) NoIdentifier
unfolding serde_json_on_literals
no_identifier = (
  lacks_identifier None (tree_of (codes "{\"GpUnit\":[{\"ExternalIdentifier\":[]}]}")) (role.OfFamily family.Unit)
      (object_at (tree_of (codes "{\"GpUnit\":[{\"ExternalIdentifier\":[]}]}")) family.Unit 0) refl (0, lit< tt, refl) refl,
  lacks_identifier None (tree_of (codes "{\"Election\":[{\"BallotStyle\":[{}]}]}")) (role.OfFamily family.Style)
      (object_at (tree_of (codes "{\"Election\":[{\"BallotStyle\":[{}]}]}")) family.Style 0) refl (0, lit< tt, refl) refl,
)

abbrev twins : Data
twins = tree_of (codes "{\"GpUnit\":[{\"@id\":\"u7\",\"ExternalIdentifier\":[{\"Type\":\"other\",\"Value\":\"X\"}]},{\"@id\":\"u8\""
    ++ codes ",\"ExternalIdentifier\":[{\"Type\":\"other\",\"Value\":\"X\",\"OtherType\":\"\"},{\"Type\":\"z\",\"Value\":\"Y\"}]}]"
    ++ codes ",\"Party\":[{\"@id\":\"u7\"}]}")

-- the later unit has the key of the earlier one, and a party its `@id`
twin_units : IdentityFault None twins (Name (codes "GpUnit") ∷ At 1 ∷ []) TwinIdentifier
    × IdentityFault None twins (Name (codes "Party") ∷ At 0 ∷ Name (codes "@id") ∷ []) DuplicateId
unfolding serde_json_on_literals
twin_units = (
  repeats_key None twins (role.OfFamily family.Unit) (object_at twins family.Unit 1) (object_at twins family.Unit 0)
      (record { kind = codes "other"; other = []; value = codes "X" }) refl
      (1, lit< tt, refl) (0, lit< tt, refl) refl refl refl,
  repeats_id twins family.Party family.Unit (object_at twins family.Party 0) (object_at twins family.Unit 0) (codes "u7") (0, lit< tt, refl)
      (0, lit< tt, refl) refl refl refl,
)

-- the first of these elections has no identifier, the third has the key of the second, and a candidate in the third that of one
-- in the second
abbrev several : Data
several = tree_of (codes "{\"Election\":[{},{\"Candidate\":[{\"ExternalIdentifier\":[{\"Value\":\"K\"}]}],\"ExternalIdentifier\":[{\"Value\":\"E\"}]}"
    ++ codes ",{\"Candidate\":[{\"ExternalIdentifier\":[{\"Value\":\"K\"}]}],\"ExternalIdentifier\":[{\"Value\":\"E\"}]}]}")

-- the election at this position
abbrev election_at : ℕ → Placed
election_at i = unwrap_or (slice_get (elections several) i) (report_of several)

several_elections : IdentityFault None several (Name (codes "Election") ∷ At 0 ∷ []) NoIdentifier
    × IdentityFault None several (Name (codes "Election") ∷ At 2 ∷ []) TwinIdentifier
    × IdentityFault None several (Name (codes "Election") ∷ At 2 ∷ Name (codes "Candidate") ∷ At 0 ∷ []) TwinIdentifier
unfolding serde_json_on_literals
several_elections = (
  lacks_identifier None several role.Election (election_at 0) refl (0, lit< tt, refl) refl,
  repeats_key None several role.Election (election_at 2) (election_at 1) (record { kind = []; other = []; value = codes "E" }) refl (2, lit< tt, refl)
      (1, lit< tt, refl) refl refl refl,
  repeats_key None several (role.OfFamily family.Candidate) (object_at several family.Candidate 1) (object_at several family.Candidate 0)
      (record { kind = []; other = []; value = codes "K" }) refl
      (1, lit< tt, refl) (0, lit< tt, refl) refl refl refl,
)

abbrev write_ins : Data
write_ins = tree_of (codes "{\"Election\":[{\"Contest\":[{\"ContestSelection\":[{\"@type\":\"ElectionResults.CandidateSelection\",\"IsWriteIn\":true}"
    ++ codes ",{\"@type\":\"ElectionResults.CandidateSelection\",\"IsWriteIn\":true,\"Note\":1}]}]}]}")

-- two lines for write-ins that nothing in their names tells apart
twin_selections : SelectionFault None write_ins (Name (codes "Election") ∷ At 0 ∷ Name (codes "Contest") ∷ At 0 ∷ Name (codes "ContestSelection") ∷ At 1 ∷ [])
    TwinSelection
unfolding serde_json_on_literals
twin_selections = record {
  contest = object_at write_ins family.Contest 0;
  contest_stands = (0, lit< tt, refl);
  later = object_at write_ins family.Selection 1;
  later_stands = (1, lit< tt, refl);
  place = refl;
  earlier = object_at write_ins family.Selection 0;
  earlier_stands = (0, lit< tt, refl);
  before = refl;
  name = record (name_in_class None (key_named None write_ins) class.CandidateSelection write_ins) { write_in = true };
  later_name = refl;
  earlier_name = refl;
}

abbrev other_contest : Data
other_contest = tree_of (codes "{\"@type\":\"ElectionResults.ElectionReport\",\"Election\":[{\"@type\":\"ElectionResults.Election\""
    ++ codes ",\"Contest\":[{\"@id\":\"c1\",\"ContestSelection\":[{\"@id\":\"s1\"}]},{\"@id\":\"c2\",\"ContestSelection\":[{\"@id\":\"s2\"}]}]"
    ++ codes ",\"BallotStyle\":[{\"@type\":\"ElectionResults.BallotStyle\",\"OrderedContent\":[{\"@type\":\"ElectionResults.OrderedContest\""
    ++ codes ",\"ContestId\":\"c1\",\"OrderedContestSelectionIds\":[\"s1\",\"s2\",\"c2\"]}]}]}]}")

-- a selection of the second contest where the first is named, and a contest where a selection belongs
other_selections : ReferenceFault other_contest (Name (codes "Election") ∷ At 0 ∷ Name (codes "BallotStyle") ∷ At 0 ∷ Name (codes "OrderedContent") ∷ At 0
    ∷ Name (codes "OrderedContestSelectionIds") ∷ At 1 ∷ []) SelectionOfOtherContest
    × ReferenceFault other_contest (Name (codes "Election") ∷ At 0 ∷ Name (codes "BallotStyle") ∷ At 0 ∷ Name (codes "OrderedContent") ∷ At 0
    ∷ Name (codes "OrderedContestSelectionIds") ∷ At 2 ∷ []) WrongFamily
unfolding serde_json_on_literals
other_selections = (
  record {
    object_place = (Name (codes "Election") ∷ At 0 ∷ Name (codes "BallotStyle") ∷ At 0 ∷ Name (codes "OrderedContent") ∷ At 0 ∷ []);
    position = 1;
    place = refl;
    ordered_contest =
        asked (Object role.Content)
        (tree_of (codes "{\"@type\":\"ElectionResults.OrderedContest\",\"ContestId\":\"c1\",\"OrderedContestSelectionIds\":[\"s1\",\"s2\",\"c2\"]}"));
    ordered_contest_stands = refl;
    entry = asked (Reference family.Selection) (tree_of (codes "\"s2\""));
    entry_stands = refl;
    elsewhere = refl;
  },
  refl,
)

-- `IsWriteIn` false and absent give one name and two records
absent_or_false : (let t = tree_of (codes "{\"@type\":\"ElectionResults.CandidateSelection\"}") in
    let u = tree_of (codes "{\"@type\":\"ElectionResults.CandidateSelection\",\"IsWriteIn\":false}") in
    (name_of None t t ≡ name_of None t u) × (option_and_then (λ r. r.members (codes "IsWriteIn")) (selection_record None t t) ≡ None)
    × (option_and_then (λ r. r.members (codes "IsWriteIn")) (selection_record None t u) ≡ Some (a_json (boolean false))))
unfolding serde_json_on_literals
absent_or_false = (refl, refl, refl)
