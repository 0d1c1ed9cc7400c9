-- Keys, places and what references name, in the small ballot and in edits of the report of one unit, by computation.
use Rattle.erd_meaning.proofs.Common.{◌≡◌, ℕ, Bool, true, false, List, [], ◌∷◌, map, is_some, Some, None, codes, Option, option_map, filter_map, refl}
use Rattle.erd_meaning.proofs.Common.{serde_json_on_literals, Data, families, Family, family, Repeated, Unresolved, WrongFamily, Step, At, Name, tree_of}
use Rattle.erd_meaning.proofs.Common.{small_ballot, small_ballot_canonical, with_unit_member, asked_at, key_of, is_reference_fault, is_in_other_contest, Placed}
use Rattle.erd_meaning.proofs.Common.{objects, numbered_selections, id_of, owner_at, owner, key_named, Key}

-- ---- keys

abbrev key : List ℕ → List ℕ → List ℕ → Key
key kind other value = record { kind = kind; other = other; value = value }

-- an absent `OtherType` is as an empty one; it counts whatever `Type` is; the least triple is the key, part by part
keys_of_identifiers : map (λ text. key_of None (tree_of text)) (
    (codes "{\"ExternalIdentifier\":[{\"Type\":\"other\",\"Value\":\"X\"}]}")
    ∷ (codes "{\"ExternalIdentifier\":[{\"Type\":\"other\",\"Value\":\"X\",\"OtherType\":\"\"}]}")
    ∷ (codes "{\"ExternalIdentifier\":[{\"Type\":\"other\",\"Value\":\"A\",\"OtherType\":\"b\"},{\"Type\":\"other\",\"Value\":\"Z\",\"OtherType\":\"a\"}]}")
    ∷ (codes "{\"ExternalIdentifier\":[{\"Type\":\"local-level\",\"Value\":\"U1\"},{\"Type\":\"fips\",\"Value\":\"20\"}]}")
    ∷ (codes "{\"ExternalIdentifier\":[{\"Type\":\"fips\",\"Value\":\"9\",\"OtherType\":\"x\"},{\"Type\":\"fips\",\"Value\":\"10\",\"OtherType\":\"x\"}]}")
    ∷ (codes "{\"ExternalIdentifier\":[]}") ∷ (codes "{}") ∷ [])
    ≡ Some (key (codes "other") [] (codes "X")) ∷ Some (key (codes "other") [] (codes "X")) ∷ Some (key (codes "other") (codes "a") (codes "Z"))
    ∷ Some (key (codes "fips") [] (codes "20")) ∷ Some (key (codes "fips") (codes "x") (codes "10")) ∷ None ∷ None ∷ []
unfolding serde_json_on_literals
keys_of_identifiers = refl

abbrev key_values : Family → Data → List (List ℕ)
key_values f t = filter_map (λ o. option_map (λ k. k.value) (key_of None o.value)) (objects f t)

abbrev keyed_families : List Family
keyed_families = family.Unit ∷ family.Party ∷ family.Person ∷ family.Office ∷ family.Header ∷ family.Candidate ∷ family.Contest ∷ family.Style ∷ []

-- in the order of the input
keys_of_objects : map (λ f. key_values f (tree_of small_ballot)) keyed_families
    ≡ (codes "U2" ∷ codes "U1" ∷ []) ∷ (codes "P1" ∷ []) ∷ (codes "Q1" ∷ []) ∷ (codes "O1" ∷ []) ∷ (codes "H1" ∷ [])
    ∷ (codes "K3" ∷ codes "K1" ∷ codes "K2" ∷ []) ∷ (codes "C1" ∷ codes "C2" ∷ []) ∷ (codes "S1" ∷ []) ∷ []
unfolding serde_json_on_literals
keys_of_objects = refl

keys_of_canonical_objects : map (λ f. key_values f (tree_of small_ballot_canonical)) keyed_families
    ≡ (codes "U1" ∷ codes "U2" ∷ []) ∷ (codes "P1" ∷ []) ∷ (codes "Q1" ∷ []) ∷ (codes "O1" ∷ []) ∷ (codes "H1" ∷ [])
    ∷ (codes "K1" ∷ codes "K2" ∷ codes "K3" ∷ []) ∷ (codes "C1" ∷ codes "C2" ∷ []) ∷ (codes "S1" ∷ []) ∷ []
unfolding serde_json_on_literals
keys_of_canonical_objects = refl

-- ---- places and owners

abbrev place_named : Data → Family → List ℕ → Option (List Step)
place_named t f id = option_map (λ o. o.place) (owner_at t f id)

places_of_owners : (let t = tree_of small_ballot in place_named t family.Unit (codes "a1") ∷ place_named t family.Selection (codes "a14")
    ∷ place_named t family.Party (codes "a1") ∷ place_named t family.Unit (codes "a99") ∷ [])
    ≡ Some (Name (codes "GpUnit") ∷ At 1 ∷ []) ∷ Some (Name (codes "Election") ∷ At 0 ∷ Name (codes "Contest") ∷ At 1 ∷ Name (codes "ContestSelection") ∷ At 1
    ∷ []) ∷ None ∷ None ∷ []
unfolding serde_json_on_literals
places_of_owners = refl

-- which families own an `@id`: that of the unit, the contest, the selection, and none
families_of_owners : (let t = tree_of small_ballot in map (λ id. map (λ f. is_some (owner t f id)) families)
    (codes "a2" ∷ codes "a12" ∷ codes "a10" ∷ codes "S1" ∷ [])) ≡ (true ∷ false ∷ false ∷ false ∷ false ∷ false ∷ false ∷ false ∷ false ∷ [])
    ∷ (false ∷ false ∷ false ∷ false ∷ false ∷ false ∷ true ∷ false ∷ false ∷ []) ∷ (false ∷ false ∷ false ∷ false ∷ false ∷ false ∷ false ∷ false ∷ true ∷ [])
    ∷ (false ∷ false ∷ false ∷ false ∷ false ∷ false ∷ false ∷ false ∷ false ∷ []) ∷ []
unfolding serde_json_on_literals
families_of_owners = refl

keys_of_owners : (let t = tree_of small_ballot in map (λ id. option_map (λ k. k.value) (key_named None t family.Contest id))
    (codes "a12" ∷ codes "a8" ∷ codes "a9" ∷ [])) ≡ Some (codes "C2") ∷ Some (codes "C1") ∷ None ∷ []
unfolding serde_json_on_literals
keys_of_owners = refl

abbrev with_contest : ℕ × Placed → ℕ × Option (List ℕ)
with_contest selection = (selection.0, id_of selection.1.value)

-- each selection with the position of its contest
selections_by_contest : map with_contest (numbered_selections (tree_of small_ballot)) ≡ (0, Some (codes "a9")) ∷ (0, Some (codes "a10"))
    ∷ (0, Some (codes "a11")) ∷ (1, Some (codes "a13")) ∷ (1, Some (codes "a14")) ∷ []
unfolding serde_json_on_literals
selections_by_contest = refl

-- ---- faults of references

abbrev reasons_at : Data → List Step → List (Option Bool)
reasons_at t p = map (λ r. option_map (λ a. is_reference_fault t a r) (asked_at t p)) (Repeated ∷ Unresolved ∷ WrongFamily ∷ [])

-- a unit where a person belongs; an unknown text, and its repetition, which has both faults; a unit that composes itself
references_judged : (let t = tree_of (with_unit_member (codes "\"AuthorityIds\":[\"u7\",\"x\",\"x\"],\"ComposingGpUnitIds\":[\"u7\"]")) in
    map (reasons_at t) ((Name (codes "GpUnit") ∷ At 0 ∷ Name (codes "AuthorityIds") ∷ At 0 ∷ [])
    ∷ (Name (codes "GpUnit") ∷ At 0 ∷ Name (codes "AuthorityIds") ∷ At 1 ∷ []) ∷ (Name (codes "GpUnit") ∷ At 0 ∷ Name (codes "AuthorityIds") ∷ At 2 ∷ [])
    ∷ (Name (codes "GpUnit") ∷ At 0 ∷ Name (codes "ComposingGpUnitIds") ∷ At 0 ∷ [])
    ∷ (Name (codes "Election") ∷ At 0 ∷ Name (codes "ElectionScopeId") ∷ []) ∷ []))
    ≡ (Some false ∷ Some false ∷ Some true ∷ []) ∷ (Some false ∷ Some true ∷ Some false ∷ []) ∷ (Some true ∷ Some true ∷ Some false ∷ [])
    ∷ (Some false ∷ Some false ∷ Some false ∷ []) ∷ (Some false ∷ Some false ∷ Some false ∷ []) ∷ []
unfolding serde_json_on_literals
references_judged = refl

-- a selection of the second contest, one of the first, a candidate and an unknown text, where the first contest is named
selections_judged : (let t = tree_of small_ballot in
    option_map (λ a. map (is_in_other_contest t a.value) (codes "a13" ∷ codes "a9" ∷ codes "a5" ∷ codes "x" ∷ []))
    (asked_at t (Name (codes "Election") ∷ At 0 ∷ Name (codes "BallotStyle") ∷ At 0 ∷ Name (codes "OrderedContent") ∷ At 0
    ∷ Name (codes "OrderedContent") ∷ At 0 ∷ []))) ≡ Some (true ∷ false ∷ false ∷ false ∷ [])
unfolding serde_json_on_literals
selections_judged = refl

-- where the second is named, where no contest is, and where the reference names no contest
contests_judged : (let t = tree_of small_ballot in map (λ text. map (is_in_other_contest t (tree_of text)) (codes "a13" ∷ codes "a9" ∷ []))
    (codes "{\"ContestId\":\"a12\"}" ∷ codes "{\"ContestId\":\"a2\"}" ∷ codes "{\"ContestId\":\"x\"}" ∷ []))
    ≡ (false ∷ true ∷ []) ∷ (false ∷ false ∷ []) ∷ (false ∷ false ∷ []) ∷ []
unfolding serde_json_on_literals
contests_judged = refl
