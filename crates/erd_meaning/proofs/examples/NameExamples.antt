-- The keys that identifiers give by preference, and the names of selections, in small reports, by computation.
use Rattle.erd_meaning.proofs.Common.{◌++◌, ◌≡◌, ℕ, Bool, true, false, ◌&&◌, List, [], ◌∷◌, map, ℤ, pos, negsuc, Some, None, codes, Option, is_lt, refl}
use Rattle.erd_meaning.proofs.Common.{serde_json_on_literals, Data, family, tree_of, small_ballot, small_ballot_canonical, NameParts, objects, name_of}
use Rattle.erd_meaning.proofs.Common.{name_cmp, Key, Preference, key_of}
use Rattle.erd_meaning.proofs.examples.RecordExamples.{local_key}
use Rattle.erd_tables.specs.declared.class.Class.TheVariants as class

abbrev names_in : Data → List (Option NameParts)
names_in t = map (λ o. name_of None t o.value) (objects family.Selection t)

abbrev for_candidates : List Key → NameParts
for_candidates keys = record { class = class.CandidateSelection; keys = keys; write_in = false; order = None; label = None; identifier = None }

abbrev with_label : List ℕ → NameParts
with_label label = record { class = class.BallotMeasureSelection; keys = []; write_in = false; order = None; label = Some label; identifier = None }

abbrev write_in_line : NameParts
write_in_line = record (for_candidates []) { write_in = true }

abbrev for_two : NameParts
for_two = for_candidates (local_key (codes "K1") ∷ local_key (codes "K2") ∷ [])

abbrev for_one : NameParts
for_one = for_candidates (local_key (codes "K3") ∷ [])

abbrev yes : NameParts
yes = with_label (codes "{\"@type\":\"ElectionResults.InternationalizedText\",\"Text\":[{\"@type\":\"ElectionResults.LanguageString\",\"Content\":\"Si\""
    ++ codes ",\"Language\":\"es\"},{\"@type\":\"ElectionResults.LanguageString\",\"Content\":\"Yes\",\"Language\":\"en\"}]}")

abbrev no : NameParts
no = with_label (codes "\"No\"")

-- candidates by their keys in rising order, the label with its translations in rising order
names_of_selections : names_in (tree_of small_ballot) ≡ Some for_two ∷ Some for_one ∷ Some write_in_line ∷ Some yes ∷ Some no ∷ []
unfolding serde_json_on_literals
names_of_selections = refl

-- the canonical form has the same names, rising within each contest
names_of_canonical_selections : names_in (tree_of small_ballot_canonical) ≡ Some write_in_line ∷ Some for_two ∷ Some for_one ∷ Some no ∷ Some yes ∷ []
unfolding serde_json_on_literals
names_of_canonical_selections = refl

abbrev rise : List NameParts → Bool
rise [] = true
rise (a ∷ []) = true
rise (a ∷ b ∷ names) = is_lt (name_cmp a b) && rise (b ∷ names)

abbrev sequenced : Option ℤ → NameParts
sequenced order = record write_in_line { order = order }

-- by class, by keys as words, not for a write-in first, by number with none first, by label, by identifier with none first
names_in_order : rise (no ∷ yes ∷ for_candidates [] ∷ write_in_line ∷ record write_in_line { identifier = Some (local_key (codes "W1")) }
    ∷ sequenced (Some (pos 2)) ∷ sequenced (Some (pos 10)) ∷ for_candidates (local_key (codes "K1") ∷ []) ∷ for_two ∷ for_one ∷ []) ≡ true
names_in_order = refl

-- the six parts of a selection that has them; `IsWriteIn` counts in its own class alone, false is as absent
parts_of_names : (let t = tree_of small_ballot in map (λ text. name_of None t (tree_of text)) (
    (codes "{\"@type\":\"ElectionResults.PartySelection\",\"PartyIds\":[\"a3\"],\"IsWriteIn\":true,\"SequenceOrder\":-1,\"Selection\":\"Blue\""
    ++ codes ",\"ExternalIdentifier\":[{\"Type\":\"local-level\",\"Value\":\"W1\"}]}")
    ∷ (codes "{\"@type\":\"ElectionResults.CandidateSelection\",\"CandidateIds\":[\"a7\"],\"IsWriteIn\":false,\"EndorsementPartyIds\":[\"a3\"]}")
    ∷ (codes "{\"@type\":\"ElectionResults.Candidate\"}") ∷ []))
    ≡ Some (record {
      class = class.PartySelection;
      keys = local_key (codes "P1") ∷ [];
      write_in = false;
      order = Some (negsuc 0);
      label = None;
      identifier = Some (local_key (codes "W1"));
    }) ∷ Some for_one ∷ None ∷ []
unfolding serde_json_on_literals
parts_of_names = refl

-- ---- keys of one object under preferences of identifier types, by computation

abbrev key : List ℕ → List ℕ → List ℕ → Key
key kind other value = record { kind = kind; other = other; value = value }

abbrev keys_under : List Preference → List ℕ → List (Option Key)
keys_under preferences text = map (λ π. key_of π (tree_of text)) preferences

-- no preference gives the least of all; a type that an entry has gives the least of that type, though a lesser entry of
-- another type stands before or after it; a type that no entry has gives the least of all
types_apart : map (keys_under (None ∷ Some (codes "fips") ∷ Some (codes "ocd-id") ∷ Some (codes "state-id") ∷ [])) (
    (codes "{\"ExternalIdentifier\":[{\"Type\":\"fips\",\"Value\":\"20\"},{\"Type\":\"ocd-id\",\"Value\":\"10\"}]}")
    ∷ (codes "{\"ExternalIdentifier\":[{\"Type\":\"ocd-id\",\"Value\":\"10\"},{\"Type\":\"fips\",\"Value\":\"20\"}]}") ∷ [])
    ≡ (Some (key (codes "fips") [] (codes "20")) ∷ Some (key (codes "fips") [] (codes "20")) ∷ Some (key (codes "ocd-id") [] (codes "10"))
    ∷ Some (key (codes "fips") [] (codes "20")) ∷ [])
    ∷ (Some (key (codes "fips") [] (codes "20")) ∷ Some (key (codes "fips") [] (codes "20")) ∷ Some (key (codes "ocd-id") [] (codes "10"))
    ∷ Some (key (codes "fips") [] (codes "20")) ∷ []) ∷ []
unfolding serde_json_on_literals
types_apart = refl

-- of two entries of the preferred type the lesser, whichever stands first
two_of_a_type : map (keys_under (None ∷ Some (codes "ocd-id") ∷ [])) (
    (codes "{\"ExternalIdentifier\":[{\"Type\":\"ocd-id\",\"Value\":\"9\"},{\"Type\":\"fips\",\"Value\":\"20\"},{\"Type\":\"ocd-id\",\"Value\":\"10\"}]}")
    ∷ (codes "{\"ExternalIdentifier\":[{\"Type\":\"ocd-id\",\"Value\":\"10\"},{\"Type\":\"ocd-id\",\"Value\":\"9\"},{\"Type\":\"fips\",\"Value\":\"20\"}]}")
    ∷ []) ≡ (Some (key (codes "fips") [] (codes "20")) ∷ Some (key (codes "ocd-id") [] (codes "10")) ∷ [])
    ∷ (Some (key (codes "fips") [] (codes "20")) ∷ Some (key (codes "ocd-id") [] (codes "10")) ∷ []) ∷ []
unfolding serde_json_on_literals
two_of_a_type = refl

-- the empty text is a type too: of an entry whose `Type` is empty, or is no text
empty_type : map (keys_under (None ∷ Some [] ∷ Some (codes "fips") ∷ [])) (
    (codes "{\"ExternalIdentifier\":[{\"Type\":\"fips\",\"Value\":\"20\"},{\"Type\":\"\",\"Value\":\"30\"}]}")
    ∷ (codes "{\"ExternalIdentifier\":[{\"Type\":\"fips\",\"Value\":\"20\"},{\"Value\":\"40\"}]}")
    ∷ (codes "{\"ExternalIdentifier\":[{\"Type\":\"fips\",\"Value\":\"20\"}]}") ∷ [])
    ≡ (Some (key [] [] (codes "30")) ∷ Some (key [] [] (codes "30")) ∷ Some (key (codes "fips") [] (codes "20")) ∷ [])
    ∷ (Some (key [] [] (codes "40")) ∷ Some (key [] [] (codes "40")) ∷ Some (key (codes "fips") [] (codes "20")) ∷ [])
    ∷ (Some (key (codes "fips") [] (codes "20")) ∷ Some (key (codes "fips") [] (codes "20")) ∷ Some (key (codes "fips") [] (codes "20")) ∷ []) ∷ []
unfolding serde_json_on_literals
empty_type = refl

-- `OtherType` does not choose, but orders the entries of one type: a preference of `b` finds no entry of type `other`
other_types : map (keys_under (None ∷ Some (codes "other") ∷ Some (codes "b") ∷ [])) (
    (codes "{\"ExternalIdentifier\":[{\"Type\":\"other\",\"OtherType\":\"b\",\"Value\":\"1\"},{\"Type\":\"fips\",\"Value\":\"20\"},{\"Type\":\"other\""
    ++ codes ",\"OtherType\":\"a\",\"Value\":\"2\"}]}")
    ∷ (codes "{\"ExternalIdentifier\":[{\"Type\":\"other\",\"OtherType\":\"b\",\"Value\":\"1\"},{\"Type\":\"other\",\"OtherType\":\"b\",\"Value\":\"0\"}"
    ++ codes ",{\"Type\":\"other\",\"Value\":\"3\"}]}") ∷ [])
    ≡ (Some (key (codes "fips") [] (codes "20")) ∷ Some (key (codes "other") (codes "a") (codes "2")) ∷ Some (key (codes "fips") [] (codes "20")) ∷ [])
    ∷ (Some (key (codes "other") [] (codes "3")) ∷ Some (key (codes "other") [] (codes "3")) ∷ Some (key (codes "other") [] (codes "3")) ∷ []) ∷ []
unfolding serde_json_on_literals
other_types = refl

-- a preferred type is the whole text, letter by letter, and an object with no identifier has no key under any preference
whole_types : map (keys_under (None ∷ Some (codes "fips") ∷ Some (codes "FIPS") ∷ Some (codes "fip") ∷ [])) (
    (codes "{\"ExternalIdentifier\":[{\"Type\":\"FIPS\",\"Value\":\"1\"},{\"Type\":\"fips\",\"Value\":\"2\"},{\"Type\":\"a\",\"Value\":\"3\"}]}")
    ∷ (codes "{\"ExternalIdentifier\":[]}") ∷ (codes "{}") ∷ [])
    ≡ (Some (key (codes "FIPS") [] (codes "1")) ∷ Some (key (codes "fips") [] (codes "2")) ∷ Some (key (codes "FIPS") [] (codes "1"))
    ∷ Some (key (codes "FIPS") [] (codes "1")) ∷ []) ∷ (None ∷ None ∷ None ∷ None ∷ []) ∷ (None ∷ None ∷ None ∷ None ∷ []) ∷ []
unfolding serde_json_on_literals
whole_types = refl
