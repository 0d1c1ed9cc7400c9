-- What a contest has at the name of a selection, by computation.
use Rattle.erd_shown.proofs.Common.{◌≡◌, ℕ, true, false, List, [], ◌∷◌, ◌++◌, pos, Some, None, Option, option_map, codes, refl, Data, compact_text}
use Rattle.erd_shown.proofs.Common.{tree_of, local_key, Key, NameParts}
unfoldable use Rattle.erd_shown.proofs.Common.{digits, serde_json_on_literals}
use Rattle.erd_tables.specs.declared.class.Class.TheVariants as class
use Rattle.erd_shown.specs.SideValues.{selection_value, selection_with_name}

-- an object of the class with this `@id` and this identifier
abbrev object_with : List ℕ → List ℕ → List ℕ → List ℕ
object_with id class value =
    codes "{\"@id\":\"" ++ id ++ codes "\",\"@type\":\"ElectionResults." ++ class
    ++ codes "\",\"ExternalIdentifier\":[{\"@type\":\"ElectionResults.ExternalIdentifier\",\"Type\":\"local-level\",\"Value\":\"" ++ value
    ++ codes "\"}]"

-- a selection for a candidate whom a party endorses, and two write-in lines, which only their `SequenceOrder` tells apart
abbrev for_ann : List ℕ
for_ann = codes "{\"@id\":\"s1\",\"@type\":\"ElectionResults.CandidateSelection\",\"CandidateIds\":[\"k\"],\"EndorsementPartyIds\":[\"p\"],\"Note\":true}"

abbrev write_in_at : List ℕ → List ℕ
write_in_at number =
    codes "{\"@id\":\"w" ++ number ++ codes "\",\"@type\":\"ElectionResults.CandidateSelection\",\"IsWriteIn\":true,\"SequenceOrder\":" ++ number ++ codes "}"

-- the contest that has them, with another candidate on none of its lines
abbrev contest : List ℕ
contest =
    object_with (codes "c") (codes "CandidateContest") (codes "C1")
    ++ codes ",\"ContestSelection\":[" ++ write_in_at (codes "2") ++ codes "," ++ for_ann ++ codes "," ++ write_in_at (codes "3") ++ codes "]}"

abbrev report : Data
report =
    tree_of
    (codes "{\"@type\":\"ElectionResults.ElectionReport\",\"Election\":[{\"@type\":\"ElectionResults.Election\",\"Candidate\":["
    ++ object_with (codes "k") (codes "Candidate") (codes "K1")
    ++ codes "},"
    ++ object_with (codes "l") (codes "Candidate") (codes "K2")
    ++ codes "}],\"Contest\":["
    ++ contest
    ++ codes "]}],\"Party\":["
    ++ object_with (codes "p") (codes "Party") (codes "P1")
    ++ codes "}]}")

abbrev named : List Key → NameParts
named keys = record { class = class.CandidateSelection; keys = keys; write_in = false; order = None; label = None; identifier = None }

abbrev ann : NameParts
ann = named (local_key (codes "K1") ∷ [])

abbrev write_in : ℕ → NameParts
write_in n = record { class = class.CandidateSelection; keys = []; write_in = true; order = Some (pos n); label = None; identifier = None }

-- the text of what the contest with this key has at a name
abbrev told : Option Key → NameParts → Option (List ℕ) → Option (List ℕ)
told key name what = option_map compact_text (selection_value None report key name what)

abbrev in_contest : NameParts → Option (List ℕ) → Option (List ℕ)
in_contest = told (Some (local_key (codes "C1")))

-- a selection is found by its name, wherever it stands
found : (selection_with_name None report ann (tree_of contest) ≡ Some (tree_of for_ann))
    × (selection_with_name None report (write_in 3) (tree_of contest) ≡ Some (tree_of (write_in_at (codes "3"))))
unfolding serde_json_on_literals
found = (refl, refl)

-- the value of a member, a carried one too, with keys in place of references; none where the selection lacks it
values : (in_contest ann (Some (codes "EndorsementPartyIds")) ≡ Some (codes "[[\"local-level\",\"\",\"P1\"]]"))
    × (in_contest ann (Some (codes "Note")) ≡ Some (codes "true"))
    × (in_contest ann (Some (codes "IsWriteIn")) ≡ None)
unfolding serde_json_on_literals
values = (refl, refl, refl)

-- its record: the class and the members
record_there : in_contest ann None ≡ Some
    (codes "{\"class\":\"ElectionResults.CandidateSelection\",\"members\":{\"CandidateIds\":[[\"local-level\",\"\",\"K1\"]],"
    ++ codes "\"EndorsementPartyIds\":[[\"local-level\",\"\",\"P1\"]],\"Note\":true}}")
unfolding serde_json_on_literals
record_there = refl

-- a name that the contest lacks: of another candidate, and of nobody
no_name : (in_contest (named (local_key (codes "K2") ∷ [])) None ≡ None) × (in_contest (named []) (Some (codes "IsWriteIn")) ≡ None)
unfolding serde_json_on_literals
no_name = (refl, refl)

-- a contest that the report lacks, and one without a key
no_contest : (told (Some (local_key (codes "C2"))) ann None ≡ None) × (told None ann None ≡ None)
unfolding serde_json_on_literals
no_contest = (refl, refl)

-- two that differ only in what names them: each has its own order
each_its_own : (in_contest (write_in 2) (Some (codes "SequenceOrder")) ≡ Some (codes "2"))
    × (in_contest (write_in 3) (Some (codes "SequenceOrder")) ≡ Some (codes "3"))
    × (in_contest (write_in 4) (Some (codes "SequenceOrder")) ≡ None)
unfolding digits serde_json_on_literals
each_its_own = (refl, refl, refl)
