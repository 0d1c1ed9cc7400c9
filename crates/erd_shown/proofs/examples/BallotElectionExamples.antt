-- The ballot of a style with the key of its election, by computation.
use Rattle.erd_shown.proofs.Common.{◌≡◌, ℕ, true, List, ◌++◌, None, codes, refl, Data, compact_text, tree_of}
unfoldable use Rattle.erd_shown.proofs.Common.{serde_json_on_literals}
use Rattle.erd_check.proofs.Reports.{election, identifier, other_election, report_of_two, with_election_member}
use Rattle.erd_shown.specs.BallotDifferences.{has_same_lines}
use Rattle.erd_shown.specs.Ballots.{ballot_in}

-- the styles of an election: one for the county, with nothing on its ballot
abbrev style : List ℕ → List ℕ
style value = codes "\"BallotStyle\":[{\"@type\":\"ElectionResults.BallotStyle\",\"GpUnitIds\":[\"u7\"]," ++ identifier value ++ codes "}]"

-- two elections with these keys, each with a style
abbrev in_two : List ℕ → List ℕ → Data
in_two first second =
    tree_of
    (report_of_two (election ++ codes "," ++ identifier first ++ codes "," ++ style (codes "S1"))
    (other_election ++ codes "," ++ identifier second ++ codes "," ++ style (codes "S2")))

abbrev two : Data
two = in_two (codes "E2") (codes "E1")

-- each ballot tells the key of its own election
of_two : (compact_text (ballot_in None two 0) ≡ codes
    "{\"election\":[\"local-level\",\"\",\"E2\"],\"key\":[\"local-level\",\"\",\"S1\"],\"lines\":[],\"parties\":[],\"units\":[[\"local-level\",\"\",\"U1\"]]}")
    × (compact_text (ballot_in None two 1) ≡ codes
    "{\"election\":[\"local-level\",\"\",\"E1\"],\"key\":[\"local-level\",\"\",\"S2\"],\"lines\":[],\"parties\":[],\"units\":[[\"local-level\",\"\",\"U1\"]]}")
unfolding serde_json_on_literals
of_two = (refl, refl)

-- an only election may have no key
abbrev sole : Data
sole = tree_of (with_election_member (style (codes "S1")))

of_one : compact_text (ballot_in None sole 0) ≡ codes
    "{\"election\":null,\"key\":[\"local-level\",\"\",\"S1\"],\"lines\":[],\"parties\":[],\"units\":[[\"local-level\",\"\",\"U1\"]]}"
unfolding serde_json_on_literals
of_one = refl

none_there : compact_text (ballot_in None sole 1) ≡ codes "null"
unfolding serde_json_on_literals
none_there = refl

-- ballots are compared without their elections: another one is told of the style, and not on its ballot
in_another : (has_same_lines None two None (in_two (codes "E1") (codes "E2")) 0 0 ≡ true) × (has_same_lines None two None sole 0 0 ≡ true)
unfolding serde_json_on_literals
in_another = (refl, refl)
