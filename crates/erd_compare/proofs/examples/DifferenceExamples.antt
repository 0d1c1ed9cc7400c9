-- Differences of the small ballot and edits of it, and the lines and JSON objects that tell differences, by computation.
use Rattle.erd_compare.proofs.Common.{◌≡◌, ℕ, true, false, List, [], ◌∷◌, ◌++◌, map, is_some, Some, None, codes, Option, Less, refl, compact_text, tree_of}
use Rattle.erd_compare.proofs.Common.{small_ballot_with, header_node, contest_node, small_ballot, ObjectRecord, meaning, serde_json_on_literals, local_key}
use Rattle.erd_compare.proofs.Common.{Meaning, Key, part_cmp, record_at, Differ, Difference, How, Member, OnlyLeft, OnlyRight, OtherClass, Part, part}
use Rattle.erd_compare.specs.DifferenceData.{difference_data}
use Rattle.erd_compare.specs.DifferenceLine.{difference_line}
use Rattle.erd_tables.specs.declared.class.Class.TheVariants as class

-- ---- lines and objects

abbrev difference : Part → Option Key → How → Difference
difference p k h = record { part = p; key = k; how = h }

lines : map difference_line (difference part.Style (Some (local_key (codes "S1"))) (Member (codes "OrderedContent")) ∷ difference part.Candidate
    (Some (local_key (codes "K3"))) OnlyLeft
    ∷ difference part.Unit (Some (local_key (codes "a\"b"))) OnlyRight ∷ difference part.Report None (Member (codes "IsTest")) ∷ difference part.Party
    (Some (local_key (codes "P1"))) OtherClass
    ∷ difference part.Election None OnlyRight ∷ difference part.Election (Some (local_key (codes "E1"))) OnlyLeft ∷ [])
    ≡ (codes "style [\"local-level\",\"\",\"S1\"]: member \"OrderedContent\"") ∷ (codes "candidate [\"local-level\",\"\",\"K3\"]: only left")
    ∷ (codes "unit [\"local-level\",\"\",\"a\\\"b\"]: only right") ∷ (codes "report: member \"IsTest\"")
    ∷ (codes "party [\"local-level\",\"\",\"P1\"]: other class") ∷ (codes "election: only right")
    ∷ (codes "election [\"local-level\",\"\",\"E1\"]: only left") ∷ []
unfolding serde_json_on_literals
lines = refl

-- each way to differ, with a key and without one, and a key with a quotation mark
texts : map (λ d. compact_text (difference_data d)) (difference part.Contest (Some (local_key (codes "C1"))) (Member (codes "Name"))
    ∷ difference part.Report None (Member (codes "IsTest"))
    ∷ difference part.Candidate (Some (local_key (codes "K3"))) OnlyLeft ∷ difference part.Unit (Some (local_key (codes "a\"b"))) OnlyRight
    ∷ difference part.Election None OtherClass ∷ [])
    ≡ (codes "{\"how\":\"member\",\"key\":[\"local-level\",\"\",\"C1\"],\"member\":\"Name\",\"part\":\"contest\"}")
    ∷ (codes "{\"how\":\"member\",\"key\":null,\"member\":\"IsTest\",\"part\":\"report\"}")
    ∷ (codes "{\"how\":\"only left\",\"key\":[\"local-level\",\"\",\"K3\"],\"part\":\"candidate\"}")
    ∷ (codes "{\"how\":\"only right\",\"key\":[\"local-level\",\"\",\"a\\\"b\"],\"part\":\"unit\"}")
    ∷ (codes "{\"how\":\"other class\",\"key\":null,\"part\":\"election\"}") ∷ []
unfolding serde_json_on_literals
texts = refl

-- parts in their order, then keys; the report has no key
parts_in_order : (part_cmp part.Header (Some (local_key (codes "Z"))) part.Election None ≡ Less)
    × (part_cmp part.Report None part.Unit (Some (local_key (codes "A"))) ≡ Less)
    × (part_cmp part.Candidate (Some (local_key (codes "K3"))) part.Candidate (Some (local_key (codes "K4"))) ≡ Less)
    × (part_cmp part.Candidate (Some (local_key (codes "K4"))) part.Contest (Some (local_key (codes "C1"))) ≡ Less)
parts_in_order = (refl, refl, refl, refl)

-- ---- the key of a candidate changed

abbrev left : Meaning
left = meaning None (tree_of small_ballot)

abbrev other : Meaning
other = meaning None (tree_of (small_ballot_with (codes "K4") (header_node ++ codes "," ++ contest_node)))

abbrev candidate : Meaning → List ℕ → Option ObjectRecord
candidate m value = record_at m part.Candidate (Some (local_key value))

-- K3 stands on the left alone, K4 on the right alone; K1 and K2, which are less than both, on both sides
other_key : Differ (candidate left (codes "K3")) (candidate other (codes "K3")) OnlyLeft × Differ (candidate other (codes "K3"))
    (candidate left (codes "K3")) OnlyRight
    × Differ (candidate left (codes "K4")) (candidate other (codes "K4")) OnlyRight
    × (map (λ m. map (λ value. is_some (candidate m value)) (codes "K1" ∷ codes "K2" ∷ codes "K3" ∷ codes "K4" ∷ [])) (left ∷ other ∷ [])
    ≡ (true ∷ true ∷ true ∷ false ∷ []) ∷ (true ∷ true ∷ false ∷ true ∷ []) ∷ [])
unfolding serde_json_on_literals
other_key = (refl, refl, refl, refl)

-- ---- another class

party_or_coalition : Differ (Some (record { class = class.Party; members = λ name. None }))
    (Some (record { class = class.Coalition; members = λ name. None })) OtherClass
party_or_coalition = λ h. absurd (cc h)
