-- Which line of one ballot is which line of another, and the lines of a ballot.
use Rattle.erd_shown.proofs.Common.{◌≡◌, ℕ, [], ◌∷◌, ◌++◌, ◌==◌, map, Some, None, codes, refl, Data, tree_of}
unfoldable use Rattle.erd_shown.proofs.Common.{serde_json_on_literals}
use Rattle.erd_shown.specs.Lines.{content_lines}
use Rattle.erd_shown.specs.Partners.{occurrences, partners}

-- the third thing is the second time that the first one stands there
told_apart : occurrences ◌==◌ (7 ∷ 8 ∷ 7 ∷ []) ≡ (7, 0) ∷ (8, 0) ∷ (7, 1) ∷ []
told_apart = refl

-- the first is the first, the second the second, and what only one list has has no partner
by_occurrence : partners ◌==◌ (7 ∷ 8 ∷ 7 ∷ []) (9 ∷ 7 ∷ 7 ∷ 7 ∷ []) ≡ Some 1 ∷ None ∷ Some 2 ∷ []
by_occurrence = refl

-- and the other way round: the third time has no partner
back : partners ◌==◌ (9 ∷ 7 ∷ 7 ∷ 7 ∷ []) (7 ∷ 8 ∷ 7 ∷ []) ≡ None ∷ Some 0 ∷ Some 2 ∷ None ∷ []
back = refl

-- what stands inside a header comes behind it, one deeper
inside_a_header : map (λ (l : ℕ × Data). l.0) (content_lines 0 (tree_of
    (codes "[{\"@type\":\"ElectionResults.OrderedHeader\",\"HeaderId\":\"h\""
    ++ codes ",\"OrderedContent\":[{\"@type\":\"ElectionResults.OrderedContest\",\"ContestId\":\"c\"}]}"
    ++ codes ",{\"@type\":\"ElectionResults.OrderedContest\",\"ContestId\":\"d\"}]")))
    ≡ 0 ∷ 1 ∷ 0 ∷ []
unfolding serde_json_on_literals
inside_a_header = refl
