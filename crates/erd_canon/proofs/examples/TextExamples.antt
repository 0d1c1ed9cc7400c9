-- Worked examples, by computation: which bytes are JSON, and lines.
use Rattle.erd_canon.proofs.Common.{◌≡◌, true, [], ◌∷◌, is_some, None, codes, refl, serde_json_on_literals, read, text_of_lines, comparison_line, lines_of_side}

-- no bytes, and a report that lacks its last byte, are no JSON
no_json : (read [] ≡ None) × (read (codes "{\"@type\":\"ElectionResults.ElectionReport\"") ≡ None) × (read (codes "{} x") ≡ None)
    × (is_some (read (codes " {} ")) ≡ true)
unfolding serde_json_on_literals
no_json = (refl, refl, refl, refl)

lines : (text_of_lines (codes "accepted" ∷ []) ≡ codes "accepted\n") × (text_of_lines (codes "a" ∷ codes "b" ∷ []) ≡ codes "a\nb\n")
    × (text_of_lines (lines_of_side (codes "left: ") (codes "not JSON" ∷ [])) ≡ codes "left: not JSON\n") × (comparison_line None ≡ codes "same")
lines = (refl, refl, refl, refl)
