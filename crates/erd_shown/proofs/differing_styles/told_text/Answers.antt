use Rattle.erd_shown.proofs.Common.{◌≡◌, ◌==◌, ℕ, true, false, List, [], ◌∷◌, codes, flat_map, length, map, string_bytes, sym, ◌∙◌, true≢false, IfOk-weaker}
use Rattle.std.specs.Prelude.{String}
use Rattle.std.specs.declared.alloc.Global.{Global}
use Rattle.std.proofs.lemmas.List.Folds.{flat_map-map}
use Rattle.erd_shown.proofs.LineLaws.{none_in}
use Rattle.erd_shown.specs.BallotLines.{style_text, told_text}
use Rattle.erd_shown.specs.code.Pairs.{of_told}
use Rattle.erd_shown.specs.declared.ballot_differences.BallotDifference.{BallotDifference}
use Rattle.erd_shown.proofs.differing_styles.told_text.Goals as goal

abbrev Told : Type 0
Told = BallotDifference × String Global

none_text : (told : List Told) (text : List ℕ) → true ≡ (length told == 0) → text ≡ codes "same ballots\n" → text ≡ told_text (map of_told told)
none_text [] text none is = is
none_text (p ∷ ps) text none is = absurd (none_in p ps none)

some_text : (told : List Told) (text : List ℕ) → false ≡ (length told == 0) → text ≡ flat_map (λ p. style_text (of_told p)) told
    → text ≡ told_text (map of_told told)
some_text [] text some is = absurd (true≢false (sym some))
some_text (p ∷ ps) text some is = is ∙ sym (flat_map-map style_text of_told (p ∷ ps))

pub returns-then-is_empty : goal.returns-then-is_empty
returns-then-is_empty c =
    IfOk-weaker c.from_str.result _ _ (λ text is. none_text c.args.told.now (string_bytes text) (sym c.if-is_empty.true ∙ c.is_empty.ensures) is)
    c.from_str.ensures.ok

pub returns : goal.returns
returns c = IfOk-weaker c.lines_told.result _ _ (λ text is. some_text c.args.told.now (string_bytes text) (sym c.if-is_empty.false ∙ c.is_empty.ensures) is)
    c.lines_told.ensures
