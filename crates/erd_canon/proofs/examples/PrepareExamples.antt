-- What the engines that prepare a report write on worked rows, by computation.
use Rattle.erd_canon.proofs.Common.{◌≡◌, [], Some, None, codes, refl, digits, text_of_lines, Bad, NotJson}
use Rattle.erd_prepare.specs.StepWords.{steps_chosen}
use Rattle.erd_prepare.specs.declared.step_name.StepName.TheVariants.{Codes, GoneCandidates, Nulls}
use Rattle.erd_canon.specs.Preparing.{AreNotJsonTexts, asked_steps, count_lines, grouped_text}

-- ---- the lines

three_changed : text_of_lines (count_lines (codes "nulls") 3 0) ≡ codes "nulls: 3 changed\n"
unfolding digits
three_changed = refl

one_left : text_of_lines (count_lines (codes "codes") 0 1) ≡ codes "codes: 1 left\n"
unfolding digits
one_left = refl

changed_and_left : text_of_lines (count_lines (codes "codes") 12 1) ≡ codes "codes: 12 changed, 1 left\n"
unfolding digits
changed_and_left = refl

nothing_done : count_lines (codes "codes") 0 0 ≡ []
nothing_done = refl

-- ---- the names with their groups

removed_step : grouped_text Nulls ≡ codes "nulls (removed)"
removed_step = refl

filled_in_step : grouped_text Codes ≡ codes "codes (filled-in)"
filled_in_step = refl

visible_step : grouped_text GoneCandidates ≡ codes "gone-candidates (visible)"
visible_step = refl

-- ---- the steps that are asked for

no_words : asked_steps None ≡ steps_chosen (codes "removed")
no_words = refl

empty_words : asked_steps (Some []) ≡ Some []
empty_words = refl

-- ---- bytes that are not JSON

not_json : AreNotJsonTexts NotJson [] (codes "not JSON\n")
not_json = record { not_json = refl; output = refl; errors = refl }

not_json_is_not_bad : (AreNotJsonTexts Bad [] (codes "not JSON\n")) → ⊥
not_json_is_not_bad is = absurd (cc is.not_json)
