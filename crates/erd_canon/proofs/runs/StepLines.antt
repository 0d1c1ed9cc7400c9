-- The lines of what changed and what was left, and of steps that are tried.
use Rattle.erd_canon.proofs.Common.{◌≡◌, ℕ, zero, suc, ◌+◌, ◌<◌, List, ◌++◌, codes, decimal, take, get_or, length, refl, sym, ap, subst, ◌∙◌, append_assoc}
use Rattle.erd_canon.proofs.Common.{append-nil, text_of_lines, Data}
use Rattle.std.proofs.lemmas.Grind.{flat_map-append}
use Rattle.std.proofs.lemmas.List.{take_more}
use Rattle.erd_prepare.specs.Steps.{IsNamedStepDone}
use Rattle.erd_prepare.specs.declared.engine.Done.{Done}
use Rattle.erd_prepare.specs.declared.step_name.StepName.{StepName}
use Rattle.erd_canon.specs.Preparing.{AreStepsTried, count_lines, one_more, tried_lines}

-- what changed, and nothing was left
pub changed_text : (name : List ℕ) (changed left : ℕ) → (changed ≡ 0 → ⊥) → left ≡ 0 → name ++ (codes ": " ++ (decimal changed ++ codes " changed\n"))
    ≡ text_of_lines (count_lines name changed left)
changed_text name zero left is_not none = absurd (is_not refl)
changed_text name (suc changed) zero is_not none = simp (append_assoc, append-nil) refl
changed_text name (suc changed) (suc left) is_not none = absurd (cc)

-- nothing changed, and what was left
pub left_text : (name : List ℕ) (changed left : ℕ) → changed ≡ 0 → (left ≡ 0 → ⊥) → name ++ (codes ": " ++ (decimal left ++ codes " left\n"))
    ≡ text_of_lines (count_lines name changed left)
left_text name zero zero none is_not = absurd (is_not refl)
left_text name zero (suc left) none is_not = simp (append_assoc, append-nil) refl
left_text name (suc changed) left none is_not = absurd (cc)

-- what changed and what was left
pub both_text : (name : List ℕ) (changed left : ℕ) → (changed ≡ 0 → ⊥) → (left ≡ 0 → ⊥)
    → name ++ (codes ": " ++ (decimal changed ++ (codes " changed, " ++ (decimal left ++ codes " left\n")))) ≡ text_of_lines (count_lines name changed left)
both_text name zero left some more = absurd (some refl)
both_text name (suc changed) zero some more = absurd (more refl)
both_text name (suc changed) (suc left) some more = simp (append_assoc, append-nil) refl

-- one more step is tried
pub one_more_tried : (given : Data) (names : List StepName) (i : ℕ) (d : StepName) (before after : List ℕ) → i < length names
    → (lines : List (List ℕ)) × AreStepsTried given (take i names) lines × (before ≡ text_of_lines lines)
    → (done : Done) × IsNamedStepDone (get_or names i d) given done × (after ≡ before ++ text_of_lines (tried_lines (get_or names i d) done))
    → (lines : List (List ℕ)) × AreStepsTried given (take (i + 1) names) lines × (after ≡ text_of_lines lines)
one_more_tried given names i d before after low (lines, tried, was) (done, is, now) =
    let more = tried_lines (get_or names i d) done in (
      lines ++ more,
      subst (λ (ns : List StepName). AreStepsTried given ns (lines ++ more)) (sym (take_more names i d low))
          (one_more (take i names) (get_or names i d) lines done tried is),
      now ∙ ap (λ t. t ++ text_of_lines more) was ∙ sym (flat_map-append _ lines more),
    )
