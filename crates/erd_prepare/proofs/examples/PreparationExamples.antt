-- The words of steps, and what steps do, by computation.
use Rattle.std.proofs.Common.{◌≡◌, ◌<◌, ◌∷◌, [], Some, None, arith, codes, refl}
use Rattle.std.proofs.lemmas.Option.{none-some}
use Rattle.serde_json.specs.Data.{null}
use Rattle.serde_json.proofs.OnLiterals.{serde_json_on_literals}
use Rattle.erd_prepare.specs.Nulls.{nulls}
use Rattle.erd_prepare.specs.Preparations.{AreStepsDone, left_out, no_step}
use Rattle.erd_prepare.specs.Reading.{IsNoJson, IsReadAs}
use Rattle.erd_prepare.specs.Steps.{IsOwnRule}
use Rattle.erd_prepare.specs.StepWords.{group_named, group_of, step_named, steps_chosen, steps_of_group}
use Rattle.erd_prepare.specs.WholeNumbers.{whole_numbers}
use Rattle.erd_prepare.specs.declared.step_done.Others.TheVariants as others
use Rattle.erd_prepare.specs.declared.step_group.StepGroup.TheVariants as group
use Rattle.erd_prepare.specs.declared.step_name.StepName.TheVariants as step

-- ---- words

a_step : step_named (codes "nulls") ≡ Some step.Nulls
a_step = refl

no_step_of_this_name : step_named (codes "null") ≡ None
no_step_of_this_name = refl

a_group : group_named (codes "visible") ≡ Some group.Visible
a_group = refl

in_their_order : steps_of_group group.Visible ≡ step.GoneCandidates ∷ step.UnusedStyles ∷ []
in_their_order = refl

views : steps_chosen (codes "view") ≡ Some (step.Unseen ∷ step.FalseFlags ∷ step.OtherCodes ∷ [])
views = refl

filled_in : group_of step.Codes ≡ group.FilledIn
filled_in = refl

several_words : steps_chosen (codes "visible,nulls") ≡ Some (step.GoneCandidates ∷ step.UnusedStyles ∷ step.Nulls ∷ [])
several_words = refl

-- one unknown word, here the empty one behind a comma, and nothing is chosen
an_empty_word : steps_chosen (codes "nulls,") ≡ None
an_empty_word = refl

no_word : steps_chosen [] ≡ Some []
no_word = refl

-- ---- steps

own_rule : IsOwnRule step.Nulls null nulls
own_rule = refl

-- a step without a rule of its own may be done by any
any_rule : IsOwnRule step.Codes null whole_numbers
any_rule = tt

-- what is not chosen is not done
not_done : AreStepsDone others.Untold [] null (step.Nulls ∷ []) [] null []
not_done = left_out [] step.Nulls [] null [] [] (λ chosen. let low : chosen.0 < 0 = chosen.1 in omega arith) no_step refl

-- ---- reading

reads_null : IsReadAs (codes "null") null
unfolding serde_json_on_literals
reads_null = record { is_text = (codes "null", (refl, refl)); value = refl }

no_bytes : IsNoJson []
unfolding serde_json_on_literals
no_bytes d is = none-some d is.value
