use Rattle.erd_canon.proofs.Common.{◌≡◌, ℕ, List, Some, None, Option, option_copied, option_map, unwrap_or, subst, Bor, IfOk, Result}
use Rattle.erd_prepare.specs.StepWords.{steps_chosen}
use Rattle.erd_canon.proofs.engines.prepare.steps_asked.Goals as goal

-- what was found by the text behind a reference, or else by another text
found_or : {X A E : Type 0} (f : List ℕ → A) (g : X → A) (words : Option (Bor (List ℕ))) (other taken : Bor (List ℕ)) (r : Result X E)
    → taken ≡ unwrap_or words other
    → IfOk r (λ x. g x ≡ f taken.now) → IfOk r (λ x. g x ≡ f (unwrap_or (option_copied words) other.now))
found_or f g None other taken r took found = subst (λ (t : Bor (List ℕ)). IfOk r (λ x. g x ≡ f t.now)) took found
found_or f g (Some word) other taken r took found = subst (λ (t : Bor (List ℕ)). IfOk r (λ x. g x ≡ f t.now)) took found

pub returns : goal.returns
returns c = found_or steps_chosen (option_map (λ steps. steps.items)) c.args.words _ c.unwrap_or.result c.steps_named.result
    c.unwrap_or.ensures c.steps_named.ensures
