use Rattle.std.proofs.Common.{◌≡◌, ◌↔◌, ◌∙◌, ℕ, Bool, List, ap₂, sym}
use Rattle.std.proofs.lemmas.Slice.Eq.{bytes_eq-Decides}
use Rattle.std.specs.Prelude.{IsTrue}
use Rattle.std.specs.Str.{bytes_eq}
use Rattle.uses.proofs.callers.is_same.Goals as goal

-- a comparison of bytes that is true exactly for equal ones, and they are equal exactly where P holds
compared : (P : Type 0) (answer : Bool) (one other : List ℕ) → answer ≡ bytes_eq one other → (one ≡ other) ↔ P → IsTrue answer ↔ P
compared P answer one other told equal =
    let tells = bytes_eq-Decides one other in (λ same. equal.0 (tells.0 (sym told ∙ same)), λ holds. told ∙ tells.1 (equal.1 holds))

pub returns-clause-same : goal.returns-clause-same
returns-clause-same c t u is is_other =
    let right = c.in_ok-right_form.ensures.headline in
    compared _ _ c.in_ok-left_form.left_form.items c.in_ok-right_form.right_form.items
    (c.eq.ensures ∙ ap₂ bytes_eq c.as_slice.ensures.value c.as_slice-2.ensures.value)
    (c.in_ok-left_form.ensures.headline.equal_bytes c.args.right.now _ t u right.form is is_other)

pub returns-clause-says : goal.returns-clause-says
returns-clause-says c t u is is_other =
    let right = c.in_ok-right_form.ensures.headline in
    compared _ _ c.in_ok-left_form.left_form.items c.in_ok-right_form.right_form.items
    (c.eq.ensures ∙ ap₂ bytes_eq c.as_slice.ensures.value c.as_slice-2.ensures.value)
    (c.in_ok-left_form.ensures.headline.equal_sayings c.args.right.now _ t u right.form is is_other)
