-- What a comparison answers under one preference, it says under each other one that accepts both reports.
use Rattle.erd_canon.proofs.Common.{◌≡◌, ℕ, ◌↔◌, List, Some, None, Option, sym, refl, ap, ◌∙◌, subst, IsAccepted, Preference, meaning, record_at, Differ}
use Rattle.erd_canon.proofs.Common.{IsDifference, Difference, IsComparison}
use Rattle.erd_meaning.specs.Meaning.{Meaning, ObjectRecord}
use Rattle.erd_check.proofs.ReadTrees.{read_is_tree}
use Rattle.erd_normal.proofs.same.complete.Complete.{preferences_agree, says_and_means}
use Rattle.erd_compare.specs.declared.difference.How.{How}
use Rattle.erd_compare.specs.declared.difference.How.TheVariants.{Member, OtherClass}
use Rattle.erd_canon.specs.ByteLaws.{AgreesUnderEach, TellsWhatIsSaid}
use Rattle.erd_canon.proofs.forms.Refusing.{one_tree}

-- no record differs from itself
not_itself : (r : Option ObjectRecord) (how : How) → Differ r r how → ⊥
not_itself None how is = is
not_itself (Some a) OtherClass is = is refl
not_itself (Some a) (Member name) is = is.differ refl
not_itself (Some a) how is = is

-- nothing differs exactly if the meanings are equal
none_differs : (m n : Meaning) (found : Option Difference) → IsDifference m n found → (found ≡ None) ↔ (m ≡ n)
none_differs m n None is = (λ _. is, λ _. refl)
none_differs m n (Some d) is = (
  λ e. absurd (cc e),
  λ same. absurd
      (not_itself (record_at m d.part d.key) d.how
      (subst (λ r. Differ (record_at m d.part d.key) r d.how) (ap (λ x. record_at x d.part d.key) (sym same)) is.differ)),
)

-- nothing differs exactly if the reports say the same
pub tells_what_is_said : (π : Preference) (left right : List ℕ) (found : Option Difference) → IsComparison π left right found → TellsWhatIsSaid left right found
tells_what_is_said π left right found is left_tree right_tree one_read other_read =
    let one : is.left_tree ≡ left_tree = one_tree left is.left_tree left_tree is.left_accepted.read one_read in
    let other : is.right_tree ≡ right_tree = one_tree right is.right_tree right_tree is.right_accepted.read other_read in
    let here = none_differs (meaning π is.left_tree) (meaning π is.right_tree) found is.difference in
    let agree = says_and_means π left_tree right_tree (read_is_tree left left_tree one_read.1) (read_is_tree right right_tree other_read.1)
    (subst (IsAccepted π) one is.left_accepted.accepted) (subst (IsAccepted π) other is.right_accepted.accepted) in (
      λ none. agree.0 (sym (ap (meaning π) one) ∙ (here.0 none ∙ ap (meaning π) other)),
      λ same. here.1 (ap (meaning π) one ∙ (agree.1 same ∙ sym (ap (meaning π) other))),
    )

-- and so under each other preference
pub agrees : (π : Preference) (left right : List ℕ) (found : Option Difference) → IsComparison π left right found → AgreesUnderEach left right found
agrees π left right found is ρ left_tree right_tree under_left under_right =
    let one : is.left_tree ≡ left_tree = one_tree left is.left_tree left_tree is.left_accepted.read under_left.read in
    let other : is.right_tree ≡ right_tree = one_tree right is.right_tree right_tree is.right_accepted.read under_right.read in
    let here = none_differs (meaning π is.left_tree) (meaning π is.right_tree) found is.difference in
    let there = preferences_agree π ρ is.left_tree is.right_tree
    (read_is_tree left is.left_tree is.left_accepted.read.1) (read_is_tree right is.right_tree is.right_accepted.read.1)
    is.left_accepted.accepted is.right_accepted.accepted
    (subst (IsAccepted ρ) (sym one) under_left.accepted) (subst (IsAccepted ρ) (sym other) under_right.accepted) in (
      λ none. sym (ap (meaning ρ) one) ∙ (there.0 (here.0 none) ∙ ap (meaning ρ) other),
      λ same. here.1 (there.1 (ap (meaning ρ) one ∙ (same ∙ sym (ap (meaning ρ) other)))),
    )
