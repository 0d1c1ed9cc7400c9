-- The members beside the translations, then the translations.
use Rattle.erd_compare.proofs.Common.{◌≡◌, ℕ, Bool, true, false, cond, not, ◌&&◌, ◌||◌, List, map, IfOk, None, codes, Option, bytes_eq, refl, ◌∙◌, subst, ap₂}
use Rattle.erd_compare.proofs.Common.{and_parts, and_from, IfOk-weaker, Data, get, view, entries_at, json_set, label_beside_text, are_same_members, translated}
use Rattle.erd_compare.proofs.Common.{takes_name, chosen_in, translated_label, Decides, IsWholeTree, BesideText}
use Rattle.erd_compare.proofs.same_values.SameValues.{chosen-Decides, first_answer, json_set-Decides, second_answer}
use Rattle.erd_compare.proofs.whole_trees.WholeTrees.{whole_trees-entries_at, whole_values-entries_at}
use Rattle.erd_compare.proofs.values.labels.is_same_translated.Goals as goal

-- the members beside the translations are the chosen ones
chosen_beside : (d : Data) (name : List ℕ) → cond (takes_name BesideText name) (get name d) None ≡ label_beside_text d name
chosen_beside d name = turned (bytes_eq name (codes "@type") || bytes_eq name (codes "Text")) (get name d)
  where
    turned : (b : Bool) (o : Option Data) → cond (not b) o None ≡ cond b None o
    turned true o = refl
    turned false o = refl

-- the same members beside the same translations
translated-Decides : (a b : Bool) (d e : Data) → Decides a (label_beside_text d) (label_beside_text e) → Decides b (json_set (entries_at (codes "Text") d))
    (json_set (entries_at (codes "Text") e))
    → Decides (a && b) (translated_label d) (translated_label e)
translated-Decides a b d e beside texts = (
  λ h. let both = and_parts a b h in ap₂ translated (beside.0 both.0) (texts.0 both.1),
  λ same.
      let others : label_beside_text d ≡ label_beside_text e = cc in
      let sets : json_set (entries_at (codes "Text") d) ≡ json_set (entries_at (codes "Text") e) = cc in and_from a b (beside.1 others) (texts.1 sets),
)

pub is_same_set-requires-clause-ones : goal.is_same_set-requires-clause-ones
is_same_set-requires-clause-ones c = whole_values-entries_at (codes "Text") (view c.args.one.now) c.entries_at.result.now c.requires.one c.entries_at.ensures

pub is_same_set-requires-clause-others : goal.is_same_set-requires-clause-others
is_same_set-requires-clause-others c =
    whole_values-entries_at (codes "Text") (view c.args.other.now) c.entries_at-then-is_same_choice.result.now c.requires.other
    c.entries_at-then-is_same_choice.ensures

-- the members beside the translations
same_beside : (d e : Data) → IsWholeTree d → IsWholeTree e → Decides (are_same_members (chosen_in BesideText d) (chosen_in BesideText e))
    (label_beside_text d) (label_beside_text e)
same_beside d e left right = chosen-Decides BesideText BesideText d e (label_beside_text d) (label_beside_text e) left right (chosen_beside d) (chosen_beside e)

pub returns-then-is_same_choice : goal.returns-then-is_same_choice
returns-then-is_same_choice c =
    let one = view c.args.one.now in
    let other = view c.args.other.now in
    let texts = json_set (entries_at (codes "Text") one) in
    let other_texts = json_set (entries_at (codes "Text") other) in
    let sets : IfOk c.is_same_set.result (λ answer. Decides answer texts other_texts) =
    subst (λ x. IfOk c.is_same_set.result (λ answer. Decides answer (json_set x) other_texts)) c.entries_at.ensures
    (subst (λ x. IfOk c.is_same_set.result (λ answer. Decides answer (json_set (map view c.entries_at.result.now)) (json_set x)))
    c.entries_at-then-is_same_choice.ensures c.is_same_set.ensures) in
    IfOk-weaker c.is_same_set.result (λ answer. Decides answer texts other_texts) (λ answer. Decides answer (translated_label one) (translated_label other))
    (λ answer h. subst (λ (b : Bool). Decides b (translated_label one) (translated_label other))
    (second_answer _ answer _ answer c.is_same_choice.ensures refl c.if-is_same_choice.true)
    (translated-Decides _ answer one other (same_beside one other c.requires.one c.requires.other) h)) sets

pub returns-else-is_same_choice : goal.returns-else-is_same_choice
returns-else-is_same_choice c =
    let one = view c.args.one.now in
    let other = view c.args.other.now in
    subst (λ (answer : Bool). Decides answer (translated_label one) (translated_label other))
    (first_answer _ _ _ c.is_same_choice.ensures c.if-is_same_choice.false ∙ c.if-is_same_choice.false)
    (translated-Decides _ _ one other (same_beside one other c.requires.one c.requires.other)
    (json_set-Decides (entries_at (codes "Text") one) (entries_at (codes "Text") other) (whole_trees-entries_at (codes "Text") one c.requires.one)
    (whole_trees-entries_at (codes "Text") other c.requires.other)))
