use Rattle.erd_shown.proofs.Common.{◌≡◌, ℕ, List, Option, Some, None, Bor, Key, Ordering, map, option_copied, option_cmp, key_cmp, eq_by_cmp, refl, sym, ap}
use Rattle.erd_shown.proofs.Common.{ap₂, ◌∙◌, subst, IfOk-weaker}
use Rattle.std.proofs.lemmas.Simd.{map-map}
use Rattle.erd_shown.proofs.PartnerLists.{partners_for}
use Rattle.erd_shown.specs.BallotDifferences.{is_one_key, style_keys}
use Rattle.erd_shown.specs.Partners.{partners}
use Rattle.erd_shown.specs.Rows.{AreRows}
use Rattle.erd_shown.specs.code.LineLists.{of_place}
use Rattle.erd_shown.proofs.ballot_differences.rows_of_styles.Goals as goal

abbrev Lent : Type 0
Lent = Option (Bor Key)

abbrev lent_key_cmp : Lent → Lent → Ordering
lent_key_cmp a b = option_cmp (λ (k l : Bor Key). key_cmp k.now l.now) a b

same_key : (a b : Lent) → eq_by_cmp lent_key_cmp a b ≡ is_one_key (option_copied a) (option_copied b)
same_key None None = refl
same_key None (Some l) = refl
same_key (Some k) None = refl
same_key (Some k) (Some l) = refl

keys_there : (ps : List (Lent × ℕ)) (ks : List Lent) → ks ≡ map (λ (p : Lent × ℕ). p.0) ps → map option_copied ks ≡ style_keys (map of_place ps)
keys_there ps ks is =
    ap (map option_copied) is ∙ map-map option_copied (λ (p : Lent × ℕ). p.0) ps ∙ sym (map-map (λ (p : Option Key × ℕ). p.0) of_place ps)

pub returns : goal.returns
returns c =
    let ones = c.args.ones.now in
    let others = c.args.others.now in
    let lefts = c.deref.result.now in
    let rights = c.deref-2.result.now in
    let left = keys_there ones lefts (c.deref.ensures.value ∙ c.in_ok-one_keys.ensures) in
    let right = keys_there others rights (c.deref-2.ensures.value ∙ c.in_ok-other_keys.ensures) in
    let here = partners_for option_copied (eq_by_cmp lent_key_cmp) is_one_key same_key lefts rights ∙ ap₂ (partners is_one_key) left right in
    let there = partners_for option_copied (eq_by_cmp lent_key_cmp) is_one_key same_key rights lefts ∙ ap₂ (partners is_one_key) right left in
    IfOk-weaker c.rows_between.result _ _
    (λ rows are.
    subst (λ (xs : List (Option ℕ)). AreRows (partners is_one_key (style_keys (map of_place ones)) (style_keys (map of_place others))) xs rows.items) there
    (subst (λ (xs : List (Option ℕ)). AreRows xs (partners (eq_by_cmp lent_key_cmp) rights lefts) rows.items) here are))
    c.rows_between.ensures
