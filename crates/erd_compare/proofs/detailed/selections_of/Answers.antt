use Rattle.erd_compare.proofs.Common.{◌≡◌, ℕ, ◌-◌, true, false, Option, option_map, refl, ap, ◌∙◌, subst, rules, arith, IfOk-weaker, option_copied, view}
use Rattle.erd_compare.proofs.Common.{Judged, meaning, Key}
use Rattle.erd_compare.specs.SelectionDifferences.{is_in_selections, selections_with_key}
use Rattle.erd_compare.specs.code.ContestSelections.{contest_map, PassesInside}
use Rattle.erd_compare.proofs.contest_selections.ToldLists.{passed_before, passed_beside, passed_inside}
use Rattle.erd_compare.proofs.detailed.selections_of.Goals as goal

pub returns-then-room-gt0 : goal.returns-then-room-gt0
returns-then-room-gt0 c =
    let a = c.args.comparer.now.left in
    let b = c.args.comparer.now.right in
    let room = c.args.room.now in
    passed_before (meaning a.prefer (view a.tree)) (meaning b.prefer (view b.tree)) c.args.difference.now room
    (record { first = room.first - 1; bytes = room.bytes })
    c.if-room-gt0.true (omega (arith, c.if-room-gt0.true)) refl

pub returns-then-not-is_in_selections : goal.returns-then-not-is_in_selections
returns-then-not-is_in_selections c =
    let a = c.args.comparer.now.left in
    let b = c.args.comparer.now.right in
    let outside : is_in_selections c.args.difference.now ≡ false = search rules in
    passed_beside (meaning a.prefer (view a.tree)) (meaning b.prefer (view b.tree)) c.args.difference.now c.args.room.now c.args.room.now
    (omega (arith, c.if-room-gt0.false)) refl refl outside

-- the contest with the key of the difference
at_key : (x a : Judged) (one : Option ℕ) (key found : Option Key) → x ≡ a → found ≡ key → contest_map x one ≡ selections_with_key
    (meaning x.prefer (view x.tree)) found
    → contest_map a one ≡ selections_with_key (meaning a.prefer (view a.tree)) key
at_key x a one key found same keys is =
    subst (λ (j : Judged). contest_map j one ≡ selections_with_key (meaning j.prefer (view j.tree)) key) same
    (is ∙ ap (selections_with_key (meaning x.prefer (view x.tree))) keys)

pub returns : goal.returns
returns c =
    let a = c.args.comparer.now.left in
    let b = c.args.comparer.now.right in
    let m = meaning a.prefer (view a.tree) in
    let n = meaning b.prefer (view b.tree) in
    let one = c.contest_with_key-contest.result in
    let other = c.contest_with_key-other_contest.result in
    let d = c.args.difference.now in
    let inside : is_in_selections d ≡ true = search rules in
    let left = at_key c.left.result.now a one d.key (option_copied c.as_ref.result) c.left.ensures.same c.as_ref.ensures.value
    c.contest_with_key-contest.ensures in
    let right = at_key c.right.result.now b other d.key (option_copied c.as_ref-2.result) c.right.ensures.same c.as_ref-2.ensures.value
    c.contest_with_key-other_contest.ensures in
    IfOk-weaker c.selections_within.result _ _
    (λ told passes.
    passed_inside m n d inside c.args.room.now (record { first = c.args.room.now.first; bytes = c.selections_within.new.room })
    (omega (arith, c.if-room-gt0.false)) refl (option_map (λ v. v.items) told)
    (subst (λ x. PassesInside x (selections_with_key n d.key) (option_map (λ v. v.items) told) c.args.room.now.bytes c.selections_within.new.room) left
    (subst (λ y. PassesInside (contest_map a one) y (option_map (λ v. v.items) told) c.args.room.now.bytes c.selections_within.new.room) right passes)))
    c.selections_within.ensures
