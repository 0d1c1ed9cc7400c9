use Rattle.erd_compare.proofs.Common.{◌≡◌, List, Some, None, Option, sym, ap, ◌∙◌, subst, ℕ}
use Rattle.erd_compare.proofs.contest_selections.SelectionLists.{passes_inside}
use Rattle.erd_compare.specs.SelectionDifferences.{text_size}
use Rattle.erd_compare.specs.code.ContestSelections.{contest_map, differences_at, if_left, Leaves}
use Rattle.erd_compare.specs.declared.inside.SelectionDifference.{SelectionDifference}
use Rattle.erd_compare.specs.declared.inside.named.NamedWays.{NamedWays}
use Rattle.erd_compare.proofs.detailed.selections_within.Goals as goal

-- the room behind the text
left_as : (lent vs : List NamedWays) (room : ℕ) (after : Option ℕ) → lent ≡ vs → Leaves (text_size (Some (differences_at lent))) room after
    → Leaves (text_size (Some (differences_at vs))) room after
left_as lent vs room after same leaves = subst (λ ws. Leaves (text_size (Some (differences_at ws))) room after) same leaves

-- what is told where some room is left, and where none is
shown_as : (after : Option ℕ) (left : ℕ) (ds inside : List SelectionDifference) → after ≡ Some left → ds ≡ inside → Some ds ≡ if_left after (Some inside)
shown_as after left ds inside is same = ap Some same ∙ sym (ap (λ o. if_left o (Some inside)) is)

not_shown : (after : Option ℕ) (inside : List SelectionDifference) → after ≡ None → None ≡ if_left after (Some inside)
not_shown after inside is = sym (ap (λ o. if_left o (Some inside)) is)

pub returns-in_ok-differences_at-in-Some-room : goal.returns-in_ok-differences_at-in-Some-room
returns-in_ok-differences_at-in-Some-room c =
    let m = contest_map c.args.comparer.now.left c.args.contest in
    let n = contest_map c.args.comparer.now.right c.args.other_contest in
    let vs = c.in_ok-ways.ways.items in
    let after = c.in_ok-room.field-0 in
    let told = c.in_ok-differences_at-in-Some-room.field-0.items in
    passes_inside m n vs c.in_ok-ways.ensures c.args.room.now after c.in-Some.bytes c.in-Some.is
    (left_as c.deref.result.now vs c.in-Some.bytes after c.deref.ensures.value c.in_ok-room.ensures) (Some told)
    (shown_as after c.in-Some-room.field-0 told _ c.in-Some-room.is
    (c.in_ok-differences_at-in-Some-room.ensures ∙ ap differences_at (c.deref-in-Some-room.ensures.value ∙ c.in_ok-by_name-in-Some-room.ensures)))

pub returns-in-None : goal.returns-in-None
returns-in-None c =
    let m = contest_map c.args.comparer.now.left c.args.contest in
    let n = contest_map c.args.comparer.now.right c.args.other_contest in
    let vs = c.in_ok-ways.ways.items in
    let after = c.in_ok-room.field-0 in
    passes_inside m n vs c.in_ok-ways.ensures c.args.room.now after c.in-Some.bytes c.in-Some.is
    (left_as c.deref.result.now vs c.in-Some.bytes after c.deref.ensures.value c.in_ok-room.ensures) None
    (not_shown after _ c.in-None.is)
