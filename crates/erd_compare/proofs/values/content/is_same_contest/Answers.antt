use Rattle.erd_compare.proofs.Common.{◌≡◌, List, map, codes, Option, option_and_then, sym, refl, ap, ◌∙◌, Data, as_str, view, Value, entries_at, Preference}
use Rattle.erd_compare.proofs.Common.{NameParts, name_named}
use Rattle.std.proofs.lemmas.Simd.{map-map}
use Rattle.erd_compare.proofs.same_values.SameValues.{decides_as}
use Rattle.erd_compare.proofs.same_content.SameContents.{contest-Decides, contest-differs}
use Rattle.erd_compare.proofs.values.content.is_same_contest.Goals as goal

-- the name of the selection that a reference names
abbrev name_in : Preference → Data → Data → Option NameParts
name_in π t d = option_and_then (name_named π t) (as_str d)

-- the names of the selections of a contest, from its entries
names_at : (π : Preference) (t d : Data) (vs : List Value) → map view vs ≡ entries_at (codes "OrderedContestSelectionIds") d
    → map (λ v. name_in π t (view v)) vs ≡ map (name_in π t) (entries_at (codes "OrderedContestSelectionIds") d)
names_at π t d vs is = sym (map-map (name_in π t) view vs) ∙ ap (map (name_in π t)) is

pub returns-then-is_same_outside : goal.returns-then-is_same_outside
returns-then-is_same_outside c =
    let t = view c.args.comparer.now.left.tree in
    let u = view c.args.comparer.now.right.tree in
    contest-Decides c.is_same_outside.ensures c.if-is_same_outside.true
    (decides_as refl (names_at c.args.comparer.now.left.prefer t (view c.args.one.now) c.entries_at.result.now c.entries_at.ensures)
    (names_at c.args.comparer.now.right.prefer u (view c.args.other.now) c.entries_at-then-is_same_outside.result.now
    c.entries_at-then-is_same_outside.ensures) c.are_same_names.ensures)

pub returns-else-is_same_outside : goal.returns-else-is_same_outside
returns-else-is_same_outside c = contest-differs c.is_same_outside.ensures c.if-is_same_outside.false
