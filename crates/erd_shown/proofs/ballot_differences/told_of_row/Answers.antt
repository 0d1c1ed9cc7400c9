use Rattle.erd_shown.proofs.Common.{◌≡◌, ℕ, List, Option, Bool, Bor, Key, map, slice_get, option_map, sym, ap, ap₂, ◌∙◌, IfOk-weaker, slice_get-map, view}
use Rattle.erd_shown.specs.BallotDifferences.{StyleFound, is_same_ballot, of_style, told_of_both, told_of_row}
use Rattle.erd_shown.specs.code.LineLists.{of_place}
use Rattle.erd_shown.specs.declared.rows.Row.{Row}
use Rattle.erd_shown.specs.declared.rows.Row.TheVariants.{Both, MovedHere}
use Rattle.erd_shown.proofs.ballot_differences.told_of_row.Goals as goal

abbrev Place : Type 0
Place = Option (Bor Key) × ℕ

place_there : (ps : List Place) (i : ℕ) (o : Option Place) → o ≡ slice_get ps i → option_map of_place o ≡ slice_get (map of_place ps) i
place_there ps i o is = ap (option_map of_place) is ∙ sym (slice_get-map of_place ps i)

module _ (same : ℕ → ℕ → Bool) (ones others : List Place) (i j : ℕ) (one other : Option Place) (row : Row) (found : Option StyleFound)
    (told : found ≡ told_of_both same (option_map of_place one) (option_map of_place other)) (left : one ≡ slice_get ones i)
    (right : other ≡ slice_get others j) where
  both_told : found ≡ told_of_both same (slice_get (map of_place ones) i) (slice_get (map of_place others) j)
  both_told = told ∙ ap₂ (told_of_both same) (place_there ones i one left) (place_there others j other right)

  of_both : row ≡ Both i j → found ≡ told_of_row same (map of_place ones) (map of_place others) row
  of_both is = both_told ∙ sym (ap (told_of_row same (map of_place ones) (map of_place others)) is)

  of_moved : row ≡ MovedHere i j → found ≡ told_of_row same (map of_place ones) (map of_place others) row
  of_moved is = both_told ∙ sym (ap (told_of_row same (map of_place ones) (map of_place others)) is)

pub returns-in-Both : goal.returns-in-Both
returns-in-Both c =
    let same : ℕ → ℕ → Bool = is_same_ballot c.args.pair.now.left.now.prefer (view c.args.pair.now.left.now.tree) c.args.pair.now.right.now.prefer
    (view c.args.pair.now.right.now.tree) in
    let ones : List Place = c.args.ones.now in
    let others : List Place = c.args.others.now in
    let row : Row = c.args.row.now in
    IfOk-weaker c.told_of_both.result _ (λ found. option_map of_style found ≡ told_of_row same (map of_place ones) (map of_place others) row)
    (λ found told. of_both same ones others c.in-Both.one c.in-Both.other c.place_in-one.result c.place_in-other.result row (option_map of_style found) told
    c.place_in-one.ensures c.place_in-other.ensures c.in-Both.is)
    c.told_of_both.ensures

pub returns-in-MovedHere : goal.returns-in-MovedHere
returns-in-MovedHere c =
    let same : ℕ → ℕ → Bool = is_same_ballot c.args.pair.now.left.now.prefer (view c.args.pair.now.left.now.tree) c.args.pair.now.right.now.prefer
    (view c.args.pair.now.right.now.tree) in
    let ones : List Place = c.args.ones.now in
    let others : List Place = c.args.others.now in
    let row : Row = c.args.row.now in
    IfOk-weaker c.told_of_both-in-MovedHere.result _ (λ found. option_map of_style found ≡ told_of_row same (map of_place ones) (map of_place others) row)
    (λ found told. of_moved same ones others c.in-MovedHere.one c.in-MovedHere.other c.place_in-one-in-MovedHere.result c.place_in-other-in-MovedHere.result row
    (option_map of_style found) told c.place_in-one-in-MovedHere.ensures
    c.place_in-other-in-MovedHere.ensures c.in-MovedHere.is)
    c.told_of_both-in-MovedHere.ensures
