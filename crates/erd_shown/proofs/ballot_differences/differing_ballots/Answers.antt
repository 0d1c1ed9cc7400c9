use Rattle.erd_shown.proofs.Common.{ℕ, List, Option, Key, map, filter_map, ap, ap₂, ◌∙◌, subst, view, family, rising_keys, IfOk-weaker}
use Rattle.erd_shown.specs.BallotDifferences.{AreStyleRows, is_same_ballot, told_of_row}
use Rattle.erd_shown.specs.code.LineLists.{of_place}
use Rattle.erd_shown.proofs.ballot_differences.differing_ballots.Goals as goal

abbrev Places : Type 0
Places = List (Option Key × ℕ)

pub returns : goal.returns
returns c =
    let π = c.args.left.now.prefer in
    let t = view c.args.left.now.tree in
    let ρ = c.args.right.now.prefer in
    let u = view c.args.right.now.tree in
    let ones = rising_keys π t family.Style in
    let others = rising_keys ρ u family.Style in
    let rows = c.in_ok-rows.rows.items in
    let tell = told_of_row (is_same_ballot π t ρ u) in
    let one = ap (map of_place) c.deref.ensures.value ∙ c.in_ok-ones.ensures in
    let other = ap (map of_place) c.deref-2.ensures.value ∙ c.in_ok-others.ensures in
    let one_again = ap (map of_place) c.deref-3.ensures.value ∙ c.in_ok-ones.ensures in
    let other_again = ap (map of_place) c.deref-4.ensures.value ∙ c.in_ok-others.ensures in
    IfOk-weaker c.told_of_rows.result _ _
    (λ found told. record {
      rows = rows;
      are_rows =
          subst (λ (rs : Places). AreStyleRows ones rs rows) other
          (subst (λ (ls : Places). AreStyleRows ls (map of_place c.deref-2.result.now) rows) one c.in_ok-rows.ensures);
      tells =
          told
          ∙ ap₂ (λ (ls rs : Places). filter_map (tell ls rs) c.deref-5.result.now) one_again other_again
          ∙ ap (filter_map (tell ones others)) c.deref-5.ensures.value;
    })
    c.told_of_rows.ensures
