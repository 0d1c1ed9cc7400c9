use Rattle.erd_compare.proofs.Common.{◌<◌, ◌≤◌, map, length, Some, None, Option, option_map, option_and_then, sym, ap, ◌∙◌, subst, view, family, RankedParts}
use Rattle.erd_compare.proofs.Common.{numbered_name_cmp, Placed, objects, at_low, with_ranks, numbered_name_cmp_total, numbered_name_cmp_exact, name_told}
use Rattle.erd_compare.proofs.Common.{name_eq}
use Rattle.erd_compare.proofs.same_ranks.NameNumbers.{inserted_seen, next, none_left, place_seen}
use Rattle.erd_compare.proofs.ranks.name_numbers.numbers_of_names.Goals.{in-Some+in_ok-insert_full-in-Some, in-None}
use Rattle.erd_compare.proofs.ranks.name_numbers.numbers_of_names.Goals as goal

pub loop-position-preserved : goal.loop-position-preserved
loop-position-preserved c =
    let told : Placed → Option RankedParts = λ o. name_told c.args.common.now c.args.side c.args.report.now o.value in
    let os = objects family.Selection (view c.args.report.now.tree) in
    let i = c.loop-position.position in
    let ks = map with_ranks c.loop-position.names.keys in
    let ns = c.loop-position.numbers.items in
    let low : i < length os = subst (λ n. i < n) c.count-count.ensures c.loop-position-test.true in
    let o = at_low os i low in
    let name = c.in_ok-name.ensures ∙ ap (option_and_then told) o.1 in
    let total = numbered_name_cmp_total in
    let exact = numbered_name_cmp_exact in
    elim c.match-branch-3.branch [
      | in-Some+in_ok-insert_full-in-Some w ↦ next numbered_name_cmp total exact told _ ks (map with_ranks c.match-branch-3.names.keys) os i o.0
          c.match-branch-3.number ns _ o.1 c.loop-position.invariant c.in_ok-push.ensures.items
          (Some (with_ranks w.in-Some.name)) (sym name ∙ ap (option_map with_ranks) w.in-Some.is)
          (ap (map with_ranks) (ap (λ s. s.keys) w.names-is ∙ w.in_ok-insert_full-in-Some.ensures.keys)
          ∙ inserted_seen with_ranks name_eq w.in-Some.name c.loop-position.names.keys)
          (w.number-is ∙ ap Some (w.in_ok-insert_full-in-Some.ensures.index ∙ place_seen with_ranks name_eq w.in-Some.name c.loop-position.names.keys))
      | in-None w ↦ next numbered_name_cmp total exact told _ ks (map with_ranks c.match-branch-3.names.keys) os i o.0 c.match-branch-3.number ns _ o.1
          c.loop-position.invariant c.in_ok-push.ensures.items
          None (sym name ∙ ap (option_map with_ranks) w.in-None.is) (ap (λ s. map with_ranks s.keys) w.names-is) w.number-is
    ]

pub returns-clause-numbers : goal.returns-clause-numbers
returns-clause-numbers c =
    let os = objects family.Selection (view c.args.report.now.tree) in
    let past : length os ≤ c.loop-position.position = subst (λ n. n ≤ c.loop-position.position) c.count-count.ensures c.loop-position-test.false in
    none_left numbered_name_cmp numbered_name_cmp_total numbered_name_cmp_exact (λ o. name_told c.args.common.now c.args.side c.args.report.now o.value) _
    (map with_ranks c.loop-position.names.keys) os c.loop-position.position c.loop-position.numbers.items past c.loop-position.invariant
