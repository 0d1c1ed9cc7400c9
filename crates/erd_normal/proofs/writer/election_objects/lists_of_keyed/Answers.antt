use Rattle.erd_normal.proofs.Common.{◌≡◌, ℕ, ◌<◌, ◌≤◌, [], ◌∷◌, ◌++◌, map, length, get_or, take, ◌==◌, filter, sym, ap, ◌∙◌, subst, inl, inr, arith, view}
use Rattle.erd_normal.proofs.Common.{Placed, elections, objects, take-length, cases_lt, in_order_of_keys, holding_election, list_seen}
use Rattle.std.proofs.lemmas.List.{get_or_default}
use Rattle.erd_normal.proofs.lists.Lists.{kept_map}
use Rattle.erd_normal.proofs.ranks.WrittenTrees.{in_order, lent_positions, none_in_election}
use Rattle.erd_normal.proofs.ranks.RankedReferences.{one_put, list_missing}
use Rattle.erd_normal.proofs.writer.election_objects.lists_of_keyed.Goals as goal

pub loop-position-init : goal.loop-position-init
loop-position-init c = record { count = c.in_ok-lists.ensures.few ∙ c.election_count.ensures; filled = λ i low. c.in_ok-lists.ensures.empty i }

pub loop-position-preserved : goal.loop-position-preserved
loop-position-preserved c =
    let t = view c.args.report.now.tree in
    let at : ℕ → ℕ = holding_election t c.args.family in
    let many = length (elections t) in
    let k = c.loop-position.position-index in
    let e = get_or c.rising-position-items.result.now k 0 in
    let old = list_seen c.loop-position.lists.items in
    let new = list_seen c.put_in_list.new.lists.items in
    let which : c.holding_election-election.result ≡ at e = c.holding_election-election.ensures in
    record {
      count = c.in_ok-put_in_list.ensures.count ∙ c.loop-position.invariant.count;
      filled = λ i. one_put at c.rising-position-items.result.now many k e c.loop-position-test.true
          (get_or_default c.rising-position-items.result.now k 0 _ c.loop-position-test.true) i old new (c.loop-position.invariant.filled i)
          (λ low. subst (λ n. new n ≡ old n ++ e ∷ []) which
          (c.in_ok-put_in_list.ensures.here
          (subst (λ n. n < length c.loop-position.lists.items) (sym which) (subst (λ n. at e < n) (sym c.loop-position.invariant.count) low))))
          (λ j other. c.in_ok-put_in_list.ensures.elsewhere j (λ same. other (same ∙ which)));
    }

pub returns : goal.returns
returns c i =
    let π = c.args.report.now.prefer in
    let t = view c.args.report.now.tree in
    let f = c.args.family in
    let rising = c.rising-position-items.result.now in
    let q = λ (j : ℕ). holding_election t f j == i in
    let end : c.loop-position.position-index ≡ length rising = omega arith in
    let many = length (elections t) in
    elim (cases_lt i many) [
      | inl low ↦
          c.loop-position.invariant.filled i low
          ∙ (ap (filter q) (ap (λ n. take n rising) end ∙ take-length rising ∙ c.rising-position-items.ensures ∙ lent_positions π t f c.requires.keyed)
          ∙ (kept_map (λ (o : ℕ × Placed). o.0) q (in_order_of_keys π (objects f t))
          ∙ ap (λ os. map (λ (o : ℕ × Placed). o.0) (filter (λ o. q o.0) os)) (sym (in_order π t f c.requires.keyed))))
      | inr high ↦
          list_missing (λ p. p.items) c.loop-position.lists.items i (subst (λ n. n ≤ i) (sym c.loop-position.invariant.count) high)
          ∙ ap (map (λ (o : ℕ × Placed). o.0)) (sym (none_in_election π t f c.requires.accepted c.requires.keyed i high))
    ]
