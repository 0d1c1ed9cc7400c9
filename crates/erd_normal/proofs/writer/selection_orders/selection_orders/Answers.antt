use Rattle.erd_normal.proofs.Common.{◌≡◌, ℕ, ◌+◌, ◌<◌, List, [], ◌++◌, map, length, take, replicate, slice_get, Some, option_map, flat_map, sym, ap, ◌∙◌, subst}
use Rattle.erd_normal.proofs.Common.{ap₂, arith, length-map, slice_get-map, AllByRecursion, option_cmp, option_map_or, Data, view, Placed, contests, name_of}
use Rattle.erd_normal.proofs.Common.{name_cmp, positions_by, take-length, at_low, rising_selections, in_at}
use Rattle.erd_meaning.specs.Places.{places_put}
use Rattle.erd_text.proofs.OneByOne.{one_more}
use Rattle.erd_text.proofs.StableRising.{map_after}
use Rattle.erd_normal.proofs.ranks.SelectionRanks.{flat_more, starts_after, contest_values, few_in_turn, named_in_turn, selections_of, value_there}
use Rattle.erd_normal.proofs.ranks.SelectionRanks.{low_in_contest, places_are_ranks, ranks_in, selections_ranked}
use Rattle.erd_normal.proofs.writer.selection_orders.selection_orders.Goals as goal

-- the contest at a position, and its selections
record Contest (t : Data) (i : ℕ) (inside : List Data) : Type 0 where
  contest : Placed
  at : slice_get (contests t) i ≡ Some contest
  low : i < length (contest_values t)
  here : slice_get (contest_values t) i ≡ Some contest.value
  lists : inside ≡ selections_of contest.value

there : (t : Data) (i n : ℕ) (inside : List Data) → n ≡ length (contests t) → i < n → inside ≡ option_map_or (λ (o : Placed). selections_of o.value)
    (slice_get (contests t) i) [] → Contest t i inside
there t i n inside many low is =
    let hit = at_low (contests t) i (subst (λ m. i < m) many low) in record {
      contest = hit.0;
      at = hit.1;
      low = subst (λ m. i < m) (many ∙ sym (length-map (contests t) (λ (o : Placed). o.value))) low;
      here = slice_get-map (λ (o : Placed). o.value) (contests t) i ∙ ap (option_map (λ (o : Placed). o.value)) hit.1;
      lists = is ∙ ap (λ x. option_map_or (λ (o : Placed). selections_of o.value) x []) hit.1;
    }

pub rising_in_contest-requires : goal.rising_in_contest-requires
rising_in_contest-requires c =
    let t = view c.args.report.now.tree in
    let i = c.loop-index.index in
    let x = there t i c.count-count.result (map view c.selections_at-selections.result.now) c.count-count.ensures c.loop-index-test.true
    c.selections_at-selections.ensures in
    let d = x.contest.value in
    let here = value_there (contest_values t) i d x.here in
    record {
      named = named_in_turn t i c.loop-index.start d c.selections_at-selections.result.now x.low here c.loop-index.invariant.start x.lists
          c.args.report.now.prefer;
      few = few_in_turn t i c.loop-index.start d c.selections_at-selections.result.now x.low here c.loop-index.invariant.start x.lists c.requires.bounded;
    }

pub places_in-requires : goal.places_in-requires
places_in-requires c =
    let π = c.args.report.now.prefer in
    let t = view c.args.report.now.tree in
    let i = c.loop-index.index in
    let x = there t i c.count-count.result (map view c.selections_at-selections.result.now) c.count-count.ensures c.loop-index-test.true
    c.selections_at-selections.ensures in
    let is = c.in_ok-positions.ensures ∙ ap (λ (es : List Data). positions_by (option_cmp name_cmp) (map (name_of π t) es)) x.lists in
    record { low = subst (λ (ps : List ℕ). AllByRecursion (λ i. i < length ps) ps) (sym (c.deref.ensures.value ∙ is)) (low_in_contest π t x.contest.value) }

pub loop-index-preserved : goal.loop-index-preserved
loop-index-preserved c =
    let π = c.args.report.now.prefer in
    let t = view c.args.report.now.tree in
    let ds = contest_values t in
    let i = c.loop-index.index in
    let x = there t i c.count-count.result (map view c.selections_at-selections.result.now) c.count-count.ensures c.loop-index-test.true
    c.selections_at-selections.ensures in
    let d = x.contest.value in
    let here = value_there ds i d x.here in
    let is = c.in_ok-positions.ensures ∙ ap (λ (es : List Data). positions_by (option_cmp name_cmp) (map (name_of π t) es)) x.lists in
    let places : c.in_ok-places.places.items ≡ ranks_in π t d =
    c.in_ok-places.ensures
    ∙ (ap (λ (ps : List ℕ). places_put 0 ps (replicate (length ps) 0)) (c.deref.ensures.value ∙ is)
    ∙ places_are_ranks π t c.requires.accepted x.contest (in_at (contests t) i x.contest x.at)) in
    record {
      rising = ap (map (λ positions. positions.items)) c.in_ok-push.ensures.items
          ∙ one_more (λ positions. positions.items) (rising_selections π t) c.loop-index.rising.items ds i d _ x.low here is c.loop-index.invariant.rising;
      ranks = c.in_ok-extend_from_slice.ensures.items
          ∙ (ap₂ (λ (ns ms : List ℕ). ns ++ ms) c.loop-index.invariant.ranks (c.deref-in-loop-index.ensures.value ∙ places)
          ∙ sym (flat_more (ranks_in π t) ds i d x.low here));
      start = ap₂ ◌+◌ c.loop-index.invariant.start (sym (length-map c.selections_at-selections.result.now view) ∙ ap length x.lists)
          ∙ sym (starts_after selections_of ds i d x.low here);
    }

pub overflow_add-start : goal.overflow_add-start
overflow_add-start c =
    let t = view c.args.report.now.tree in
    let i = c.loop-index.index in
    let x = there t i c.count-count.result (map view c.selections_at-selections.result.now) c.count-count.ensures c.loop-index-test.true
    c.selections_at-selections.ensures in
    let few = few_in_turn t i c.loop-index.start x.contest.value c.selections_at-selections.result.now x.low
    (value_there (contest_values t) i x.contest.value x.here) c.loop-index.invariant.start x.lists c.requires.bounded in
    omega (arith, few)

pub returns-clause-rising : goal.returns-clause-rising
returns-clause-rising c =
    let t = view c.args.report.now.tree in
    let f : (Data → List ℕ) = rising_selections c.args.report.now.prefer t in
    let ds = contest_values t in
    let many : c.count-count.result ≡ length ds = c.count-count.ensures ∙ sym (length-map (contests t) (λ (o : Placed). o.value)) in
    let at : c.loop-index.index ≡ c.count-count.result = omega arith in
    c.loop-index.invariant.rising ∙ (ap (map f) (ap (λ n. take n ds) (at ∙ many) ∙ take-length ds)
    ∙ sym (map_after (λ (o : Placed). o.value) f (contests t)))

pub returns-clause-ranks : goal.returns-clause-ranks
returns-clause-ranks c =
    let π = c.args.report.now.prefer in
    let t = view c.args.report.now.tree in
    let ds = contest_values t in
    let many : c.count-count.result ≡ length ds = c.count-count.ensures ∙ sym (length-map (contests t) (λ (o : Placed). o.value)) in
    let at : c.loop-index.index ≡ c.count-count.result = omega arith in
    selections_ranked π t c.loop-index.ranks.items
    (c.loop-index.invariant.ranks ∙ ap (flat_map (ranks_in π t)) (ap (λ n. take n ds) (at ∙ many) ∙ take-length ds))
