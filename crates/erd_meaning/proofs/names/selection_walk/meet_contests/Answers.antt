use Rattle.erd_meaning.proofs.Common.{◌≡◌, ◌+◌, ◌^◌, ◌<◌, [], ◌∷◌, ◌++◌, map, length, codes, ap, ◌∙◌, arith, view, Name, steps_of, placed_from, placed_entries}
use Rattle.erd_meaning.proofs.Common.{name_among, numbered_from, named_all, shown, placed_at, names_met}
use Rattle.erd_meaning.proofs.finding.ElectionsHeld.{as_many}
use Rattle.erd_meaning.proofs.selections.MetSelections.{all_named, named_inside}
use Rattle.erd_text.proofs.WholeValues.{whole_entry}
use Rattle.erd_meaning.proofs.names.selection_walk.meet_contests.Goals as goal

pub overflow_add-first : goal.overflow_add-first
overflow_add-first c =
    let many = as_many (steps_of c.args.path.now ++ Name (codes "Contest") ∷ []) c.entries_at-entries.result.now c.entries_at-entries.ensures in
    let few : c.args.first + length (placed_entries (codes "Contest") (placed_at c.args.path.now c.args.election.now)) < 2 ^ 64 = c.requires.few in
    omega (arith, many, c.loop-index-test.true, few)

pub meet_contest-requires : goal.meet_contest-requires
meet_contest-requires c = record {
  whole = whole_entry (codes "Contest") (view c.args.election.now) c.entries_at-entries.result.now c.loop-index.index
      c.index-entries-index.result c.requires.whole
      c.entries_at-entries.ensures c.loop-index-test.true c.index-entries-index.is;
  ranked = c.loop-index.invariant.1;
}

pub loop-index-preserved : goal.loop-index-preserved
loop-index-preserved c = (
  named_inside (name_among c.args.keys.now (map shown c.args.objects.now.objects)) c.args.first (steps_of c.args.path.now ++ Name (codes "Contest") ∷ [])
      c.entries_at-entries.result.now c.loop-index.index
      c.index-entries-index.result (names_met c.loop-index.walk) (names_met c.meet_contest.new.walk) _ c.loop-index-test.true c.index-entries-index.is
      c.loop-index.invariant.0 c.in_ok-meet_contest.ensures.met,
  c.in_ok-meet_contest.ensures.ranked,
  c.in_ok-meet_contest.ensures.start ∙ c.loop-index.invariant.2,
)

pub overflow_add-result : goal.overflow_add-result
overflow_add-result c =
    let many = as_many (steps_of c.args.path.now ++ Name (codes "Contest") ∷ []) c.entries_at-entries.result.now c.entries_at-entries.ensures in
    let few : c.args.first + length (placed_entries (codes "Contest") (placed_at c.args.path.now c.args.election.now)) < 2 ^ 64 = c.requires.few in
    omega (arith, many, few)

pub returns-clause-next : goal.returns-clause-next
returns-clause-next c =
    let many = as_many (steps_of c.args.path.now ++ Name (codes "Contest") ∷ []) c.entries_at-entries.result.now c.entries_at-entries.ensures in
    ap (λ k. c.args.first + k) many

pub returns-clause-met : goal.returns-clause-met
returns-clause-met c =
    let name = name_among c.args.keys.now (map shown c.args.objects.now.objects) in
    let place = steps_of c.args.path.now ++ Name (codes "Contest") ∷ [] in
    let none : c.args.first + 0 ≡ c.args.first = omega arith in
    all_named name c.args.first place c.entries_at-entries.result.now c.loop-index.index (names_met c.loop-index.walk) _ c.loop-index-test.false
    c.loop-index.invariant.0
    ∙ ap (λ k. named_all name (names_met c.args.walk.now) (numbered_from k (placed_from place 0 (map view c.entries_at-entries.result.now)))) none
    ∙ ap (λ ds. named_all name (names_met c.args.walk.now) (numbered_from c.args.first (placed_from place 0 ds))) c.entries_at-entries.ensures
