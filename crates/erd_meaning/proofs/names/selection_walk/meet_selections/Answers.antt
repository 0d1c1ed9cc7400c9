use Rattle.erd_meaning.proofs.Common.{◌≡◌, refl, List, [], ◌∷◌, map, length, codes, ap, ◌∙◌, arith, view, Contest, Step, Name, contests, name_among}
use Rattle.erd_meaning.proofs.Common.{numbered_from, named_all, shown, names_met}
use Rattle.erd_meaning.proofs.selections.MetSelections.{all_left, contests_are, contests_from, election_left, none_left, within_all}
use Rattle.erd_text.proofs.WholeValues.{whole_entry}
use Rattle.erd_meaning.proofs.names.selection_walk.meet_selections.Goals as goal

-- the place of the elections
abbrev elections : List Step
elections = Name (codes "Election") ∷ []

pub loop-index-init : goal.loop-index-init
loop-index-init c = (
  all_left (name_among c.args.keys.now (map shown c.args.objects.now.objects)) elections c.entries_at-election-items.result.now (names_met c.args.walk.now),
  c.requires.ranked,
  refl,
)

pub meet_contests-requires : goal.meet_contests-requires
meet_contests-requires c =
    let report = view c.args.report.now in
    let all : length (contests_from elections 0 c.entries_at-election-items.result.now) ≡ length (contests report) =
    ap length (contests_are report c.entries_at-election-items.result.now c.entries_at-election-items.ensures) in
    let word = c.requires.few.few Contest in
    let within = within_all (name_among c.args.keys.now (map shown c.args.objects.now.objects)) elections c.entries_at-election-items.result.now
    (names_met c.args.walk.now) (names_met c.loop-index.walk)
    c.loop-index.index c.loop-index.number c.election-item.result c.loop-index-test.true c.election-item.is c.loop-index.invariant.0 in
    record {
      few = omega (arith, all, word, within);
      whole = whole_entry (codes "Election") report c.entries_at-election-items.result.now c.loop-index.index c.election-item.result c.requires.whole
          c.entries_at-election-items.ensures c.loop-index-test.true c.election-item.is;
      ranked = c.loop-index.invariant.1;
    }

pub loop-index-preserved : goal.loop-index-preserved
loop-index-preserved c = (
  election_left (name_among c.args.keys.now (map shown c.args.objects.now.objects)) elections c.entries_at-election-items.result.now (names_met c.args.walk.now)
      (names_met c.loop-index.walk)
      (names_met c.meet_contests.new.walk) c.loop-index.index c.loop-index.number c.in_ok-number.number c.election-item.result c.loop-index-test.true
      c.election-item.is c.loop-index.invariant.0
      c.in_ok-number.ensures.next c.in_ok-number.ensures.met,
  c.in_ok-number.ensures.ranked,
  c.in_ok-number.ensures.start ∙ c.loop-index.invariant.2,
)

pub returns-clause-met : goal.returns-clause-met
returns-clause-met c =
    let report = view c.args.report.now in
    let name = name_among c.args.keys.now (map shown c.args.objects.now.objects) in
    none_left name elections c.entries_at-election-items.result.now (names_met c.args.walk.now) (names_met c.loop-index.walk)
    c.loop-index.index c.loop-index.number
    c.loop-index-test.false c.loop-index.invariant.0 ∙ ap (λ cs. named_all name (names_met c.args.walk.now) (numbered_from 0 cs))
    (contests_are report c.entries_at-election-items.result.now c.entries_at-election-items.ensures)
