use Rattle.erd_shown.proofs.Common.{◌≡◌, ◌≤◌, ◌<◌, ◌+◌, ℕ, List, [], ◌∷◌, ◌++◌, length, get_or}
use Rattle.erd_shown.proofs.Common.{drop, drop_all, drop_more, map, map-append, string_bytes, sym, ap, ◌∙◌, subst, append-nil, AllByRecursion}
use Rattle.std.specs.Prelude.{String}
use Rattle.std.specs.declared.alloc.Global.{Global}
use Rattle.std.proofs.lemmas.List.{drop-map}
use Rattle.erd_shown.proofs.NameLists.{keep_next}
use Rattle.erd_shown.proofs.RowLists.{all_more}
use Rattle.erd_shown.specs.BallotDifferences.{StyleFound, of_style}
use Rattle.erd_shown.specs.code.Pairs.{AreToldIn, IsToldIn, of_told}
use Rattle.erd_shown.specs.declared.ballot_differences.BallotDifference.{BallotDifference}
use Rattle.erd_shown.specs.declared.pairs.Pair.{Pair}
use Rattle.erd_shown.proofs.differing_styles.told_of_all.Goals as goal

abbrev Told : Type 0
Told = BallotDifference × String Global

abbrev Styled : Type 0
Styled = StyleFound × List ℕ

module _ (p : Pair) (found : List BallotDifference) where
  abbrev AreUpTo : ℕ → List Told → Type 0
  AreUpTo i told = (map (λ (s : Styled). s.0) (map of_told told) ++ drop i (map of_style found) ≡ map of_style found) × AllByRecursion (IsToldIn p)
      (map of_told told)

  next_there : (i : ℕ) (s : BallotDifference) → s ≡ get_or found i s → i < length found
      → drop i (map of_style found) ≡ of_style s ∷ drop (i + 1) (map of_style found)
  next_there i s at low =
      drop-map of_style i found ∙ ap (map of_style) (drop_more found i s low) ∙ ap (λ x. of_style x ∷ map of_style (drop (i + 1) found)) (sym at)
      ∙ ap (λ ss. of_style s ∷ ss) (sym (drop-map of_style (i + 1) found))

  one_more : (i : ℕ) (s : BallotDifference) (old new : List Told) (text : String Global) → s ≡ get_or found i s → i < length found → new ≡ old ++ (s, text) ∷ []
      → IsToldIn p (of_style s, string_bytes text) → AreUpTo i old → AreUpTo (i + 1) new
  one_more i s old new text at low is told before =
      let next : Told = (s, text) in
      let more : map of_told new ≡ map of_told old ++ of_told next ∷ [] = ap (map of_told) is ∙ map-append of_told old (next ∷ []) in (
        keep_next (λ (s : Styled). s.0) (map of_told old) (map of_told new) (of_told next) (map of_style found) i (next_there i s at low) more before.0,
        subst (λ (ss : List Styled). AllByRecursion (IsToldIn p) ss) (sym more) (all_more (IsToldIn p) (map of_told old) (of_told next) before.1 told),
      )

  all_there : (i : ℕ) (told : List Told) → length found ≤ i → AreUpTo i told → AreToldIn p (map of_style found) told
  all_there i told past are = record {
    styles =
        sym (append-nil (map (λ (s : Styled). s.0) (map of_told told)))
        ∙ ap (λ ss. map (λ (s : Styled). s.0) (map of_told told) ++ ss) (sym (ended i past))
        ∙ are.0;
    below = are.1;
  }
    where
      ended : (i : ℕ) → length found ≤ i → drop i (map of_style found) ≡ []
      ended i past = drop-map of_style i found ∙ ap (map of_style) (drop_all i found past)

pub loop-style-preserved : goal.loop-style-preserved
loop-style-preserved c =
    one_more c.args.pair.now c.args.found.now c.loop-style.style-index c.style-item.result c.loop-style.told.items c.push.new.self.items c.in_ok-below.below
    c.style-item.is
    c.loop-style-test.true c.in_ok-push.ensures.items c.in_ok-below.ensures c.loop-style.invariant

pub returns : goal.returns
returns c = all_there c.args.pair.now c.args.found.now c.loop-style.style-index c.loop-style.told.items c.loop-style-test.false c.loop-style.invariant
