use Rattle.erd_canon.proofs.Common.{List, map, string_bytes, sym, ap, ◌∙◌, subst, view, Preference}
use Rattle.erd_canon.proofs.data_values.BallotPairs.{differing_told}
use Rattle.erd_canon.specs.BallotAnswering.{IsToldByLines}
use Rattle.erd_canon.specs.DataAnswers.{listing_outcome}
use Rattle.erd_shown.specs.BallotDifferences.{of_style}
use Rattle.erd_shown.specs.BallotLines.{AreStylesTold}
use Rattle.erd_shown.specs.declared.ballot_differences.BallotDifference.{BallotDifference}
use Rattle.erd_canon.proofs.data.ballot_pairs.told_as_lines.Goals as goal

pub returns : goal.returns
returns c =
    let left = c.args.left.now in
    let right = c.args.right.now in
    let styles = map of_style c.in_ok-found.found.items in
    let text = string_bytes c.in_ok-text.text in
    differing_told IsToldByLines left.prefer right.prefer (view left.tree) (view right.tree) styles c.outcome_of.result text
    c.requires.one_preference c.in_ok-found.ensures
    (c.outcome_of.ensures ∙ ap (λ found. listing_outcome (map of_style found)) c.deref-2.ensures.value)
    (subst (λ (σ : Preference). AreStylesTold left.prefer (view left.tree) σ (view right.tree) styles text) (sym c.requires.one_preference)
    (subst (λ (found : List BallotDifference). AreStylesTold left.prefer (view left.tree) right.prefer (view right.tree) (map of_style found) text)
    c.deref.ensures.value c.in_ok-text.ensures))
