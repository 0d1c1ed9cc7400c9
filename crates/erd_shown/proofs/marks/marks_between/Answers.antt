use Rattle.erd_shown.proofs.Common.{◌∙◌}
use Rattle.erd_shown.proofs.marks.marks_between.Goals as goal

pub candidates_reworded-requires : goal.candidates_reworded-requires
candidates_reworded-requires c =
    record { parties = c.deref.ensures.value ∙ c.in_ok-parties.ensures; persons = c.deref-2.ensures.value ∙ c.in_ok-persons.ensures }

pub contests_reworded-requires : goal.contests_reworded-requires
contests_reworded-requires c =
    record { parties = c.deref-3.ensures.value ∙ c.in_ok-parties.ensures; candidates = c.deref-4.ensures.value ∙ c.in_ok-candidates.ensures }

pub returns : goal.returns
returns c = record {
  units = c.in_ok-units.ensures;
  parties = c.in_ok-parties.ensures;
  headers = c.in_ok-headers.ensures;
  candidates = c.in_ok-candidates.ensures;
  contests = c.in_ok-contests.ensures;
}
