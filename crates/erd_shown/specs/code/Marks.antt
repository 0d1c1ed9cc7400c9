-- The objects of a report of which ballots print other words in another report, as marks in the order of the objects.
use Rattle.std.specs.Prelude.{◌≡◌, List, Bool, map}
use Rattle.serde_json.specs.Data.{Data}
use Rattle.erd_tables.specs.declared.class.Family.{Family}
use Rattle.erd_tables.specs.declared.class.Family.TheVariants as family
use Rattle.erd_meaning.specs.Keys.{Preference}
use Rattle.erd_meaning.specs.Objects.{objects}
use Rattle.erd_shown.specs.Reworded.{is_candidate_reworded, is_contest_reworded, is_reworded}
use Rattle.erd_shown.specs.declared.marks.Marks.{Marks}

-- For each object of the family, in their order, whether this is true of it.
abbrev pub marks_of : (Data → Bool) → Family → Data → List Bool
marks_of P f t = map (λ o. P o.value) (objects f t)

-- The marks say what is so.
pub record AreMarks (π : Preference) (t : Data) (ρ : Preference) (u : Data) (marks : Marks) : Type 0 where
  pub units : marks.units.items ≡ marks_of (is_reworded π t ρ u family.Unit) family.Unit t
  pub parties : marks.parties.items ≡ marks_of (is_reworded π t ρ u family.Party) family.Party t
  pub headers : marks.headers.items ≡ marks_of (is_reworded π t ρ u family.Header) family.Header t
  pub candidates : marks.candidates.items ≡ marks_of (is_candidate_reworded π t ρ u) family.Candidate t
  pub contests : marks.contests.items ≡ marks_of (is_contest_reworded π t ρ u) family.Contest t
