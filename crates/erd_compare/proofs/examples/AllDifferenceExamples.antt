-- The list of all differences of two small meanings, and lists that are not.
use Rattle.erd_compare.proofs.Common.{[], List, ◌∷◌, Some, None, Option, refl, inl, inr, ObjectRecord, Meaning, Key, Difference, OnlyLeft, OnlyRight, Part}
use Rattle.erd_compare.proofs.Common.{part}
use Rattle.std.specs.List.Sorted.{IsStrictlySortedBy}
use Rattle.erd_compare.specs.Differences.{AgreeBut, AreDifferences, Stands, record_at}
use Rattle.erd_tables.specs.declared.class.Class.TheVariants as class

abbrev bare : ObjectRecord
bare = record { class = class.Party; members = λ name. None }

abbrev sole : Option Key → Option ObjectRecord
sole None = Some bare
sole (Some k) = None

-- an election without a key on the left alone, and a report on the right alone
abbrev one : Meaning
one = record { report = None; elections = sole; objects = λ f k. None }

abbrev other : Meaning
other = record { report = Some bare; elections = λ k. None; objects = λ f k. None }

abbrev report_right : Difference
report_right = record { part = part.Report; key = None; how = OnlyRight }

abbrev election_left : Difference
election_left = record { part = part.Election; key = None; how = OnlyLeft }

abbrev all : List Difference
all = report_right ∷ election_left ∷ []

agree : (p : Part) (k : Option Key) → AgreeBut (λ how. Stands (record { part = p; key = k; how = how }) all) (record_at one p k) (record_at other p k)
agree part.Report None = inl refl
agree part.Election None = inr (inl refl)
agree part.Report (Some k) = tt
agree p None = tt
agree p (Some k) = tt

pub are_all : AreDifferences one other all
unfolding IsStrictlySortedBy
are_all = record { rise = ((refl, tt), (tt, tt)); differ = (refl, (refl, tt)); all = agree }

-- a list that leaves one out, and one that is out of order
not_without : AreDifferences one other (report_right ∷ []) → ⊥
not_without h = elim (h.all part.Election None) [
  | inl e ↦ absurd (cc e)
  | inr none ↦ none
]

not_turned : AreDifferences one other (election_left ∷ report_right ∷ []) → ⊥
unfolding IsStrictlySortedBy
not_turned h = absurd (cc h.rise.0.0)
