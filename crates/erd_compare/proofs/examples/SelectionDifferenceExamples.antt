-- The list of all differences of the selections of two contests, and lists that are not.
use Rattle.erd_compare.proofs.Common.{[], ◌≡◌, ◌⊎◌, ℕ, Bool, true, List, ◌∷◌, Some, None, Option, option_map, refl, inl, inr, Data, null, boolean, PlainValue}
use Rattle.erd_compare.proofs.Common.{a_json, SelectionRecord, Class, Key, Member, OnlyLeft, OnlyRight}
use Rattle.std.specs.List.Sorted.{IsStrictlySortedBy}
use Rattle.std.specs.Prelude.{ℤ}
use Rattle.erd_tables.specs.declared.class.Class.TheVariants as class
use Rattle.erd_meaning.specs.NameParts.{NameParts}
use Rattle.erd_compare.specs.Differences.{AgreeBut, Stands}
use Rattle.erd_compare.specs.SelectionDifferences.{AreSelectionDifferences, SelectionMap}
use Rattle.erd_compare.specs.declared.inside.SelectionDifference.{SelectionDifference}

abbrev bare : SelectionRecord
bare = record { class = class.CandidateSelection; members = λ name. None }

-- a write-in line
abbrev line : NameParts
line = record { class = class.CandidateSelection; keys = []; write_in = true; order = None; label = None; identifier = None }

abbrev sole : Class → List Key → Bool → Option ℤ → Option (List ℕ) → Option Key → Option SelectionRecord
sole class.CandidateSelection [] true None None None = Some bare
sole c ks w o l i = None

-- the selections of a contest, by the parts of their names
abbrev pub by_parts : (Class → List Key → Bool → Option ℤ → Option (List ℕ) → Option Key → Option SelectionRecord) → SelectionMap
by_parts f n = f n.class n.keys n.write_in n.order n.label n.identifier

abbrev pub without_selections : SelectionMap
without_selections n = None

abbrev pub left_alone : NameParts → SelectionDifference
left_alone n = record { name = n; how = OnlyLeft }

-- one contest has the line, and the other has no selection
abbrev one : SelectionMap
one = by_parts sole

abbrev only : SelectionDifference
only = left_alone line

agree : (c : Class) (ks : List Key) (w : Bool) (o : Option ℤ) (l : Option (List ℕ)) (i : Option Key)
    → AgreeBut (λ how. Stands (record { name = record { class = c; keys = ks; write_in = w; order = o; label = l; identifier = i }; how = how }) (only ∷ []))
    (sole c ks w o l i) (without_selections line)
agree class.CandidateSelection [] true None None None = inl refl
agree c ks w o l i = tt

pub are_all : AreSelectionDifferences one without_selections (only ∷ [])
unfolding IsStrictlySortedBy
are_all = record { rise = (tt, tt); differ = (refl, tt); all = λ n. agree n.class n.keys n.write_in n.order n.label n.identifier }

-- a list that leaves it out, one that has it twice, and one on the other side
not_without : AreSelectionDifferences one without_selections [] → ⊥
not_without h = h.all line

not_twice : AreSelectionDifferences one without_selections (only ∷ only ∷ []) → ⊥
unfolding IsStrictlySortedBy
not_twice h = absurd (cc h.rise.0.0)

not_turned : AreSelectionDifferences one without_selections (record { name = line; how = OnlyRight } ∷ []) → ⊥
not_turned h = absurd (cc h.differ.0)

-- ---- a member that differs

-- a carried member with the empty name
abbrev noted : Data → List ℕ → Option PlainValue
noted d [] = Some (a_json d)
noted d (c ∷ cs) = None

abbrev with_note : Data → SelectionMap
with_note d n = option_map (λ r. record { class = r.class; members = noted d }) (one n)

abbrev changed : SelectionDifference
changed = record { name = line; how = Member [] }

agree_but_note : (c : Class) (ks : List Key) (w : Bool) (o : Option ℤ) (l : Option (List ℕ)) (i : Option Key)
    → AgreeBut (λ how. Stands (record { name = record { class = c; keys = ks; write_in = w; order = o; label = l; identifier = i }; how = how }) (changed ∷ []))
    (option_map (λ r. record { class = r.class; members = noted null }) (sole c ks w o l i))
    (option_map (λ r. record { class = r.class; members = noted (boolean true) }) (sole c ks w o l i))
agree_but_note class.CandidateSelection [] true None None None = inr (refl, other_names)
  where
    other_names : (name : List ℕ) → (noted null name ≡ noted (boolean true) name) ⊎ Stands (record { name = line; how = Member name }) (changed ∷ [])
    other_names [] = inr (inl refl)
    other_names (c ∷ cs) = inl refl
agree_but_note c ks w o l i = tt

pub are_changed : AreSelectionDifferences (with_note null) (with_note (boolean true)) (changed ∷ [])
unfolding IsStrictlySortedBy
are_changed = record { rise = (tt, tt); differ = ((refl, λ e. cc), tt); all = λ n. agree_but_note n.class n.keys n.write_in n.order n.label n.identifier }

-- a list that names a member that does not differ
not_another : AreSelectionDifferences (with_note null) (with_note (boolean true)) (changed ∷ record { name = line; how = Member (0 ∷ []) } ∷ []) → ⊥
not_another h = h.differ.1.0.1 refl
