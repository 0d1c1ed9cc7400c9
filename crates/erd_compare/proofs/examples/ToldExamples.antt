-- What a bound lets be told of contests whose selections differ: how long texts are, and which runs are told.
use Rattle.erd_compare.proofs.Common.{[], ◌≡◌, ℕ, zero, ◌+◌, ◌≤◌, ◌++◌, Bool, AllByRecursion, serde_json_on_literals, false, List, ◌∷◌, Some, None, Option}
use Rattle.erd_compare.proofs.Common.{codes, bytes_eq, sym, refl, ap, ◌∙◌, subst, inl, inr, arith, class, Class, Key, local_key, Meaning, ObjectRecord}
use Rattle.erd_compare.proofs.Common.{a_selection_map, SelectionRecord, NameParts, Difference, Member, part, Family, family}
use Rattle.std.specs.List.Sorted.{IsStrictlySortedBy}
use Rattle.std.specs.Prelude.{ℤ, if◌then◌else◌, sum_by}
use Rattle.std.specs.Global.{Vec}
use Rattle.std.proofs.lemmas.List.Sums.{sum_by-cons}
use Rattle.erd_compare.specs.Differences.{AgreeBut, Stands}
use Rattle.erd_compare.proofs.examples.SelectionDifferenceExamples.{by_parts, left_alone, without_selections}
use Rattle.erd_compare.specs.SelectionDifferences.{text_size, told_with, AreSelectionDifferences, IsBare, IsLongestRun, IsWhole, SelectionMap}
use Rattle.erd_compare.specs.code.ContestSelections.{size_of_list, size_of_one}
use Rattle.erd_compare.proofs.contest_selections.SelectionTexts.{whole_size}
use Rattle.erd_compare.specs.declared.detailed.DetailedDifference.{DetailedDifference}
use Rattle.erd_compare.specs.declared.inside.SelectionDifference.{SelectionDifference}

abbrev bare : SelectionRecord
bare = record { class = class.BallotMeasureSelection; members = λ name. None }

-- a selection whose name is a text of one byte
abbrev labelled : NameParts
labelled = record { class = class.BallotMeasureSelection; keys = []; write_in = false; order = None; label = Some (zero ∷ []); identifier = None }

abbrev sole : Class → List Key → Bool → Option ℤ → Option (List ℕ) → Option Key → Option SelectionRecord
sole class.BallotMeasureSelection [] false None (Some (zero ∷ [])) None = Some bare
sole c ks w o l i = None

-- one contest has it, and the other has no selection
abbrev one : SelectionMap
one = by_parts sole

abbrev only : SelectionDifference
only = left_alone labelled

-- ---- sizes

-- [{"how":"only left","name":["ElectionResults.BallotMeasureSelection",[],false,null,"\u0000",null]}]
one_text : text_size (Some (only ∷ [])) ≡ 99
unfolding serde_json_on_literals
one_text = refl

-- with a comma, and [{"how":"member","member":"Note","name":..}], which has 13 bytes more
two_texts : text_size (Some (only ∷ record { name = labelled; how = Member (codes "Note") } ∷ [])) ≡ 99 + 1 + 97 + 13
unfolding serde_json_on_literals
two_texts = refl

nothing_told : text_size None ≡ 0
nothing_told = refl

agree : (c : Class) (ks : List Key) (w : Bool) (o : Option ℤ) (l : Option (List ℕ)) (i : Option Key)
    → AgreeBut (λ how. Stands (record { name = record { class = c; keys = ks; write_in = w; order = o; label = l; identifier = i }; how = how }) (only ∷ []))
    (sole c ks w o l i) (without_selections labelled)
agree class.BallotMeasureSelection [] false None (Some (zero ∷ [])) None = inl refl
agree c ks w o l i = tt

are_all : AreSelectionDifferences one without_selections (only ∷ [])
unfolding IsStrictlySortedBy
are_all = record { rise = (tt, tt); differ = (refl, tt); all = λ n. agree n.class n.keys n.write_in n.order n.label n.identifier }

-- ---- what is told

-- two meanings that differ in the selections of one contest
abbrev contest : SelectionMap → ObjectRecord
contest m = record { class = class.CandidateContest; members = λ name. if bytes_eq name (codes "ContestSelection") then Some (a_selection_map m) else None }

abbrev with_contest : SelectionMap → Family → Key → Option ObjectRecord
with_contest m family.Contest k = Some (contest m)
with_contest m f k = None

abbrev meaning_of : SelectionMap → Meaning
meaning_of m = record { report = None; elections = λ k. None; objects = with_contest m }

abbrev in_selections : Difference
in_selections = record { part = part.Contest; key = Some (local_key (codes "C1")); how = Member (codes "ContestSelection") }

abbrev detailed : Option (Vec SelectionDifference) → DetailedDifference
detailed told = record { difference = in_selections; selections = told }

abbrev IsRun : ℕ → List DetailedDifference → Type 0
IsRun most ds = IsLongestRun (meaning_of one) (meaning_of without_selections) most ds

abbrev size_of : DetailedDifference → ℕ
size_of d = text_size (told_with d)

of_items : (v : Vec SelectionDifference) → v.items ≡ only ∷ [] → size_of (detailed (Some v)) ≡ 99
of_items v items = ap (λ ds. text_size (Some ds)) items ∙ one_text

is_whole : (v : Vec SelectionDifference) → v.items ≡ only ∷ [] → IsWhole (meaning_of one) (meaning_of without_selections) (detailed (Some v))
is_whole v items = (refl, subst (AreSelectionDifferences one without_selections) (sym items) are_all)

-- 99 bytes are enough
told : (v : Vec SelectionDifference) → v.items ≡ only ∷ [] → IsRun 99 (detailed (Some v) ∷ [])
told v items =
    let size = of_items v items in
    let sum = sum_by-cons size_of (detailed (Some v)) [] in
    record { run = detailed (Some v) ∷ []; behind = []; split = refl; whole = (is_whole v items, tt); fits = omega (arith, sum, size); bare = tt; longest = tt }

-- and 98 are not
untold : IsRun 98 (detailed None ∷ [])
untold = let size = one_text in
    record {
      run = [];
      behind = detailed None ∷ [];
      split = refl;
      whole = tt;
      fits = omega arith;
      bare = (refl, tt);
      longest = (Some (only ∷ []), (refl, are_all), omega (arith, size));
    }

-- of three, one is told within 197, and none behind it
one_of_three : (v : Vec SelectionDifference) → v.items ≡ only ∷ [] → IsRun 197 (detailed (Some v) ∷ detailed None ∷ detailed None ∷ [])
one_of_three v items =
    let size = of_items v items in
    let next = one_text in
    let sum = sum_by-cons size_of (detailed (Some v)) [] in
    record {
      run = detailed (Some v) ∷ [];
      behind = detailed None ∷ detailed None ∷ [];
      split = refl;
      whole = (is_whole v items, tt);
      fits = omega (arith, sum, size);
      bare = (refl, (refl, tt));
      longest = (Some (only ∷ []), (refl, are_all), omega (arith, sum, size, next));
    }

-- what stands in a list counts
counted : {A : Type 0} (size : A → ℕ) (x : A) (xs : List A) → Stands x xs → size x ≤ sum_by size xs
counted size x [] s = absurd s
counted size x (y ∷ xs) (inl same) = let sum = sum_by-cons size y xs in let is = ap size same in omega (arith, sum, is)
counted size x (y ∷ xs) (inr s) = let sum = sum_by-cons size y xs in let more = counted size x xs s in omega (arith, sum, more)

long_enough : (ds : List SelectionDifference) → AreSelectionDifferences one without_selections ds → 99 ≤ text_size (Some ds)
unfolding serde_json_on_literals
long_enough ds are =
    let one : size_of_one only ≤ size_of_list ds = counted size_of_one only ds (are.all labelled) in
    let known : size_of_one only ≡ 98 = refl in
    elim (whole_size ds) [
      | inl (none, _) ↦ absurd (omega (arith, one, known, none))
      | inr (_, size) ↦ omega (arith, one, known, size)
    ]

-- none may be told within 98
not_beyond : (v : Vec SelectionDifference) → IsRun 98 (detailed (Some v) ∷ []) → ⊥
not_beyond v h = at h.run h.behind h.split h.whole h.fits h.bare
  where
    at : (run behind : List DetailedDifference) → detailed (Some v) ∷ [] ≡ run ++ behind
        → AllByRecursion (IsWhole (meaning_of one) (meaning_of without_selections)) run → sum_by size_of run ≤ 98 → AllByRecursion IsBare behind → ⊥
    at [] behind split whole fits bare = let none : Some v.items ≡ None = (subst (AllByRecursion IsBare) (sym split) bare).0 in cc
    at (e ∷ es) behind split whole fits bare =
        let same : e ≡ detailed (Some v) = cc in
        let it = subst (IsWhole (meaning_of one) (meaning_of without_selections)) same whole.0 in
        let long = long_enough v.items it.1 in
        let size = ap size_of same in
        let sum = sum_by-cons size_of e es in
        omega (arith, fits, sum, size, long)
