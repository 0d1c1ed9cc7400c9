-- All names at which two objects of one class differ, and a walk in step that finds them one at a time.
use Rattle.std.specs.Prelude.{ℕ, ◌+◌, ◌≡◌, ◌≢◌, length, ◌⊎◌, Bool, List, [], ◌∷◌, ◌++◌, true, Option, Some, None}
use Rattle.std.specs.List.{AllByRecursion}
use Rattle.std.specs.List.Sorted.{IsStrictlySortedBy}
use Rattle.std.specs.declared.cmp.Ordering.{Ordering}
use Rattle.std.specs.declared.cmp.Ordering.TheVariants.{Less}
use Rattle.serde_json.specs.Data.{Data}
use Rattle.serde_json.specs.View.{view}
use Rattle.erd_tables.specs.Texts.{text_cmp}
use Rattle.erd_compare.specs.Differences.{Stands, first_of}
use Rattle.erd_compare.specs.code.LeastNames.{MemberMap, TellsLeastName}
use Rattle.erd_compare.specs.code.MemberPairs.{DecideNames, IsMapOf}
use Rattle.erd_compare.specs.code.NamesInStep.{AreMembersOf, members_left, names_left}
use Rattle.erd_compare.specs.declared.objects.differing_names.PairsLeft.{PairsLeft}
use Rattle.erd_compare.specs.declared.objects.differing_names.MemberPair.{MemberPair}

-- These are all keys at which the two maps differ, in rising order.
pub record AreDiffering {K V : Type 0} (cmp : K → K → Ordering) (m n : K → Option V) (found : List K) : Type 0 where
  pub rise : IsStrictlySortedBy cmp found
  pub differ : AllByRecursion (λ k. m k ≢ n k) found
  pub all : (k : K) → (m k ≡ n k) ⊎ Stands k found

-- The two maps differ at these names, which rise: at all at which they do, or at the first if not all are wanted. With none
-- the maps are equal.
pub record AreNames (all : Bool) (m n : MemberMap) (names : List (List ℕ)) : Type 0 where
  pub rise : IsStrictlySortedBy text_cmp names
  pub differ : AllByRecursion (λ k. m k ≢ n k) names
  pub first : TellsLeastName m n (first_of names)
  pub each : all ≡ true → (k : List ℕ) → (m k ≡ n k) ⊎ Stands k names

-- The key is below all of these.
abbrev pub IsBelowAll : {K : Type 0} → (K → K → Ordering) → K → List K → Type 0
IsBelowAll cmp k ks = AllByRecursion (λ l. cmp k l ≡ Less) ks

-- A key that was passed by: the maps are equal there or it was found, and it is below what is left.
pub record WasPassed {K V : Type 0} (cmp : K → K → Ordering) (m n : K → Option V) (found ls rs : List K) (k : K) : Type 0 where
  pub told : (m k ≡ n k) ⊎ Stands k found
  pub left : IsBelowAll cmp k ls
  pub right : IsBelowAll cmp k rs

-- The map has nothing at the key, unless it is one of these.
abbrev pub IsOnlyAmong : {K V : Type 0} → (K → Option V) → List K → K → Type 0
IsOnlyAmong f ks k = (f k ≡ None) ⊎ Stands k ks

-- A walk in step over the keys of two maps: what was found are the keys passed by at which the maps differ, in rising order,
-- and the rest is left.
pub record IsWalked {K V : Type 0} (cmp : K → K → Ordering) (m n : K → Option V) (found ls rs : List K) : Type 0 where
  pub left : IsStrictlySortedBy cmp ls
  pub right : IsStrictlySortedBy cmp rs
  pub each : (k : K) → WasPassed cmp m n found ls rs k ⊎ (IsOnlyAmong m ls k × IsOnlyAmong n rs k)
  pub rise : IsStrictlySortedBy cmp found
  pub differ : AllByRecursion (λ k. m k ≢ n k) found
  pub before : AllByRecursion (λ k. IsBelowAll cmp k ls × IsBelowAll cmp k rs) found

-- How many members remain.
abbrev pub count_left : PairsLeft → ℕ
count_left left = length (names_left left.ones) + length (names_left left.others)

-- The members that remain stand in the two objects.
pub record StandInPair (d e : Data) (left : PairsLeft) : Type 0 where
  pub one : view left.one.now ≡ d
  pub other : view left.other.now ≡ e
  pub ones : AreMembersOf d (members_left left.ones)
  pub others : AreMembersOf e (members_left left.others)

-- These names were found, and these pairs are left.
abbrev pub AreFound : MemberMap → MemberMap → List (List ℕ) → PairsLeft → Type 0
AreFound m n found left = IsWalked text_cmp m n found (names_left left.ones) (names_left left.others)

-- All pairs are left, and nothing was found.
abbrev pub IsAtStart : Data → Data → PairsLeft → Type 0
IsAtStart d e left = (m n : MemberMap) → IsMapOf d m → IsMapOf e n → AreFound m n [] left

-- The walk goes on to the next name that differs, or to the end.
abbrev pub GoesOn : MemberMap → MemberMap → List (List ℕ) → PairsLeft → Option (List ℕ) → Type 0
GoesOn m n found left None = AreDiffering text_cmp m n found
GoesOn m n found left (Some name) = AreFound m n (found ++ (name ∷ [])) left

-- From one place of the walk to the next, whatever was found before, for any two maps that the answers decide.
abbrev pub GoesFrom : (MemberPair → Bool → Type 0) → Data → Data → PairsLeft → PairsLeft → Option (List ℕ) → Type 0
GoesFrom answers d e old new next =
    (m n : MemberMap) (found : List (List ℕ)) → IsMapOf d m → IsMapOf e n → DecideNames answers d e m n → AreFound m n found old → GoesOn m n found new next
