-- The first difference of two meanings, and the list of all. All of this is the profile's own.
use Rattle.std.specs.Prelude.{ℕ, ◌≡◌, ◌≢◌, ◌⊎◌, List, [], ◌∷◌, Option, Some, None, ⊤}
use Rattle.std.specs.List.{AllByRecursion}
use Rattle.std.specs.List.Sorted.{IsStrictlySortedBy}
use Rattle.std.specs.Option.{option_cmp}
use Rattle.std.specs.Ordering.{nat_cmp, ordering_then}
use Rattle.std.specs.declared.cmp.Ordering.{Ordering}
use Rattle.std.specs.declared.cmp.Ordering.TheVariants.{Less}
use Rattle.erd_tables.specs.Texts.{text_cmp}
use Rattle.erd_tables.specs.declared.class.Family.{Family}
use Rattle.erd_tables.specs.declared.class.Family.TheVariants as family
use Rattle.erd_meaning.specs.Keys.{key_cmp}
use Rattle.erd_meaning.specs.Meaning.{Record, ObjectRecord, Meaning}
use Rattle.erd_meaning.specs.declared.keys.key.Key.{Key}
use Rattle.erd_compare.specs.declared.difference.Difference.{Difference}
use Rattle.erd_compare.specs.declared.difference.How.{How}
use Rattle.erd_compare.specs.declared.difference.How.TheVariants.{OnlyLeft, OnlyRight, OtherClass, Member}
use Rattle.erd_compare.specs.declared.difference.Part.{Part}
use Rattle.erd_compare.specs.declared.difference.Part.TheVariants as part

-- ---- parts

-- The position of the part in the order of parts, counted from 0.
abbrev pub part_number : Part → ℕ
part_number part.Report = 0
part_number part.Unit = 1
part_number part.Party = 2
part_number part.Person = 3
part_number part.Office = 4
part_number part.Header = 5
part_number part.Election = 6
part_number part.Candidate = 7
part_number part.Contest = 8
part_number part.Style = 9

-- The parts are compared first, and then the keys.
abbrev pub part_cmp : Part → Option Key → Part → Option Key → Ordering
part_cmp p k q l = ordering_then (nat_cmp (part_number p) (part_number q)) (option_cmp key_cmp k l)

-- The record that the meaning has for the object of the family with this key, or none without a key.
abbrev pub record_with_key : Meaning → Family → Option Key → Option ObjectRecord
record_with_key m f None = None
record_with_key m f (Some k) = m.objects f k

-- The record of the report. It has no key, so there is none where a key is given.
abbrev pub record_without_key : Option ObjectRecord → Option Key → Option ObjectRecord
record_without_key r None = r
record_without_key r (Some k) = None

-- The record that the meaning has at this part and key, or none.
abbrev pub record_at : Meaning → Part → Option Key → Option ObjectRecord
record_at m part.Report k = record_without_key m.report k
record_at m part.Unit k = record_with_key m family.Unit k
record_at m part.Party k = record_with_key m family.Party k
record_at m part.Person k = record_with_key m family.Person k
record_at m part.Office k = record_with_key m family.Office k
record_at m part.Header k = record_with_key m family.Header k
record_at m part.Election k = m.elections k
record_at m part.Candidate k = record_with_key m family.Candidate k
record_at m part.Contest k = record_with_key m family.Contest k
record_at m part.Style k = record_with_key m family.Style k

-- ---- differences

-- The two records have the same class, and the name is the least at which their members differ. One of them may have no such
-- member.
pub record DifferFirstAt (a b : ObjectRecord) (name : List ℕ) : Type 0 where
  pub same_class : a.class ≡ b.class
  pub differ : a.members name ≢ b.members name
  pub least : (n : List ℕ) → text_cmp n name ≡ Less → a.members n ≡ b.members n

-- How two records differ: only one side has a record, or the classes differ, or else the least member at which they differ.
abbrev pub Differ : Option ObjectRecord → Option ObjectRecord → How → Type 0
Differ None None how = ⊥
Differ (Some a) None how = how ≡ OnlyLeft
Differ None (Some b) how = how ≡ OnlyRight
Differ (Some a) (Some b) OnlyLeft = ⊥
Differ (Some a) (Some b) OnlyRight = ⊥
Differ (Some a) (Some b) OtherClass = a.class ≢ b.class
Differ (Some a) (Some b) (Member name) = DifferFirstAt a b name

-- The two meanings differ in this way at this part and key, and they agree at every lesser part and key.
pub record IsFirstDifference (m n : Meaning) (d : Difference) : Type 0 where
  pub differ : Differ (record_at m d.part d.key) (record_at n d.part d.key) d.how
  pub least : (p : Part) (k : Option Key) → part_cmp p k d.part d.key ≡ Less → record_at m p k ≡ record_at n p k

-- The answer is none if the meanings are equal, and otherwise their first difference. What a report means has no records at
-- the family of selections, so the parts cover all of it.
abbrev pub IsDifference : Meaning → Meaning → Option Difference → Type 0
IsDifference m n None = m ≡ n
IsDifference m n (Some d) = IsFirstDifference m n d

-- ---- all differences

-- The first of the list, if there is one.
abbrev pub first_of : {A : Type 0} → List A → Option A
first_of [] = None
first_of (x ∷ xs) = Some x

-- The value stands in the list.
abbrev pub Stands : {A : Type 0} → A → List A → Type 0
Stands x [] = ⊥
Stands x (y ∷ ys) = (y ≡ x) ⊎ Stands x ys

-- A way in which two records differ: only one side has a record; or the classes differ; or the classes are equal, and the
-- members with this name differ.
abbrev pub DifferIn : {V : Type 0} → Option (Record V) → Option (Record V) → How → Type 0
DifferIn None None how = ⊥
DifferIn (Some a) None how = how ≡ OnlyLeft
DifferIn None (Some b) how = how ≡ OnlyRight
DifferIn (Some a) (Some b) OnlyLeft = ⊥
DifferIn (Some a) (Some b) OnlyRight = ⊥
DifferIn (Some a) (Some b) OtherClass = a.class ≢ b.class
DifferIn (Some a) (Some b) (Member name) = (a.class ≡ b.class) × (a.members name ≢ b.members name)

-- The two meanings differ at the part and the key of the difference, in its way.
abbrev pub AreDifferent : Meaning → Meaning → Difference → Type 0
AreDifferent m n d = DifferIn (record_at m d.part d.key) (record_at n d.part d.key) d.how

-- Two records agree, but for the ways that are told.
abbrev pub AgreeBut : {V : Type 0} → (How → Type 0) → Option (Record V) → Option (Record V) → Type 0
AgreeBut told None None = ⊤
AgreeBut told (Some a) None = told OnlyLeft
AgreeBut told None (Some b) = told OnlyRight
AgreeBut told (Some a) (Some b) = told OtherClass ⊎ ((a.class ≡ b.class) × ((name : List ℕ) → (a.members name ≡ b.members name) ⊎ told (Member name)))

-- The name of the member that differs, or none if the reports differ in another way.
abbrev pub member_of : How → Option (List ℕ)
member_of (Member name) = Some name
member_of how = None

-- Differences are compared by their parts, then by their keys, and then by the names of members.
abbrev pub difference_cmp : Difference → Difference → Ordering
difference_cmp d e = ordering_then (part_cmp d.part d.key e.part e.key) (option_cmp text_cmp (member_of d.how) (member_of e.how))

-- These are all differences of the two meanings, in rising order: the meanings differ in each of them, and but for these they
-- agree at every part and key.
pub record AreDifferences (m n : Meaning) (ds : List Difference) : Type 0 where
  pub rise : IsStrictlySortedBy difference_cmp ds
  pub differ : AllByRecursion (AreDifferent m n) ds
  pub all : (p : Part) (k : Option Key) → AgreeBut (λ how. Stands (record { part = p; key = k; how = how }) ds) (record_at m p k) (record_at n p k)
