-- The indexes that the program keeps of the objects of a report. They do not define the profile.
use Rattle.std.specs.Prelude.{◌≡◌, ◌==◌, ◌<◌, ◌≤◌, ◌+◌, ◌-◌, ℕ, List, [], ◌∷◌, ◌++◌, length, take, Bool, true, false, Option, Some, None, option_and_then}
use Rattle.std.specs.Prelude.{option_map, if◌then◌else◌}
use Rattle.std.specs.List.{position, slice_get}
use Rattle.std.specs.List.Sorted.{IsPartitionPoint}
use Rattle.std.proofs.Math.Dec.{leb}
use Rattle.std.specs.Option.{option_map_or}
use Rattle.std.specs.Prelude.{vec_len, vec_capacity}
use Rattle.erd_tables.specs.Classes.{family_number}
use Rattle.erd_tables.specs.declared.class.Family.{Family}
use Rattle.erd_tables.specs.declared.class.Family.TheVariants as family
use Rattle.erd_meaning.specs.code.ObjectLookups.{is_keyed, is_of_family, keeps_id, those_of}
use Rattle.erd_meaning.specs.code.ObjectWalk.{Kept}
use Rattle.erd_meaning.specs.declared.keys.key.Key.{Key}
use Rattle.erd_meaning.specs.declared.objects.places.FamilyPlaces.{FamilyPlaces}

-- ---- the places of a family

-- The list of a family.
abbrev pub list_of : FamilyPlaces → Family → List ℕ
list_of p f = option_map_or (λ l. l.items) (slice_get p.lists (family_number f)) []

-- The list of the family has room for one more place without growing.
abbrev pub HasRoom : FamilyPlaces → Family → Type 0
HasRoom p f = 0 < option_map_or (λ l. vec_capacity l - vec_len l) (slice_get p.lists (family_number f)) 0

-- The list of family g after a place was added to the list of family f.
abbrev pub with_place : Family → ℕ → Family → List ℕ → List ℕ
with_place f n g ps = if family_number f == family_number g then ps ++ n ∷ [] else ps

-- The places of the objects of a family among all objects. The first object has place n.
abbrev pub places_from : Family → ℕ → List Kept → List ℕ
places_from f n [] = []
places_from f n (k ∷ ks) = if is_of_family f k then n ∷ places_from f (n + 1) ks else places_from f (n + 1) ks

-- ---- what an object is found by

-- The number of objects of the family before this place. An object of the family at the place has this position.
abbrev pub rank : Family → List Kept → ℕ → ℕ
rank f ks n = length (those_of f (take n ks))

-- The family of the object at this place, and its position in the family.
abbrev pub number_at : List Kept → ℕ → Option (Family × ℕ)
number_at ks n = option_map (λ k. (k.family, rank k.family ks n)) (slice_get ks n)

-- The family of the first object with this `@id`, and its position in the family, or none.
abbrev pub number_of_id : List Kept → List ℕ → Option (Family × ℕ)
number_of_id ks id = option_and_then (number_at ks) (position (keeps_id id) ks)

-- The position in the family of its first object with this key, or none.
abbrev pub number_of_key : List Kept → Family → Key → Option ℕ
number_of_key ks f key = option_map (rank f ks) (position (is_keyed f key) ks)

-- ---- the contests of selections

-- The number of contests before an object, noted only for a selection.
abbrev pub contests_noted : Family → ℕ → List ℕ
contests_noted f n = if family_number f == family_number family.Selection then n ∷ [] else []

-- The number of contests before each selection, where n contests stand before the first object.
abbrev pub contests_before : ℕ → List Kept → List ℕ
contests_before n [] = []
contests_before n (k ∷ ks) = contests_noted k.family n ++ contests_before (if is_of_family family.Contest k then n + 1 else n) ks

-- True if the selection at one position is in the contest at the other, which is then the last contest before it.
abbrev pub is_in_contest : List Kept → ℕ → ℕ → Bool
is_in_contest ks contest selection = option_map_or (λ n. n == contest + 1) (slice_get (contests_before 0 ks) selection) false

-- The selection at this position is the first that does not have at most k contests before it.
abbrev pub IsStart : List ℕ → ℕ → ℕ → Type 0
IsStart before k r = (r ≤ length before) × IsPartitionPoint (λ n. leb n k ≡ true) (λ n. leb n k ≡ false) before r

-- The position in the family of the first object with this `@id`, or none if that object is of another family.
abbrev pub number_among : List Kept → Family → List ℕ → Option ℕ
number_among ks f id = option_and_then (λ n. if family_number n.0 == family_number f then Some n.1 else None) (number_of_id ks id)
