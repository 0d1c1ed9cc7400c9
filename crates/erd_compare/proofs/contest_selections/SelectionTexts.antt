-- How long the texts of differences of selections are: they have no float, so each is known byte for byte.
use Rattle.erd_compare.proofs.Common.{[], ◌≡◌, ◌≢◌, ◌⊎◌, ℕ, zero, suc, ◌+◌, ◌<◌, Bool, true, false, List, ◌∷◌, ◌++◌, map, length, drop, drop_all, slice_get}
use Rattle.erd_compare.proofs.Common.{◌≤◌, nat_lt, Some, None, Option, sym, refl, ap, ◌∙◌, inl, inr, arith, Bor, NameParts, Key, Data, null, number, array}
use Rattle.erd_compare.proofs.Common.{unsigned, negative, pos, has_float, items_have_float, compact_text, How, Member, OnlyLeft, OnlyRight, OtherClass}
use Rattle.std.specs.Prelude.{ℤ, negsuc, ◌^◌, if◌then◌else◌, sum_by}
use Rattle.std.proofs.lemmas.List.{length-append}
use Rattle.std.proofs.lemmas.List.Sums.{sum_by-append, sum_by-cons}
use Rattle.erd_check.proofs.Positions.{left_there}
use Rattle.serde_json.specs.View.{items_of}
use Rattle.serde_json.specs.Written.{items_text}
use Rattle.erd_compare.specs.DifferenceData.{key_data}
use Rattle.erd_compare.specs.DifferenceLine.{key_as_json}
use Rattle.erd_compare.specs.SelectionData.{label_data, name_data, order_data, selection_data}
use Rattle.erd_compare.specs.SelectionDifferences.{text_size}
use Rattle.erd_compare.specs.code.ContestSelections.{differences_at, differences_named, size_of_list, size_of_one, Leaves}
use Rattle.erd_compare.specs.declared.inside.SelectionDifference.{SelectionDifference}
use Rattle.erd_compare.specs.declared.inside.named.NamedWays.{NamedWays}

-- a difference at the name of a selection
abbrev pub the_difference : NameParts → How → SelectionDifference
the_difference name how = record { name = name; how = how }

-- ---- no float is in their values

record IsWhole (d : Data) : Type 0 where
  whole : has_float d ≡ false

record AreWhole (ds : List Data) : Type 0 where
  all_whole : items_have_float (items_of ds) ≡ false

none_whole : AreWhole []
none_whole = record { all_whole = refl }

one_whole : {d : Data} {ds : List Data} → IsWhole d → AreWhole ds → AreWhole (d ∷ ds)
one_whole here more = record { all_whole = rw (here.whole, more.all_whole) refl }

array_whole : {ds : List Data} → AreWhole ds → IsWhole (array (items_of ds))
array_whole all = record { whole = all.all_whole }

key_whole : (k : Option Key) → IsWhole (key_data k)
key_whole None = record { whole = refl }
key_whole (Some k) = record { whole = refl }

label_whole : (o : Option (List ℕ)) → IsWhole (label_data o)
label_whole None = record { whole = refl }
label_whole (Some text) = record { whole = refl }

order_whole : (o : Option ℤ) → IsWhole (order_data o)
order_whole None = record { whole = refl }
order_whole (Some (pos n)) = at (nat_lt n (2 ^ 64))
  where
    at : (b : Bool) → IsWhole (if b then number (unsigned n) else null)
    at true = record { whole = refl }
    at false = record { whole = refl }
order_whole (Some (negsuc n)) = at (nat_lt n (2 ^ 63))
  where
    at : (b : Bool) → IsWhole (if b then number (negative (negsuc n)) else null)
    at true = record { whole = refl }
    at false = record { whole = refl }

keys_whole : (ks : List Key) → AreWhole (map key_as_json ks)
keys_whole [] = none_whole
keys_whole (k ∷ ks) = one_whole (key_whole (Some k)) (keys_whole ks)

name_whole : (n : NameParts) → IsWhole (name_data n)
name_whole n =
    array_whole
    (one_whole (record { whole = refl })
    (one_whole (array_whole (keys_whole n.keys))
    (one_whole (record { whole = refl })
    (one_whole (order_whole n.order) (one_whole (label_whole n.label) (one_whole (key_whole n.identifier) none_whole))))))

pub difference_whole : (name : NameParts) (how : How) → has_float (selection_data (the_difference name how)) ≡ false
difference_whole name OnlyLeft = let it = name_whole name in rw it.whole refl
difference_whole name OnlyRight = let it = name_whole name in rw it.whole refl
difference_whole name OtherClass = let it = name_whole name in rw it.whole refl
difference_whole name (Member m) = let it = name_whole name in rw it.whole refl

-- ---- how many bytes they have in an array, name by name and member by member

-- the differences at one name
abbrev pub size_at : NamedWays → ℕ
size_at v = size_of_list (differences_named v.name.now v.ways)

-- those at all names
pub sizes_at : (vs : List NamedWays) → sum_by size_at vs ≡ size_of_list (differences_at vs)
sizes_at [] = refl
sizes_at (v ∷ vs) =
    sum_by-cons size_at v vs
    ∙ (ap (λ s. size_at v + s) (sizes_at vs) ∙ sym (sum_by-append size_of_one (differences_named v.name.now v.ways) (differences_at vs)))

-- the difference in the member with this name
abbrev pub size_in_member : NameParts → Bor (List ℕ) → ℕ
size_in_member name s = size_of_one (the_difference name (Member s.now))

-- what is read of the members at a position that is too high
abbrev pub no_member : Bor (List ℕ)
no_member = record { ref_ptr = (0, 0); now = [] }

-- those in all members
pub sizes_in : (name : NameParts) (ss : List (Bor (List ℕ))) → sum_by (size_in_member name) ss
    ≡ size_of_list (map (the_difference name) (map Member (map (λ s. s.now) ss)))
sizes_in name [] = refl
sizes_in name (s ∷ ss) =
    sum_by-cons (size_in_member name) s ss
    ∙ (ap (λ n. size_in_member name s + n) (sizes_in name ss)
    ∙ sym (sum_by-cons size_of_one (the_difference name (Member s.now)) (map (the_difference name) (map Member (map (λ s. s.now) ss)))))

-- ---- the text of the array

-- one more in front, behind a comma, and one that is the first
joined_later : (text rest : List ℕ) (size total : ℕ) → length rest ≡ suc size → total ≡ suc (length text) + size → length (44 ∷ (text ++ rest)) ≡ suc total
joined_later text rest size total more sum = let one = length-append text rest in omega (arith, one, more, sum)

joined_first : (text rest : List ℕ) (size total : ℕ) → length rest ≡ suc size → total ≡ suc (length text) + size → (0 < total)
    × (length (91 ∷ (text ++ rest)) ≡ suc total)
joined_first text rest size total more sum = let one = length-append text rest in (omega (arith, sum), omega (arith, one, more, sum))

later_size : (ds : List SelectionDifference) → length (items_text true (items_of (map selection_data ds))) ≡ suc (size_of_list ds)
later_size [] = refl
later_size (d ∷ ds) = joined_later (compact_text (selection_data d)) (items_text true (items_of (map selection_data ds))) (size_of_list ds) _ (later_size ds)
    (sum_by-cons size_of_one d ds)

-- without differences it is two brackets, and otherwise it has one byte in front of them
pub whole_size : (ds : List SelectionDifference) → ((size_of_list ds ≡ 0) × (text_size (Some ds) ≡ 2))
    ⊎ ((0 < size_of_list ds) × (text_size (Some ds) ≡ suc (size_of_list ds)))
whole_size [] = inl (refl, refl)
whole_size (d ∷ ds) =
    inr (joined_first (compact_text (selection_data d)) (items_text true (items_of (map selection_data ds))) (size_of_list ds) _ (later_size ds)
    (sum_by-cons size_of_one d ds))

-- as many bytes in an array, as many in its text
pub same_size : (ds es : List SelectionDifference) → size_of_list ds ≡ size_of_list es → text_size (Some ds) ≡ text_size (Some es)
same_size ds es = at (size_of_list ds) (size_of_list es) (text_size (Some ds)) (text_size (Some es)) (whole_size ds) (whole_size es)
  where
    at : (d e x y : ℕ) → ((d ≡ 0) × (x ≡ 2)) ⊎ ((0 < d) × (x ≡ suc d)) → ((e ≡ 0) × (y ≡ 2)) ⊎ ((0 < e) × (y ≡ suc e)) → d ≡ e → x ≡ y
    at d e x y (inl (none, two)) (inl (none', two')) same = two ∙ sym two'
    at d e x y (inl (none, two)) (inr (some, more)) same = absurd (omega (arith, none, some, same))
    at d e x y (inr (some, more)) (inl (none, two)) same = absurd (omega (arith, none, some, same))
    at d e x y (inr (some, more)) (inr (some', more')) same = more ∙ (ap suc same ∙ sym more')

-- ---- what they leave of a room

-- a text and one byte behind it
pub text_behind : (text size room left : ℕ) (after : Option ℕ) → size ≡ text → Leaves size room (Some left) → Leaves 1 left after → Leaves (suc text) room after
text_behind text size room left None same fits low = omega (arith, same, fits, low)
text_behind text size room left (Some rest) same fits more = omega (arith, same, fits, more)

pub text_beyond : (text size room : ℕ) → size ≡ text → Leaves size room None → Leaves (suc text) room None
text_beyond text size room same low = omega (arith, same, low)

module _ (ds : List SelectionDifference) (room : ℕ) where
  -- if the differences do not fit, their text does not
  pub list_beyond : Leaves (size_of_list ds) room None → Leaves (text_size (Some ds)) room None
  list_beyond low = at (size_of_list ds) (text_size (Some ds)) low (whole_size ds)
    where
      at : (list whole : ℕ) → room < list → ((list ≡ 0) × (whole ≡ 2)) ⊎ ((0 < list) × (whole ≡ suc list)) → room < whole
      at list whole low (inl (none, two)) = omega (arith, low, none)
      at list whole low (inr (some, more)) = omega (arith, low, more)

  -- and else they leave what their brackets leave
  both_brackets : (list whole left : ℕ) (after : Option ℕ) → left + list ≡ room → list ≡ 0 → ((list ≡ 0) × (whole ≡ 2)) ⊎ ((0 < list) × (whole ≡ suc list))
      → Leaves 2 left after → Leaves whole room after
  both_brackets list whole left None known none (inl (_, two)) low = omega (arith, known, none, two, low)
  both_brackets list whole left (Some rest) known none (inl (_, two)) fits = omega (arith, known, none, two, fits)
  both_brackets list whole left after known none (inr (some, more)) fits = absurd (omega (arith, none, some))

  one_bracket : (list whole left : ℕ) (after : Option ℕ) → left + list ≡ room → 0 < list → ((list ≡ 0) × (whole ≡ 2)) ⊎ ((0 < list) × (whole ≡ suc list))
      → Leaves 1 left after → Leaves whole room after
  one_bracket list whole left None known some (inr (_, more)) low = omega (arith, known, more, low)
  one_bracket list whole left (Some rest) known some (inr (_, more)) fits = omega (arith, known, more, fits)
  one_bracket list whole left after known some (inl (none, _)) fits = absurd (omega (arith, none, some))

  pub nothing_there : (left : ℕ) (after : Option ℕ) → Leaves (size_of_list ds) room (Some left) → left ≡ room → Leaves 2 left after
      → Leaves (text_size (Some ds)) room after
  nothing_there left after known same fits = both_brackets (size_of_list ds) (text_size (Some ds)) left after known
      (none (size_of_list ds) known) (whole_size ds) fits
    where
      none : (list : ℕ) → left + list ≡ room → list ≡ 0
      none list known = omega (arith, known, same)

  pub some_there : (left : ℕ) (after : Option ℕ) → Leaves (size_of_list ds) room (Some left) → left ≢ room → Leaves 1 left after
      → Leaves (text_size (Some ds)) room after
  some_there left after known other fits = one_bracket (size_of_list ds) (text_size (Some ds)) left after known
      (some (size_of_list ds) known) (whole_size ds) fits
    where
      some : (list : ℕ) → left + list ≡ room → 0 < list
      some zero known = absurd (other (omega (arith, known)))
      some (suc list) known = omega arith

-- ---- what is left of a room, as the sizes of the entries of a list are taken from it one after another

module _ {A : Type 0} (size : A → ℕ) (xs : List A) (i total room left : ℕ) (known : left + total ≡ room + sum_by size (drop i xs)) where
  -- the size of the next entry is one of those that are to be taken
  next_counted : (x : A) → slice_get xs i ≡ Some x → sum_by size (drop i xs) ≡ size x + sum_by size (drop (i + 1) xs)
  next_counted x here = ap (sum_by size) (left_there xs i x here) ∙ sum_by-cons size x (drop (i + 1) xs)

  pub one_fits : (x : A) → slice_get xs i ≡ Some x → (after : ℕ) → Leaves (size x) left (Some after) → after + total ≡ room + sum_by size (drop (i + 1) xs)
  one_fits x here after fits = let next = next_counted x here in omega (arith, next, fits, known)

  pub one_does_not : (x : A) → slice_get xs i ≡ Some x → Leaves (size x) left None → room < total
  one_does_not x here low = let next = next_counted x here in omega (arith, next, low, known)

  -- at the end all are taken
  pub all_fit : length xs ≤ i → left + total ≡ room
  all_fit end = let none : sum_by size (drop i xs) ≡ 0 = ap (sum_by size) (drop_all i xs end) in omega (arith, none, known)
