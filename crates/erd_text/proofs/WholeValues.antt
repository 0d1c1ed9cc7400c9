-- The parts of a value that has no fraction have none.
use Rattle.erd_text.proofs.Common.{◌≡◌, ℕ, zero, suc, ◌<◌, false, List, [], ◌∷◌, map, length, Some, None, Option, Ordering, sym, refl, ap, ◌∙◌, subst, arith}
use Rattle.erd_text.proofs.Common.{AllByRecursion, option_map_or, Data, array, object, Items, no_items, item, Members, no_members, member, get_member, get}
use Rattle.erd_text.proofs.Common.{items_of, view, items_view, members_view, Value, list_of_items, entries_of, get_or, or_parts, has_float, items_have_float}
use Rattle.erd_text.proofs.Common.{members_have_float, entries_at, rising_list, Entry}
use Rattle.erd_text.proofs.RisingOrders.{all_rising}
use Rattle.erd_check.proofs.Shapes.{found_cases}

-- values that have no fraction
abbrev pub AreWhole : List Data → Type 0
AreWhole ds = AllByRecursion (λ d. has_float d ≡ false) ds

-- ---- members and entries

whole_member : (name : List ℕ) (ms : Members) (d : Data) → members_have_float ms ≡ false → get_member name ms ≡ Some d → has_float d ≡ false
whole_member name no_members d h e = cc
whole_member name (member l v ms) d h e =
    let both = or_parts (has_float v) (members_have_float ms) h in
    found_cases name l d v ms e (λ named same. subst (λ w. has_float w ≡ false) same both.0) (λ found. whole_member name ms d both.1 found)

pub whole_get : (name : List ℕ) (d v : Data) → has_float d ≡ false → get name d ≡ Some v → has_float v ≡ false
whole_get name (object ms) v h e = whole_member name ms v h e
whole_get name k v h e = cc

whole_items : (ds : Items) → items_have_float ds ≡ false → AreWhole (list_of_items ds)
whole_items no_items h = tt
whole_items (item d ds) h = let both = or_parts (has_float d) (items_have_float ds) h in (both.0, whole_items ds both.1)

pub whole_entries_of : (d : Data) → has_float d ≡ false → AreWhole (entries_of d)
whole_entries_of (array ds) h = whole_items ds h
whole_entries_of e h = tt

pub whole_entries : (name : List ℕ) (d : Data) → has_float d ≡ false → AreWhole (entries_at name d)
whole_entries name d h = at (get name d) refl
  where
    at : (o : Option Data) → get name d ≡ o → AreWhole (option_map_or entries_of o [])
    at None e = tt
    at (Some v) e = whole_entries_of v (whole_get name d v h e)

pub whole_at : (vs : List Value) (i : ℕ) (v : Value) → AreWhole (map view vs) → i < length vs → v ≡ get_or vs i v → has_float (view v) ≡ false
whole_at [] i v h low e = absurd (omega arith)
whole_at (w ∷ vs) zero v h low e = subst (λ u. has_float (view u) ≡ false) (sym e) h.0
whole_at (w ∷ vs) (suc i) v h low e = whole_at vs i v h.1 (omega arith) e

-- an entry of the array of a member
pub whole_entry : (name : List ℕ) (d : Data) (vs : List Value) (i : ℕ) (v : Value) → has_float d ≡ false → map view vs ≡ entries_at name d → i < length vs
    → v ≡ get_or vs i v → has_float (view v) ≡ false
whole_entry name d vs i v h is low e = whole_at vs i v (subst AreWhole (sym is) (whole_entries name d h)) low e

-- one by one, and back
pub all_whole : (ds : List Data) → items_have_float (items_of ds) ≡ false → AreWhole ds
all_whole [] h = tt
all_whole (d ∷ ds) h = let both = or_parts (has_float d) (items_have_float (items_of ds)) h in (both.0, all_whole ds both.1)

from_all_whole : (ds : List Data) → AreWhole ds → items_have_float (items_of ds) ≡ false
from_all_whole [] h = refl
from_all_whole (d ∷ ds) h = rw (h.0, from_all_whole ds h.1) refl

-- the entries of an array
pub whole_list : (d : Data) (vs : List Value) → has_float d ≡ false → map view vs ≡ entries_of d → items_have_float (items_view vs) ≡ false
whole_list d vs h is = from_all_whole (map view vs) (subst AreWhole (sym is) (whole_entries_of d h))

-- one of them
pub whole_item : (vs : List Value) (i : ℕ) (v : Value) → items_have_float (items_view vs) ≡ false → i < length vs → v ≡ get_or vs i v
    → has_float (view v) ≡ false
whole_item vs i v h low e = whole_at vs i v (all_whole (map view vs) h) low e

-- the entries of an array that is a member
pub whole_list_at : (name : List ℕ) (d : Data) (vs : List Value) → has_float d ≡ false → map view vs ≡ entries_at name d
    → items_have_float (items_view vs) ≡ false
whole_list_at name d vs h is = from_all_whole (map view vs) (subst AreWhole (sym is) (whole_entries name d h))

-- of the members that are left, the first and those after it
pub whole_first : (left rest : List Entry) (e : Entry) → left ≡ e ∷ rest → members_have_float (members_view left) ≡ false → has_float (view e.1) ≡ false
whole_first left rest e split h =
    (or_parts (has_float (view e.1)) (members_have_float (members_view rest)) (ap (λ es. members_have_float (members_view es)) (sym split) ∙ h)).0

pub whole_rest : (left rest : List Entry) (e : Entry) → left ≡ e ∷ rest → members_have_float (members_view left) ≡ false
    → members_have_float (members_view rest) ≡ false
whole_rest left rest e split h =
    (or_parts (has_float (view e.1)) (members_have_float (members_view rest)) (ap (λ es. members_have_float (members_view es)) (sym split) ∙ h)).1

-- in rising order
pub whole_rising : (cmp : Data → Data → Ordering) (ds : List Data) → items_have_float (items_of ds) ≡ false
    → items_have_float (items_of (rising_list cmp ds)) ≡ false
whole_rising cmp ds h = from_all_whole (rising_list cmp ds) (all_rising (λ d. has_float d ≡ false) cmp ds (all_whole ds h))
