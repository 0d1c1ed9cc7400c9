-- The differences inside the selections of a contest with their values, entry by entry.
use Rattle.erd_canon.proofs.Common.{◌≡◌, ℕ, ◌-◌, Bool, true, false, List, ◌∷◌, ◌++◌, Option, None, Some, option_map, refl, sym, ap, ◌∙◌, append_assoc}
use Rattle.erd_canon.proofs.Common.{Result, OnOk, on_ok_weaker, codes, length, take, Data, array, items_of, comma_if, compact_text, view}
use Rattle.serde_json.specs.Written.{items_text}
use Rattle.erd_compare.specs.SelectionDifferences.{told_with}
use Rattle.erd_compare.specs.declared.detailed.DetailedDifference.{DetailedDifference}
use Rattle.erd_compare.specs.declared.inside.SelectionDifference.{SelectionDifference}
use Rattle.erd_canon.specs.ValuedData.{room_behind, value_at_selection, valued_selections}
use Rattle.erd_canon.specs.code.ValuedInside.{entries_text, entry_at, inside_of, inside_put, room_after, room_at, value_in_contest}
use Rattle.erd_canon.specs.declared.data.valued.Sides.{Sides}
use Rattle.erd_canon.specs.declared.data.valued_inside.Contests.{Contests}

-- what is left of a room behind the text of a value
pub room_told : (room : ℕ) (v : Option Data) → room_after room (option_map compact_text v) ≡ room_behind (Some room) v
room_told room None = refl
room_told room (Some v) = refl

-- the text of the entries that are left, with the end of their array
abbrev pub rest_text : Contests → Bool → Option ℕ → List SelectionDifference → List ℕ
rest_text c later room ds = items_text later (items_of (valued_selections (value_in_contest c.left) (value_in_contest c.right) room ds))

-- one entry was appended
pub one_entry : (c : Contests) (later : Bool) (room left : Option ℕ) (d : SelectionDifference) (ds : List SelectionDifference) (was text : List ℕ)
    → left ≡ room_at c room d → text ≡ was ++ (comma_if later ++ compact_text (entry_at c room d))
    → text ++ rest_text c true left ds ≡ was ++ rest_text c later room (d ∷ ds)
one_entry c later room left d ds was text leaves wrote =
    let entry = compact_text (entry_at c room d) in
    let rest = rest_text c true (room_at c room d) ds in
    ap (λ t. t ++ rest_text c true left ds) wrote ∙ ap (λ o. (was ++ (comma_if later ++ entry)) ++ rest_text c true o ds) leaves
    ∙ append_assoc was (comma_if later ++ entry) rest ∙ ap (λ t. was ++ t) (append_assoc (comma_if later) entry rest)

abbrev selections_behind : (left right : SelectionDifference → Option Data) → ℕ → List SelectionDifference → List ℕ → List ℕ
selections_behind left right most ds was =
    take (length was - 1) was ++ (codes ",\"selections\":[" ++ (items_text false (items_of (valued_selections left right (Some most) ds)) ++ codes "}"))

abbrev array_behind : (left right : SelectionDifference → Option Data) → ℕ → Option (List SelectionDifference) → List ℕ → List ℕ
array_behind left right most told was = inside_put (option_map (λ ds. array (items_of (valued_selections left right (Some most) ds))) told) was

-- the array behind the members of an object, whatever is at a difference on either side
behind_members : (l left r right : SelectionDifference → Option Data) (most : ℕ) (ds : List SelectionDifference) (told : Option (List SelectionDifference))
    (was text : List ℕ) → l ≡ left → r ≡ right → told ≡ Some ds → text ≡ selections_behind l r most ds was → text ≡ array_behind left right most told was
behind_members l left r right most ds told was text one other are is =
    is ∙ ap (λ f. selections_behind f r most ds was) one ∙ ap (λ f. selections_behind left f most ds was) other
    ∙ sym (ap (λ o. array_behind left right most o was) are)

-- the differences inside the selections of the contests with the key of a difference
pub put_inside : {T E : Type 0} (r : Result T E) (s : Sides) (d : DetailedDifference) (c : Contests) (ds : List SelectionDifference) (was text : List ℕ)
    → value_in_contest c.left ≡ value_at_selection s.left.now.prefer (view s.left.now.tree) d.difference.key
    → value_in_contest c.right ≡ value_at_selection s.right.now.prefer (view s.right.now.tree) d.difference.key → told_with d ≡ Some ds
    → OnOk r (text ≡ take (length was - 1) was ++ (codes ",\"selections\":[" ++ (entries_text c (Some s.most_bytes) ds ++ codes "}")))
    → OnOk r (text ≡ inside_put (inside_of s d) was)
put_inside r s d c ds was text one other are wrote =
    on_ok_weaker r
    (behind_members (value_in_contest c.left) (value_at_selection s.left.now.prefer (view s.left.now.tree) d.difference.key) (value_in_contest c.right)
    (value_at_selection s.right.now.prefer (view s.right.now.tree) d.difference.key) s.most_bytes ds (told_with d) was text one other are) wrote
