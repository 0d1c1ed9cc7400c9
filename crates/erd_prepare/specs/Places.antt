-- Where what stood at a place stands after a step, and which places a step leaves alone.
use Rattle.std.specs.Prelude.{ℕ, zero, suc, ◌+◌, ◌==◌, List, [], ◌∷◌, ◌++◌, Bool, false, not, ◌||◌, if◌then◌else◌, Option, Some, None, option_and_then}
use Rattle.std.specs.List.{list_all}
use Rattle.std.specs.Str.{bytes_eq}
use Rattle.serde_json.specs.Data.{Data, array, object, Items, no_items, item, Members, no_members, member}
use Rattle.erd_tables.specs.declared.place.Step.{Step}
use Rattle.erd_tables.specs.declared.place.Step.TheVariants.{Name, At}
use Rattle.erd_check.specs.Wants.{want_of_name}
use Rattle.erd_check.specs.declared.want.Want.{Want}
use Rattle.erd_prepare.specs.Rules.{Rule, Told, entry_in}

-- ---- the value at a place

-- The value of the member with this name.
abbrev pub member_named : Members → List ℕ → Option Data
member_named no_members k = None
member_named (member l d ms) k = if bytes_eq k l then Some d else member_named ms k

-- The entry at this position.
abbrev pub entry_number : Items → ℕ → Option Data
entry_number no_items i = None
entry_number (item d ds) zero = Some d
entry_number (item d ds) (suc i) = entry_number ds i

-- The value one step below a value (RFC 6901, section 4).
abbrev pub value_below : Data → Step → Option Data
value_below (object ms) (Name k) = member_named ms k
value_below (array ds) (At i) = entry_number ds i
value_below d s = None

-- The value at a place below a value, if there is one (RFC 6901, section 4).
abbrev pub value_at : List Step → Data → Option Data
value_at [] d = Some d
value_at (s ∷ p) d = option_and_then (value_at p) (value_below d s)

-- ---- places that touch

-- True for two steps to one value.
abbrev pub is_same_step : Step → Step → Bool
is_same_step (Name k) (Name l) = bytes_eq k l
is_same_step (At i) (At j) = i == j
is_same_step s t = false

-- True for two places of which neither is at or inside the other.
abbrev pub are_apart : List Step → List Step → Bool
are_apart [] q = false
are_apart (s ∷ p) [] = false
are_apart (s ∷ p) (t ∷ q) = not (is_same_step s t) || are_apart p q

-- True for a place that is apart from each of the told ones.
abbrev pub is_untold : List Step → List Told → Bool
is_untold q cs = list_all (λ (c : Told). are_apart c.place q) cs

-- ---- where a place is afterwards

-- How many of the first entries stay, of an array from position j on. Behind its end each counts.
abbrev pub entries_kept : Rule → List Step → Option Want → ℕ → Items → ℕ → ℕ
entries_kept r p w j no_items i = i
entries_kept r p w j (item d ds) zero = 0
entries_kept r p w j (item d ds) (suc i) = (if r.lets_go (p ++ At j ∷ []) w d then entries_kept r p w (j + 1) ds i else suc (entries_kept r p w (j + 1) ds i))

-- The step that leads there afterwards: an entry stands behind those before it that stay.
abbrev pub step_after : Rule → List Step → Option Want → Data → Step → Step
step_after r p w (array ds) (At i) = At (entries_kept r p w 0 ds i)
step_after r p w d s = s

-- What is asked one step below a value.
abbrev pub want_below : Rule → Option Want → Data → Step → Option Want
want_below r w d (Name k) = want_of_name (r.scopes w d) k
want_below r w d (At i) = entry_in w

-- The place afterwards of what stands at a place below the value at p, if a value stands there.
abbrev pub place_after : Rule → List Step → Option Want → Option Data → List Step → List Step
place_after r p w d [] = []
place_after r p w None (s ∷ q) = s ∷ q
place_after r p w (Some d) (s ∷ q) = step_after r p w d s ∷ place_after r (p ++ s ∷ []) (want_below r w d s) (value_below d s) q
