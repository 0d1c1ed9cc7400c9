-- The order of the objects of a family, or of the elections, by their keys: their positions in rising order, and their ranks.
use Rattle.std.specs.Prelude.{◌≡◌, ◌+◌, ℕ, List, [], ◌∷◌, Option, true, filter, length, map}
use Rattle.std.specs.List.{IsDistinct}
use Rattle.std.specs.Option.{option_cmp, option_copied}
use Rattle.std.specs.Ordering.{eq_by_cmp, is_lt}
use Rattle.std.specs.declared.cmp.Ordering.{Ordering}
use Rattle.erd_tables.specs.declared.class.Family.{Family}
use Rattle.erd_meaning.specs.Keys.{has_keys, key_cmp}
use Rattle.erd_text.specs.RisingLists.{rising_list}
use Rattle.erd_meaning.specs.code.ObjectLookups.{those_of}
use Rattle.erd_meaning.specs.code.ObjectWalk.{Kept}
use Rattle.erd_meaning.specs.declared.keys.key.Key.{Key}
use Rattle.erd_meaning.specs.declared.objects.order.Order.{Order}
use denote.Ref.{Bor}

-- ---- keys with positions

-- The keys with their positions. The first stands at position i.
abbrev pub positioned : {K : Type 0} → ℕ → List K → List (K × ℕ)
positioned i [] = []
positioned i (k ∷ ks) = (k, i) ∷ positioned (i + 1) ks

-- Borrowed keys with positions, as contracts see them.
abbrev pub seen_keys : List (Option (Bor Key) × ℕ) → List (Option Key × ℕ)
seen_keys ps = map (λ p. (option_copied p.0, p.1)) ps

-- The same keys without their positions.
abbrev pub keys_seen : List (Option (Bor Key) × ℕ) → List (Option Key)
keys_seen ps = map (λ p. option_copied p.0) ps

-- Borrowed keys are compared by what they point to. None is less than any.
abbrev pub lent_key_cmp : Option (Bor Key) → Option (Bor Key) → Ordering
lent_key_cmp = option_cmp (λ k l. key_cmp k.now l.now)

-- ---- orders

-- No two of the keys are equal.
abbrev pub AreDistinct : List (Option Key) → Type 0
AreDistinct keys = IsDistinct (eq_by_cmp (option_cmp key_cmp)) keys

-- The number of keys that are less than this one, by an order of keys.
abbrev pub rank_by : {K : Type 0} → (K → K → Ordering) → List K → K → ℕ
rank_by cmp keys key = length (filter (λ k. is_lt (cmp k key)) keys)

-- The positions of the keys, in the rising order of the keys.
abbrev pub positions_by : {K : Type 0} → (K → K → Ordering) → List K → List ℕ
positions_by cmp keys = map (λ p. p.1) (rising_list (λ a b. cmp a.0 b.0) (positioned 0 keys))

-- The number of keys that are less than this one. A missing key is less than any other.
abbrev pub rank_in_keys : List (Option Key) → Option Key → ℕ
rank_in_keys keys key = rank_by (option_cmp key_cmp) keys key

-- The positions of the keys, in their rising order.
abbrev pub rising_positions : List (Option Key) → List ℕ
rising_positions keys = positions_by (option_cmp key_cmp) keys

-- This is the order of these keys.
pub record IsOrder (keys : List (Option Key)) (order : Order) : Type 0 where
  pub rises : order.rising.items ≡ rising_positions keys
  pub ranked : order.ranks.items ≡ map (rank_in_keys keys) keys

-- ---- families

-- The keys of the objects of the family, in the order of the report.
abbrev pub family_keys : List Kept → Family → List (Option Key)
family_keys ks f = map (λ k. k.key) (those_of f ks)

-- No two objects of one family have one key, where the family has keys.
abbrev pub HaveDistinctKeys : List Kept → Type 0
HaveDistinctKeys ks = (f : Family) → has_keys f ≡ true → AreDistinct (family_keys ks f)
