-- A stable sorting by keys is the rising list.
use Rattle.erd_text.proofs.Common.{◌≡◌, Bool, true, false, cond, not, ◌&&◌, ◌⊎◌, List, [], ◌∷◌, map, filter, is_eq, is_lt, Ordering, Less, sym, refl, ap, ◌∙◌}
use Rattle.erd_text.proofs.Common.{ap₂, inl, inr, Bor, tied_itself, on_total, ranks_by, Equal-is, IsStrictWeakOrder, IsTotalOrder, ties, ordering_reverse}
use Rattle.erd_text.proofs.Common.{rising_list}
use denote.Param.Members.{Mut}
use Rattle.std.proofs.Common.{IsSortedBy}
use Rattle.std.proofs.lemmas.Fn.{always_returns_same}
use Rattle.std.proofs.lemmas.List.Elements.{filter_agree}
use Rattle.std.specs.Cmp.{alike_right}
use Rattle.std.specs.Fn.{Called, ComparesAs}
use Rattle.std.specs.List.Sorted.{IsStableBy}
use Rattle.erd_text.proofs.RisingLists.{by_first, rising_from_sort, rising_list_map}
use Rattle.erd_text.specs.StableOrder.{pairs_of, IsStablySorted}

-- ---- what std's stable sort says of pairs that it compares by their keys

-- a test is passed by none of a list, or by something
one_or_none : {X : Type 0} (p : X → Bool) (xs : List X) → (filter p xs ≡ []) ⊎ ((x : X) × (p x ≡ true))
one_or_none p [] = inl refl
one_or_none {X} p (x ∷ xs) =
    (elim (p x) as (λ b. p x ≡ b → (cond b (x ∷ filter p xs) (filter p xs) ≡ []) ⊎ ((y : X) × (p y ≡ true)))
    [ true ↦ λ is. inr (x, is) | false ↦ λ is. one_or_none p xs ]) refl

-- neither is less than the other exactly if they are equal
level : (a b : Ordering) → b ≡ ordering_reverse a → not (is_lt a) && not (is_lt b) ≡ is_eq b
level Less b e = rw e refl
level d b e = rw e refl

module _ {K T : Type 0} (cmp : K → K → Ordering) (total : IsTotalOrder cmp) where
  abbrev is_below : K × T → K × T → Bool
  is_below x y = is_lt (cmp x.0 y.0)

  abbrev is_of : K → K × T → Bool
  is_of k pair = is_eq (cmp pair.0 k)

  -- the pairs of a key are those that tie with one of them
  pub tie_by_key : (k : K) (x : K × T) → is_eq (cmp x.0 k) ≡ true → (y : K × T) → is_eq (cmp y.0 k) ≡ ties is_below x y
  tie_by_key k x e y =
      ap is_eq (sym (alike_right total x.0 k y.0 ((Equal-is (cmp x.0 k)).0 e))) ∙ sym (level (cmp x.0 y.0) (cmp y.0 x.0) (total.antisymm y.0 x.0))

  same_pairs : (old new : List (K × T)) → IsStableBy is_below old new → (k : K) → pairs_of cmp k new ≡ pairs_of cmp k old
  same_pairs old new stable k = at (one_or_none (is_of k) new) (one_or_none (is_of k) old)
    where
      through : (x : K × T) → is_of k x ≡ true → filter (is_of k) new ≡ filter (is_of k) old
      through x e =
          filter_agree (is_of k) (ties is_below x) (tie_by_key k x e) new ∙ (stable x ∙ sym (filter_agree (is_of k) (ties is_below x) (tie_by_key k x e) old))

      at : (filter (is_of k) new ≡ []) ⊎ ((x : K × T) × (is_of k x ≡ true)) → (filter (is_of k) old ≡ []) ⊎ ((x : K × T) × (is_of k x ≡ true))
          → filter (is_of k) new ≡ filter (is_of k) old
      at (inl none) (inl gone) = none ∙ sym gone
      at (inl none) (inr one) = through one.0 one.1
      at (inr one) rest = through one.0 one.1

  -- from the clauses `sorted` and `stable` of `sort_by`, where each call compares the keys of two pairs
  pub sorted_by_keys : {F : Type 0} {g : Mut F (Bor (K × T) × (Bor (K × T) × Unit {0})) Ordering} {f : F} (old new : List (K × T))
      → ((lt : K × T → K × T → Bool) → IsStrictWeakOrder lt → ComparesAs g lt f → IsSortedBy lt new)
      → ((lt : K × T → K × T → Bool) → IsStrictWeakOrder lt → ComparesAs g lt f → IsStableBy lt old new)
      → ((a : Bor (K × T) × (Bor (K × T) × Unit {0})) (r : Ordering) (f' : F) → Called g f a r f' → (r ≡ cmp a.0.now.0 a.1.0.now.0) × (f' ≡ f))
      → IsStablySorted cmp old new
  sorted_by_keys {g = g} {f = f} old new sorted stable calls =
      let order = ranks_by total (λ (pair : K × T). pair.0) in
      let compares = always_returns_same g (λ a r. is_lt r ≡ is_below a.0.now a.1.0.now) f
      (λ a r f' call. (ap is_lt (calls a r f' call).0, (calls a r f' call).1)) in
      record { never_falls = sorted is_below order compares; same = same_pairs old new (stable is_below order compares) }

-- ---- a stable sorting by keys is the rising list

pub rising_from_stable : {K T : Type 0} (cmp : K → K → Ordering) → IsTotalOrder cmp → (old new : List (K × T)) → IsStablySorted cmp old new
    → new ≡ rising_list (by_first cmp) old
rising_from_stable {K} {T} cmp total old new h =
    rising_from_sort (by_first cmp) (on_total (λ (p : K × T). p.0) total) old new h.never_falls (λ x. sym (agree x new) ∙ (h.same x.0 ∙ agree x old))
  where
    agree : (x : K × T) (zs : List (K × T)) → pairs_of cmp x.0 zs ≡ filter (ties (λ a b. is_lt (cmp a.0 b.0)) x) zs
    agree x zs = filter_agree (λ pair. is_eq (cmp pair.0 x.0)) (ties (λ a b. is_lt (cmp a.0 b.0)) x)
        (tie_by_key cmp total x.0 x (ap is_eq (tied_itself total x.0))) zs

pub map_after : {X Y Z : Type 0} (f : X → Y) (g : Y → Z) (xs : List X) → map (λ x. g (f x)) xs ≡ map g (map f xs)
map_after f g [] = refl
map_after f g (x ∷ xs) = ap (λ zs. g (f x) ∷ zs) (map_after f g xs)

pub map_back : {X Y : Type 0} (f : X → Y) (g : Y → X) (xs : List X) → ((x : X) → g (f x) ≡ x) → map g (map f xs) ≡ xs
map_back f g [] back = refl
map_back f g (x ∷ xs) back = ap₂ (λ z zs. z ∷ zs) (back x) (map_back f g xs back)

module _ {A K B T : Type 0} (cmp : K → K → Ordering) (total : IsTotalOrder cmp) (part : A → K) (value : T → A) (from : B → A) where
  abbrev seen : K × T → K × A
  seen p = (p.0, value p.1)

  abbrev parted : A → K × A
  parted a = (part a, a)

  -- pairs of a part of a value and the value, sorted by the part
  pub rising_by_part : (old new : List (K × T)) (xs : List B) → IsStablySorted cmp old new → map seen old ≡ map (λ b. parted (from b)) xs
      → map (λ (p : K × T). value p.1) new ≡ rising_list (λ a b. cmp (part a) (part b)) (map from xs)
  rising_by_part old new xs sorted pairs =
      ap (map (λ (p : K × T). value p.1)) (rising_from_stable cmp total old new sorted)
      ∙ (map_after seen (λ (p : K × A). p.1) (rising_list (by_first cmp) old)
      ∙ (ap (map (λ (p : K × A). p.1))
      (rising_list_map seen (by_first cmp) old
      ∙ (ap (rising_list (by_first cmp)) (pairs ∙ map_after from parted xs) ∙ sym (rising_list_map parted (by_first cmp) (map from xs))))
      ∙ map_back parted (λ (p : K × A). p.1) (rising_list (λ a b. cmp (part a) (part b)) (map from xs)) (λ a. refl)))
