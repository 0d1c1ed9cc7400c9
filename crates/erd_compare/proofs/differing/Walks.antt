-- A walk in step over the rising keys of two maps, which finds the keys at which the maps differ.
use Rattle.erd_compare.proofs.Common.{◌≡◌, ◌≢◌, ◌⊎◌, List, [], ◌∷◌, ◌++◌, None, Option, Ordering, Less, sym, refl, ◌∙◌, subst, inl, inr, IsTotalOrder}
use Rattle.erd_compare.proofs.Common.{AllByRecursion, In, In-all, all_weakened, not_below_itself, ℕ, suc, ◌+◌, ◌<◌, ◌≤◌, Bool, true, false, cond, length, Some}
use Rattle.erd_compare.proofs.Common.{option_map, bytes_eq, is_eq, is_lt, Equal, Greater, ap, ap₂, arith, Bor, nat_list_cmp_total, exact_bytes, same_Some}
use Rattle.erd_compare.proofs.Common.{IsStrictlySortedBy, Data, object, Members, no_members, member, get_member, get, as_object, text_cmp, IsTree, AreMembers}
use Rattle.erd_compare.proofs.Common.{names, text_itself, get_member-first, get_member-later, found_cases, greater_turned, less_turned, lesser_name, first_of}
use Rattle.erd_compare.proofs.Common.{names_past, AreMembersOf, MemberMap, IsMapOf, Stands, true≢false, view, Decides, DecideNames, IsPairOf, MemberPair}
use Rattle.erd_compare.proofs.Common.{Judged, Class, member_of_class, member_found, absent_member}
use Rattle.std.specs.List.Sorted.{IsStrictlySortedBy}
use Rattle.std.proofs.lemmas.Map.Keys.{sorted_head, sorted_tail}
use Rattle.erd_check.proofs.Order.{sorted_append}
use Rattle.erd_meaning.proofs.selections.ContestSelections.{all_both}
use Rattle.erd_compare.specs.code.DifferingNames.{AreDiffering, IsBelowAll, IsOnlyAmong, IsWalked, WasPassed, AreFound, GoesFrom, GoesOn, StandInPair}
use Rattle.erd_compare.specs.Differences.{Stands}
use Rattle.erd_check.proofs.Deciding.{names_rise, before_all}
use Rattle.std.proofs.lemmas.Map.Text.{is_eq-slice_cmp}
use Rattle.erd_compare.specs.declared.objects.differing_names.PairsLeft.{PairsLeft}
use Rattle.erd_compare.proofs.same_values.SameValues.{decides_as}

-- ---- lists

pub to_stands : {A : Type 0} (x : A) (xs : List A) → In x xs → Stands x xs
to_stands x [] h = h
to_stands x (y ∷ ys) (inl e) = inl e
to_stands x (y ∷ ys) (inr h) = inr (to_stands x ys h)

pub to_in : {A : Type 0} (x : A) (xs : List A) → Stands x xs → In x xs
to_in x [] h = h
to_in x (y ∷ ys) (inl e) = inl e
to_in x (y ∷ ys) (inr h) = inr (to_in x ys h)

pub stands_all : {A : Type 0} (P : A → Type 0) (x : A) (xs : List A) → AllByRecursion P xs → Stands x xs → P x
stands_all P x xs all h = In-all P x xs all (to_in x xs h)

pub stands_before : {A : Type 0} (x : A) (xs ys : List A) → Stands x xs → Stands x (xs ++ ys)
stands_before x [] ys h = absurd h
stands_before x (z ∷ xs) ys (inl e) = inl e
stands_before x (z ∷ xs) ys (inr h) = inr (stands_before x xs ys h)

pub stands_behind : {A : Type 0} (x : A) (xs ys : List A) → Stands x ys → Stands x (xs ++ ys)
stands_behind x [] ys h = h
stands_behind x (z ∷ xs) ys h = inr (stands_behind x xs ys h)

rise_added : {A : Type 0} (cmp : A → A → Ordering) (xs : List A) (x : A) → IsStrictlySortedBy cmp xs → AllByRecursion (λ y. cmp y x ≡ Less) xs
    → IsStrictlySortedBy cmp (xs ++ (x ∷ []))
unfolding IsStrictlySortedBy
rise_added cmp xs x rise low = sorted_append cmp xs (x ∷ []) rise (tt, tt)
    (λ a b i j. elim j [ inl e ↦ subst (λ z. cmp a z ≡ Less) e (In-all (λ y. cmp y x ≡ Less) a xs low i) | inr none ↦ absurd none ])

-- ---- a key is passed by

-- no key of these is less than the key
abbrev pub NoneLess : {K : Type 0} → (K → K → Ordering) → K → List K → Type 0
NoneLess {K} cmp k ls = (l : K) → Stands l ls → cmp l k ≡ Less → ⊥

-- what is left of the keys once the key is passed by: all of them, or all but the first
pub record IsPast {K : Type 0} (cmp : K → K → Ordering) (k : K) (ks ls : List K) : Type 0 where
  pub rises : IsStrictlySortedBy cmp ls
  pub below : IsBelowAll cmp k ls
  pub also_below : (j : K) → IsBelowAll cmp j ks → IsBelowAll cmp j ls
  pub beside : (j : K) → Stands j ks → (k ≡ j) ⊎ Stands j ls

pub past_head : {K : Type 0} {cmp : K → K → Ordering} {k : K} {ks : List K} → IsStrictlySortedBy cmp (k ∷ ks) → IsPast cmp k (k ∷ ks) ks
past_head {K} {cmp} {k} {ks} rise =
    record { rises = sorted_tail cmp k ks rise; below = sorted_head cmp k ks rise; also_below = λ j h. h.1; beside = λ j inside. inside }

pub past_below : {K : Type 0} {cmp : K → K → Ordering} {ks : List K} (k : K) → IsStrictlySortedBy cmp ks → IsBelowAll cmp k ks → IsPast cmp k ks ks
past_below k rise below = record { rises = rise; below = below; also_below = λ j h. h; beside = λ j inside. inr inside }

module _ {K : Type 0} {cmp : K → K → Ordering} (total : IsTotalOrder cmp) where
  pub none_less-below : (k : K) (ks : List K) → IsBelowAll cmp k ks → NoneLess cmp k ks
  none_less-below k ks below l inside less = not_below_itself cmp total l (total.trans l k l less (stands_all (λ x. cmp k x ≡ Less) l ks below inside))

  pub none_less-head : (k : K) (ks : List K) → IsStrictlySortedBy cmp (k ∷ ks) → NoneLess cmp k (k ∷ ks)
  none_less-head k ks rise l (inl e) less = not_below_itself cmp total l (subst (λ x. cmp l x ≡ Less) e less)
  none_less-head k ks rise l (inr inside) less = none_less-below k ks (sorted_head cmp k ks rise) l inside less

  pub below_head : (j k : K) (ks : List K) → cmp j k ≡ Less → IsStrictlySortedBy cmp (k ∷ ks) → IsBelowAll cmp j (k ∷ ks)
  below_head j k ks low rise = (low, all_weakened (λ x. cmp k x ≡ Less) (λ x. cmp j x ≡ Less) ks (λ x. total.trans j k x low) (sorted_head cmp k ks rise))

  outside : (k : K) (ks : List K) → IsBelowAll cmp k ks → Stands k ks → ⊥
  outside k ks below inside = not_below_itself cmp total k (stands_all (λ l. cmp k l ≡ Less) k ks below inside)

-- ---- walks

-- at first all keys are left
pub all_left : {K V : Type 0} (cmp : K → K → Ordering) (m n : K → Option V) (ls rs : List K) → IsStrictlySortedBy cmp ls → IsStrictlySortedBy cmp rs
    → ((k : K) → IsOnlyAmong m ls k) → ((k : K) → IsOnlyAmong n rs k) → IsWalked cmp m n [] ls rs
unfolding IsStrictlySortedBy
all_left cmp m n ls rs left right mine its = record { left = left; right = right; each = λ k. inr (mine k, its k); rise = tt; differ = tt; before = tt }

among_past : {K V : Type 0} {cmp : K → K → Ordering} (f : K → Option V) (j k : K) (ks ls : List K) → IsPast cmp k ks ls → IsOnlyAmong f ks j
    → (k ≡ j) ⊎ IsOnlyAmong f ls j
among_past f j k ks ls past (inl none) = inr (inl none)
among_past f j k ks ls past (inr inside) = elim (past.beside j inside) [
  | inl e ↦ inl e
  | inr more ↦ inr (inr more)
]

module _ {K V : Type 0} {cmp : K → K → Ordering} {m n : K → Option V} {found ls rs : List K} (step : IsWalked cmp m n found ls rs) where
  -- the maps are equal at a key that is not left, unless it was found
  told_at : (k : K) → (Stands k ls → ⊥) → (Stands k rs → ⊥) → (m k ≡ n k) ⊎ Stands k found
  told_at k left right = elim (step.each k) [
    | inl passed ↦ passed.told
    | inr (inl mine, inl its) ↦ inl (mine ∙ sym its)
    | inr (inr inside, its) ↦ absurd (left inside)
    | inr (inl mine, inr inside) ↦ absurd (right inside)
  ]

  -- where nothing is left all was found
  pub all_found : ((k : K) → Stands k ls → ⊥) → ((k : K) → Stands k rs → ⊥) → AreDiffering cmp m n found
  all_found left right = record { rise = step.rise; differ = step.differ; all = λ k. told_at k (left k) (right k) }

  module _ {k : K} {ls' rs' : List K} (left : IsPast cmp k ls ls') (right : IsPast cmp k rs rs') where
    each_past : (found' : List K) → ((j : K) → Stands j found → Stands j found') → (m k ≡ n k) ⊎ Stands k found' → (j : K) → WasPassed cmp m n found' ls' rs' j
        ⊎ (IsOnlyAmong m ls' j × IsOnlyAmong n rs' j)
    each_past found' more here j = at (step.each j)
      where
        told : (m j ≡ n j) ⊎ Stands j found → (m j ≡ n j) ⊎ Stands j found'
        told (inl same) = inl same
        told (inr h) = inr (more j h)

        this : k ≡ j → WasPassed cmp m n found' ls' rs' j
        this e = subst (WasPassed cmp m n found' ls' rs') e (record { told = here; left = left.below; right = right.below })

        both : (k ≡ j) ⊎ IsOnlyAmong m ls' j → (k ≡ j) ⊎ IsOnlyAmong n rs' j → WasPassed cmp m n found' ls' rs' j ⊎ (IsOnlyAmong m ls' j × IsOnlyAmong n rs' j)
        both (inr mine) (inr its) = inr (mine, its)
        both (inl e) its = inl (this e)
        both mine (inl e) = inl (this e)

        at : WasPassed cmp m n found ls rs j ⊎ (IsOnlyAmong m ls j × IsOnlyAmong n rs j) → WasPassed cmp m n found' ls' rs' j
            ⊎ (IsOnlyAmong m ls' j × IsOnlyAmong n rs' j)
        at (inl passed) = inl (record { told = told passed.told; left = left.also_below j passed.left; right = right.also_below j passed.right })
        at (inr (mine, its)) = both (among_past m j k ls ls' left mine) (among_past n j k rs rs' right its)

    before_past : AllByRecursion (λ j. IsBelowAll cmp j ls' × IsBelowAll cmp j rs') found
    before_past = all_weakened (λ j. IsBelowAll cmp j ls × IsBelowAll cmp j rs) (λ j. IsBelowAll cmp j ls' × IsBelowAll cmp j rs') found
        (λ j h. (left.also_below j h.0, right.also_below j h.1)) step.before

    -- a key at which the maps are equal is passed by
    pub pass_same : m k ≡ n k → IsWalked cmp m n found ls' rs'
    pass_same same =
        record {
          left = left.rises;
          right = right.rises;
          each = each_past found (λ j h. h) (inl same);
          rise = step.rise;
          differ = step.differ;
          before = before_past;
        }

    -- one at which they differ is found
    pub pass_differing : m k ≢ n k → Stands k ls ⊎ Stands k rs → IsWalked cmp m n (found ++ (k ∷ [])) ls' rs'
    pass_differing other stands = record {
      left = left.rises;
      right = right.rises;
      each = each_past (found ++ (k ∷ [])) (λ j h. stands_before j found (k ∷ []) h) (inr (stands_behind k found (k ∷ []) (inl refl)));
      rise = rise_added cmp found k step.rise (all_weakened (λ j. IsBelowAll cmp j ls × IsBelowAll cmp j rs) (λ j. cmp j k ≡ Less) found
          (λ j h. below j h stands) step.before);
      differ = all_both (λ j. m j ≢ n j) found (k ∷ []) step.differ (other, tt);
      before = all_both (λ j. IsBelowAll cmp j ls' × IsBelowAll cmp j rs') found (k ∷ []) before_past ((left.below, right.below), tt);
    }
      where
        below : (j : K) → IsBelowAll cmp j ls × IsBelowAll cmp j rs → Stands k ls ⊎ Stands k rs → cmp j k ≡ Less
        below j h (inl inside) = stands_all (λ l. cmp j l ≡ Less) k ls h.0 inside
        below j h (inr inside) = stands_all (λ l. cmp j l ≡ Less) k rs h.1 inside

-- where all was found and it is nothing the maps are equal
pub none_there : {K V : Type 0} {cmp : K → K → Ordering} {m n : K → Option V} → AreDiffering cmp m n [] → (k : K) → m k ≡ n k
none_there h k = elim (h.all k) [
  | inl same ↦ same
  | inr none ↦ absurd none
]

module _ {K V : Type 0} {cmp : K → K → Ordering} (total : IsTotalOrder cmp) {m n : K → Option V} where
  -- after one find, that is the least key at which the maps differ
  pub first_found : {k : K} {ls rs : List K} → IsWalked cmp m n (k ∷ []) ls rs → (j : K) → cmp j k ≡ Less → m j ≡ n j
  first_found {k} {ls} {rs} step j low =
      elim (told_at step j (λ inside. none_less-below total k ls step.before.0.0 j inside low)
      (λ inside. none_less-below total k rs step.before.0.1 j inside low)) [
        | inl same ↦ same
        | inr (inl e) ↦ absurd (not_below_itself cmp total j (subst (λ x. cmp j x ≡ Less) e low))
        | inr (inr none) ↦ absurd none
      ]

  -- a key that is left of one map alone is no key of the other
  pub lacks_right : {found ls rs : List K} {k : K} → IsWalked cmp m n found (k ∷ ls) rs → IsBelowAll cmp k rs → n k ≡ None
  lacks_right {found} {ls} {rs} {k} step below = elim (step.each k) [
    | inl passed ↦ absurd (not_below_itself cmp total k passed.left.0)
    | inr (mine, inl its) ↦ its
    | inr (mine, inr inside) ↦ absurd (outside total k rs below inside)
  ]

  pub lacks_left : {found ls rs : List K} {k : K} → IsWalked cmp m n found ls (k ∷ rs) → IsBelowAll cmp k ls → m k ≡ None
  lacks_left {found} {ls} {rs} {k} step below = elim (step.each k) [
    | inl passed ↦ absurd (not_below_itself cmp total k passed.right.0)
    | inr (inl mine, its) ↦ mine
    | inr (inr inside, its) ↦ absurd (outside total k ls below inside)
  ]

-- ---- the names of the members of two objects, walked in step: all are left at first, and the next one is the lesser

-- ---- the first name that is left

pub firsts_left : (f g : Option (Bor (List ℕ))) (ls rs : List (List ℕ)) (o : Option (List ℕ)) → option_map (λ k. k.now) f ≡ first_of ls
    → option_map (λ k. k.now) g ≡ first_of rs
    → o ≡ lesser_name (option_map (λ k. k.now) f) (option_map (λ k. k.now) g) → lesser_name (first_of ls) (first_of rs) ≡ o
firsts_left f g ls rs o left right e = ap₂ lesser_name (sym left) (sym right) ∙ sym e

-- the lesser of two names is one of them
one_of : (f g : Option (List ℕ)) (k : List ℕ) → lesser_name f g ≡ Some k → (f ≡ Some k) ⊎ (g ≡ Some k)
one_of None g k e = inr e
one_of (Some a) None k e = inl e
one_of (Some a) (Some b) k e = at (is_lt (text_cmp b a)) e
  where
    at : (c : Bool) → cond c (Some b) (Some a) ≡ Some k → (Some a ≡ Some k) ⊎ (Some b ≡ Some k)
    at true e = inr e
    at false e = inl e

first_stands : (ks : List (List ℕ)) (k : List ℕ) → first_of ks ≡ Some k → Stands k ks
first_stands [] k e = cc
first_stands (l ∷ ks) k e = inl (same_Some l k e)

pub next_stands : (ls rs : List (List ℕ)) (k : List ℕ) → lesser_name (first_of ls) (first_of rs) ≡ Some k → Stands k ls ⊎ Stands k rs
next_stands ls rs k e = elim (one_of (first_of ls) (first_of rs) k e) [
  | inl mine ↦ inl (first_stands ls k mine)
  | inr its ↦ inr (first_stands rs k its)
]

-- no name that is left is less
pub none_less : (ls rs : List (List ℕ)) (k : List ℕ) → IsStrictlySortedBy text_cmp ls → IsStrictlySortedBy text_cmp rs
    → lesser_name (first_of ls) (first_of rs) ≡ Some k
    → NoneLess text_cmp k ls × NoneLess text_cmp k rs
none_less [] [] k left right e = cc
none_less [] (b ∷ rs) k left right e = subst (λ x. NoneLess text_cmp x [] × NoneLess text_cmp x (b ∷ rs)) (same_Some b k e)
    (λ l inside less. inside, none_less-head nat_list_cmp_total b rs right)
none_less (a ∷ ls) [] k left right e = subst (λ x. NoneLess text_cmp x (a ∷ ls) × NoneLess text_cmp x []) (same_Some a k e)
    (none_less-head nat_list_cmp_total a ls left, λ l inside less. inside)
none_less (a ∷ ls) (b ∷ rs) k left right e = at (text_cmp b a) refl
  where
    below : (x y : List ℕ) (zs : List (List ℕ)) → text_cmp x y ≡ Less → IsStrictlySortedBy text_cmp (y ∷ zs) → NoneLess text_cmp x (y ∷ zs)
    below x y zs low rise = none_less-below nat_list_cmp_total x (y ∷ zs) (below_head nat_list_cmp_total x y zs low rise)

    mine : NoneLess text_cmp a (a ∷ ls)
    mine = none_less-head nat_list_cmp_total a ls left

    its : NoneLess text_cmp b (b ∷ rs)
    its = none_less-head nat_list_cmp_total b rs right

    at : (o : Ordering) → text_cmp b a ≡ o → NoneLess text_cmp k (a ∷ ls) × NoneLess text_cmp k (b ∷ rs)
    at Less is =
        let told : Some b ≡ Some k = rw is at e in
        subst (λ x. NoneLess text_cmp x (a ∷ ls) × NoneLess text_cmp x (b ∷ rs)) (same_Some b k told) (below b a ls is left, its)
    at Equal is =
        let told : Some a ≡ Some k = rw is at e in
        subst (λ x. NoneLess text_cmp x (a ∷ ls) × NoneLess text_cmp x (b ∷ rs)) (same_Some a k told)
        (mine, subst (λ x. NoneLess text_cmp x (b ∷ rs)) (exact_bytes b a is) its)
    at Greater is =
        let told : Some a ≡ Some k = rw is at e in
        subst (λ x. NoneLess text_cmp x (a ∷ ls) × NoneLess text_cmp x (b ∷ rs)) (same_Some a k told)
        (mine, below a b rs (greater_turned nat_list_cmp_total b a is) right)

-- at the end none is left
pub none_left : (ls rs : List (List ℕ)) → lesser_name (first_of ls) (first_of rs) ≡ None → ((k : List ℕ) → Stands k ls → ⊥) × ((k : List ℕ) → Stands k rs → ⊥)
none_left [] [] e = (λ k h. h, λ k h. h)
none_left [] (b ∷ rs) e = cc
none_left (a ∷ ls) [] e = cc
none_left (a ∷ ls) (b ∷ rs) e = at (is_lt (text_cmp b a)) e
  where
    at : (c : Bool) → cond c (Some b) (Some a) ≡ None → ((k : List ℕ) → Stands k (a ∷ ls) → ⊥) × ((k : List ℕ) → Stands k (b ∷ rs) → ⊥)
    at true e = cc
    at false e = cc

-- ---- a name is passed by

past_first : (k : List ℕ) (ks : List (List ℕ)) → names_past k (k ∷ ks) ≡ ks
past_first k ks = ap (λ b. cond b ks (k ∷ ks)) (text_itself k)

past_later : (k l : List ℕ) (ls : List (List ℕ)) → text_cmp k l ≡ Less → names_past k (l ∷ ls) ≡ l ∷ ls
past_later k l ls low = ap (λ b. cond b ls (l ∷ ls)) (sym (is_eq-slice_cmp l k) ∙ ap is_eq (less_turned nat_list_cmp_total k l low))

-- the names without the first one, if it is this name, which is above no name of the list
pub past_name : (k : List ℕ) (ls : List (List ℕ)) → IsStrictlySortedBy text_cmp ls → NoneLess text_cmp k ls → IsPast text_cmp k ls (names_past k ls)
past_name k [] rise none = past_below k rise tt
past_name k (l ∷ ls) rise none = at (text_cmp k l) refl
  where
    at : (o : Ordering) → text_cmp k l ≡ o → IsPast text_cmp k (l ∷ ls) (names_past k (l ∷ ls))
    at Less is = subst (IsPast text_cmp k (l ∷ ls)) (sym (past_later k l ls is)) (past_below k rise (below_head nat_list_cmp_total k l ls is rise))
    at Equal is = subst (λ x. IsPast text_cmp x (l ∷ ls) (names_past x (l ∷ ls))) (sym (exact_bytes k l is))
        (subst (IsPast text_cmp l (l ∷ ls)) (sym (past_first l ls)) (past_head rise))
    at Greater is = absurd (none l (inl refl) (greater_turned nat_list_cmp_total k l is))

no_more : (k : List ℕ) (ls : List (List ℕ)) → length (names_past k ls) ≤ length ls
no_more k [] = omega arith
no_more k (l ∷ ls) = at (bytes_eq l k)
  where
    at : (b : Bool) → length (cond b ls (l ∷ ls)) ≤ suc (length ls)
    at true = omega arith
    at false = omega arith

one_fewer : (ks : List (List ℕ)) (k : List ℕ) → first_of ks ≡ Some k → length (names_past k ks) < length ks
one_fewer [] k e = cc
one_fewer (l ∷ ks) k e = subst (λ x. length (names_past x (l ∷ ks)) < length (l ∷ ks)) (same_Some l k e)
    (subst (λ xs. length xs < length (l ∷ ks)) (sym (past_first l ks)) (omega arith))

-- fewer names are left after the next one
pub fewer : (ls rs : List (List ℕ)) (k : List ℕ) → lesser_name (first_of ls) (first_of rs) ≡ Some k → (ls' rs' : List (List ℕ)) → ls' ≡ names_past k ls
    → rs' ≡ names_past k rs → length ls' + length rs' < length ls + length rs
fewer ls rs k next ls' rs' left right =
    subst (λ xs. length xs + length rs' < length ls + length rs) (sym left)
    (subst (λ xs. length (names_past k ls) + length xs < length ls + length rs) (sym right) (at (one_of (first_of ls) (first_of rs) k next)))
  where
    at : (first_of ls ≡ Some k) ⊎ (first_of rs ≡ Some k) → length (names_past k ls) + length (names_past k rs) < length ls + length rs
    at (inl mine) = omega (arith, one_fewer ls k mine, no_more k rs)
    at (inr its) = omega (arith, one_fewer rs k its, no_more k ls)

-- ---- at first all names are left

-- a name that is not among these has no member
named : (k : List ℕ) (v : Data) (ms : Members) → get_member k ms ≡ Some v → Stands k (names ms)
named k v no_members e = cc
named k v (member l d ms) e = found_cases k l v d ms e (λ name same. inl (sym name)) (λ found. inr (named k v ms found))

is_object : (d : Data) (ms : Members) → Some ms ≡ as_object d → d ≡ object ms
is_object (object ns) ms e = cc
is_object d ms e = cc

only_among : (m : MemberMap) (d : Data) (ms : Members) → Some ms ≡ as_object d → IsMapOf d m → (k : List ℕ) → IsOnlyAmong m (names ms) k
only_among m d ms is absent k = at (get k d) refl
  where
    at : (o : Option Data) → get k d ≡ o → IsOnlyAmong m (names ms) k
    at None e = inl (absent k e)
    at (Some v) e = inr (named k v ms (ap (get k) (sym (is_object d ms is)) ∙ e))

rise_in : (d : Data) (ms : Members) → IsTree d → Some ms ≡ as_object d → IsStrictlySortedBy text_cmp (names ms)
rise_in d ms tree e = names_rise ms (subst IsTree (is_object d ms e) tree)

-- nothing was found of two objects
pub both_left : (d e : Data) (ms ns : Members) → IsTree d → IsTree e → Some ms ≡ as_object d → Some ns ≡ as_object e → (ls rs : List (List ℕ))
    → ls ≡ names ms → rs ≡ names ns
    → (m n : MemberMap) → IsMapOf d m → IsMapOf e n → IsWalked text_cmp m n [] ls rs
both_left d e ms ns mine its left right ls rs lefts rights m n of_one of_other =
    subst (λ xs. IsWalked text_cmp m n [] xs rs) (sym lefts)
    (subst (IsWalked text_cmp m n [] (names ms)) (sym rights)
    (all_left text_cmp m n (names ms) (names ns) (rise_in d ms mine left) (rise_in e ns its right) (only_among m d ms left of_one)
    (only_among n e ns right of_other)))

-- ---- the members that are left in a walk over an object stand in it, and what is found there decides what the object means

-- members after the first one stand in the object as well
later_members : (k : List ℕ) (d : Data) (ms xs : Members) → AllByRecursion (λ j. text_cmp k j ≡ Less) (names xs) → AreMembersOf (object ms) xs
    → AreMembersOf (object (member k d ms)) xs
later_members k d ms no_members low h = tt
later_members k d ms (member l e xs) low h = (get_member-later l k d e ms low.0 h.0, later_members k d ms xs low.1 h.1)

members_themselves : (ms : Members) → AreMembers ms → AreMembersOf (object ms) ms
members_themselves no_members trees = tt
members_themselves (member k d ms) trees = (get_member-first k d ms, later_members k d ms ms (before_all k ms trees.0 trees.2) (members_themselves ms trees.2))

-- all members of an object stand in it
pub all_members : (d : Data) (ms : Members) → IsTree d → Some ms ≡ as_object d → AreMembersOf d ms
all_members d ms tree e = subst (λ x. AreMembersOf x ms) (sym (is_object d ms e)) (members_themselves ms (subst IsTree (is_object d ms e) tree))

-- ---- the members of two objects are walked in step, and the names at which a test of the pairs says no are found

module _ (answers : MemberPair → Bool → Type 0) (d e : Data) (m n : MemberMap) (decided : DecideNames answers d e m n) (ls rs found : List (List ℕ))
    (walked : IsWalked text_cmp m n found ls rs) where
  -- at the end all names were found
  pub ended : lesser_name (first_of ls) (first_of rs) ≡ None → AreDiffering text_cmp m n found
  ended end = let none = none_left ls rs end in all_found walked none.0 none.1

  module _ (pair : MemberPair) (next : lesser_name (first_of ls) (first_of rs) ≡ Some pair.name.now) (is : IsPairOf d e pair) (ls' rs' : List (List ℕ))
      (left : ls' ≡ names_past pair.name.now ls) (right : rs' ≡ names_past pair.name.now rs) where
    past_left : IsPast text_cmp pair.name.now ls ls'
    past_left = subst (IsPast text_cmp pair.name.now ls) (sym left)
        (past_name pair.name.now ls walked.left (none_less ls rs pair.name.now walked.left walked.right next).0)

    past_right : IsPast text_cmp pair.name.now rs rs'
    past_right = subst (IsPast text_cmp pair.name.now rs) (sym right)
        (past_name pair.name.now rs walked.right (none_less ls rs pair.name.now walked.left walked.right next).1)

    -- a name at which the answer is yes is passed by
    pub passed : answers pair true → IsWalked text_cmp m n found ls' rs'
    passed told = pass_same walked past_left past_right ((decided pair true is told).0 refl)

    -- a name at which the answer is no is found
    pub differs : answers pair false → IsWalked text_cmp m n (found ++ (pair.name.now ∷ [])) ls' rs'
    differs told = pass_differing walked past_left past_right (λ same. absurd (true≢false (sym ((decided pair false is told).1 same))))
        (next_stands ls rs pair.name.now next)

-- one step of a walk over two objects, and what it found so far
pub goes_from : (answers : MemberPair → Bool → Type 0) (m n : MemberMap) (d e : Data) → IsMapOf d m → IsMapOf e n → DecideNames answers d e m n
    → (old new : PairsLeft) (next o : Option (List ℕ)) → view old.one.now ≡ d
    → view old.other.now ≡ e → GoesFrom answers (view old.one.now) (view old.other.now) old new next → next ≡ o → (found : List (List ℕ))
    → AreFound m n found old → GoesOn m n found new o
goes_from answers m n d e of_one of_other decided old new next o one other from is found before =
    let told : GoesFrom answers d e old new o = subst (GoesFrom answers d e old new) is
    (subst (λ x. GoesFrom answers x e old new next) one (subst (λ x. GoesFrom answers (view old.one.now) x old new next) other from)) in
    told m n found of_one of_other decided before

-- ---- what two objects of a class mean

-- what the objects mean under each name
module _ (a b : Judged) (d e : Data) (c : Class) where
  abbrev pub ones : MemberMap
  ones = member_of_class a.prefer (view a.tree) d c

  abbrev pub others : MemberMap
  others = member_of_class b.prefer (view b.tree) e c

  -- the answers decide what the members mean
  abbrev pub DecideMembers : (MemberPair → Bool → Type 0) → Type 0
  DecideMembers answers =
      (pair : MemberPair) (answer : Bool) → answers pair answer
      → Decides answer (member_found a.prefer (view a.tree) c pair.name.now (option_map (λ v. view v.now) pair.one))
      (member_found b.prefer (view b.tree) c pair.name.now (option_map (λ v. view v.now) pair.other))

  pub decide_names : (answers : MemberPair → Bool → Type 0) → DecideMembers answers → DecideNames answers d e ones others
  decide_names answers decided pair answer is h =
      decides_as refl (ap (member_found a.prefer (view a.tree) c pair.name.now) is.one) (ap (member_found b.prefer (view b.tree) c pair.name.now) is.other)
      (decided pair answer h)

  -- one step of the walk over the two
  pub goes_on : (answers : MemberPair → Bool → Type 0) → DecideMembers answers → (old new : PairsLeft) (next o : Option (List ℕ)) → view old.one.now ≡ d
      → view old.other.now ≡ e
      → GoesFrom answers (view old.one.now) (view old.other.now) old new next → next ≡ o → (found : List (List ℕ)) → AreFound ones others found old
      → GoesOn ones others found new o
  goes_on answers decided = goes_from answers ones others d e (absent_member a.prefer (view a.tree) d c) (absent_member b.prefer (view b.tree) e c)
      (decide_names answers decided)

-- the members that are left stand in the two objects
pub stand_on : (d e x y : Data) (left : PairsLeft) → x ≡ d → y ≡ e → StandInPair x y left → StandInPair d e left
stand_on d e x y left one other h = subst (λ z. StandInPair z e left) one (subst (λ z. StandInPair x z left) other h)
