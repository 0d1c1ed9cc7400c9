-- The positions of keys that are added to a list one after another, each once.
use Rattle.erd_compare.proofs.Common.{◌≡◌, ℕ, ◌+◌, ◌≤◌, Bool, true, false, cond, not, ◌||◌, List, [], ◌∷◌, ◌++◌, map, length, drop, slice_get, Some, None}
use Rattle.erd_compare.proofs.Common.{Option, option_map, filter_map, is_eq, Ordering, sym, refl, ap, ◌∙◌, subst, ap₂, inl, inr, append-nil, arith, tied_itself}
use Rattle.erd_compare.proofs.Common.{map-append, CmpEqualImpliesEq, Equal-is, IsTotalOrder, cons_option, list_any, position_or_len, eq_by_cmp, In, eqb}
use Rattle.erd_compare.proofs.Common.{drop_all, option_and_then, AllByRecursion, Data, view, Family, family, Role, role, In-from_contains, all_weakened, Judged}
use Rattle.erd_compare.proofs.Common.{has_keys, rank_of, NameParts, without_keys, numbered_parts, Placed, objects, numbered_selections, family_chosen}
use Rattle.erd_compare.proofs.Common.{ranked_name, PlacedName, ranked_selection_in, name_of, Key, role_of_name, ranks_in_name, name_by_ranks, name_by_ranks_of}
use Rattle.erd_compare.proofs.Common.{ranks_told, name_told, rank_of_key, common_rank_of, HasKeyAt, on_side, AreCommonByRank, CommonRanks, ComparedReport}
use Rattle.erd_compare.proofs.Common.{position_of, RankedParts, ◌==◌, fun_ext, numbered_name_cmp, has_id, owner_at, owner, name_named, option_and_then_some}
use Rattle.erd_compare.proofs.Common.{option_eq, find-Some, option_map-Some, in_at, numbered_name_cmp_total, numbered_name_cmp_exact, name_eq, names_on}
use Rattle.erd_compare.proofs.Common.{names_of_both, number_of_name, number_of_selection, numbers_on, AreNameNumbers, Decides, Left, Right}
use Rattle.std.proofs.lemmas.List.Folds.{list_any-append, position_or_len_push}
use Rattle.std.proofs.Common.{append_assoc}
use Rattle.std.proofs.lemmas.Bool.Decides.{nat_tests}
use Rattle.indexmap.specs.IndexSet.{insert_all, insert_key}
use Rattle.erd_check.proofs.Positions.{left_there}
use Rattle.erd_meaning.proofs.selections.NamesTold.{numbered_at}
use Rattle.erd_meaning.proofs.selections.RankedReports.{known_name, chosen_keyed}
use Rattle.erd_meaning.specs.code.RanksAmong.{HasKeysIn, IsKeyIn}
use Rattle.erd_compare.proofs.least_difference.RisingKeys.{family_rank}
use Rattle.erd_compare.proofs.same_ranks.KeyRanks.{both_keys, known_on, one_rank, prefer_on, tree_on, Stands, kept}
use Rattle.erd_check.proofs.Order.{In-filter_map}
use Rattle.erd_compare.specs.declared.ranks.name_numbers.NameNumbers.{NameNumbers}
use Rattle.erd_compare.proofs.same_values.SameValues.{options_decide}

-- ---- the first that passes a test

module _ {K : Type 0} (p : K → Bool) where
  later_any : (k : K) (ks : List K) → p k ≡ false → list_any p (k ∷ ks) ≡ true → list_any p ks ≡ true
  later_any k ks none h = sym (ap (λ b. b || list_any p ks) none) ∙ h

  -- its position stays if more keys are added behind
  position_kept : (ks ms : List K) → list_any p ks ≡ true → position_or_len p (ks ++ ms) ≡ position_or_len p ks
  position_kept [] ms h = cc
  position_kept (k ∷ ks) ms h = at (p k) refl (λ later. position_kept ks ms later)
    where
      at : (b : Bool) → p k ≡ b → (list_any p ks ≡ true → position_or_len p (ks ++ ms) ≡ position_or_len p ks)
          → cond (not b) (1 + position_or_len p (ks ++ ms)) 0 ≡ cond (not b) (1 + position_or_len p ks) 0
      at true e rest = refl
      at false e rest = ap (λ n. 1 + n) (rest (later_any k ks e h))

module _ {K : Type 0} (cmp : K → K → Ordering) (total : IsTotalOrder cmp) (exact : CmpEqualImpliesEq cmp) where
  abbrev eq : K → K → Bool
  eq = eq_by_cmp cmp

  itself : (k : K) → eq k k ≡ true
  itself k = ap is_eq (tied_itself total k)

  one_key : (k l : K) → eq k l ≡ true → k ≡ l
  one_key k l h = exact k l ((Equal-is (cmp k l)).0 h)

  -- keys that are in the list and have one position are one
  pub one_position : (k l : K) (ks : List K) → list_any (eq k) ks ≡ true → list_any (eq l) ks ≡ true → position_or_len (eq k) ks
      ≡ position_or_len (eq l) ks → k ≡ l
  one_position k l [] mine its same = cc
  one_position k l (m ∷ ms) mine its same = at (eq k m) refl (eq l m) refl same (λ here there e. one_position k l ms here there e)
    where
      at : (b : Bool) → eq k m ≡ b → (d : Bool) → eq l m ≡ d → cond (not b) (1 + position_or_len (eq k) ms) 0 ≡ cond (not d) (1 + position_or_len (eq l) ms) 0
          → (list_any (eq k) ms ≡ true → list_any (eq l) ms ≡ true → position_or_len (eq k) ms ≡ position_or_len (eq l) ms → k ≡ l) → k ≡ l
      at true e true f h rest = one_key k m e ∙ sym (one_key l m f)
      at true e false f h rest = absurd (omega (arith, h))
      at false e true f h rest = absurd (omega (arith, h))
      at false e false f h rest = rest (later_any (eq k) m ms e mine) (later_any (eq l) m ms f its) (omega (arith, h))

  -- ---- adding keys

  -- the key is in the list, at this position
  pub record StandsAt (k : K) (ks : List K) (n : ℕ) : Type 0 where
    pub any : list_any (eq k) ks ≡ true
    pub place : position_or_len (eq k) ks ≡ n

  stands_one : (k l : K) (ks : List K) (n : ℕ) → StandsAt k ks n → StandsAt k (insert_key eq ks l) n
  stands_one k l ks n h = at (list_any (eq l) ks)
    where
      at : (b : Bool) → StandsAt k (cond b ks (ks ++ l ∷ [])) n
      at true = h
      at false = record {
        any = list_any-append (eq k) ks (l ∷ []) ∙ ap (λ b. b || list_any (eq k) (l ∷ [])) h.any;
        place = position_kept (eq k) ks (l ∷ []) h.any ∙ h.place;
      }

  -- a key stays where it is
  pub stands_all : (k : K) (ls ks : List K) (n : ℕ) → StandsAt k ks n → StandsAt k (insert_all eq ks ls) n
  stands_all k [] ks n h = h
  stands_all k (l ∷ ls) ks n h = stands_all k ls (insert_key eq ks l) n (stands_one k l ks n h)

  -- a key that is added has the position where it is found, or is the last
  pub stands_added : (k : K) (ks : List K) → StandsAt k (insert_key eq ks k) (position_or_len (eq k) ks)
  stands_added k ks = at (list_any (eq k) ks) refl
    where
      own : list_any (eq k) (k ∷ []) ≡ true
      own = ap (λ b. b || false) (itself k)

      or_own : (b : Bool) → b || true ≡ true
      or_own true = refl
      or_own false = refl

      pushed : (n m : ℕ) → cond (eqb n m) (m + 0) n ≡ n
      pushed n m = grind (arith, nat_tests)

      at : (b : Bool) → list_any (eq k) ks ≡ b → StandsAt k (cond b ks (ks ++ k ∷ [])) (position_or_len (eq k) ks)
      at true e = record { any = e; place = refl }
      at false e = record {
        any = list_any-append (eq k) ks (k ∷ []) ∙ (ap (λ b. list_any (eq k) ks || b) own ∙ or_own (list_any (eq k) ks));
        place = position_or_len_push (eq k) ks k
            ∙ (ap (λ b. cond (eqb (position_or_len (eq k) ks) (length ks)) (length ks + cond b 0 1) (position_or_len (eq k) ks)) (itself k)
            ∙ pushed (position_or_len (eq k) ks) (length ks));
      }

  -- each key that is added is in the list
  pub added_any : (k : K) (ls ks : List K) → In k ls → list_any (eq k) (insert_all eq ks ls) ≡ true
  added_any k [] ks h = absurd h
  added_any k (l ∷ ls) ks (inl e) = subst (λ x. list_any (eq x) (insert_all eq (insert_key eq ks l) ls) ≡ true) e
      (stands_all l ls (insert_key eq ks l) (position_or_len (eq l) ks) (stands_added l ks)).any
  added_any k (l ∷ ls) ks (inr h) = added_any k ls (insert_key eq ks l) h

  -- ---- the keys of a list of objects

  module _ {O : Type 0} (told : O → Option K) where
    -- the position of its key, if an object has one
    abbrev pub position_in : List K → O → Option ℕ
    position_in ks o = option_map (λ k. position_or_len (eq k) ks) (told o)

    -- the positions stay if more keys are added
    pub positions_stay : (os : List O) (ks ls : List K) → ((o : O) (k : K) → In o os → told o ≡ Some k → list_any (eq k) ks ≡ true) → map (position_in ks) os
        ≡ map (position_in (insert_all eq ks ls)) os
    positions_stay [] ks ls h = refl
    positions_stay (o ∷ os) ks ls h = ap₂ ◌∷◌ (at (told o) refl) (positions_stay os ks ls (λ x k i e. h x k (inr i) e))
      where
        at : (y : Option K) → told o ≡ y → option_map (λ k. position_or_len (eq k) ks) y ≡ option_map (λ k. position_or_len (eq k) (insert_all eq ks ls)) y
        at None e = refl
        at (Some k) e = ap Some (sym (stands_all k ls ks (position_or_len (eq k) ks) (record { any = h o k (inl refl) e; place = refl })).place)

    -- the keys of the objects that are left are still to be added, and their positions to be listed
    pub record IsAdding (old : List K) (all left : List O) (ks : List K) (ns : List (Option ℕ)) : Type 0 where
      pub keys : insert_all eq ks (filter_map told left) ≡ insert_all eq old (filter_map told all)
      pub positions : ns ++ map (position_in (insert_all eq old (filter_map told all))) left ≡ map (position_in (insert_all eq old (filter_map told all))) all

    -- the object at the next position, with its key, if it has one, which is added
    pub next : (old ks ks' : List K) (all : List O) (i : ℕ) (o : O) (n : Option ℕ) (ns ns' : List (Option ℕ)) → slice_get all i ≡ Some o
        → IsAdding old all (drop i all) ks ns → ns' ≡ ns ++ n ∷ []
        → (y : Option K) → told o ≡ y → ks' ≡ insert_all eq ks (cons_option y []) → n ≡ option_map (λ k. position_or_len (eq k) ks) y
        → IsAdding old all (drop (i + 1) all) ks' ns'
    next old ks ks' all i o n ns ns' here h pushed y is added number = record {
      keys = ap (λ xs. insert_all eq xs (filter_map told left)) added ∙ one_more;
      positions = ap (λ xs. xs ++ map (position_in all_keys) left) pushed ∙ (append_assoc ns (n ∷ []) (map (position_in all_keys) left)
          ∙ (ap (λ m. ns ++ m ∷ map (position_in all_keys) left) (number ∙ (place y one_more ∙ ap (option_map (λ k. position_or_len (eq k) all_keys)) (sym is)))
          ∙ step.positions));
    }
      where
        left : List O
        left = drop (i + 1) all

        all_keys : List K
        all_keys = insert_all eq old (filter_map told all)

        step : IsAdding old all (o ∷ left) ks ns
        step = subst (λ xs. IsAdding old all xs ks ns) (left_there all i o here) h

        in_turn : (y : Option K) (ls : List K) → insert_all eq (insert_all eq ks (cons_option y [])) ls ≡ insert_all eq ks (cons_option y ls)
        in_turn None ls = refl
        in_turn (Some k) ls = refl

        one_more : insert_all eq (insert_all eq ks (cons_option y [])) (filter_map told left) ≡ all_keys
        one_more = in_turn y (filter_map told left) ∙ (ap (λ z. insert_all eq ks (cons_option z (filter_map told left))) (sym is) ∙ step.keys)

        place : (y : Option K) → insert_all eq (insert_all eq ks (cons_option y [])) (filter_map told left) ≡ all_keys
            → option_map (λ k. position_or_len (eq k) ks) y ≡ option_map (λ k. position_or_len (eq k) all_keys) y
        place None e = refl
        place (Some k) e =
            ap Some (sym
            (ap (position_or_len (eq k)) (sym e)
            ∙ (stands_all k (filter_map told left) (insert_key eq ks k) (position_or_len (eq k) ks) (stands_added k ks)).place))

    -- no object is left
    pub none_left : (old ks : List K) (all : List O) (i : ℕ) (ns : List (Option ℕ)) → length all ≤ i → IsAdding old all (drop i all) ks ns
        → ns ≡ map (position_in ks) all
    none_left old ks all i ns past h =
        let ended = subst (λ left. IsAdding old all left ks ns) (drop_all i all past) h in
        sym (append-nil ns) ∙ (ended.positions ∙ ap (λ xs. map (position_in xs) all) (sym ended.keys))

-- ---- keys that are seen through a function

module _ {A K : Type 0} (see : A → K) (eq : K → K → Bool) (x : A) where
  any_seen : (ks : List A) → list_any (λ y. eq (see x) (see y)) ks ≡ list_any (eq (see x)) (map see ks)
  any_seen [] = refl
  any_seen (k ∷ ks) = ap (λ b. eq (see x) (see k) || b) (any_seen ks)

  pub place_seen : (ks : List A) → position_or_len (λ y. eq (see x) (see y)) ks ≡ position_or_len (eq (see x)) (map see ks)
  place_seen [] = refl
  place_seen (k ∷ ks) = ap (λ n. cond (not (eq (see x) (see k))) (1 + n) 0) (place_seen ks)

  pub inserted_seen : (ks : List A) → map see (insert_key (λ a b. eq (see a) (see b)) ks x) ≡ insert_key eq (map see ks) (see x)
  inserted_seen ks = at (list_any (λ y. eq (see x) (see y)) ks) ∙ ap (λ b. cond b (map see ks) (map see ks ++ see x ∷ [])) (any_seen ks)
    where
      at : (b : Bool) → map see (cond b ks (ks ++ x ∷ [])) ≡ cond b (map see ks) (map see ks ++ see x ∷ [])
      at true = refl
      at false = map-append see ks (x ∷ [])

-- ---- the names that a report gives to its selections: each key in them is that of an object, so it has a common rank, which is
-- found by its rank.

-- ---- numbers of names

module _ (a b : Judged) where
  -- the object with a key of a name stands at a position
  key_stands : (side : ComparedReport) (f : Family) → has_keys f ≡ true → (key : Key) → IsKeyIn (prefer_on a b side) (tree_on a b side) f key → (i : ℕ)
      × HasKeyAt (prefer_on a b side) (tree_on a b side) (role.OfFamily f) i (Some key)
  key_stands side f keyed key h =
      let place = position_of (objects f (tree_on a b side)) h.owner (In-from_contains h.owner (objects f (tree_on a b side)) h.stands) in
      (place.0, record { object = h.owner; stands = place.1; key = kept (prefer_on a b side) f h.owner.value keyed ∙ h.keyed })

  key_known : (side : ComparedReport) (f : Family) → has_keys f ≡ true → (key : Key) → IsKeyIn (prefer_on a b side) (tree_on a b side) f key
      → Stands (Some key) (both_keys a b (role.OfFamily f))
  key_known side f keyed key h = let at = key_stands side f keyed key h in known_on a b side (role.OfFamily f) at.0 (Some key) at.1

  -- each key of the name is known
  keys_known : (side : ComparedReport) (n : NameParts) → HasKeysIn (prefer_on a b side) (tree_on a b side) n
      → AllByRecursion (λ k. Stands (Some k) (both_keys a b (role_of_name n))) n.keys
  keys_known side n known =
      all_weakened (IsKeyIn (prefer_on a b side) (tree_on a b side) (family_chosen n.class)) (λ k. Stands (Some k) (both_keys a b (role_of_name n))) n.keys
      (λ k h. key_known side (family_chosen n.class) (chosen_keyed n.class) k h) known

  one_keys : (r : Role) (ks ls : List Key) → AllByRecursion (λ k. Stands (Some k) (both_keys a b r)) ks
      → AllByRecursion (λ k. Stands (Some k) (both_keys a b r)) ls → map (rank_of_key a b r) ks ≡ map (rank_of_key a b r) ls → ks ≡ ls
  one_keys r [] [] mine its e = refl
  one_keys r (k ∷ ks) (l ∷ ls) mine its e =
      let first : rank_of_key a b r k ≡ rank_of_key a b r l = cc in
      let later : map (rank_of_key a b r) ks ≡ map (rank_of_key a b r) ls = cc in
      ap₂ ◌∷◌ (one_rank a b r k l mine.0 its.0 first) (one_keys r ks ls mine.1 its.1 later)
  one_keys r ks ls mine its e = cc

  -- names that differ in their keys alone
  name_by_parts : (m n : NameParts) → without_keys m ≡ without_keys n → m.keys ≡ n.keys → m ≡ n
  name_by_parts m n rest keys i = record {
    class = (rest i).class;
    keys = keys i;
    write_in = (rest i).write_in;
    order = (rest i).order;
    label = (rest i).label;
    identifier = (rest i).identifier;
  }

  -- names are equal if they are equal with common ranks in place of their keys
  pub from_ranks : (s r : ComparedReport) (m n : NameParts) → HasKeysIn (prefer_on a b s) (tree_on a b s) m → HasKeysIn (prefer_on a b r) (tree_on a b r) n
      → name_by_ranks a b m ≡ name_by_ranks a b n → m ≡ n
  from_ranks s r m n mine its same =
      let rest : without_keys m ≡ without_keys n = ap (λ (q : RankedParts). q.name) same in
      let role : role_of_name m ≡ role_of_name n = ap role_of_name rest in
      let ranks : ranks_in_name a b m ≡ ranks_in_name a b n = ap (λ (q : RankedParts). q.ranks) same in
      name_by_parts m n rest (one_keys (role_of_name m) m.keys n.keys (keys_known s m mine)
      (subst (λ x. AllByRecursion (λ k. Stands (Some k) (both_keys a b x)) n.keys) (sym role) (keys_known r n its))
      (ranks ∙ ap (λ x. map (rank_of_key a b x) n.keys) (sym role)))

  -- ---- by rank

  module _ (common : CommonRanks) (are : AreCommonByRank a b common) (side : ComparedReport) where
    -- the common rank at the rank of a key is that of the key
    at_rank_of : (f : Family) → has_keys f ≡ true → (key : Key) → IsKeyIn (prefer_on a b side) (tree_on a b side) f key
        → common_rank_of common side (role.OfFamily f) (rank_of (prefer_on a b side) (tree_on a b side) f (Some key))
        ≡ Some (rank_of_key a b (role.OfFamily f) key)
    at_rank_of f keyed key h =
        let at = key_stands side f keyed key h in
        ap (common_rank_of common side (role.OfFamily f)) (family_rank (prefer_on a b side) (tree_on a b side) f (Some key) keyed)
        ∙ are side (role.OfFamily f) keyed at.0 (Some key) at.1

    all_ranked : (f : Family) → has_keys f ≡ true → (keys : List Key) → AllByRecursion (IsKeyIn (prefer_on a b side) (tree_on a b side) f) keys
        → filter_map (common_rank_of common side (role.OfFamily f)) (map (λ key. rank_of (prefer_on a b side) (tree_on a b side) f (Some key)) keys)
        ≡ map (rank_of_key a b (role.OfFamily f)) keys
    all_ranked f keyed [] h = refl
    all_ranked f keyed (k ∷ ks) h = ap₂ cons_option (at_rank_of f keyed k h.0) (all_ranked f keyed ks h.1)

    ranks_in : (n : NameParts) → HasKeysIn (prefer_on a b side) (tree_on a b side) n
        → ranks_told common side (ranked_name (prefer_on a b side) (tree_on a b side) n) ≡ ranks_in_name a b n
    ranks_in n known = all_ranked (family_chosen n.class) (chosen_keyed n.class) n.keys known

    -- so the name that they tell has the common ranks of its keys
    pub name_is_told : (d : Data) → name_told common side (on_side side a b) d ≡ name_by_ranks_of a b side d
    name_is_told d = at (name_of (prefer_on a b side) (tree_on a b side) d) (λ n is. known_name (prefer_on a b side) (tree_on a b side) d n is)
      where
        at : (o : Option NameParts) → ((n : NameParts) → o ≡ Some n → HasKeysIn (prefer_on a b side) (tree_on a b side) n)
            → option_map (λ n. numbered_parts n (ranks_told common side (ranked_name (prefer_on a b side) (tree_on a b side) n))) o
            ≡ option_map (name_by_ranks a b) o
        at None known = refl
        at (Some n) known = ap (λ ns. Some (numbered_parts n ns)) (ranks_in n (known n refl))

-- ---- by position

module _ (a : Judged) (common : CommonRanks) (side : ComparedReport) where
  abbrev pub told_name : PlacedName → RankedParts
  told_name s = numbered_parts s.1.name (ranks_told common side s.1)

  -- the name of the selection at a position, as its ranks tell it
  pub told_at : (i : ℕ) → option_map told_name (ranked_selection_in a.prefer (view a.tree) i)
      ≡ option_and_then (λ (o : Placed). name_told common side a o.value) (slice_get (objects family.Selection (view a.tree)) i)
  told_at i = by (slice_get (numbered_selections (view a.tree)) i) ∙ ap (option_and_then (λ (o : Placed). name_told common side a o.value))
      (numbered_at (view a.tree) i)
    where
      of_name : (k : ℕ) (o : Option NameParts)
          → option_map told_name (option_map (λ (s : ℕ × NameParts). (s.0, ranked_name a.prefer (view a.tree) s.1)) (option_map (λ n. (k, n)) o))
          ≡ option_map (λ n. numbered_parts n (ranks_told common side (ranked_name a.prefer (view a.tree) n))) o
      of_name k None = refl
      of_name k (Some n) = refl

      by : (s : Option (ℕ × Placed))
          → option_map told_name (option_map (λ (x : ℕ × NameParts). (x.0, ranked_name a.prefer (view a.tree) x.1))
          (option_and_then (λ (x : ℕ × Placed). option_map (λ n. (x.0, n)) (name_of a.prefer (view a.tree) x.1.value)) s))
          ≡ option_and_then (λ (o : Placed). name_told common side a o.value) (option_map (λ (x : ℕ × Placed). x.1) s)
      by None = refl
      by (Some s) = of_name s.0 (name_of a.prefer (view a.tree) s.1.value)

-- ---- the numbers of the names of selections: names of two reports are equal if and only if their numbers are

module _ (a b : Judged) where
  abbrev selections_on : ComparedReport → List Placed
  selections_on side = objects family.Selection (tree_on a b side)

  -- ---- the numbers that are made

  -- the position of a name
  abbrev place_among : List RankedParts → Option RankedParts → Option ℕ
  place_among ks o = option_map (λ q. position_or_len (name_eq q) ks) o

  by_names : (side : ComparedReport) (d : Data) → place_among (names_of_both a b) (name_by_ranks_of a b side d) ≡ number_of_selection a b side d
  by_names side d = at (name_of (prefer_on a b side) (tree_on a b side) d)
    where
      at : (o : Option NameParts) → place_among (names_of_both a b) (option_map (name_by_ranks a b) o) ≡ option_map (number_of_name a b) o
      at None = refl
      at (Some n) = refl

  module _ (common : CommonRanks) (are : AreCommonByRank a b common) where
    abbrev told : ComparedReport → Placed → Option RankedParts
    told side o = name_told common side (on_side side a b) o.value

    is_told : (side : ComparedReport) (o : Placed) → told side o ≡ name_by_ranks_of a b side o.value
    is_told side o = name_is_told a b common are side o.value

    names_told : (side : ComparedReport) → filter_map (told side) (selections_on side) ≡ names_on a b side
    names_told side = ap (λ f. filter_map f (selections_on side)) (fun_ext (is_told side))

    numbers_told : (side : ComparedReport) (ks : List RankedParts) → ks ≡ names_of_both a b → map (λ o. place_among ks (told side o)) (selections_on side)
        ≡ map (λ o. number_of_selection a b side o.value) (selections_on side)
    numbers_told side ks both =
        ap (λ f. map f (selections_on side))
        (fun_ext (λ (o : Placed). ap (place_among ks) (is_told side o)
        ∙ (ap (λ ls. place_among ls (name_by_ranks_of a b side o.value)) both ∙ by_names side o.value)))

    pub are_name_numbers : (js ks ls : List RankedParts) (n : NameNumbers) → js ≡ [] → ks ≡ insert_all name_eq js (filter_map (told Left) (selections_on Left))
        → ls ≡ insert_all name_eq ks (filter_map (told Right) (selections_on Right))
        → n.left.items ≡ map (λ o. place_among ks (told Left o)) (selections_on Left) → n.right.items ≡ map (λ o. place_among ls (told Right o))
        (selections_on Right) → AreNameNumbers a b n
    are_name_numbers js ks ls n none begun both mine its side = at side
      where
        first : ks ≡ insert_all name_eq [] (filter_map (told Left) (selections_on Left))
        first = begun ∙ ap (λ xs. insert_all name_eq xs (filter_map (told Left) (selections_on Left))) none

        left : ks ≡ insert_all name_eq [] (names_on a b Left)
        left = first ∙ ap (insert_all name_eq []) (names_told Left)

        all : ls ≡ names_of_both a b
        all = both ∙ ap₂ (insert_all name_eq) left (names_told Right)

        stays : map (λ o. place_among ks (told Left o)) (selections_on Left) ≡ map (λ o. place_among ls (told Left o)) (selections_on Left)
        stays =
            positions_stay numbered_name_cmp numbered_name_cmp_total numbered_name_cmp_exact (told Left) (selections_on Left) ks
            (filter_map (told Right) (selections_on Right))
            (λ o q inside is. subst (λ xs. list_any (name_eq q) xs ≡ true) (sym first)
            (added_any numbered_name_cmp numbered_name_cmp_total numbered_name_cmp_exact q (filter_map (told Left) (selections_on Left)) []
            (In-filter_map (told Left) o q (selections_on Left) inside is)))
            ∙ ap (λ xs. map (λ o. place_among xs (told Left o)) (selections_on Left)) (sym both)

        at : (side : ComparedReport) → numbers_on side n ≡ map (λ o. number_of_selection a b side o.value) (selections_on side)
        at Left = mine ∙ (stays ∙ numbers_told Left ls all)
        at Right = its ∙ numbers_told Right ls all

  -- ---- names that have numbers

  -- the name is that of a selection of the report
  pub record IsNameOn (side : ComparedReport) (n : NameParts) : Type 0 where
    pub known : HasKeysIn (prefer_on a b side) (tree_on a b side) n
    pub listed : list_any (name_eq (name_by_ranks a b n)) (names_of_both a b) ≡ true

  listed_on : (side : ComparedReport) (q : RankedParts) → In q (names_on a b side) → list_any (name_eq q) (names_of_both a b) ≡ true
  listed_on Left q h =
      let left = insert_all name_eq [] (names_on a b Left) in
      (stands_all numbered_name_cmp numbered_name_cmp_total numbered_name_cmp_exact q (names_on a b Right) left (position_or_len (name_eq q) left)
      (record { any = added_any numbered_name_cmp numbered_name_cmp_total numbered_name_cmp_exact q (names_on a b Left) [] h; place = refl })).any
  listed_on Right q h = added_any numbered_name_cmp numbered_name_cmp_total numbered_name_cmp_exact q (names_on a b Right)
      (insert_all name_eq [] (names_on a b Left)) h

  pub selection_named : (side : ComparedReport) (o : Placed) (n : NameParts) → In o (selections_on side)
      → name_of (prefer_on a b side) (tree_on a b side) o.value ≡ Some n → IsNameOn side n
  selection_named side o n inside is = record {
    known = known_name (prefer_on a b side) (tree_on a b side) o.value n is;
    listed = listed_on side (name_by_ranks a b n)
        (In-filter_map (λ (x : Placed). name_by_ranks_of a b side x.value) o (name_by_ranks a b n) (selections_on side) inside
        (ap (option_map (name_by_ranks a b)) is));
  }

  -- so is one that a reference names
  pub reference_named : (side : ComparedReport) (text : Option (List ℕ)) (n : NameParts) → option_and_then (name_named (prefer_on a b side) (tree_on a b side))
      text ≡ Some n → IsNameOn side n
  reference_named side text n h =
      let t = tree_on a b side in
      option_and_then_some (name_named (prefer_on a b side) t) text n h
      (λ id is there. option_and_then_some (name_of (prefer_on a b side) t) (owner t family.Selection id) n there (λ d at named.
      let o = option_map-Some (λ (x : Placed). x.value) (owner_at t family.Selection id) d at in
      let found = position_of (selections_on side) o.0 (find-Some (λ (x : Placed). has_id id x.value) (selections_on side) o.0 o.1).0 in
      selection_named side o.0 n (in_at (selections_on side) found.0 o.0 found.1) (ap (name_of (prefer_on a b side) t) o.2 ∙ named)))

  pub one_name : (s r : ComparedReport) (m n : NameParts) → IsNameOn s m → IsNameOn r n → number_of_name a b m ≡ number_of_name a b n → m ≡ n
  one_name s r m n mine its same =
      from_ranks a b s r m n mine.known its.known
      (one_position numbered_name_cmp numbered_name_cmp_total numbered_name_cmp_exact (name_by_ranks a b m) (name_by_ranks a b n) (names_of_both a b)
      mine.listed its.listed same)

  -- ---- comparing them

  -- names are equal if and only if their numbers are
  pub names_decide : (o q : Option NameParts) → ((n : NameParts) → o ≡ Some n → IsNameOn Left n) → ((n : NameParts) → q ≡ Some n → IsNameOn Right n)
      → Decides (option_eq ◌==◌ (option_map (number_of_name a b) o) (option_map (number_of_name a b) q)) o q
  names_decide o q mine its = options_decide (number_of_name a b) o q (λ m n e g. one_name Left Right m n (mine m e) (its n g))
