-- The tests by which an index of names with ranks is asked are those of the names.
use Rattle.erd_meaning.proofs.Common.{◌≡◌, ℕ, Bool, true, ◌&&◌, ◌∷◌, ◌++◌, ◌==◌, is_eq, ap, ◌∙◌, tied_itself, Equal-is, both_ways, NameParts, name_cmp}
use Rattle.erd_meaning.proofs.Common.{name_cmp_total, name_cmp_exact, NumberedName, is_selection_named, suc, ◌+◌, ◌<◌, ◌≤◌, false, cond, ◌||◌, List, [], map}
use Rattle.erd_meaning.proofs.Common.{length, get_or, drop, if◌then◌else◌, Some, position, flat_map, nat_cmp, Ordering, Equal, sym, refl, subst, ap₂, arith}
use Rattle.erd_meaning.proofs.Common.{and_parts, Decides-eqb, nat_cmp_total, lists_total, position_from-zero, length-map, at_drop_more, at_drop_all}
use Rattle.erd_meaning.proofs.Common.{exact_unsigned, slice_cmp, HashWrites, str, usize, list_all, list_any, position_from, eq_by_cmp, ordering_then}
use Rattle.erd_meaning.proofs.Common.{text_of_class, Class, Family, In, In-all, after_keys_writes, key_cmp, without_keys, numbered_parts, numbered_name_cmp}
use Rattle.erd_meaning.proofs.Common.{family_chosen, RankedParts, PlacedName, ranked_name_cmp, ranked_name_writes, class_cmp, Kept, classes_exact, rank_among}
use Rattle.erd_meaning.proofs.Common.{is_key_among, fed_rank, ranked_parts, has_keys_among, names_of, are_ranks_of, is_sought, AllAreRanked, IsRanked, is_taken}
use Rattle.erd_meaning.proofs.Common.{added_name, Key, and-false, cond_both}
use Rattle.erd_meaning.proofs.finding.Known.{number_swap}
use Rattle.erd_meaning.specs.code.NumberedOrders.{numbered_as_named, numbers_as_keys}
use Rattle.erd_meaning.specs.code.RankedOrders.{equal_ranked_alike}
use Rattle.erd_meaning.proofs.selections.NamesTold.{is_named_from}
use Rattle.erd_meaning.proofs.selections.RankedKeys.{each_passes, rank_as_key}

names_one_way : (m n : NameParts) → is_eq (name_cmp m n) ≡ true → is_eq (name_cmp n m) ≡ true
names_one_way m n h =
    let same : m ≡ n = name_cmp_exact m n ((Equal-is (name_cmp m n)).0 h) in
    ap (λ o. is_eq (name_cmp n o)) same ∙ ap is_eq (tied_itself name_cmp_total n)

names_swap : (m n : NameParts) → is_eq (name_cmp m n) ≡ is_eq (name_cmp n m)
names_swap m n = both_ways (is_eq (name_cmp m n)) (is_eq (name_cmp n m)) (names_one_way m n) (names_one_way n m)

-- the same contest and the same name, as an index compares them
abbrev pub equals_name : ℕ → NameParts → NumberedName → Bool
equals_name c n s = (c == s.0) && is_eq (name_cmp n s.1)

pub name_test : (c : ℕ) (n : NameParts) → equals_name c n ≡ is_selection_named c n
name_test c n i s = number_swap c s.0 i && names_swap n s.1 i

-- ---- one name and another

-- the keys of a name are those of objects
keys_known : (ks : List Kept) (c : Class) (keys : List Key) (k : Key) → list_all (is_key_among ks (family_chosen c)) keys ≡ true → In k keys
    → is_key_among ks (family_chosen c) k ≡ true
keys_known ks c keys k all i = In-all (λ k. is_key_among ks (family_chosen c) k ≡ true) k keys (each_passes (is_key_among ks (family_chosen c)) keys all) i

abbrev ranks_in : List Kept → Class → List Key → List ℕ
ranks_in ks c keys = map (λ k. rank_among ks (family_chosen c) (Some k)) keys

-- ranks compare as the keys in names of one class
ranks_as_keys : (ks : List Kept) (m n : NameParts) → has_keys_among ks m ≡ true → has_keys_among ks n ≡ true → class_cmp m.class n.class ≡ Equal
    → slice_cmp nat_cmp (ranked_parts ks m).ranks (ranked_parts ks n).ranks ≡ slice_cmp key_cmp m.keys n.keys
ranks_as_keys ks m n a b same = with_class n.class (sym (classes_exact m.class n.class same)) b
  where
    with_class : (c : Class) → c ≡ m.class → list_all (is_key_among ks (family_chosen c)) n.keys ≡ true
        → slice_cmp nat_cmp (ranks_in ks m.class m.keys) (ranks_in ks c n.keys) ≡ slice_cmp key_cmp m.keys n.keys
    with_class c e known =
        let known_too : list_all (is_key_among ks (family_chosen m.class)) n.keys ≡ true =
        subst (λ d. list_all (is_key_among ks (family_chosen d)) n.keys ≡ true) e known in
        ap (λ d. slice_cmp nat_cmp (ranks_in ks m.class m.keys) (ranks_in ks d n.keys)) e
        ∙ numbers_as_keys (λ k. rank_among ks (family_chosen m.class) (Some k)) m.keys n.keys
        (λ k l i j. rank_as_key ks (family_chosen m.class) k l (keys_known ks m.class m.keys k a i) (keys_known ks m.class n.keys l known_too j))

-- names with the ranks of their keys are equal as the names are
ranked_made : (ks : List Kept) (m n : NameParts) → has_keys_among ks m ≡ true → has_keys_among ks n ≡ true
    → eq_by_cmp ranked_name_cmp (ranked_parts ks m) (ranked_parts ks n) ≡ is_eq (name_cmp m n)
ranked_made ks m n a b = ap is_eq (numbered_as_named m n (ranked_parts ks m).ranks (ranked_parts ks n).ranks (ranks_as_keys ks m n a b))

pub ranked_equal : (ks : List Kept) (r q : RankedParts) → IsRanked ks r → IsRanked ks q → eq_by_cmp ranked_name_cmp r q ≡ is_eq (name_cmp r.name q.name)
ranked_equal ks r q a b = ap₂ (eq_by_cmp ranked_name_cmp) a.ranks b.ranks ∙ ranked_made ks r.name q.name a.known b.known

-- ---- the test of an index

-- the same contest and the same name, as the index compares them
abbrev pub equals_ranked : ℕ → RankedParts → PlacedName → Bool
equals_ranked c r s = (c == s.0) && eq_by_cmp ranked_name_cmp r s.1

-- a name of the index without its ranks
abbrev plain : PlacedName → NumberedName
plain s = (s.0, s.1.name)

ranked_test : (ks : List Kept) (c : ℕ) (r : RankedParts) (s : PlacedName) → IsRanked ks r → IsRanked ks s.1 → equals_ranked c r s
    ≡ is_selection_named c r.name (plain s)
ranked_test ks c r s a b = ap (λ t. (c == s.0) && t) (ranked_equal ks r s.1 a b) ∙ ap (λ (test : NumberedName → Bool). test (plain s)) (name_test c r.name)

-- ---- the names that were met

pub any_ranked : (ks : List Kept) (c : ℕ) (r : RankedParts) (names : List PlacedName) → IsRanked ks r → AllAreRanked ks names
    → list_any (equals_ranked c r) names ≡ is_taken (names_of names) c r.name
any_ranked ks c r [] a all = refl
any_ranked ks c r (s ∷ names) a all = ap₂ (λ x y. x || y) (ranked_test ks c r s a all.0) (any_ranked ks c r names a all.1)

names_after : (names : List PlacedName) (s : PlacedName) → names_of (names ++ s ∷ []) ≡ names_of names ++ plain s ∷ []
names_after [] s = refl
names_after (x ∷ names) s = ap (λ ns. plain x ∷ ns) (names_after names s)

all_after : (ks : List Kept) (names : List PlacedName) (s : PlacedName) → AllAreRanked ks names → IsRanked ks s.1 → AllAreRanked ks (names ++ s ∷ [])
all_after ks [] s all a = (a, tt)
all_after ks (x ∷ names) s all a = (all.0, all_after ks names s all.1 a)

-- the index after one more name
abbrev pub inserted : ℕ → RankedParts → List PlacedName → List PlacedName
inserted c r names = cond (list_any (equals_ranked c r) names) names (names ++ (c, r) ∷ [])

pub inserted_names : (ks : List Kept) (c : ℕ) (r : RankedParts) (names : List PlacedName) → IsRanked ks r → AllAreRanked ks names
    → names_of (inserted c r names) ≡ added_name (names_of names) c r.name
inserted_names ks c r names a all = at (list_any (equals_ranked c r) names) ∙ ap (λ b. cond b (names_of names) (names_of names ++ (c, r.name) ∷ []))
    (any_ranked ks c r names a all)
  where
    at : (b : Bool) → names_of (cond b names (names ++ (c, r) ∷ [])) ≡ cond b (names_of names) (names_of names ++ (c, r.name) ∷ [])
    at true = refl
    at false = names_after names (c, r)

pub inserted_ranked : (ks : List Kept) (c : ℕ) (r : RankedParts) (names : List PlacedName) → IsRanked ks r → AllAreRanked ks names
    → AllAreRanked ks (inserted c r names)
inserted_ranked ks c r names a all = cond_both (list_any (equals_ranked c r) names) names (names ++ (c, r) ∷ []) (AllAreRanked ks) (λ _. all)
    (λ _. all_after ks names (c, r) all a)

-- ---- the name that is looked up

sought_test : (ks : List Kept) (c : ℕ) (n : NameParts) (s : PlacedName) → IsRanked ks s.1 → is_sought ks c n s ≡ is_selection_named c n (plain s)
sought_test ks c n s b = at (has_keys_among ks n) refl
  where
    unknown : has_keys_among ks n ≡ false → (t : Bool) → is_selection_named c n (plain s) ≡ t → false ≡ t
    unknown h true e =
        let same = is_named_from (plain s) c n e in
        let name : s.1.name ≡ n = ap (λ (x : NumberedName). x.1) same in
        let clash : false ≡ true = sym h ∙ (sym (ap (has_keys_among ks) name) ∙ b.known) in
        cc
    unknown h false e = refl

    at : (h : Bool) → has_keys_among ks n ≡ h → (h && equals_ranked c (ranked_parts ks n) s) ≡ is_selection_named c n (plain s)
    at true h = ranked_test ks c (ranked_parts ks n) s (record { ranks = refl; known = h }) b
    at false h = unknown h (is_selection_named c n (plain s)) refl

position_alike : (ks : List Kept) (c : ℕ) (n : NameParts) (i : ℕ) (names : List PlacedName) → AllAreRanked ks names
    → position_from (is_sought ks c n) i names ≡ position_from (is_selection_named c n) i (names_of names)
position_alike ks c n i [] all = refl
position_alike ks c n i (s ∷ names) all =
    ap₂ (λ b o. cond b (Some i) o) (sought_test ks c n s all.0) (position_alike ks c n (i + 1) names all.1)

pub position_sought : (ks : List Kept) (c : ℕ) (n : NameParts) (names : List PlacedName) → AllAreRanked ks names → position (is_sought ks c n) names
    ≡ position (is_selection_named c n) (names_of names)
position_sought ks c n names all =
    position_from-zero (is_sought ks c n) names ∙ position_alike ks c n 0 names all ∙ sym (position_from-zero (is_selection_named c n) (names_of names))

-- ---- the ranks of the keys that are looked up

module _ (ks : List Kept) (f : Family) where
  abbrev has_rank : Key → ℕ → Bool
  has_rank key rank = is_key_among ks f key && (rank_among ks f (Some key) == rank)

  pub lengths_differ : (keys : List Key) (ranks : List ℕ) → (length keys ≡ length ranks → ⊥) → false ≡ are_ranks_of ks f keys ranks
  lengths_differ [] [] differ = absurd (differ refl)
  lengths_differ [] (r ∷ ranks) differ = refl
  lengths_differ (k ∷ keys) [] differ = refl
  lengths_differ (k ∷ keys) (r ∷ ranks) differ =
      sym (and-false (has_rank k r)) ∙ ap (λ b. has_rank k r && b) (lengths_differ keys ranks (λ e. differ (ap suc e)))

  module _ (keys : List Key) (ranks : List ℕ) (many : length keys ≡ length ranks) where
    -- the keys and ranks from a position on
    abbrev pub left_at : ℕ → Bool
    left_at i = are_ranks_of ks f (drop i keys) (drop i ranks)

    one_left : (i : ℕ) (k : Key) → i < length keys → k ≡ get_or keys i k → left_at i ≡ (has_rank k (get_or ranks i 0) && left_at (i + 1))
    one_left i k low is =
        at_drop_more (λ (ws : List Key). are_ranks_of ks f ws (drop i ranks)) keys i k low
        ∙ at_drop_more (λ (ws : List ℕ). are_ranks_of ks f (get_or keys i k ∷ drop (i + 1) keys) ws) ranks i 0 (omega (arith, low, many))
        ∙ ap (λ w. has_rank w (get_or ranks i 0) && left_at (i + 1)) (sym is)

    pub next_left : (i : ℕ) (k : Key) (whole : Bool) → i < length keys → k ≡ get_or keys i k → has_rank k (get_or ranks i 0) ≡ true → left_at i ≡ whole
        → left_at (i + 1) ≡ whole
    next_left i k whole low is passes before = sym (one_left i k low is ∙ ap (λ b. b && left_at (i + 1)) passes) ∙ before

    pub one_fails : (i : ℕ) (k : Key) (whole : Bool) → i < length keys → k ≡ get_or keys i k → has_rank k (get_or ranks i 0) ≡ false
        → left_at i ≡ whole → false ≡ whole
    one_fails i k whole low is fails before = sym (one_left i k low is ∙ ap (λ b. b && left_at (i + 1)) fails) ∙ before

    pub all_pass_at : (i : ℕ) (whole : Bool) → length keys ≤ i → left_at i ≡ whole → true ≡ whole
    all_pass_at i whole over before =
        sym (at_drop_all (λ (ws : List Key). are_ranks_of ks f ws (drop i ranks)) keys i over ∙ at_drop_all (λ (ws : List ℕ). are_ranks_of ks f [] ws) ranks i
        (omega (arith, over, many))) ∙ before

-- ---- the test of a name that is looked up

equal_numbers : (m n : ℕ) → (m == n) ≡ is_eq (nat_cmp m n)
equal_numbers m n = both_ways (m == n) (is_eq (nat_cmp m n))
    (λ e. ap (λ k. is_eq (nat_cmp m k)) (sym ((Decides-eqb m n).0 e)) ∙ ap is_eq (tied_itself nat_cmp_total m))
    (λ e. (Decides-eqb m n).1 (exact_unsigned m n ((Equal-is (nat_cmp m n)).0 e)))

is_eq_then : (p o : Ordering) → is_eq (ordering_then p o) ≡ (is_eq p && is_eq o)
is_eq_then p o = grind arith

one_each : (a b d e : Bool) → ((a && b) && (d && e)) ≡ ((a && d) && (b && e))
one_each a b d e = grind arith

-- the ranks of the keys, as lists are compared
ranks_told : (ks : List Kept) (f : Family) (keys : List Key) (ranks : List ℕ)
    → are_ranks_of ks f keys ranks ≡ (list_all (is_key_among ks f) keys && is_eq (slice_cmp nat_cmp (map (λ key. rank_among ks f (Some key)) keys) ranks))
ranks_told ks f [] [] = refl
ranks_told ks f [] (r ∷ ranks) = refl
ranks_told ks f (k ∷ keys) [] = sym (and-false (is_key_among ks f k && list_all (is_key_among ks f) keys))
ranks_told ks f (k ∷ keys) (r ∷ ranks) =
    ap₂ (λ a b. (is_key_among ks f k && a) && b) (equal_numbers (rank_among ks f (Some k)) r) (ranks_told ks f keys ranks)
    ∙ one_each (is_key_among ks f k) (is_eq (nat_cmp (rank_among ks f (Some k)) r)) (list_all (is_key_among ks f) keys)
    (is_eq (slice_cmp nat_cmp (map (λ key. rank_among ks f (Some key)) keys) ranks))
    ∙ ap (λ b. (is_key_among ks f k && list_all (is_key_among ks f) keys) && b)
    (sym (is_eq_then (nat_cmp (rank_among ks f (Some k)) r) (slice_cmp nat_cmp (map (λ key. rank_among ks f (Some key)) keys) ranks)))

-- the parts of two names with numbers for keys
parts_told : (m n : NameParts) (ks ls : List ℕ) → is_eq (numbered_name_cmp (numbered_parts m ks) (numbered_parts n ls))
    ≡ (is_eq (class_cmp m.class n.class) && (is_eq (slice_cmp nat_cmp ks ls) && is_eq (name_cmp (without_keys m) (without_keys n))))
parts_told m n ks ls =
    is_eq_then (class_cmp m.class n.class) (ordering_then (slice_cmp nat_cmp ks ls) (name_cmp (without_keys m) (without_keys n)))
    ∙ ap (λ b. is_eq (class_cmp m.class n.class) && b) (is_eq_then (slice_cmp nat_cmp ks ls) (name_cmp (without_keys m) (without_keys n)))

in_turn : (h e c r : Bool) → ((h && e) && (c && (true && r))) ≡ (h && (c && (e && r)))
in_turn h e c r = grind arith

-- the index has the name that is looked up if these are the ranks of its keys, and if the other parts are equal
sought_told : (ks : List Kept) (n : NameParts) (s : RankedParts)
    → (are_ranks_of ks (family_chosen n.class) n.keys s.ranks && is_eq (numbered_name_cmp (numbered_parts n s.ranks) (numbered_parts s.name s.ranks)))
    ≡ (has_keys_among ks n && eq_by_cmp ranked_name_cmp (ranked_parts ks n) s)
sought_told ks n s =
    let e = is_eq (slice_cmp nat_cmp (ranked_parts ks n).ranks s.ranks) in
    let c = is_eq (class_cmp n.class s.name.class) in
    let r = is_eq (name_cmp (without_keys n) (without_keys s.name)) in
    let own : is_eq (slice_cmp nat_cmp s.ranks s.ranks) ≡ true = ap is_eq (tied_itself (lists_total nat_cmp_total) s.ranks) in
    ap₂ (λ x y. x && y) (ranks_told ks (family_chosen n.class) n.keys s.ranks) (parts_told n s.name s.ranks s.ranks ∙ ap (λ x. c && (x && r)) own)
    ∙ in_turn (has_keys_among ks n) e c r ∙ ap (λ x. has_keys_among ks n && x) (sym (parts_told n s.name (ranked_parts ks n).ranks s.ranks))

pub sought_misses : (ks : List Kept) (n : NameParts) (s : RankedParts) → are_ranks_of ks (family_chosen n.class) n.keys s.ranks ≡ false
    → false ≡ (has_keys_among ks n && eq_by_cmp ranked_name_cmp (ranked_parts ks n) s)
sought_misses ks n s none_has =
    ap (λ b. b && is_eq (numbered_name_cmp (numbered_parts n s.ranks) (numbered_parts s.name s.ranks))) (sym none_has) ∙ sought_told ks n s

pub sought_hits : (ks : List Kept) (n : NameParts) (s : RankedParts) → are_ranks_of ks (family_chosen n.class) n.keys s.ranks ≡ true
    → is_eq (numbered_name_cmp (numbered_parts n s.ranks) (numbered_parts s.name s.ranks))
    ≡ (has_keys_among ks n && eq_by_cmp ranked_name_cmp (ranked_parts ks n) s)
sought_hits ks n s are =
    ap (λ b. b && is_eq (numbered_name_cmp (numbered_parts n s.ranks) (numbered_parts s.name s.ranks))) (sym are) ∙ sought_told ks n s

-- ---- what a hasher is given of the name that is looked up

fed_ranks : (ks : List Kept) (f : Family) (keys : List Key) → list_all (is_key_among ks f) keys ≡ true
    → map (fed_rank ks f) keys ≡ map (λ key. rank_among ks f (Some key)) keys
fed_ranks ks f [] known = refl
fed_ranks ks f (k ∷ keys) known =
    let both = and_parts (is_key_among ks f k) (list_all (is_key_among ks f) keys) known in
    ap₂ (λ r rs. r ∷ rs) (ap (λ b. if b then rank_among ks f (Some k) else 0) both.0) (fed_ranks ks f keys both.1)

-- the contest, the class, the number of keys, their ranks, and the other parts
abbrev pub sought_writes : List Kept → ℕ → NameParts → HashWrites
sought_writes ks c n =
    usize c ++ (str (text_of_class n.class)
    ++ (usize (length n.keys) ++ (flat_map usize (map (fed_rank ks (family_chosen n.class)) n.keys) ++ after_keys_writes n)))

pub sought_fed : (ks : List Kept) (c : ℕ) (n : NameParts) (s : PlacedName) → is_sought ks c n s ≡ true → sought_writes ks c n ≡ usize s.0
    ++ ranked_name_writes s.1
sought_fed ks c n s e =
    let outer = and_parts (has_keys_among ks n) ((c == s.0) && eq_by_cmp ranked_name_cmp (ranked_parts ks n) s.1) e in
    let both = and_parts (c == s.0) (eq_by_cmp ranked_name_cmp (ranked_parts ks n) s.1) outer.1 in
    let f = family_chosen n.class in
    ap₂ (λ many ranks. usize c ++ (str (text_of_class n.class) ++ (usize many ++ (flat_map usize ranks ++ after_keys_writes n))))
    (sym (length-map n.keys (λ key. rank_among ks f (Some key)))) (fed_ranks ks f n.keys outer.0)
    ∙ ap₂ (λ (d : ℕ) (w : HashWrites). usize d ++ w) ((Decides-eqb c s.0).0 both.0) (equal_ranked_alike (ranked_parts ks n) s.1 both.1)
