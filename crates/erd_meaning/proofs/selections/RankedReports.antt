-- The names of the selections of a report with the ranks of their keys: the keys are those of objects, and the ranks are in
-- their order.
use Rattle.erd_meaning.proofs.Common.{◌≡◌, ℕ, List, Some, None, Option, option_and_then, refl, ap, ◌∙◌, subst, AllByRecursion, Data, Class, class, Family}
use Rattle.erd_meaning.proofs.Common.{class_of_object, key_cmp, Preference, key_of, NameParts, objects, family_chosen, key_named, name_in_class, selection_role}
use Rattle.erd_meaning.proofs.Common.{name_of, HasKeysIn, IsKeyIn, Key, and_then-Some, option_map-Some, slice_get, option_map, nat_cmp, Equal, sym, ap₂}
use Rattle.erd_meaning.proofs.Common.{slice_cmp, option_cmp, In, In-from_contains, In-all, rank_of, Placed, numbered_selections, RankedParts, ranked_name}
use Rattle.erd_meaning.proofs.Common.{IsRankedIn, class_cmp, name_cmp, classes_exact, true, cond, map, length, filter, is_lt, slice_get-map, map-map, view}
use Rattle.erd_meaning.proofs.Common.{Value, has_keys, key_of_family_object, key_in, rising_keys, PlacedName, ranked_selection_in, rising_list, positioned}
use Rattle.erd_meaning.proofs.Common.{those_of, Kept, kept, rank_among, rising_keys_among, ranked_parts, names_of, AllAreRanked, IsRanked, IsResolved}
use Rattle.erd_meaning.proofs.Common.{NumberedName, shown, Object, owner, contains_from_In, in_at, ranked_name_cmp}
use Rattle.erd_meaning.proofs.accepted.Standing.{owned_by, has_identifier}
use Rattle.erd_text.proofs.RisingOrders.{count_map}
use Rattle.erd_meaning.proofs.rising.KeyRanks.{IsKeyOf, counted_as_key}
use Rattle.erd_meaning.specs.code.NumberedOrders.{numbered_as_named, numbers_as_keys}
use Rattle.erd_meaning.proofs.finding.OneObject.{those_shown}
use Rattle.erd_meaning.proofs.selections.PositionedKeys.{rising_positioned}
use Rattle.erd_meaning.proofs.selections.RankedKeys.{keys_in_name}

module _ (π : Preference) (t : Data) (f : Family) where
  referred_in : (id : List ℕ) (k : Key) → key_named π t f id ≡ Some k → IsKeyIn π t f k
  referred_in id k e =
      let r = and_then-Some (key_of π) (owner t f id) k e in
      let x = owned_by t f id r.0 r.1 in record { owner = x.0; stands = contains_from_In x.0 (objects f t) x.1; keyed = ap (key_of π) x.2 ∙ r.2 }

module _ (π : Preference) (t : Data) where
  -- the name of a selection of this class
  abbrev name_in : Class → Data → NameParts
  name_in c d = name_in_class π (key_named π t) c d

  -- each key in it is that of an object
  keys_known : (c : Class) (d : Data) → AllByRecursion (IsKeyIn π t (family_chosen c)) (name_in c d).keys
  keys_known c d = keys_in_name (IsKeyIn π t) (key_named π t) (referred_in π t) π c d

  pub known_name : (d : Data) (n : NameParts) → name_of π t d ≡ Some n → HasKeysIn π t n
  known_name d n e = let r = option_map-Some (λ c. name_in c d) (class_of_object selection_role d) n e in subst (HasKeysIn π t) r.2 (keys_known r.0 d)

  -- ---- the ranks of keys are in the order of the keys, wherever objects of the family have the keys. So names with ranks in
  -- place of their keys are in the order of names

  its_key : (f : Family) (k : Key) → IsKeyIn π t f k → IsKeyOf (λ (o : Placed). key_of π o.value) (objects f t) k
  its_key f k h = record { owner = h.owner; stands = In-from_contains h.owner (objects f t) h.stands; keyed = h.keyed }

  rank_as_key : (f : Family) (k l : Key) → IsKeyIn π t f k → IsKeyIn π t f l → nat_cmp (rank_of π t f (Some k)) (rank_of π t f (Some l)) ≡ key_cmp k l
  rank_as_key f k l has other = counted_as_key (λ (o : Placed). key_of π o.value) (objects f t) k l (its_key f k has) (its_key f l other)

  in_name : (c : Class) (d : Data) (k : Key) → In k (name_in c d).keys → IsKeyIn π t (family_chosen c) k
  in_name c d k inside = In-all (IsKeyIn π t (family_chosen c)) k (name_in c d).keys (keys_known c d) inside

  in_one_class : (c b : Class) (d e : Data) → class_cmp c b ≡ Equal
      → slice_cmp nat_cmp (ranked_name π t (name_in c d)).ranks (ranked_name π t (name_in b e)).ranks ≡ slice_cmp key_cmp (name_in c d).keys (name_in b e).keys
  in_one_class c b d e same = subst (λ x. Same x) (classes_exact c b same)
      (numbers_as_keys (λ k. rank_of π t (family_chosen c) (Some k)) (name_in c d).keys (name_in c e).keys
      (λ k l i j. rank_as_key (family_chosen c) k l (in_name c d k i) (in_name c e l j)))
    where
      Same : Class → Type 0
      Same x =
          slice_cmp nat_cmp (ranked_name π t (name_in c d)).ranks (ranked_name π t (name_in x e)).ranks
          ≡ slice_cmp key_cmp (name_in c d).keys (name_in x e).keys

  -- the name of a selection with the ranks of its keys
  abbrev pub ranked_name_of : Data → Option RankedParts
  ranked_name_of d = option_map (ranked_name π t) (name_of π t d)

  -- names with ranks compare as the names do
  pub ranked_names_alike : (d e : Data) → option_cmp ranked_name_cmp (ranked_name_of d) (ranked_name_of e) ≡ option_cmp name_cmp (name_of π t d) (name_of π t e)
  ranked_names_alike d e = at (class_of_object selection_role d) (class_of_object selection_role e)
    where
      at : (c b : Option Class) → option_cmp ranked_name_cmp (option_map (ranked_name π t) (option_map (λ c. name_in c d) c))
          (option_map (ranked_name π t) (option_map (λ b. name_in b e) b))
          ≡ option_cmp name_cmp (option_map (λ c. name_in c d) c) (option_map (λ b. name_in b e) b)
      at None None = refl
      at None (Some b) = refl
      at (Some c) None = refl
      at (Some c) (Some b) =
          numbered_as_named (name_in c d) (name_in b e) (ranked_name π t (name_in c d)).ranks (ranked_name π t (name_in b e)).ranks (in_one_class c b d e)

  -- ---- names that a report lends

  -- the selection whose name it is
  record IsNamed (r : RankedParts) : Type 0 where
    pub selection : Data
    pub name : name_of π t selection ≡ Some r.name
    pub ranks : r ≡ ranked_name π t r.name

  named : (r : RankedParts) → IsRankedIn π t r → IsNamed r
  named r h = at (slice_get (numbered_selections t) h.index) h.is
    where
      by : (s : ℕ × Placed) (o : Option NameParts) → name_of π t s.1.value ≡ o → option_map {U = ℕ × RankedParts}
          (λ (x : ℕ × NameParts). (x.0, ranked_name π t x.1)) (option_map {U = ℕ × NameParts} (λ n. (s.0, n)) o) ≡ Some (h.contest, r) → IsNamed r
      by s None is e = cc
      by s (Some n) is e =
          let whole : Some (ranked_name π t n) ≡ Some r = ap (option_map (λ (x : ℕ × RankedParts). x.1)) e in
          let same : ranked_name π t n ≡ r = cc in
          record {
            selection = s.1.value;
            name = is ∙ ap (λ (q : RankedParts). Some q.name) same;
            ranks = sym same ∙ ap (λ (q : RankedParts). ranked_name π t q.name) same;
          }

      at : (o : Option (ℕ × Placed)) → option_map {U = ℕ × RankedParts} (λ (x : ℕ × NameParts). (x.0, ranked_name π t x.1))
          (option_and_then (λ (s : ℕ × Placed). option_map {U = ℕ × NameParts} (λ n. (s.0, n)) (name_of π t s.1.value)) o) ≡ Some (h.contest, r) → IsNamed r
      at None e = cc
      at (Some s) e = by s (name_of π t s.1.value) refl e

  abbrev Alike : Option NameParts → Option NameParts → Type 0
  Alike o p = option_cmp ranked_name_cmp (option_map (ranked_name π t) o) (option_map (ranked_name π t) p) ≡ option_cmp name_cmp o p

  -- two names of one report compare by their ranks as they do by their keys
  pub names_in_order : (a b : RankedParts) → IsRankedIn π t a → IsRankedIn π t b → ranked_name_cmp a b ≡ name_cmp a.name b.name
  names_in_order a b h k =
      let m = named a h in
      let n = named b k in
      let one = subst (λ o. Alike o (name_of π t n.selection)) m.name (ranked_names_alike m.selection n.selection) in
      ap₂ ranked_name_cmp m.ranks n.ranks ∙ subst (λ o. Alike (Some a.name) o) n.name one

-- ---- the names that a report keeps with ranks are those of its selections, with the ranks of their keys in the report

-- the objects that selections are for have keys
pub chosen_keyed : (c : Class) → has_keys (family_chosen c) ≡ true
chosen_keyed class.PartySelection = refl
chosen_keyed c = refl

module _ (π : Preference) (v : Value) (os : List Object) (names : List NumberedName) (r : IsResolved π v os names) where
  rank_same : (f : Family) → has_keys f ≡ true → (key : Option Key) → rank_among (map shown os) f key ≡ rank_of π (view v) f key
  rank_same f keyed key =
      ap (λ ks. length (filter (λ k. is_lt (option_cmp key_cmp k.key key)) ks)) (those_shown π v os names f r)
      ∙ count_map (λ (o : Placed). kept π f o) (λ (k : Kept). is_lt (option_cmp key_cmp k.key key)) (objects f (view v))
      ∙ ap (λ b. length (filter (λ (o : Placed). is_lt (option_cmp key_cmp (cond b (key_of π o.value) None) key)) (objects f (view v)))) keyed

  pub rising_same : (f : Family) → rising_keys_among (map shown os) f ≡ rising_keys π (view v) f
  rising_same f =
      ap (λ (keys : List (Option Key)). rising_list (λ a b. option_cmp key_cmp a.0 b.0) (positioned 0 keys))
      (ap (map (λ (k : Kept). k.key)) (those_shown π v os names f r) ∙ map-map (λ (k : Kept). k.key) (λ (o : Placed). kept π f o) (objects f (view v)))
      ∙ rising_positioned π (view v) f

  -- the rank of the object at a position
  pub rank_same_at : (f : Family) → has_keys f ≡ true → (i : ℕ)
      → option_map (λ (k : Kept). rank_among (map shown os) f k.key) (slice_get (those_of f (map shown os)) i) ≡ option_map (λ k. rank_of π (view v) f (Some k))
      (key_in π f (view v) i)
  rank_same_at f keyed i =
      ap (λ ks. option_map rank (slice_get ks i)) (those_shown π v os names f r)
      ∙ ap (option_map rank) (slice_get-map (λ (o : Placed). kept π f o) (objects f (view v)) i) ∙ at (slice_get (objects f (view v)) i) refl
    where
      rank : Kept → ℕ
      rank k = rank_among (map shown os) f k.key

      at : (o : Option Placed) → slice_get (objects f (view v)) i ≡ o
          → option_map rank (option_map (λ (o : Placed). kept π f o) o) ≡ option_map (λ k. rank_of π (view v) f (Some k))
          (option_and_then (λ (o : Placed). key_of_family_object π f o.value) o)
      at None is = refl
      at (Some o) is =
          let its = has_identifier π (view v) r.identified f o keyed ((in_at (objects f (view v)) i o is)) in
          let same : key_of_family_object π f o.value ≡ Some its.0 = ap (λ b. cond b (key_of π o.value) None) keyed ∙ its.1 in
          ap (λ key. Some (rank_among (map shown os) f key)) same ∙ ap Some (rank_same f keyed (Some its.0))
          ∙ sym (ap (option_map (λ k. rank_of π (view v) f (Some k))) same)

  ranked_same : (n : NameParts) → ranked_parts (map shown os) n ≡ ranked_name π (view v) n
  ranked_same n i = record { name = n; ranks = map (λ key. rank_same (family_chosen n.class) (chosen_keyed n.class) (Some key) i) n.keys }

-- the name at a position, with its ranks
pub ranked_there : (π : Preference) (v : Value) (os : List Object) (names : List PlacedName) → IsResolved π v os (names_of names)
    → AllAreRanked (map shown os) names → (i : ℕ) → slice_get names i ≡ ranked_selection_in π (view v) i
ranked_there π v os names r are i =
    at (slice_get names i) refl ∙ ap (option_map whole) (sym (slice_get-map plain names i) ∙ r.named i)
  where
    plain : PlacedName → NumberedName
    plain s = (s.0, s.1.name)

    whole : NumberedName → PlacedName
    whole s = (s.0, ranked_name π (view v) s.1)

    one : (s : PlacedName) → IsRanked (map shown os) s.1 → s ≡ whole (plain s)
    one s h = ap (λ (q : RankedParts). (s.0, q)) (h.ranks ∙ ranked_same π v os (names_of names) r s.1.name)

    at : (o : Option PlacedName) → slice_get names i ≡ o → o ≡ option_map whole (option_map plain o)
    at None is = refl
    at (Some s) is = ap Some (one s (In-all (λ s. IsRanked (map shown os) s.1) s names are (in_at names i s is)))
