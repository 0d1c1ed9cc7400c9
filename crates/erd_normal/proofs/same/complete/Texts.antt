-- The two functions of texts: an `@id` of the one report goes to that of the object with the same key, or of the selection with
-- the same name of the contest with the same key.
use Rattle.erd_normal.proofs.Common.{◌≡◌, ℕ, true, List, [], ◌∷◌, map, Some, None, codes, Option, find, flat_map, option_and_then, sym, refl, ap, ◌∙◌, subst}
use Rattle.erd_normal.proofs.Common.{list_any, option_map_or, Data, families, Family, family, role, and_then-Some, Asked, asked, Object, no_identity_fault}
use Rattle.erd_normal.proofs.Common.{find-Some, find-any, has_identifier, values-placed_entries, stands, one_object, one_keyed, one_named, has_id-Some}
use Rattle.erd_normal.proofs.Common.{owner_is, owned_by, IsAccepted, has_keys, Preference, key_of, is_selection_in, Placed, contests, selections_of_contest}
use Rattle.erd_normal.proofs.Common.{objects, id_of, has_id, owner, name_of, name_named, Sides, NameOneThing, Bool, ◌&&◌, is_some, unwrap_or, ap₂, and_parts}
use Rattle.erd_normal.proofs.Common.{has_id-from, In, In-any, In-flat_map, In-from_contains, In-map_from, any_at, inl, inr}
use Rattle.erd_normal.proofs.canonical.ContestSelections.{one_contest}
use Rattle.erd_normal.proofs.lists.Lists.{is_family}
use Rattle.erd_normal.proofs.lists.Matched.{Matched, matched_flat, Paired, none, more}
use Rattle.erd_normal.proofs.same.Related.{matched_within_both}
use Rattle.erd_normal.proofs.same.complete.Counterparts.{ObjectsAlike, family_matched, selection_name, selections_matched, MeanOne, TextsTied}

-- an object of each report, of one family, with one key; or two selections with one name, of contests with one key
pub data Counterpart (π : Preference) (t u : Data) (f : Family) (o p : Placed) : Type 0 where
  by_key : has_keys f ≡ true → key_of π o.value ≡ key_of π p.value → Counterpart π t u f o p
  by_name : f ≡ family.Selection → (c d : Placed) → In c (objects family.Contest t) → In d (objects family.Contest u) → key_of π c.value ≡ key_of π d.value
      → In o (selections_of_contest c) → In p (selections_of_contest d) → name_of π t o.value ≡ name_of π u p.value → Counterpart π t u f o p

pub counterpart_back : (π : Preference) (t u : Data) (f : Family) (o p : Placed) → Counterpart π t u f o p → Counterpart π u t f p o
counterpart_back π t u f o p (by_key keyed same) = by_key keyed (sym same)
counterpart_back π t u f o p (by_name is c d h k keys i j names) = by_name is d c k h (sym keys) j i (sym names)

pub no_keys : (f : Family) → has_keys f ≡ true → f ≡ family.Selection → ⊥
no_keys f keyed is = let h : has_keys family.Selection ≡ true = ap has_keys (sym is) ∙ keyed in cc

-- an object has one counterpart
pub one_counterpart : (π : Preference) (t u : Data) → IsAccepted π t → IsAccepted π u → (f : Family) (o p q : Placed) → In p (objects f u) → In q (objects f u)
    → Counterpart π t u f o p → Counterpart π t u f o q → p ≡ q
one_counterpart π t u accepted accepted' f o p q h k (by_key keyed a) (by_key keyed' b) =
    let i = has_identifier π u (no_identity_fault π u accepted') f p keyed h in one_keyed π u accepted' f p q i.0 keyed h k i.1 (sym b ∙ a ∙ i.1)
one_counterpart π t u accepted accepted' f o p q h k (by_key keyed a) (by_name is c d i j keys l n names) = absurd (no_keys f keyed is)
one_counterpart π t u accepted accepted' f o p q h k (by_name is c d i j keys l n names) (by_key keyed a) = absurd (no_keys f keyed is)
one_counterpart π t u accepted accepted' f o p q h k (by_name is c d i j keys l n names) (by_name is' c' d' i' j' keys' l' n' names') =
    let contest : c ≡ c' = one_contest π t accepted c c' o i i' l l' in
    let key = has_identifier π u (no_identity_fault π u accepted') family.Contest d refl j in
    let other : d ≡ d' = one_keyed π u accepted' family.Contest d d' key.0 refl j j' key.1
    (sym keys' ∙ ap (λ (x : Placed). key_of π x.value) (sym contest) ∙ keys ∙ key.1) in
    let name = selection_name π u accepted' d p j n in
    one_named π u accepted' d p q name.0 j n (subst (λ x. In q (selections_of_contest x)) (sym other) n') name.1 (sym names' ∙ names ∙ name.1)

-- an object is of one family
pub one_family : (π : Preference) (t : Data) → IsAccepted π t → (f g : Family) (o : Placed) → In o (objects f t) → In o (objects g t) → f ≡ g
one_family π t accepted f g o h k =
    let both : Some (asked (Object (role.OfFamily f)) o.value) ≡ Some (asked (Object (role.OfFamily g)) o.value) =
    sym (stands π t accepted f o h) ∙ stands π t accepted g o k in
    let one : asked (Object (role.OfFamily f)) o.value ≡ asked (Object (role.OfFamily g)) o.value = cc in
    let wants : Object (role.OfFamily f) ≡ Object (role.OfFamily g) = ap (λ (a : Asked). a.want) one in
    cc

-- the selection of a contest that a reference names
pub selection_named : (π : Preference) (v : Data) → IsAccepted π v → (c : Placed) (r : List ℕ) → In c (objects family.Contest v)
    → is_selection_in c.value r ≡ true
    → (x : Placed) × In x (selections_of_contest c) × (id_of x.value ≡ Some r) × (name_named π v r ≡ name_of π v x.value)
selection_named π v accepted c r h e =
    let d = In-any (has_id r) (map (λ (o : Placed). o.value) (selections_of_contest c))
    (ap (list_any (has_id r)) (values-placed_entries (codes "ContestSelection") c) ∙ e) in
    let x = In-map_from (λ (o : Placed). o.value) (selections_of_contest c) d.0 d.1 in
    let id : id_of x.0.value ≡ Some r = ap id_of x.2 ∙ has_id-Some r d.0 d.2 in (
      x.0,
      x.1,
      id,
      ap (option_and_then (name_of π v))
          (owner_is π v accepted family.Selection x.0 r (In-flat_map selections_of_contest x.0 c (contests v) h x.1) id),
    )

pub some_again : (o : Option (List ℕ)) → is_some o ≡ true → o ≡ Some (unwrap_or o [])
some_again None h = cc
some_again (Some s) h = refl

-- two objects and their `@id`s
pub record Couple (π : Preference) (t u : Data) : Type 0 where
  pub family : Family
  pub one : Placed
  pub other : Placed
  pub one_stands : In one (objects family t)
  pub other_stands : In other (objects family u)
  pub related : Counterpart π t u family one other
  pub text : List ℕ
  pub other_text : List ℕ
  pub is : id_of one.value ≡ Some text
  pub other_is : id_of other.value ≡ Some other_text

-- couples with one text have one other text
couples_agree : (π : Preference) (t u : Data) → IsAccepted π t → IsAccepted π u → (c d : Couple π t u) → c.text ≡ d.text → c.other_text ≡ d.other_text
couples_agree π t u accepted accepted' c d e =
    let one : c.one ≡ d.one = one_object π t accepted c.family d.family c.one d.one c.text c.one_stands d.one_stands c.is (d.is ∙ ap Some (sym e)) in
    let family : d.family ≡ c.family = one_family π t accepted d.family c.family d.one d.one_stands (subst (λ z. In z (objects c.family t)) one c.one_stands) in
    let other : c.other ≡ d.other = one_counterpart π t u accepted accepted' c.family c.one c.other d.other c.other_stands
    (subst (λ f. In d.other (objects f u)) family d.other_stands) c.related
    (subst (λ o. Counterpart π t u c.family o d.other) (sym one) (subst (λ f. Counterpart π t u f d.one d.other) family d.related)) in
    let texts : Some c.other_text ≡ Some d.other_text = sym c.other_is ∙ ap (λ (x : Placed). id_of x.value) other ∙ d.other_is in
    cc

abbrev turned_couple : (π : Preference) (t u : Data) → Couple π t u → Couple π u t
turned_couple π t u c = record {
  family = c.family;
  one = c.other;
  other = c.one;
  one_stands = c.other_stands;
  other_stands = c.one_stands;
  related = counterpart_back π t u c.family c.one c.other c.related;
  text = c.other_text;
  other_text = c.text;
  is = c.other_is;
  other_is = c.is;
}

module _ (π : Preference) (t u : Data) (both : MeanOne π t u) where
  -- ---- all couples

  pub record Fellows (f : Family) (o p : Placed) : Type 0 where
    pub one_stands : In o (objects f t)
    pub other_stands : In p (objects f u)
    pub related : Counterpart π t u f o p

  keyed_fellows : (f : Family) → has_keys f ≡ true → Matched (Fellows f) (objects f t) (objects f u)
  keyed_fellows f keyed = matched_within_both (Fellows f) (λ x y i j r. record { one_stands = i; other_stands = j; related = by_key keyed r.key })
      (family_matched π t u both f keyed)

  record Contests (c d : Placed) : Type 0 where
    one_stands : In c (objects family.Contest t)
    other_stands : In d (objects family.Contest u)
    alike : ObjectsAlike π t u family.Contest c d

  chosen_fellows : Matched (Fellows family.Selection) (objects family.Selection t) (objects family.Selection u)
  chosen_fellows =
      matched_flat selections_of_contest selections_of_contest
      (λ c d i r. matched_within_both (Fellows family.Selection)
      (λ x y j k s. record {
        one_stands = In-flat_map selections_of_contest x c (contests t) r.one_stands j;
        other_stands = In-flat_map selections_of_contest y d (contests u) r.other_stands k;
        related = by_name refl c d r.one_stands r.other_stands r.alike.key j k s.name;
      })
      (selections_matched π t u both c d r.one_stands r.other_stands r.alike))
      (matched_within_both Contests (λ x y i j r. record { one_stands = i; other_stands = j; alike = r }) (family_matched π t u both family.Contest refl))

  pub fellows : (f : Family) → Matched (Fellows f) (objects f t) (objects f u)
  fellows family.Selection = chosen_fellows
  fellows f = keyed_fellows f refl

  record Pair : Type 0 where
    family : Family
    one : Placed
    other : Placed
    fellows : Fellows family one other

  pairs_in : (f : Family) {xs ys : List Placed} → Paired (Fellows f) xs ys → List Pair
  pairs_in f none = []
  pairs_in f (more {x = x} {y = y} r rest) = record { family = f; one = x; other = y; fellows = r } ∷ pairs_in f rest

  pairs : List Pair
  pairs = flat_map (λ f. pairs_in f (fellows f).paired) families

  pair_in : (f : Family) {xs ys : List Placed} (h : Paired (Fellows f) xs ys) (o : Placed) → In o xs → (p : Pair) × In p (pairs_in f h)
      × (p.one ≡ o) × (p.family ≡ f)
  unfolding pairs_in
  pair_in f none o h = elim h [ ]
  pair_in f (more r rest) o (inl e) = (_, inl refl, e, refl)
  pair_in f (more r rest) o (inr h) = let p = pair_in f rest o h in (p.0, inr p.1, p.2, p.3)

  -- the pair of an object
  pair_of : (f : Family) (o : Placed) → In o (objects f t) → (p : Pair) × In p pairs × (p.one ≡ o) × (p.family ≡ f)
  unfolding pairs
  pair_of f o h =
      let p = pair_in f (fellows f).paired o h in
      (p.0, In-flat_map (λ f. pairs_in f (fellows f).paired) p.0 f families (In-from_contains f families (is_family f)) p.1, p.2, p.3)

  -- the couple that a pair with these `@id`s is
  abbrev couple : (p : Pair) (a b : List ℕ) → id_of p.one.value ≡ Some a → id_of p.other.value ≡ Some b → Couple π t u
  couple p a b is is' = record {
    family = p.family;
    one = p.one;
    other = p.other;
    one_stands = p.fellows.one_stands;
    other_stands = p.fellows.other_stands;
    related = p.fellows.related;
    text = a;
    other_text = b;
    is = is;
    other_is = is';
  }

  -- ---- the functions

  module _ (default : List ℕ) where
    -- one side of a pair has the `@id`, and the other side has one
    abbrev passes : (Pair → Placed) → (Pair → Placed) → List ℕ → Pair → Bool
    passes key other s p = has_id s (key p).value && is_some (id_of (other p).value)

    abbrev lookup : (Pair → Placed) → (Pair → Placed) → List ℕ → List ℕ
    lookup key other s = option_map_or (λ p. unwrap_or (id_of (other p).value) []) (find (passes key other s) pairs) default

    pub there : List ℕ → List ℕ
    there = lookup (λ p. p.one) (λ p. p.other)

    pub back : List ℕ → List ℕ
    back = lookup (λ p. p.other) (λ p. p.one)

    abbrev pub sides : Data → Data → Sides
    sides l r = record { left = l; right = r; there = there; back = back }

    looked_up : (key other : Pair → Placed) → ((p q : Pair) (s a b : List ℕ) → id_of (key p).value ≡ Some s → id_of (key q).value ≡ Some s
        → id_of (other p).value ≡ Some a → id_of (other q).value ≡ Some b → a ≡ b)
        → (p : Pair) → In p pairs → (s a : List ℕ) → id_of (key p).value ≡ Some s → id_of (other p).value ≡ Some a → a ≡ lookup key other s
    looked_up key other agree p h s a is is' =
        let x = find-any (passes key other s) pairs (any_at (passes key other s) p pairs h (ap₂ ◌&&◌ (has_id-from s (key p).value is) (ap is_some is'))) in
        let both = and_parts (has_id s (key x.0).value) (is_some (id_of (other x.0).value)) x.2 in
        agree p x.0 s a (unwrap_or (id_of (other x.0).value) []) is (has_id-Some s (key x.0).value both.0) is' (some_again (id_of (other x.0).value) both.1)
        ∙ sym (ap (λ o. option_map_or (λ q. unwrap_or (id_of (other q).value) []) o default) x.1)

    -- a text that is found is of a pair, if it is not the default
    pair_found : (key other : Pair → Placed) (s s' : List ℕ) → s' ≡ lookup key other s → (s' ≡ default → ⊥) → (p : Pair) × (id_of (key p).value ≡ Some s)
        × (id_of (other p).value ≡ Some s')
    pair_found key other s s' e apart = at (find (passes key other s) pairs) refl e
      where
        at : (o : Option Pair) → find (passes key other s) pairs ≡ o → s' ≡ option_map_or (λ p. unwrap_or (id_of (other p).value) []) o default
            → (p : Pair) × (id_of (key p).value ≡ Some s) × (id_of (other p).value ≡ Some s')
        at None is g = absurd (apart g)
        at (Some p) is g =
            let x = and_parts (has_id s (key p).value) (is_some (id_of (other p).value)) (find-Some (passes key other s) pairs p is).1 in
            (p, has_id-Some s (key p).value x.0, some_again (id_of (other p).value) x.1 ∙ ap Some (sym g))

    -- the `@id`s of an object and its counterpart stand for one another
    pub ids_stand : (l r : Data) (f : Family) (o p : Placed) (a b : List ℕ) → In o (objects f t) → In p (objects f u) → Counterpart π t u f o p → id_of o.value
        ≡ Some a → id_of p.value ≡ Some b → NameOneThing (sides l r) a b
    unfolding there back
    ids_stand l r f o p a b h k related is is' =
        let x = pair_of f o h in
        let same : x.0.other ≡ p = one_counterpart π t u both.left both.right f o x.0.other p
        (subst (λ g. In x.0.other (objects g u)) x.3 x.0.fellows.other_stands) k
        (subst (λ g. Counterpart π t u g o x.0.other) x.3 (subst (λ z. Counterpart π t u x.0.family z x.0.other) x.2 x.0.fellows.related)) related in
        let left : id_of x.0.one.value ≡ Some a = ap (λ (z : Placed). id_of z.value) x.2 ∙ is in
        let right : id_of x.0.other.value ≡ Some b = ap (λ (z : Placed). id_of z.value) same ∙ is' in (
          looked_up (λ q. q.one) (λ q. q.other) (λ v w s c d e g i j. couples_agree π t u both.left both.right (couple v s c e i) (couple w s d g j) refl)
              x.0 x.1 a b left right,
          looked_up (λ q. q.other) (λ q. q.one)
              (λ v w s c d e g i j. couples_agree π u t both.right both.left (turned_couple π t u (couple v c s i e)) (turned_couple π t u (couple w d s j g))
              refl) x.0 x.1 b a right left,
        )

    -- a text that comes back is of a couple, if it is not the default
    pub couple_back : (s s' : List ℕ) → s ≡ back s' → (s ≡ default → ⊥) → (c : Couple π t u) × (c.text ≡ s) × (c.other_text ≡ s')
    unfolding back
    couple_back s s' e apart = let p = pair_found (λ q. q.other) (λ q. q.one) s' s e apart in (couple p.0 s s' p.2 p.1, refl, refl)

    -- and one that goes there
    pub couple_there : (s s' : List ℕ) → s' ≡ there s → (s' ≡ default → ⊥) → (c : Couple π t u) × (c.text ≡ s) × (c.other_text ≡ s')
    unfolding there
    couple_there s s' e apart = let p = pair_found (λ q. q.one) (λ q. q.other) s s' e apart in (couple p.0 s s' p.1 p.2, refl, refl)

    -- ---- references

    pub texts_tied : (l r : Data) → TextsTied π t u (sides l r)
    texts_tied l r = record {
      objects = λ f a b k keyed e g.
          let x = and_then-Some (key_of π) (owner t f a) k e in
          let y = and_then-Some (key_of π) (owner u f b) k g in
          let o = owned_by t f a x.0 x.1 in
          let p = owned_by u f b y.0 y.1 in
          ids_stand l r f o.0 p.0 a b o.1 p.1 (by_key keyed (ap (key_of π) o.2 ∙ x.2 ∙ sym y.2 ∙ sym (ap (key_of π) p.2)))
          (ap id_of o.2 ∙ o.3) (ap id_of p.2 ∙ p.3);
      selections = λ c d x y k a b e g i j h l' names.
          let o = owned_by t family.Contest c x e in
          let p = owned_by u family.Contest d y g in
          let s = selection_named π t both.left o.0 a o.1 (ap (λ z. is_selection_in z a) o.2 ∙ h) in
          let s' = selection_named π u both.right p.0 b p.1 (ap (λ z. is_selection_in z b) p.2 ∙ l') in
          ids_stand l r family.Selection s.0 s'.0 a b (In-flat_map selections_of_contest s.0 o.0 (contests t) o.1 s.1)
          (In-flat_map selections_of_contest s'.0 p.0 (contests u) p.1 s'.1)
          (by_name refl o.0 p.0 o.1 p.1 (ap (key_of π) o.2 ∙ i ∙ sym j ∙ sym (ap (key_of π) p.2)) s.1 s'.1 (sym s.3 ∙ names ∙ s'.3)) s.2 s'.2;
    }
