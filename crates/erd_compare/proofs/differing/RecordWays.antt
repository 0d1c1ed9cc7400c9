-- The ways in which two records differ: in rising order, each of them a way, and all of them or the first.
use Rattle.erd_compare.proofs.Common.{◌≡◌, ◌≢◌, ℕ, Bool, true, List, [], ◌∷◌, map, Some, None, Option, Ordering, sym, refl, ap, ap₂, ◌∙◌, subst, inl, inr}
use Rattle.erd_compare.proofs.Common.{AllByRecursion, In-map, In-map_from, In-all, option_cmp, text_cmp, Class, MemberValue, ObjectRecord, Differ, DifferIn}
use Rattle.erd_compare.proofs.Common.{AgreeBut, Stands, first_of, member_of, How, Member, OnlyLeft, OnlyRight, OtherClass, hows_of, AreWays, DifferInNames}
use Rattle.erd_compare.proofs.Common.{Ways, ways, suc, ◌+◌, false, cond, ◌⊎◌, codes, bytes_eq, is_eq, is_lt, Less, Equal, Greater, arith, nat_list_cmp_total}
use Rattle.erd_compare.proofs.Common.{exact_bytes, bytes_eq-Decides, In, a_key, a_plain, with_election_id, record_in_election, is_eq-slice_cmp}
use Rattle.erd_compare.proofs.Common.{other_than_election, greater_turned, Key, TellsLeastName, DifferAtName, MemberMap, with_name, HasNoElectionId, Bor}
use Rattle.erd_compare.proofs.Common.{true≢false, fun_ext}
use Rattle.std.specs.List.Sorted.{IsStrictlySortedBy}
use Rattle.erd_meaning.specs.Meaning.{Record}
use Rattle.erd_check.proofs.Order.{all_from_In, sorted_map}
use Rattle.erd_compare.proofs.differing.Walks.{to_in, to_stands, first_found, none_less-head, none_there}
use Rattle.std.specs.List.{insert, prefix_len}
use Rattle.erd_compare.specs.code.DifferingNames.{AreNames, AreDiffering, IsWalked}

-- ways are compared by the names of members
abbrev pub way_cmp : How → How → Ordering
way_cmp h g = option_cmp text_cmp (member_of h) (member_of g)

pub same_members : (a b : ObjectRecord) → a.class ≡ b.class → a.members ≡ b.members → Some a ≡ Some b
same_members a b class members = ap₂ (λ (c : Class) (m : List ℕ → Option MemberValue). Some (record { class = c; members = m })) class members

-- ---- records with names

module _ (all : Bool) where
  names_none : (x y : Option ObjectRecord) (ks : List (List ℕ)) → DifferInNames all x y ks → map Member ks ≡ [] → x ≡ y
  names_none None None ks h none = refl
  names_none (Some a) None ks h none = absurd h
  names_none None (Some b) ks h none = absurd h
  names_none (Some a) (Some b) [] h none = same_members a b h.0 h.1.first
  names_none (Some a) (Some b) (k ∷ ks) h none = cc

  names_apart : (x : Option ObjectRecord) (ks : List (List ℕ)) → DifferInNames all x x ks → map Member ks ≢ [] → ⊥
  names_apart None ks h some = some (ap (map Member) h)
  names_apart (Some a) [] h some = some refl
  names_apart (Some a) (k ∷ ks) h some = h.1.differ.0 refl

  names_first : (x y : Option ObjectRecord) (ks : List (List ℕ)) (how : How) → DifferInNames all x y ks → first_of (map Member ks) ≡ Some how → Differ x y how
  names_first None None ks how h is = absurd (no_first ks h is)
    where
      no_first : (ks : List (List ℕ)) → ks ≡ [] → first_of (map Member ks) ≡ Some how → ⊥
      no_first ks none is = let clash : None ≡ Some how = sym (ap (λ xs. first_of (map Member xs)) none) ∙ is in cc
  names_first (Some a) None ks how h is = absurd h
  names_first None (Some b) ks how h is = absurd h
  names_first (Some a) (Some b) [] how h is = cc
  names_first (Some a) (Some b) (k ∷ ks) how h is =
      let same : Member k ≡ how = cc in
      subst (Differ (Some a) (Some b)) same (record { same_class = h.0; differ = h.1.first.differ; least = h.1.first.least })

  names_sound : (x y : Option ObjectRecord) (ks : List (List ℕ)) → DifferInNames all x y ks → AllByRecursion (DifferIn x y) (map Member ks)
  names_sound None None ks h = subst (λ xs. AllByRecursion (DifferIn {V = MemberValue} None None) (map Member xs)) (sym h) tt
  names_sound (Some a) None ks h = absurd h
  names_sound None (Some b) ks h = absurd h
  names_sound (Some a) (Some b) ks h =
      all_from_In (DifferIn (Some a) (Some b)) (map Member ks) (λ how i.
      let from = In-map_from Member ks how i in
      subst (DifferIn (Some a) (Some b)) from.2 (h.0, In-all (λ k. a.members k ≢ b.members k) from.0 ks h.1.differ from.1))

  names_rise : (x y : Option ObjectRecord) (ks : List (List ℕ)) → DifferInNames all x y ks → IsStrictlySortedBy way_cmp (map Member ks)
  unfolding IsStrictlySortedBy
  names_rise None None ks h = subst (λ xs. IsStrictlySortedBy way_cmp (map Member xs)) (sym h) tt
  names_rise (Some a) None ks h = absurd h
  names_rise None (Some b) ks h = absurd h
  names_rise (Some a) (Some b) ks h = sorted_map Member text_cmp way_cmp (λ k l low. low) ks h.1.rise

  -- ---- records with ways

  -- with none the records are equal
  pub ways_none : (x y : Option ObjectRecord) (w : Ways) → AreWays all x y w → hows_of w ≡ [] → x ≡ y
  ways_none x y ways.OnlyLeft h none = cc
  ways_none x y ways.OnlyRight h none = cc
  ways_none x y ways.OtherClass h none = cc
  ways_none x y (ways.Members names) h none = names_none x y (map (λ s. s.now) names.items) h none

  -- with some they are not
  pub ways_apart : (x y : Option ObjectRecord) (w : Ways) → AreWays all x y w → hows_of w ≢ [] → x ≢ y
  ways_apart x y w h some same = at x w (subst (λ z. AreWays all x z w) (sym same) h) some
    where
      at : (x : Option ObjectRecord) (w : Ways) → AreWays all x x w → hows_of w ≢ [] → ⊥
      at None ways.OnlyLeft h some = h
      at None ways.OnlyRight h some = h
      at None ways.OtherClass h some = h
      at (Some a) ways.OnlyLeft h some = h
      at (Some a) ways.OnlyRight h some = h
      at (Some a) ways.OtherClass h some = h refl
      at x (ways.Members names) h some = names_apart x (map (λ s. s.now) names.items) h some

  -- the first is the first in which they differ
  pub ways_first : (x y : Option ObjectRecord) (w : Ways) (how : How) → AreWays all x y w → first_of (hows_of w) ≡ Some how → Differ x y how
  ways_first x y ways.OnlyLeft how h is = let same : OnlyLeft ≡ how = cc in subst (Differ x y) same h
  ways_first x y ways.OnlyRight how h is = let same : OnlyRight ≡ how = cc in subst (Differ x y) same h
  ways_first x y ways.OtherClass how h is = let same : OtherClass ≡ how = cc in subst (Differ x y) same h
  ways_first x y (ways.Members names) how h is = names_first x y (map (λ s. s.now) names.items) how h is

  plain : (x y : Option ObjectRecord) (how : How) → member_of how ≡ None → Differ x y how → DifferIn x y how
  plain None None how none h = h
  plain (Some a) None how none h = h
  plain None (Some b) how none h = h
  plain (Some a) (Some b) OnlyLeft none h = h
  plain (Some a) (Some b) OnlyRight none h = h
  plain (Some a) (Some b) OtherClass none h = h
  plain (Some a) (Some b) (Member name) none h = cc

  -- each is a way
  pub ways_sound : (x y : Option ObjectRecord) (w : Ways) → AreWays all x y w → AllByRecursion (DifferIn x y) (hows_of w)
  ways_sound x y ways.OnlyLeft h = (plain x y OnlyLeft refl h, tt)
  ways_sound x y ways.OnlyRight h = (plain x y OnlyRight refl h, tt)
  ways_sound x y ways.OtherClass h = (plain x y OtherClass refl h, tt)
  ways_sound x y (ways.Members names) h = names_sound x y (map (λ s. s.now) names.items) h

  -- and they rise
  pub ways_rise : (x y : Option ObjectRecord) (w : Ways) → AreWays all x y w → IsStrictlySortedBy way_cmp (hows_of w)
  unfolding IsStrictlySortedBy
  ways_rise x y ways.OnlyLeft h = (tt, tt)
  ways_rise x y ways.OnlyRight h = (tt, tt)
  ways_rise x y ways.OtherClass h = (tt, tt)
  ways_rise x y (ways.Members names) h = names_rise x y (map (λ s. s.now) names.items) h

-- ---- all ways

names_all : (x y : Option ObjectRecord) (ks : List (List ℕ)) → DifferInNames true x y ks → AgreeBut (λ how. Stands how (map Member ks)) x y
names_all None None ks h = tt
names_all (Some a) None ks h = absurd h
names_all None (Some b) ks h = absurd h
names_all (Some a) (Some b) ks h = inr (
  h.0,
  λ name. elim (h.1.each refl name) [
    | inl same ↦ inl same
    | inr stands ↦ inr (to_stands (Member name) (map Member ks) (In-map Member name ks (to_in name ks stands)))
  ],
)

-- but for these the records agree
pub ways_all : (x y : Option ObjectRecord) (w : Ways) → AreWays true x y w → AgreeBut (λ how. Stands how (hows_of w)) x y
ways_all None None ways.OnlyLeft h = absurd h
ways_all (Some a) None ways.OnlyLeft h = inl refl
ways_all None (Some b) ways.OnlyLeft h = inl h
ways_all (Some a) (Some b) ways.OnlyLeft h = absurd h
ways_all None None ways.OnlyRight h = absurd h
ways_all (Some a) None ways.OnlyRight h = inl h
ways_all None (Some b) ways.OnlyRight h = inl refl
ways_all (Some a) (Some b) ways.OnlyRight h = absurd h
ways_all None None ways.OtherClass h = absurd h
ways_all (Some a) None ways.OtherClass h = inl h
ways_all None (Some b) ways.OtherClass h = inl h
ways_all (Some a) (Some b) ways.OtherClass h = inl (inl refl)
ways_all x y (ways.Members names) h = names_all x y (map (λ s. s.now) names.items) h

-- records that are told of agree if more is told
pub agree_more : {V : Type 0} (told more : How → Type 0) → ((how : How) → told how → more how) → (x y : Option (Record V))
    → AgreeBut told x y → AgreeBut more x y
agree_more told more on None None h = tt
agree_more told more on (Some a) None h = on OnlyLeft h
agree_more told more on None (Some b) h = on OnlyRight h
agree_more told more on (Some a) (Some b) (inl other) = inl (on OtherClass other)
agree_more told more on (Some a) (Some b) (inr (class, members)) = inr (
  class,
  λ name. elim (members name) [
    | inl same ↦ inl same
    | inr is ↦ inr (on (Member name) is)
  ],
)

-- equal records agree whatever is told
pub agree_same : (told : How → Type 0) (x y : Option ObjectRecord) → x ≡ y → AgreeBut told x y
agree_same told x y same = subst (AgreeBut told x) same (itself x)
  where
    itself : (x : Option ObjectRecord) → AgreeBut told x x
    itself None = tt
    itself (Some a) = inr (refl, λ name. inl refl)

-- ---- the names at which two records differ, with the keys of elections laid over them as the member `ElectionId`

abbrev pub election_id : List ℕ
election_id = codes "ElectionId"

-- ---- a name among others

-- how many texts come before the first that is not less than a name
abbrev pub lesser_count : List ℕ → List (Bor (List ℕ)) → ℕ
lesser_count name ss = prefix_len (λ s. is_lt (text_cmp s name)) (map (λ s. s.now) ss)

-- the name is put before that one
pub inserted : (name : Bor (List ℕ)) (ss : List (Bor (List ℕ))) → map (λ s. s.now) (insert ss (lesser_count name.now ss) name)
    ≡ with_name name.now (map (λ s. s.now) ss)
inserted name [] = refl
inserted name (s ∷ ss) = at (is_lt (text_cmp s.now name.now)) (inserted name ss)
  where
    place : ℕ
    place = lesser_count name.now ss

    names : List (List ℕ)
    names = map (λ s. s.now) ss

    at : (b : Bool) → map (λ s. s.now) (insert ss place name) ≡ with_name name.now names → map (λ s. s.now) (insert (s ∷ ss) (cond b (1 + place) 0) name)
        ≡ cond b (s.now ∷ with_name name.now names) (name.now ∷ s.now ∷ names)
    at false e = refl
    at true e =
        let one : suc place ≡ 1 + place = omega arith in
        subst (λ i. map (λ s. s.now) (insert (s ∷ ss) i name) ≡ s.now ∷ with_name name.now names) one (ap (λ xs. s.now ∷ xs) e)

module _ (name : List ℕ) where
  parts : (x : List ℕ) (ks : List (List ℕ)) → In x (with_name name ks) → (name ≡ x) ⊎ In x ks
  parts x [] (inl e) = inl e
  parts x [] (inr none) = absurd none
  parts x (k ∷ ks) h = at (is_lt (text_cmp k name)) (parts x ks) h
    where
      at : (b : Bool) → (In x (with_name name ks) → (name ≡ x) ⊎ In x ks) → In x (cond b (k ∷ with_name name ks) (name ∷ k ∷ ks)) → (name ≡ x) ⊎ In x (k ∷ ks)
      at true more (inl e) = inr (inl e)
      at true more (inr h) = elim (more h) [
        | inl e ↦ inl e
        | inr i ↦ inr (inr i)
      ]
      at false more (inl e) = inl e
      at false more (inr h) = inr h

  whole : (x : List ℕ) (ks : List (List ℕ)) → (name ≡ x) ⊎ In x ks → In x (with_name name ks)
  whole x [] (inl e) = inl e
  whole x [] (inr none) = absurd none
  whole x (k ∷ ks) h = at (is_lt (text_cmp k name)) (whole x ks) h
    where
      at : (b : Bool) → ((name ≡ x) ⊎ In x ks → In x (with_name name ks)) → (name ≡ x) ⊎ In x (k ∷ ks) → In x (cond b (k ∷ with_name name ks) (name ∷ k ∷ ks))
      at true more (inl e) = inr (more (inl e))
      at true more (inr (inl e)) = inl e
      at true more (inr (inr i)) = inr (more (inr i))
      at false more (inl e) = inl e
      at false more (inr i) = inr i

  rising : (ks : List (List ℕ)) → IsStrictlySortedBy text_cmp ks → ((k : List ℕ) → In k ks → k ≡ name → ⊥) → IsStrictlySortedBy text_cmp (with_name name ks)
  unfolding IsStrictlySortedBy
  rising [] rise other = (tt, tt)
  rising (k ∷ ks) rise other = at (text_cmp k name) refl (rising ks rise.1 (λ x i. other x (inr i)))
    where
      later : (low : text_cmp k name ≡ Less) (x : List ℕ) → (name ≡ x) ⊎ In x ks → text_cmp k x ≡ Less
      later low x (inl e) = subst (λ z. text_cmp k z ≡ Less) e low
      later low x (inr i) = In-all (λ z. text_cmp k z ≡ Less) x ks rise.0 i

      above : (low : text_cmp name k ≡ Less) (x : List ℕ) → In x (k ∷ ks) → text_cmp name x ≡ Less
      above low x (inl e) = subst (λ z. text_cmp name z ≡ Less) e low
      above low x (inr i) = nat_list_cmp_total.trans name k x low (In-all (λ z. text_cmp k z ≡ Less) x ks rise.0 i)

      at : (o : Ordering) → text_cmp k name ≡ o → IsStrictlySortedBy text_cmp (with_name name ks)
          → IsStrictlySortedBy text_cmp (cond (is_lt o) (k ∷ with_name name ks) (name ∷ k ∷ ks))
      at Less is more = (all_from_In (λ z. text_cmp k z ≡ Less) (with_name name ks) (λ x i. later is x (parts x ks i)), more)
      at Equal is more = absurd (other k (inl refl) (exact_bytes k name is))
      at Greater is more = (all_from_In (λ z. text_cmp name z ≡ Less) (k ∷ ks) (above (greater_turned nat_list_cmp_total k name is)), rise)

-- ---- members with the key of an election

-- a lesser name is another
less_other : (name one : List ℕ) → text_cmp name one ≡ Less → bytes_eq name one ≡ false
less_other name one less = sym (is_eq-slice_cmp name one) ∙ ap is_eq less

-- at a name at which two objects mean the same, they do with one key
same_held : (k : Option Key) (m n : MemberMap) (name : List ℕ) → m name ≡ n name → with_election_id k m name ≡ with_election_id k n name
same_held None m n name same = same
same_held (Some k) m n name same = ap (λ v. cond (bytes_eq name election_id) (Some (a_plain (a_key (Some k)))) v) same

-- at any name but that of the member they do with any keys
same_other : (k l : Option Key) (m n : MemberMap) (name : List ℕ) → bytes_eq name election_id ≡ false → m name ≡ n name → with_election_id k m name
    ≡ with_election_id l n name
same_other k l m n name other same = other_than_election k m name other ∙ (same ∙ sym (other_than_election l n name other))

-- and where they differ, they do with any keys
differ_held : (k l : Option Key) (m n : MemberMap) (name : List ℕ) → bytes_eq name election_id ≡ false → m name ≢ n name
    → with_election_id k m name ≢ with_election_id l n name
differ_held k l m n name other differ e = differ (sym (other_than_election k m name other) ∙ (e ∙ other_than_election l n name other))

-- the keys apart
keys_apart : (k l : Option Key) (m n : MemberMap) → m election_id ≡ None → n election_id ≡ None → with_election_id k m election_id
    ≡ with_election_id l n election_id → k ≡ l
keys_apart None None m n a b e = refl
keys_apart (Some k) (Some l) m n a b e = cc
keys_apart k l m n a b e = cc

module _ (m n : MemberMap) (left : m election_id ≡ None) (right : n election_id ≡ None) where
  -- objects do not differ by themselves at the name of the member
  another : (name : List ℕ) → m name ≢ n name → bytes_eq name election_id ≡ false
  another name differ = at (bytes_eq name election_id) refl
    where
      at : (c : Bool) → bytes_eq name election_id ≡ c → bytes_eq name election_id ≡ false
      at false is = is
      at true is = absurd (differ (subst (λ x. m x ≡ n x) (sym ((bytes_eq-Decides name election_id).0 is)) (left ∙ sym right)))

  module _ (all : Bool) (names : List (List ℕ)) (h : AreNames all m n names) where
    -- with one key they differ where they do by themselves
    pub names_of_one : (k : Option Key) → AreNames all (with_election_id k m) (with_election_id k n) names
    names_of_one k = record {
      rise = h.rise;
      differ = all_from_In (λ x. with_election_id k m x ≢ with_election_id k n x) names (λ x i. let own = In-all (λ z. m z ≢ n z) x names h.differ i in
          differ_held k k m n x (another x own) own);
      first = at (first_of names) h.first;
      each = λ yes x. elim (h.each yes x) [
        | inl same ↦ inl (same_held k m n x same)
        | inr stands ↦ inr stands
      ];
    }
      where
        at : (o : Option (List ℕ)) → TellsLeastName m n o → TellsLeastName (with_election_id k m) (with_election_id k n) o
        at None same = ap (with_election_id k) same
        at (Some name) told =
            record { differ = differ_held k k m n name (another name told.differ) told.differ; least = λ j low. same_held k m n j (told.least j low) }

    -- with two keys they also differ in the member
    pub names_of_two : (k l : Option Key) → (k ≡ l → ⊥) → AreNames all (with_election_id k m) (with_election_id l n) (with_name election_id names)
    names_of_two k l apart = record {
      rise = rising election_id names h.rise own_other;
      differ = all_from_In (λ x. mine x ≢ its x) (with_name election_id names) (λ x i. differs x (parts election_id x names i));
      first = first names h.first;
      each = λ yes x. at x (bytes_eq x election_id) refl (h.each yes x);
    }
      where
        mine : MemberMap
        mine = with_election_id k m

        its : MemberMap
        its = with_election_id l n

        own_differ : (x : List ℕ) → In x names → m x ≢ n x
        own_differ x i = In-all (λ z. m z ≢ n z) x names h.differ i

        own_other : (x : List ℕ) → In x names → x ≡ election_id → ⊥
        own_other x i e = own_differ x i (subst (λ z. m z ≡ n z) (sym e) (left ∙ sym right))

        at_member : mine election_id ≢ its election_id
        at_member e = apart (keys_apart k l m n left right e)

        differs : (x : List ℕ) → (election_id ≡ x) ⊎ In x names → mine x ≢ its x
        differs x (inl e) = subst (λ z. mine z ≢ its z) e at_member
        differs x (inr i) = differ_held k l m n x (another x (own_differ x i)) (own_differ x i)

        below : (x : List ℕ) → text_cmp x election_id ≡ Less → m x ≡ n x → mine x ≡ its x
        below x low same = same_other k l m n x (less_other x election_id low) same

        told_member : ((x : List ℕ) → text_cmp x election_id ≡ Less → m x ≡ n x) → DifferAtName mine its election_id
        told_member same = record { differ = at_member; least = λ x low. below x low (same x low) }

        first : (ks : List (List ℕ)) → TellsLeastName m n (first_of ks) → TellsLeastName mine its (first_of (with_name election_id ks))
        first [] same = told_member (λ x low. ap (λ f. f x) same)
        first (y ∷ ys) told = by (text_cmp y election_id) refl
          where
            by : (o : Ordering) → text_cmp y election_id ≡ o
                → TellsLeastName mine its (first_of (cond (is_lt o) (y ∷ with_name election_id ys) (election_id ∷ y ∷ ys)))
            by Less is = record {
              differ = differ_held k l m n y (less_other y election_id is) told.differ;
              least = λ x low. below x (nat_list_cmp_total.trans x y election_id low is) (told.least x low);
            }
            by Equal is = absurd (told.differ (subst (λ z. m z ≡ n z) (sym (exact_bytes y election_id is)) (left ∙ sym right)))
            by Greater is =
                told_member (λ x low. told.least x (nat_list_cmp_total.trans x election_id y low (greater_turned nat_list_cmp_total y election_id is)))

        at : (x : List ℕ) (c : Bool) → bytes_eq x election_id ≡ c → (m x ≡ n x) ⊎ Stands x names → (mine x ≡ its x) ⊎ Stands x (with_name election_id names)
        at x true is own = inr (to_stands x (with_name election_id names) (whole election_id x names (inl (sym ((bytes_eq-Decides x election_id).0 is)))))
        at x false is (inl same) = inl (same_other k l m n x is same)
        at x false is (inr stands) = inr (to_stands x (with_name election_id names) (whole election_id x names (inr (to_in x names stands))))

-- ---- records

-- what two records differ in, with the keys of elections
module _ (all : Bool) (k l : Option Key) (a b : ObjectRecord) (left : HasNoElectionId a) (right : HasNoElectionId b) where
  pub ways_of_one : (own : Ways) → k ≡ l → AreWays all (Some a) (Some b) own → AreWays all (Some (record_in_election k a)) (Some (record_in_election l b)) own
  ways_of_one ways.OnlyLeft same h = h
  ways_of_one ways.OnlyRight same h = h
  ways_of_one ways.OtherClass same h = h
  ways_of_one (ways.Members names) same h =
      subst (λ x. DifferInNames all (Some (record_in_election k a)) (Some (record_in_election x b)) (map (λ s. s.now) names.items)) same
      (h.0, names_of_one a.members b.members left right all (map (λ s. s.now) names.items) h.1 k)

  pub ways_of_two : (names : List (List ℕ)) → (k ≡ l → ⊥) → DifferInNames all (Some a) (Some b) names → DifferInNames all (Some (record_in_election k a))
      (Some (record_in_election l b)) (with_name election_id names)
  ways_of_two names apart h = (h.0, names_of_two a.members b.members left right all names h.1 k l apart)

-- ---- the names that a walk in step found: all at which two maps differ, or the first

module _ (m n : MemberMap) (all : Bool) where
  least : (names : List (List ℕ)) → AreDiffering text_cmp m n names → TellsLeastName m n (first_of names)
  least [] h = fun_ext (none_there h)
  least (k ∷ ks) h = record {
    differ = h.differ.0;
    least = λ j low. elim (h.all j) [
      | inl same ↦ same
      | inr stands ↦ absurd (none_less-head nat_list_cmp_total k ks h.rise j stands low)
    ];
  }

  -- all of them
  pub all_names : (names : List (List ℕ)) → AreDiffering text_cmp m n names → AreNames all m n names
  all_names names h = record { rise = h.rise; differ = h.differ; first = least names h; each = λ yes. h.all }

  -- the one that was found first, where not all are wanted
  pub first_name : (name : List ℕ) (ls rs : List (List ℕ)) → all ≡ false → IsWalked text_cmp m n (name ∷ []) ls rs → AreNames all m n (name ∷ [])
  first_name name ls rs not_all step = record {
    rise = step.rise;
    differ = step.differ;
    first = record { differ = step.differ.0; least = first_found nat_list_cmp_total step };
    each = λ yes. absurd (true≢false (sym yes ∙ not_all));
  }
