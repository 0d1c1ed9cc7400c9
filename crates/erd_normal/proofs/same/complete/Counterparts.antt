-- What two accepted reports that mean the same have in common: sets of references and of values, and the objects, by their keys.
use Rattle.erd_normal.proofs.Common.{◌≡◌, ℕ, Bool, true, false, ◌&&◌, List, [], ◌∷◌, Some, None, Option, option_and_then, is_eq, sym, refl, ap, ◌∙◌, subst, ap₂}
use Rattle.erd_normal.proofs.Common.{true≢false, tied_itself, Equal-is, IsDistinct, list_any, Data, string, array, Items, as_str, role_of_class, Class, Family}
use Rattle.erd_normal.proofs.Common.{family, Role, MemberKind, kind, string_from_text, list_of_items-place, list_of_items-tree, text_itself, wanted_within}
use Rattle.erd_normal.proofs.Common.{unrepeated, Within, is_simple_class, entry_itself, IsTree, AreTrees, is_same_json, list_of_items, entry_want}
use Rattle.erd_normal.proofs.Common.{is_compared_set, asked, is_repeated, Member, Object, Reference, no_shape_fault, unrepeated_reference, resolves}
use Rattle.erd_normal.proofs.Common.{unrepeated_distinct, IsAccepted, has_keys, key_cmp, Preference, key_of, is_selection_in, owner, key_set, meaning}
use Rattle.erd_normal.proofs.Common.{key_named, keys_named, name_named, key_cmp_total, key_cmp_exact, Key, Sides, NameOneThing, an_id, Same, In, In-all, In-any}
use Rattle.erd_normal.proofs.Common.{any_at, inl, inr, ◌⊎◌, map, codes, option_map, find, same_Some, options_total, option_cmp, no_items, get, role, entries_in}
use Rattle.erd_normal.proofs.Common.{object_in, ObjectIn, and_then-Some, entries_at, class_of_object, objects_distinct, elections_distinct, held_key_in}
use Rattle.erd_normal.proofs.Common.{no_identity_fault, find-Some, find-any, has_identifier, skeleton, values-placed_entries, election_stands, stands}
use Rattle.erd_normal.proofs.Common.{contest_selections, options_exact, equal_keys, equal_names, election_key_of, SelectionRecord, ObjectRecord, NameParts}
use Rattle.erd_normal.proofs.Common.{Placed, placed_entries, report_of, elections, contests, selections_of_contest, objects, plain_member, selection_record}
use Rattle.erd_normal.proofs.Common.{selection_map, member_value, member_of_class, object_record, record_in_election, placed_record, placed_with_key}
use Rattle.erd_normal.proofs.Common.{records_of, name_of, name_cmp, name_cmp_total, Ordering, IsTotalOrder, In-flat_map, In-flat_map_from, In-map}
use Rattle.erd_check.proofs.Order.{In-filter_map}
use Rattle.erd_normal.proofs.canonical.NormalKeys.{first_reference, first_value, names_accepted, reference_entry, value_entry, selections_distinct}
use Rattle.erd_normal.proofs.lists.Matched.{Matched, kept_has, matched_back, matched_on, matched_within, find_values}
use Rattle.erd_normal.proofs.same.Related.{ApartBy, matched_by_keys, AreSound, itself, matched_within_both}
use Rattle.erd_meaning.proofs.meanings.WholeRecords.{apart_from_election, no_election_id}
use Rattle.erd_normal.proofs.meaning.MatchedMeanings.{class_within, record_with-Some, has_name, has_selection_record, map_in, members_in, selections_value}
use Rattle.erd_normal.proofs.lists.Lists.{IsPart, part_distinct, part_flat}
use Rattle.erd_normal.proofs.same.IdsOfObjects.{InElections}

-- ---- two accepted reports that mean the same, and texts that stand for one another in them

pub record MeanOne (π : Preference) (t u : Data) : Type 0 where
  pub left_tree : IsTree t
  pub right_tree : IsTree u
  pub left : IsAccepted π t
  pub right : IsAccepted π u
  pub same : meaning π t ≡ meaning π u

-- texts that name objects with one key stand for one another, and so do those of selections with one name of contests with one
-- key
pub record TextsTied (π : Preference) (t u : Data) (m : Sides) : Type 0 where
  pub objects : (f : Family) (a b : List ℕ) (k : Key) → has_keys f ≡ true → key_named π t f a ≡ Some k → key_named π u f b ≡ Some k → NameOneThing m a b
  pub selections : (c c' : List ℕ) (x y : Data) (k : Key) (a b : List ℕ) → owner t family.Contest c ≡ Some x → owner u family.Contest c' ≡ Some y → key_of π x
      ≡ Some k → key_of π y ≡ Some k → is_selection_in x a ≡ true → is_selection_in y b ≡ true → name_named π t a ≡ name_named π u b → NameOneThing m a b

-- ---- sets that mean the same say the same: references that name one set of keys, and JSON values

-- entries that a test tells apart are apart by a key, where entries with one key pass the test
pub apart_by : {A K : Type 0} (test : A → A → Bool) (key : A → K) (xs : List A) → ((x y : A) → In x xs → In y xs → key x ≡ key y → test x y ≡ true)
    → IsDistinct test xs → ApartBy key xs
unfolding IsDistinct
apart_by test key [] tells d = tt
apart_by test key (x ∷ xs) tells d = (
  λ y i e. true≢false (sym (tells x y (inl refl) (inr i) e) ∙ In-all (λ z. test x z ≡ false) y xs d.0 i),
  apart_by test key xs (λ y z i j. tells y z (inr i) (inr j)) d.1,
)

-- ---- references

-- what a reference of an accepted report says
pub record NamedBy (π : Preference) (t : Data) (f : Family) (d : Data) : Type 0 where
  pub text : List ℕ
  pub is : d ≡ string text
  pub key : Key
  pub named : key_named π t f text ≡ Some key

abbrev pub entry_key : Preference → Data → Family → Data → Option Key
entry_key π t f d = option_and_then (key_named π t f) (as_str d)

module _ (π : Preference) (t : Data) (accepted : IsAccepted π t) (f : Family) (keyed : has_keys f ≡ true) where
  pub named_by : (d : Data) → Within t (asked (Reference f) d) → NamedBy π t f d
  named_by d w =
      let s = string_from_text d (wanted_within t (no_shape_fault π t accepted) (asked (Reference f) d) w) in
      let k = resolves π t accepted f s.0 keyed (subst (λ x. Within t (asked (Reference f) x)) s.1 w) in
      record { text = s.0; is = s.1; key = k.0; named = k.1 }

  entry_named : (d : Data) (n : NamedBy π t f d) → entry_key π t f d ≡ Some n.key
  entry_named d n = ap (entry_key π t f) n.is ∙ n.named

  module _ (r : Bool) (ds : Items) (w : Within t (asked (Member (kind.Many f) r) (array ds))) where
    pub reference_named : (d : Data) → In d (list_of_items ds) → NamedBy π t f d
    reference_named d h = let p = list_of_items-place ds d h in
        named_by d (unrepeated_reference π t accepted f d (is_repeated ds p.0 d) (reference_entry t f r ds w p.0 d p.1))

    pub references_apart : ApartBy (entry_key π t f) (list_of_items ds)
    references_apart =
        apart_by (λ d e. is_same_json e d) (entry_key π t f) (list_of_items ds)
        (λ x y i j e. same x y (reference_named x i) (reference_named y j) e)
        (unrepeated_distinct ds (λ i d e. first_reference π t accepted f d (is_repeated ds i d) (reference_entry t f r ds w i d e)))
      where
        same : (x y : Data) → NamedBy π t f x → NamedBy π t f y → entry_key π t f x ≡ entry_key π t f y → is_same_json y x ≡ true
        same x y a b e =
            let keys : Some a.key ≡ Some b.key = sym (entry_named x a) ∙ e ∙ entry_named y b in
            let one : b.text ≡ a.text = (names_accepted π t accepted).one_name f b.text a.text a.key keyed (b.named ∙ sym keys) a.named in
            ap₂ is_same_json (b.is ∙ ap string one) a.is ∙ text_itself a.text

-- each of the one set has its fellow in the other
fellow : (π : Preference) (t u : Data) (f : Family) (ds es : List Data) → key_set (keys_named π t f ds) ≡ key_set (keys_named π u f es) → (x : Data) → In x ds
    → NamedBy π t f x → (y : Data) × In y es × (entry_key π t f x ≡ entry_key π u f y)
fellow π t u f ds es same x h n =
    let e : entry_key π t f x ≡ Some n.key = ap (entry_key π t f) n.is ∙ n.named in
    let there : list_any (λ l. is_eq (key_cmp l n.key)) (keys_named π u f es) ≡ true =
    sym (ap (λ set. set n.key) same) ∙ any_at (λ l. is_eq (key_cmp l n.key)) n.key (keys_named π t f ds) (In-filter_map (entry_key π t f) x n.key ds h e)
    (ap is_eq (tied_itself key_cmp_total n.key)) in
    let l = In-any (λ l. is_eq (key_cmp l n.key)) (keys_named π u f es) there in
    let y = kept_has (entry_key π u f) l.0 es l.1 in
    (y.0, y.1, e ∙ ap Some (sym (key_cmp_exact l.0 n.key ((Equal-is (key_cmp l.0 n.key)).0 l.2))) ∙ sym y.2)

-- sets of references that name one set of keys are matched
pub keys_matched : (π : Preference) (t u : Data) → IsAccepted π t → IsAccepted π u → (f : Family) → has_keys f ≡ true → (r r' : Bool) (ds es : Items)
    → Within t (asked (Member (kind.Many f) r) (array ds)) → Within u (asked (Member (kind.Many f) r') (array es))
    → key_set (keys_named π t f (list_of_items ds)) ≡ key_set (keys_named π u f (list_of_items es)) → Matched (λ x y. entry_key π t f x ≡ entry_key π u f y)
    (list_of_items ds) (list_of_items es)
keys_matched π t u accepted accepted' f keyed r r' ds es w w' same =
    matched_by_keys (entry_key π t f) (entry_key π u f) (list_of_items ds) (list_of_items es) (references_apart π t accepted f keyed r ds w)
    (references_apart π u accepted' f keyed r' es w')
    (λ x i. fellow π t u f (list_of_items ds) (list_of_items es) same x i (reference_named π t accepted f keyed r ds w x i))
    (λ y j. let z = fellow π u t f (list_of_items es) (list_of_items ds) (sym same) y j (reference_named π u accepted' f keyed r' es w' y j) in
    (z.0, z.1, sym z.2))

module _ (π : Preference) (t u : Data) (m : Sides) (accepted : IsAccepted π t) (accepted' : IsAccepted π u) (tied : TextsTied π t u m) where
  -- two references
  pub reference_says : (f : Family) → has_keys f ≡ true → (d e : Data) → NamedBy π t f d → NamedBy π u f e → entry_key π t f d ≡ entry_key π u f e
      → Same m (Some (Reference f)) d e
  reference_says f keyed d e a b same =
      let keys : Some a.key ≡ Some b.key = sym (ap (entry_key π t f) a.is ∙ a.named) ∙ same ∙ (ap (entry_key π u f) b.is ∙ b.named) in
      subst (λ x. Same m (Some (Reference f)) x e) (sym a.is)
      (subst (Same m (Some (Reference f)) (string a.text)) (sym b.is) (an_id refl (tied.objects f a.text b.text a.key keyed a.named (b.named ∙ sym keys))))

  -- and two sets of them
  pub references_matched : (f : Family) → has_keys f ≡ true → (r r' : Bool) (ds es : Items) → Within t (asked (Member (kind.Many f) r) (array ds))
      → Within u (asked (Member (kind.Many f) r') (array es))
      → key_set (keys_named π t f (list_of_items ds)) ≡ key_set (keys_named π u f (list_of_items es)) → Matched (Same m (Some (Reference f)))
      (list_of_items ds) (list_of_items es)
  references_matched f keyed r r' ds es w w' same =
      matched_within_both (Same m (Some (Reference f))) (λ x y i j e. reference_says f keyed x y (reference_named π t accepted f keyed r ds w x i)
      (reference_named π u accepted' f keyed r' es w' y j) e)
      (keys_matched π t u accepted accepted' f keyed r r' ds es w w' same)

-- ---- JSON values

module _ (π : Preference) (t : Data) (accepted : IsAccepted π t) (k : MemberKind) (r : Bool) (o : Role) (ds : Items)
    (w : Within t (asked (Member k r) (array ds))) (entries : entry_want (Member k r) ≡ Some (Object o))
    (compared : is_compared_set (Member k r) ≡ true) (simple : (c : Class) → role_of_class c ≡ o → is_simple_class c ≡ true) (trees : AreTrees ds) where
  pub values_sound : AreSound (list_of_items ds)
  values_sound d h =
      let p = list_of_items-place ds d h in
      let tree : IsTree d = list_of_items-tree ds d trees h in (
        tree,
        entry_itself t (no_shape_fault π t accepted) o d simple tree
            (unrepeated t (no_shape_fault π t accepted) (Object o) d (is_compared_set (Member k r) && is_repeated ds p.0 d) refl
            (value_entry t k r o ds w entries p.0 d p.1)),
      )

  pub values_apart : ApartBy itself (list_of_items ds)
  values_apart =
      apart_by (λ d e. is_same_json e d) itself (list_of_items ds) (λ x y i j e. ap (λ z. is_same_json z x) (sym e) ∙ (values_sound x i).1)
      (unrepeated_distinct ds
      (λ i d e. first_value π t accepted (Object o) d (is_repeated ds i d)
      (subst (λ b. Within t (record { want = Object o; value = d; repeated = b && is_repeated ds i d })) compared (value_entry t k r o ds w entries i d e))
      (λ h. refl)))

-- ---- lists that have the same record at each key are matched by their keys

-- two entries with one key are one
pub apart_one : {A K : Type 0} (key : A → K) (xs : List A) → ApartBy key xs → (x y : A) → In x xs → In y xs → key x ≡ key y → x ≡ y
apart_one key [] apart x y i j e = elim i [ ]
apart_one key (z ∷ zs) apart x y i j e = at i j (apart_one key zs apart.1 x y)
  where
    at : (z ≡ x) ⊎ In x zs → (z ≡ y) ⊎ In y zs → (In x zs → In y zs → key x ≡ key y → x ≡ y) → x ≡ y
    at (inl a) (inl b) rest = sym a ∙ b
    at (inl a) (inr k) rest = absurd (apart.0 y k (ap key a ∙ e))
    at (inr h) (inl b) rest = absurd (apart.0 x h (ap key b ∙ sym e))
    at (inr h) (inr k) rest = rest h k e

-- entries are apart where their values are
pub apart_map : {A B K : Type 0} (g : A → B) (key : B → K) (xs : List A) → ApartBy key (map g xs) → ApartBy (λ x. key (g x)) xs
apart_map g key [] apart = tt
apart_map g key (x ∷ xs) apart = (λ y i e. apart.0 (g y) (In-map g y xs i) e, apart_map g key xs apart.1)

-- the record of the first entry with this key
abbrev pub record_for : {A K R : Type 0} → (K → K → Bool) → (A → K) → (A → Option R) → List A → K → Option R
record_for test key value xs k = option_and_then value (find (λ x. test (key x) k) xs)

module _ {K R : Type 0} (test : K → K → Bool) (exact : (k l : K) → test k l ≡ true → k ≡ l) (itself : (k : K) → test k k ≡ true) where
  -- at the key of an entry stands its record
  record_itself : {A : Type 0} (key : A → K) (value : A → Option R) (xs : List A) → ApartBy key xs → (x : A) → In x xs
      → record_for test key value xs (key x) ≡ value x
  record_itself key value xs apart x i =
      let f = find-any (λ y. test (key y) (key x)) xs (any_at (λ y. test (key y) (key x)) x xs i (itself (key x))) in
      ap (option_and_then value) (f.1 ∙ ap Some (apart_one key xs apart f.0 x f.3 i (exact (key f.0) (key x) f.2)))

  -- where a record stands, an entry has the key
  entry_for : {A : Type 0} (key : A → K) (value : A → Option R) (xs : List A) (k : K) (r : R) → record_for test key value xs k ≡ Some r → (x : A)
      × In x xs × (key x ≡ k)
  entry_for key value xs k r e =
      let s = and_then-Some value (find (λ x. test (key x) k) xs) r e in
      let f = find-Some (λ x. test (key x) k) xs s.0 s.1 in
      (s.0, f.0, exact (key s.0) k f.1)

  -- the one list has what the other has, where each entry has a record and the records at its key are equal
  abbrev Recorded : {A : Type 0} → (A → Option R) → List A → Type 0
  Recorded {A} value xs = (x : A) → In x xs → (r : R) × (value x ≡ Some r)

  module _ {A B : Type 0} (key : A → K) (key' : B → K) (value : A → Option R) (value' : B → Option R) (xs : List A) (ys : List B) where
    abbrev AgreeAt : K → Type 0
    AgreeAt k = record_for test key value xs k ≡ record_for test key' value' ys k

    pub records_matched : ApartBy key xs → ApartBy key' ys → Recorded value xs → Recorded value' ys → ((x : A) → In x xs → AgreeAt (key x))
        → ((y : B) → In y ys → AgreeAt (key' y)) → Matched (λ x y. (key x ≡ key' y) × (value x ≡ value' y)) xs ys
    records_matched apart apart' known known' there back =
        matched_within_both (λ x y. (key x ≡ key' y) × (value x ≡ value' y)) (λ x y i j e. (
          e,
          sym (record_itself key value xs apart x i) ∙ there x i ∙ ap (record_for test key' value' ys) e ∙ record_itself key' value' ys apart' y j,
        ))
        (matched_by_keys key key' xs ys apart apart'
        (λ x i. let r = known x i in let y = entry_for key' value' ys (key x) r.0 (sym (there x i) ∙ record_itself key value xs apart x i ∙ r.1) in
        (y.0, y.1, sym y.2))
        (λ y j. let r = known' y j in entry_for key value xs (key' y) r.0 (back y j ∙ record_itself key' value' ys apart' y j ∙ r.1)))

-- ---- the record of an object with the key of the election that holds it says both apart

abbrev pub record_at : Preference → Data → Family → Placed → Option ObjectRecord
record_at π t f o = object_record π t (role.OfFamily f) o.value

-- an object of a family has a record, without a member `ElectionId`
pub has_record : (π : Preference) (t : Data) → IsAccepted π t → (f : Family) (o : Placed) → In o (objects f t) → (r : ObjectRecord)
    × (record_at π t f o ≡ Some r) × (r.members (codes "ElectionId") ≡ None)
has_record π t accepted f o h =
    let c = class_within π t accepted (role.OfFamily f) o.value (record { place = o.place; is = stands π t accepted f o h }) in (
      record { class = c.0; members = member_of_class π t o.value c.0 },
      record_with-Some (member_of_class π t o.value) (role.OfFamily f) o.value c.0 c.1,
      no_election_id π t o.value c.0,
    )

pub records_of-keyed : (π : Preference) (t : Data) (f : Family) (k : Key) → has_keys f ≡ true → records_of π t f k ≡ option_and_then (placed_record π t f)
    (placed_with_key π t f k)
records_of-keyed π t family.Selection k h = cc
records_of-keyed π t d k h = refl

-- what the records say of two objects with the keys of their elections
abbrev pub SameRecord : Preference → Data → Data → Family → Placed → Placed → Type 0
SameRecord π t u f o p = (record_at π t f o ≡ record_at π u f p) × (election_key_of π t o ≡ election_key_of π u p)

pub records_apart : (π : Preference) (t u : Data) → IsAccepted π t → IsAccepted π u → (f : Family) (o p : Placed) → In o (objects f t) → In p (objects f u)
    → placed_record π t f o ≡ placed_record π u f p → SameRecord π t u f o p
records_apart π t u accepted accepted' f o p h k e =
    let a = has_record π t accepted f o h in
    let b = has_record π u accepted' f p k in
    let both : Some (record_in_election (election_key_of π t o) a.0) ≡ Some (record_in_election (election_key_of π u p) b.0) =
    sym (ap (option_map (record_in_election (election_key_of π t o))) a.1) ∙ e ∙ ap (option_map (record_in_election (election_key_of π u p))) b.1 in
    let parts = apart_from_election a.0 b.0 (election_key_of π t o) (election_key_of π u p) a.2 b.2 (same_Some _ _ both) in
    (a.1 ∙ ap Some parts.1 ∙ sym b.1, parts.0)

-- ---- the objects of two accepted reports that mean the same are matched: elections by their keys, the objects of each family
-- in each

-- two elections with one key and one record
pub record ElectionsAlike (π : Preference) (t u : Data) (e f : Placed) : Type 0 where
  pub key : key_of π e.value ≡ key_of π f.value
  pub record_same : object_record π t role.Election e.value ≡ object_record π u role.Election f.value

-- two objects of a family with one key and one record, held by elections with one key
pub record ObjectsAlike (π : Preference) (t u : Data) (f : Family) (o p : Placed) : Type 0 where
  pub key : key_of π o.value ≡ key_of π p.value
  pub record_same : object_record π t (role.OfFamily f) o.value ≡ object_record π u (role.OfFamily f) p.value
  pub election : election_key_of π t o ≡ election_key_of π u p

-- two selections with one name and one record
pub record SelectionsAlike (π : Preference) (t u : Data) (o p : Placed) : Type 0 where
  pub name : name_of π t o.value ≡ name_of π u p.value
  pub record_same : selection_record π t o.value ≡ selection_record π u p.value

selection_within : (π : Preference) (t : Data) → IsAccepted π t → (c o : Placed) → In c (objects family.Contest t) → In o (selections_of_contest c)
    → Within t (asked (Object (role.OfFamily family.Selection)) o.value)
selection_within π t accepted c o h k =
    record { place = o.place; is = stands π t accepted family.Selection o (In-flat_map selections_of_contest o c (contests t) h k) }

-- a selection of an accepted report has a name
pub selection_name : (π : Preference) (t : Data) → IsAccepted π t → (c o : Placed) → In c (objects family.Contest t) → In o (selections_of_contest c)
    → (n : NameParts) × (name_of π t o.value ≡ Some n)
selection_name π t accepted c o h k = has_name π t accepted o.value (selection_within π t accepted c o h k)

-- ---- keys and names

abbrev pub key_at : Preference → Placed → Option Key
key_at π o = key_of π o.value

abbrev is_same_key : Option Key → Option Key → Bool
is_same_key k l = is_eq (option_cmp key_cmp k l)

abbrev pub name_at : Preference → Data → Placed → Option NameParts
name_at π t o = name_of π t o.value

abbrev is_same_name : Option NameParts → Option NameParts → Bool
is_same_name m n = is_eq (option_cmp name_cmp m n)

tied : {K : Type 0} (cmp : K → K → Ordering) → IsTotalOrder cmp → (k l : Option K) → k ≡ l → is_eq (option_cmp cmp k l) ≡ true
tied cmp total k l e = ap (λ x. is_eq (option_cmp cmp k x)) (sym e) ∙ ap is_eq (tied_itself (options_total total) k)

-- ---- one report

abbrev list_name : List ℕ
list_name = codes "ContestSelection"

and_then_map : {A B C : Type 0} (f : B → Option C) (g : A → B) (o : Option A) → option_and_then (λ x. f (g x)) o ≡ option_and_then f (option_map g o)
and_then_map f g None = refl
and_then_map f g (Some x) = refl

-- the map that the selections of a contest mean
map_of_value : (π : Preference) (t : Data) (n : NameParts) (o : Option Data) → map_in (selections_value π t o) n ≡ selection_map π t (entries_in o) n
map_of_value π t n (Some (array no_items)) = refl
map_of_value π t n o = refl

module _ (π : Preference) (t : Data) (accepted : IsAccepted π t) where
  -- no two elections have one key
  pub elections_apart : ApartBy (key_at π) (elections t)
  elections_apart =
      apart_map (λ e. e.value) (key_of π) (elections t)
      (subst (ApartBy (key_of π)) (sym (values-placed_entries (codes "Election") (report_of t)))
      (apart_by (λ d e. is_same_key (key_of π d) (key_of π e)) (key_of π) (entries_at (codes "Election") t)
      (λ d e i j same. tied key_cmp key_cmp_total (key_of π d) (key_of π e) same)
      (elections_distinct π t (no_identity_fault π t accepted))))

  election_recorded : (e : Placed) → In e (elections t) → (r : ObjectRecord) × (object_record π t role.Election e.value ≡ Some r)
  election_recorded e h =
      let c = class_within π t accepted role.Election e.value (record { place = e.place; is = election_stands t (skeleton π t accepted) e h }) in
      (_, record_with-Some (member_of_class π t e.value) role.Election e.value c.0 c.1)

  module _ (f : Family) (keyed : has_keys f ≡ true) where
    abbrev one_key : Placed → Placed → Bool
    one_key o p = is_same_key (key_at π o) (key_at π p)

    -- no two objects of a family have one key
    pub family_apart : ApartBy (key_at π) (objects f t)
    family_apart = apart_by one_key (key_at π) (objects f t) (λ o p i j same. tied key_cmp key_cmp_total (key_at π o) (key_at π p) same)
        (objects_distinct π t (no_identity_fault π t accepted) f keyed)

    -- nor do two that one election holds
    held_apart : (name : List ℕ) → InElections f name → (e : Placed) → In e (elections t) → ApartBy (key_at π) (placed_entries name e)
    held_apart name home e h =
        apart_by one_key (key_at π) (placed_entries name e) (λ o p i j same. tied key_cmp key_cmp_total (key_at π o) (key_at π p) same)
        (part_distinct one_key (placed_entries name e) (objects f t)
        (subst (IsPart (placed_entries name e)) (sym (home.are t)) (part_flat (placed_entries name) (elections t) e h))
        (objects_distinct π t (no_identity_fault π t accepted) f keyed))

    held_stands : (name : List ℕ) → InElections f name → (e o : Placed) → In e (elections t) → In o (placed_entries name e) → In o (objects f t)
    held_stands name home e o h i = subst (λ os. In o os) (sym (home.are t)) (In-flat_map (placed_entries name) o e (elections t) h i)

    -- what stands in an election of this key is held by it
    held_by : (name : List ℕ) → InElections f name → (e o : Placed) → In e (elections t) → In o (objects f t) → election_key_of π t o ≡ key_at π e
        → In o (placed_entries name e)
    held_by name home e o h i same =
        let x = In-flat_map_from (placed_entries name) (elections t) o (subst (λ os. In o os) (home.are t) i) in
        let one : x.0 ≡ e = apart_one (key_at π) (elections t) elections_apart x.0 e x.1 h (sym (held_key_in π t name x.0 o x.1 x.2) ∙ same) in
        subst (λ z. In o (placed_entries name z)) one x.2

    object_recorded : (o : Placed) → In o (objects f t) → (r : ObjectRecord) × (placed_record π t f o ≡ Some r)
    object_recorded o h = let r = has_record π t accepted f o h in (_, ap (option_map (record_in_election (election_key_of π t o))) r.1)

  module _ (contest : Placed) (c : In contest (objects family.Contest t)) where
    -- no two selections of a contest have one name
    selections_apart : ApartBy (name_at π t) (selections_of_contest contest)
    selections_apart =
        apart_by (λ o p. is_same_name (name_at π t o) (name_at π t p)) (name_at π t) (selections_of_contest contest)
        (λ o p i j same. tied name_cmp name_cmp_total (name_at π t o) (name_at π t p) same)
        (selections_distinct π t accepted contest c)

    selection_recorded : (o : Placed) → In o (selections_of_contest contest) → (r : SelectionRecord) × (selection_record π t o.value ≡ Some r)
    selection_recorded o h = has_selection_record π t accepted o.value (selection_within π t accepted contest o c h)

    -- the record of the first selection of this name stands in the map
    selection_mapped : (n : NameParts) → record_for is_same_name (name_at π t) (λ o. selection_record π t o.value) (selections_of_contest contest) (Some n)
        ≡ selection_map π t (entries_at list_name contest.value) n
    selection_mapped n =
        let test = λ (d : Data). is_same_name (name_of π t d) (Some n) in
        and_then_map (selection_record π t) (λ (o : Placed). o.value) (find (λ o. test o.value) (selections_of_contest contest))
        ∙ ap (option_and_then (selection_record π t)) (find_values test (λ o. o.value) (selections_of_contest contest))
        ∙ ap (λ ds. option_and_then (selection_record π t) (find test ds)) (values-placed_entries list_name contest)

    -- which is a member of the contest's record
    map_recorded : (n : NameParts) → map_in (members_in (object_record π t (role.OfFamily family.Contest) contest.value) list_name) n
        ≡ selection_map π t (entries_at list_name contest.value) n
    map_recorded n =
        let d : Data = contest.value in
        let o : ObjectIn t (role.OfFamily family.Contest) d =
        object_in t (no_shape_fault π t accepted) (role.OfFamily family.Contest) d
        (record { place = contest.place; is = stands π t accepted family.Contest contest c }) in
        let among : class_of_object (role.OfFamily family.Contest) d ≡ Some o.class =
        ap (class_of_object (role.OfFamily family.Contest)) o.is_object ∙ o.at.among in
        ap (λ r. map_in (members_in r list_name) n) (record_with-Some (member_of_class π t d) (role.OfFamily family.Contest) d o.class among)
        ∙ ap (λ k. map_in (member_value π t k (get list_name d) (plain_member π t d o.class list_name)) n) (contest_selections o.class o.role)
        ∙ map_of_value π t n (get list_name d)

module _ (π : Preference) (t u : Data) (both : MeanOne π t u) where
  pub elections_matched : Matched (ElectionsAlike π t u) (elections t) (elections u)
  elections_matched =
      matched_within (ElectionsAlike π t u) (λ d e i r. record { key = r.0; record_same = r.1 })
      (records_matched is_same_key (options_exact key_cmp equal_keys) (λ k. tied key_cmp key_cmp_total k k refl) (key_at π) (key_at π)
      (λ e. object_record π t role.Election e.value) (λ e. object_record π u role.Election e.value) (elections t) (elections u)
      (elections_apart π t both.left) (elections_apart π u both.right) (election_recorded π t both.left) (election_recorded π u both.right)
      (λ e i. ap (λ m. m.elections (key_at π e)) both.same) (λ e i. ap (λ m. m.elections (key_at π e)) both.same))

  -- both reports have one record at each key of a family
  recorded_alike : (f : Family) → has_keys f ≡ true → (k : Option Key) (l : Key) → k ≡ Some l
      → record_for is_same_key (key_at π) (placed_record π t f) (objects f t) k ≡ record_for is_same_key (key_at π) (placed_record π u f) (objects f u) k
  recorded_alike f keyed k l is =
      subst (λ x. record_for is_same_key (key_at π) (placed_record π t f) (objects f t) x ≡ record_for is_same_key (key_at π) (placed_record π u f)
      (objects f u) x) (sym is)
      (sym (records_of-keyed π t f l keyed) ∙ ap (λ m. m.objects f l) both.same ∙ records_of-keyed π u f l keyed)

  pub family_matched : (f : Family) → has_keys f ≡ true → Matched (ObjectsAlike π t u f) (objects f t) (objects f u)
  family_matched f keyed =
      matched_within_both (ObjectsAlike π t u f)
      (λ o p i j r. let parts = records_apart π t u both.left both.right f o p i j r.1 in record { key = r.0; record_same = parts.0; election = parts.1 })
      (records_matched is_same_key (options_exact key_cmp equal_keys) (λ k. tied key_cmp key_cmp_total k k refl) (key_at π) (key_at π) (placed_record π t f)
      (placed_record π u f) (objects f t) (objects f u)
      (family_apart π t both.left f keyed) (family_apart π u both.right f keyed) (object_recorded π t both.left f keyed)
      (object_recorded π u both.right f keyed)
      (λ o i. let k = has_identifier π t (no_identity_fault π t both.left) f o keyed i in recorded_alike f keyed (key_at π o) k.0 k.1)
      (λ o i. let k = has_identifier π u (no_identity_fault π u both.right) f o keyed i in recorded_alike f keyed (key_at π o) k.0 k.1))

  -- objects of a family with one key are alike
  pub alike_by_key : (f : Family) → has_keys f ≡ true → (o p : Placed) → In o (objects f t) → In p (objects f u) → key_at π o ≡ key_at π p
      → ObjectsAlike π t u f o p
  alike_by_key f keyed o p i j same =
      let m = matched_on o (family_matched f keyed) i in
      let one : m.0 ≡ p = apart_one (key_at π) (objects f u) (family_apart π u both.right f keyed) m.0 p m.1 j (sym m.2.key ∙ same) in
      subst (ObjectsAlike π t u f o) one m.2

  -- what two elections hold in their arrays of one name
  pub held_matched : (f : Family) (name : List ℕ) → has_keys f ≡ true → InElections f name → (d e : Placed) → In d (elections t) → In e (elections u)
      → ElectionsAlike π t u d e → Matched (ObjectsAlike π t u f) (placed_entries name d) (placed_entries name e)
  held_matched f name keyed home d e i j alike =
      matched_within_both (ObjectsAlike π t u f)
      (λ o p h k same. alike_by_key f keyed o p (held_stands π t both.left f keyed name home d o i h)
      (held_stands π u both.right f keyed name home e p j k) same)
      (matched_by_keys (key_at π) (key_at π) (placed_entries name d) (placed_entries name e) (held_apart π t both.left f keyed name home d i)
      (held_apart π u both.right f keyed name home e j)
      (λ o h.
      let m = matched_on o (family_matched f keyed) (held_stands π t both.left f keyed name home d o i h) in
      (m.0, held_by π u both.right f keyed name home e m.0 j m.1 (sym m.2.election ∙ held_key_in π t name d o i h ∙ alike.key), m.2.key))
      (λ p k.
      let m = matched_back p (family_matched f keyed) (held_stands π u both.right f keyed name home e p j k) in
      (m.0, held_by π t both.left f keyed name home d m.0 i m.1 (m.2.election ∙ held_key_in π u name e p j k ∙ sym alike.key), m.2.key)))

  -- the selections of two contests
  pub selections_matched : (o p : Placed) → In o (objects family.Contest t) → In p (objects family.Contest u) → ObjectsAlike π t u family.Contest o p
      → Matched (SelectionsAlike π t u) (selections_of_contest o) (selections_of_contest p)
  selections_matched o p i j alike =
      matched_within (SelectionsAlike π t u) (λ x y h r. record { name = r.0; record_same = r.1 })
      (records_matched is_same_name (options_exact name_cmp equal_names) (λ n. tied name_cmp name_cmp_total n n refl) (name_at π t) (name_at π u)
      (λ x. selection_record π t x.value) (λ x. selection_record π u x.value) (selections_of_contest o) (selections_of_contest p)
      (selections_apart π t both.left o i) (selections_apart π u both.right p j) (selection_recorded π t both.left o i) (selection_recorded π u both.right p j)
      (λ x h. let n = selection_name π t both.left o x i h in mapped_alike (name_at π t x) n.0 n.1) (λ y h. let n = selection_name π u both.right p y j h in
      mapped_alike (name_at π u y) n.0 n.1))
    where
      mapped_alike : (m : Option NameParts) (n : NameParts) → m ≡ Some n → record_for is_same_name (name_at π t) (λ x. selection_record π t x.value)
          (selections_of_contest o) m ≡ record_for is_same_name (name_at π u) (λ x. selection_record π u x.value) (selections_of_contest p) m
      mapped_alike m n is =
          subst (λ x. record_for is_same_name (name_at π t) (λ z. selection_record π t z.value) (selections_of_contest o) x ≡ record_for is_same_name
          (name_at π u) (λ z. selection_record π u z.value) (selections_of_contest p) x) (sym is)
          (selection_mapped π t both.left o i n ∙ sym (map_recorded π t both.left o i n) ∙ ap (λ r. map_in (members_in r list_name) n) alike.record_same
          ∙ map_recorded π u both.right p j n ∙ sym (selection_mapped π u both.right p j n))
