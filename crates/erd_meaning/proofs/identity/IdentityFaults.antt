-- The walk over the elections and the objects of a report tells exactly the faults of identity.
use Rattle.erd_meaning.proofs.Common.{◌≡◌, ℕ, Bool, true, false, cond, List, [], ◌∷◌, ◌++◌, is_none, IsTrue, ◌==◌, Some, None, Option, Less, sym, refl, ap, ◌∙◌}
use Rattle.erd_meaning.proofs.Common.{subst, inl, inr, true≢false, and_parts, and_from, tied_itself, bytes_eq-Decides, Data, family_number, ListsAll, place_cmp}
use Rattle.erd_meaning.proofs.Common.{Family, Role, Fault, Reason, DuplicateId, NoIdentifier, TwinIdentifier, Step, In, In-append_left, In-append_right}
use Rattle.erd_meaning.proofs.Common.{In-append, any_at, In-any, In-from_contains, contains_from_In, fault_at, has_keys, is_keyed_role, Preference, key_of}
use Rattle.erd_meaning.proofs.Common.{key_of_family_object, IdentityFault, LacksIdentifier, RepeatsId, RepeatsKey, Placed, elections, objects, has_several}
use Rattle.erd_meaning.proofs.Common.{objects_with_role, needs_key, id_of, kept, Met, an_object, an_election, Located, located_one, located_election}
use Rattle.erd_meaning.proofs.Common.{all_located, same_key, same_id, fault_if, is_keyless, are_twins, are_named_alike, faults_after, key_cmp_total}
use Rattle.erd_meaning.proofs.Common.{key_cmp_exact, Key, Equal-is, arith, Contains, role}
use Rattle.erd_meaning.proofs.identity.ObjectFamilies.{IsElectionMet, IsObjectMet, election_is_met, is_met, source, family_exact, itself}
use Rattle.erd_meaning.proofs.identity.ObjectPlaces.{all_parted, id_place}
use Rattle.erd_meaning.proofs.identity.ToldFaults.{Complete, Told, complete, duplicate_id, has_twin, in_if, is_named_before, no_identifier, told, told_rising}
use Rattle.erd_meaning.proofs.identity.ToldFaults.{told_sound, twin_identifier}

-- ---- what the tests of keys and `@id` texts that the walk makes say of one object or of two

keyed_at : (π : Preference) (d : Data) (k : Key) (b : Bool) → cond b (key_of π d) None ≡ Some k → (b ≡ true) × (key_of π d ≡ Some k)
keyed_at π d k true e = (refl, e)
keyed_at π d k false e = cc

pub kept_keyed : (π : Preference) (f : Family) (d : Data) (k : Key) → key_of_family_object π f d ≡ Some k → (has_keys f ≡ true) × (key_of π d ≡ Some k)
kept_keyed π f d k e = keyed_at π d k (has_keys f) e

pub none_from : {A : Type 0} (o : Option A) → is_none o ≡ true → o ≡ None
none_from o e = grind arith

-- the one key of two objects
pub same_key_from : (a b : Option Key) → same_key a b ≡ true → (k : Key) × (a ≡ Some k) × (b ≡ Some k)
same_key_from None b e = absurd (true≢false (sym e))
same_key_from (Some a) None e = absurd (true≢false (sym e))
same_key_from (Some a) (Some b) e = (a, refl, ap Some (sym (key_cmp_exact a b ((Equal-is _).0 e))))

pub same_id_from : (a b : Option (List ℕ)) → same_id a b ≡ true → (s : List ℕ) × (a ≡ Some s) × (b ≡ Some s)
same_id_from None b e = absurd (true≢false (sym e))
same_id_from (Some a) None e = absurd (true≢false (sym e))
same_id_from (Some a) (Some b) e = (a, refl, ap Some (sym ((bytes_eq-Decides a b).0 e)))

pub at_true : (b : Bool) (f : Fault) → b ≡ true → In f (fault_if b f)
at_true true f e = inl refl
at_true false f e = absurd (true≢false (sym e))

-- what is met of an object of a family, and of an election
abbrev object_here : Preference → Family → Placed → Met
object_here π f o = an_object (kept π f o)

abbrev election_here : Preference → Data → Placed → Met
election_here π t e = an_election (has_several t) (key_of π e.value)

-- what was met before a place
abbrev AreEarlier : Preference → Data → List Met → List Step → Type 0
AreEarlier π t before p = (m : Met) → In m before → (y : Located) × In y (all_located π t) × (y.met ≡ m) × (place_cmp y.place p ≡ Less)

earlier_place : (p : List Step) {x y : Located} → x ≡ y → place_cmp y.place p ≡ Less → place_cmp x.place p ≡ Less
earlier_place p {x} {y} e less = subst (λ q. place_cmp q p ≡ Less) (sym (ap (λ (z : Located). z.place) e)) less

-- ---- the facts of a fault, put together

pub lacks_identifier : (π : Preference) (t : Data) (r : Role) (o : Placed) → IsTrue (needs_key t r) → Contains (objects_with_role r t) o → key_of π o.value
    ≡ None → LacksIdentifier π t o.place
lacks_identifier π t r o needed stands keyless = record { role = r; needed = needed; placed = o; stands = stands; place = refl; keyless = keyless }

pub repeats_key : (π : Preference) (t : Data) (r : Role) (o p : Placed) (k : Key) → IsTrue (is_keyed_role r) → Contains (objects_with_role r t) o
    → Contains (objects_with_role r t) p → place_cmp p.place o.place ≡ Less → key_of π o.value ≡ Some k → key_of π p.value ≡ Some k → RepeatsKey π t o.place
repeats_key π t r o p k keyed i j less a b = record {
  role = r;
  keyed = keyed;
  later = o;
  later_stands = i;
  place = refl;
  earlier = p;
  earlier_stands = j;
  before = less;
  key = k;
  later_key = a;
  earlier_key = b;
}

pub repeats_id : (t : Data) (f g : Family) (o p : Placed) (id : List ℕ) → Contains (objects f t) o → Contains (objects g t) p → place_cmp p.place o.place ≡ Less
    → id_of o.value ≡ Some id → id_of p.value ≡ Some id → RepeatsId t (id_place o.place)
repeats_id t f g o p id i j less a b = record {
  family = f;
  later = o;
  later_stands = i;
  place = refl;
  earlier_family = g;
  earlier = p;
  earlier_stands = j;
  before = less;
  id = id;
  later_id = a;
  earlier_id = b;
}

-- ---- each fault that is told of an object is one

module _ (π : Preference) (t : Data) (f : Family) (o : Placed) (there : In o (objects f t)) where
  lacking : is_keyless (object_here π f o) ≡ true → LacksIdentifier π t o.place
  lacking e =
      let both = and_parts (has_keys f) (is_none (key_of_family_object π f o.value)) e in
      lacks_identifier π t (role.OfFamily f) o both.0 (contains_from_In o (objects f t) there)
      (none_from (key_of π o.value) (subst (λ b. is_none (cond b (key_of π o.value) None) ≡ true) both.0 both.1))

  twin_object : (y : Located) → IsObjectMet π t y → place_cmp y.place o.place ≡ Less → are_twins (object_here π f o) y.met ≡ true → RepeatsKey π t o.place
  twin_object y other less e =
      let g = other.family in
      let twins : are_twins (object_here π f o) (object_here π g other.one) ≡ true = ap (λ (z : Located). are_twins (object_here π f o) z.met) other.is ∙ e in
      let both = and_parts (family_number f == family_number g) (same_key (key_of_family_object π f o.value) (key_of_family_object π g other.one.value))
      twins in
      let family : f ≡ g = family_exact f g both.0 in
      let key = same_key_from (key_of_family_object π f o.value) (key_of_family_object π g other.one.value) both.1 in
      let mine = kept_keyed π f o.value key.0 key.1 in
      let its = kept_keyed π g other.one.value key.0 key.2 in
      repeats_key π t (role.OfFamily f) o other.one key.0 mine.0 (contains_from_In o (objects f t) there)
      (contains_from_In other.one (objects f t) (subst (λ h. In other.one (objects h t)) (sym family) other.there))
      (earlier_place o.place other.is less) mine.1 its.1

  repeated_key : (before : List Met) → AreEarlier π t before o.place → has_twin before (object_here π f o) ≡ true → RepeatsKey π t o.place
  repeated_key before earlier e =
      let found = In-any (are_twins (object_here π f o)) before e in
      let met = earlier found.0 found.1 in
      let twins : are_twins (object_here π f o) met.0.met ≡ true = ap (are_twins (object_here π f o)) met.2 ∙ found.2 in
      elim (source π t met.0 met.1) [
        | inl other ↦ twin_object met.0 other met.3 twins
        | inr other ↦ absurd (true≢false (sym twins ∙ sym (ap (λ (z : Located). are_twins (object_here π f o) z.met) other.is)))
      ]

  named_object : (y : Located) → IsObjectMet π t y → place_cmp y.place o.place ≡ Less → are_named_alike (object_here π f o) y.met ≡ true
      → RepeatsId t (id_place o.place)
  named_object y other less e =
      let named : same_id (id_of o.value) (id_of other.one.value) ≡ true = ap (λ (z : Located). are_named_alike (object_here π f o) z.met) other.is ∙ e in
      let id = same_id_from (id_of o.value) (id_of other.one.value) named in
      repeats_id t f other.family o other.one id.0 (contains_from_In o (objects f t) there) (contains_from_In other.one (objects other.family t) other.there)
      (earlier_place o.place other.is less) id.1 id.2

  repeated_id : (before : List Met) → AreEarlier π t before o.place → is_named_before before (object_here π f o) ≡ true → RepeatsId t (id_place o.place)
  repeated_id before earlier e =
      let found = In-any (are_named_alike (object_here π f o)) before e in
      let met = earlier found.0 found.1 in
      let named : are_named_alike (object_here π f o) met.0.met ≡ true = ap (are_named_alike (object_here π f o)) met.2 ∙ found.2 in
      elim (source π t met.0 met.1) [
        | inl other ↦ named_object met.0 other met.3 named
        | inr other ↦ absurd (true≢false (sym named ∙ sym (ap (λ (z : Located). are_named_alike (object_here π f o) z.met) other.is)))
      ]

-- ---- each fault that is told of an election is one

module _ (π : Preference) (t : Data) (e : Placed) (there : In e (elections t)) where
  lacking_election : is_keyless (election_here π t e) ≡ true → LacksIdentifier π t e.place
  lacking_election h =
      let both = and_parts (has_several t) (is_none (key_of π e.value)) h in
      lacks_identifier π t role.Election e both.0 (contains_from_In e (elections t) there) (none_from (key_of π e.value) both.1)

  twin_election : (y : Located) → IsElectionMet π t y → place_cmp y.place e.place ≡ Less → are_twins (election_here π t e) y.met ≡ true → RepeatsKey π t e.place
  twin_election y other less h =
      let twins : same_key (key_of π e.value) (key_of π other.one.value) ≡ true = ap (λ (z : Located). are_twins (election_here π t e) z.met) other.is ∙ h in
      let key = same_key_from (key_of π e.value) (key_of π other.one.value) twins in
      repeats_key π t role.Election e other.one key.0 refl (contains_from_In e (elections t) there) (contains_from_In other.one (elections t) other.there)
      (earlier_place e.place other.is less) key.1 key.2

  repeated_election : (before : List Met) → AreEarlier π t before e.place → has_twin before (election_here π t e) ≡ true → RepeatsKey π t e.place
  repeated_election before earlier h =
      let found = In-any (are_twins (election_here π t e)) before h in
      let met = earlier found.0 found.1 in
      let twins : are_twins (election_here π t e) met.0.met ≡ true = ap (are_twins (election_here π t e)) met.2 ∙ found.2 in
      elim (source π t met.0 met.1) [
        | inl other ↦ absurd (true≢false (sym twins ∙ sym (ap (λ (z : Located). are_twins (election_here π t e) z.met) other.is)))
        | inr other ↦ twin_election met.0 other met.3 twins
      ]

none_named_before : (b : Bool) (key : Option Key) (before : List Met) → is_named_before before (an_election b key) ≡ false
none_named_before b key [] = refl
none_named_before b key (m ∷ ms) = none_named_before b key ms

-- ---- each fault that is told is one

-- a fault of what is met at a place is one of three
told_one : (π : Preference) (t : Data) (p : List Step) (m : Met) (before : List Met) (f : Fault)
    → (is_keyless m ≡ true → LacksIdentifier π t p) → (has_twin before m ≡ true → RepeatsKey π t p)
    → (is_named_before before m ≡ true → RepeatsId t (id_place p)) → In f (faults_after before p m) → IdentityFault π t f.place f.reason
told_one π t p m before f lacks twin named i =
    let a = is_keyless m in
    let b = has_twin before m in
    let c = is_named_before before m in
    let fact = λ (g : Fault). IdentityFault π t g.place g.reason in
    elim (In-append f (no_identifier a p) (twin_identifier b p ++ duplicate_id c p) i) [
      | inl j ↦ let e = in_if a (fault_at p NoIdentifier) f j in subst fact e.1 (lacks e.0)
      | inr j ↦ elim (In-append f (twin_identifier b p) (duplicate_id c p) j) [
        | inl k ↦ let e = in_if b (fault_at p TwinIdentifier) f k in subst fact e.1 (twin e.0)
        | inr k ↦ let e = in_if c (fault_at (id_place p) DuplicateId) f k in subst fact e.1 (named e.0)
      ]
    ]

of_object : (π : Preference) (t : Data) (x : Located) (before : List Met) (f : Fault) → AreEarlier π t before x.place → In f (faults_after before x.place x.met)
    → IsObjectMet π t x → IdentityFault π t f.place f.reason
of_object π t x before f earlier i is =
    let o = is.one in
    let g = is.family in
    let before_it : AreEarlier π t before o.place = subst (λ (y : Located). AreEarlier π t before y.place) (sym is.is) earlier in
    told_one π t o.place (object_here π g o) before f (lacking π t g o is.there) (repeated_key π t g o is.there before before_it)
    (repeated_id π t g o is.there before before_it)
    (subst (λ (y : Located). In f (faults_after before y.place y.met)) (sym is.is) i)

of_election : (π : Preference) (t : Data) (x : Located) (before : List Met) (f : Fault) → AreEarlier π t before x.place
    → In f (faults_after before x.place x.met) → IsElectionMet π t x → IdentityFault π t f.place f.reason
of_election π t x before f earlier i is =
    let e = is.one in
    let before_it : AreEarlier π t before e.place = subst (λ (y : Located). AreEarlier π t before y.place) (sym is.is) earlier in
    told_one π t e.place (election_here π t e) before f (lacking_election π t e is.there) (repeated_election π t e is.there before before_it)
    (λ h. absurd (true≢false (sym h ∙ none_named_before (has_several t) (key_of π e.value) before)))
    (subst (λ (y : Located). In f (faults_after before y.place y.met)) (sym is.is) i)

of_told : (π : Preference) (t : Data) (f : Fault) → Told [] (all_located π t) f → IdentityFault π t f.place f.reason
of_told π t f told =
    let x = told.one in
    let earlier : AreEarlier π t told.before x.place = λ m i. elim (told.origin m i) [ inl h ↦ absurd h | inr h ↦ h ] in
    elim (source π t x told.there) [
      | inl is ↦ of_object π t x told.before f earlier told.fault is
      | inr is ↦ of_election π t x told.before f earlier told.fault is
    ]

-- ---- each fault is told

abbrev pub identity_told : Preference → Data → List Fault
identity_told π t = told [] (all_located π t)

abbrev Completed : Preference → Data → Located → Type 0
Completed π t x = Complete [] (all_located π t) x

completed : (π : Preference) (t : Data) (x : Located) → In x (all_located π t) → Completed π t x
completed π t x i = complete [] (all_located π t) x (all_parted π t) i

-- what holds of what is met is told
tells_lack : (π : Preference) (t : Data) (x : Located) → Completed π t x → is_keyless x.met ≡ true → In (fault_at x.place NoIdentifier) (identity_told π t)
tells_lack π t x c h =
    let fault = fault_at x.place NoIdentifier in
    c.tells fault
    (In-append_left fault (no_identifier (is_keyless x.met) x.place)
    (twin_identifier (has_twin c.before x.met) x.place ++ duplicate_id (is_named_before c.before x.met) x.place) (at_true (is_keyless x.met) fault h))

tells_twin : (π : Preference) (t : Data) (x y : Located) → Completed π t x → In y (all_located π t) → place_cmp y.place x.place ≡ Less
    → are_twins x.met y.met ≡ true → In (fault_at x.place TwinIdentifier) (identity_told π t)
tells_twin π t x y c i less twins =
    let fault = fault_at x.place TwinIdentifier in
    let twin = any_at (are_twins x.met) y.met c.before (c.covers y i less) twins in
    c.tells fault
    (In-append_right fault (no_identifier (is_keyless x.met) x.place)
    (twin_identifier (has_twin c.before x.met) x.place ++ duplicate_id (is_named_before c.before x.met) x.place)
    (In-append_left fault (twin_identifier (has_twin c.before x.met) x.place) (duplicate_id (is_named_before c.before x.met) x.place)
    (at_true (has_twin c.before x.met) fault twin)))

tells_name : (π : Preference) (t : Data) (x y : Located) → Completed π t x → In y (all_located π t) → place_cmp y.place x.place ≡ Less
    → are_named_alike x.met y.met ≡ true → In (fault_at (id_place x.place) DuplicateId) (identity_told π t)
tells_name π t x y c i less alike =
    let fault = fault_at (id_place x.place) DuplicateId in
    let named = any_at (are_named_alike x.met) y.met c.before (c.covers y i less) alike in
    c.tells fault
    (In-append_right fault (no_identifier (is_keyless x.met) x.place)
    (twin_identifier (has_twin c.before x.met) x.place ++ duplicate_id (is_named_before c.before x.met) x.place)
    (In-append_right fault (twin_identifier (has_twin c.before x.met) x.place) (duplicate_id (is_named_before c.before x.met) x.place)
    (at_true (is_named_before c.before x.met) fault named)))

lacking_told : (π : Preference) (t : Data) (r : Role) (o : Placed) → IsTrue (needs_key t r) → In o (objects_with_role r t) → key_of π o.value ≡ None
    → In (fault_at o.place NoIdentifier) (identity_told π t)
lacking_told π t (role.OfFamily f) o needed i keyless =
    let missing : key_of_family_object π f o.value ≡ None = rw (needed, keyless) in
    tells_lack π t (located_one π f o) (completed π t (located_one π f o) (is_met π t f o i))
    (and_from (has_keys f) (is_none (key_of_family_object π f o.value)) needed (ap is_none missing))
lacking_told π t role.Election o needed i keyless =
    let x = located_election π (has_several t) o in
    tells_lack π t x (completed π t x (election_is_met π t o i)) (and_from (has_several t) (is_none (key_of π o.value)) needed (ap is_none keyless))
lacking_told π t r o needed i keyless = absurd i

key_told : (π : Preference) (t : Data) (r : Role) (o p : Placed) (k : Key) → IsTrue (is_keyed_role r) → In o (objects_with_role r t)
    → In p (objects_with_role r t)
    → place_cmp p.place o.place ≡ Less → key_of π o.value ≡ Some k → key_of π p.value ≡ Some k → In (fault_at o.place TwinIdentifier) (identity_told π t)
key_told π t (role.OfFamily f) o p k keyed i j less a b =
    let mine : key_of_family_object π f o.value ≡ Some k = rw (keyed, a) in
    let its : key_of_family_object π f p.value ≡ Some k = rw (keyed, b) in
    let one : same_key (key_of_family_object π f o.value) (key_of_family_object π f p.value) ≡ true = rw (mine, its, tied_itself key_cmp_total k) in
    tells_twin π t (located_one π f o) (located_one π f p) (completed π t (located_one π f o) (is_met π t f o i)) (is_met π t f p j) less
    (and_from (family_number f == family_number f) (same_key (key_of_family_object π f o.value) (key_of_family_object π f p.value))
    (itself (family_number f)) one)
key_told π t role.Election o p k keyed i j less a b =
    let x = located_election π (has_several t) o in
    let y = located_election π (has_several t) p in
    let one : same_key (key_of π o.value) (key_of π p.value) ≡ true = rw (a, b, tied_itself key_cmp_total k) in
    tells_twin π t x y (completed π t x (election_is_met π t o i)) (election_is_met π t p j) less one
key_told π t r o p k keyed i j less a b = absurd i

id_told : (π : Preference) (t : Data) (p : List Step) → RepeatsId t p → In (fault_at p DuplicateId) (identity_told π t)
id_told π t p h =
    let x = located_one π h.family h.later in
    let y = located_one π h.earlier_family h.earlier in
    let one : same_id (id_of h.later.value) (id_of h.earlier.value) ≡ true = rw (h.later_id, h.earlier_id, (bytes_eq-Decides h.id h.id).1 refl) in
    subst (λ q. In (fault_at q DuplicateId) (identity_told π t)) (sym h.place)
    (tells_name π t x y (completed π t x (is_met π t h.family h.later (In-from_contains h.later (objects h.family t) h.later_stands)))
    (is_met π t h.earlier_family h.earlier (In-from_contains h.earlier (objects h.earlier_family t) h.earlier_stands)) h.before one)

told_of_reason : (π : Preference) (t : Data) (p : List Step) (r : Reason) → IdentityFault π t p r → In (fault_at p r) (identity_told π t)
told_of_reason π t p NoIdentifier h =
    subst (λ q. In (fault_at q NoIdentifier) (identity_told π t)) (sym h.place)
    (lacking_told π t h.role h.placed h.needed (In-from_contains h.placed (objects_with_role h.role t) h.stands) h.keyless)
told_of_reason π t p TwinIdentifier h =
    subst (λ q. In (fault_at q TwinIdentifier) (identity_told π t)) (sym h.place)
    (key_told π t h.role h.later h.earlier h.key h.keyed (In-from_contains h.later (objects_with_role h.role t) h.later_stands)
    (In-from_contains h.earlier (objects_with_role h.role t) h.earlier_stands) h.before h.later_key h.earlier_key)
told_of_reason π t p DuplicateId h = id_told π t p h
told_of_reason π t p r h = absurd h

pub identity_listed : (π : Preference) (t : Data) → ListsAll (IdentityFault π t) (identity_told π t)
identity_listed π t = record {
  rising = told_rising [] (all_located π t) (all_parted π t);
  each = λ f. (
    λ h. of_told π t f (told_sound [] (all_located π t) f (all_parted π t) (In-from_contains f (identity_told π t) h)),
    λ h. contains_from_In f (identity_told π t) (told_of_reason π t f.place f.reason h),
  );
}
