-- When two reports mean the same: the report, and the election and the object of each key, mean the same.
use Rattle.erd_meaning.proofs.Common.{◌≡◌, ℕ, zero, suc, Bool, true, false, not, ◌&&◌, List, [], ◌∷◌, ◌++◌, map, is_some, Some, None, Contains, filter, Option}
use Rattle.erd_meaning.proofs.Common.{option_map, find, option_and_then, bytes_eq, is_eq, Ordering, unwrap_or, sym, refl, ap, ◌∙◌, subst, ap₂, true≢false}
use Rattle.erd_meaning.proofs.Common.{arith, fun_ext, and_parts, or_parts, or_from, bytes_eq-Decides, list_any, option_cmp, ⊤, Data, null, get, Class, Family}
use Rattle.erd_meaning.proofs.Common.{family, Role, role, class_of_object, has_keys, key_cmp, Preference, key_of, election_key_of, Record, NameParts, Placed}
use Rattle.erd_meaning.proofs.Common.{report_of, elections, objects, meaning, plain_member, record_with, selection_record, selection_map, member_of_class}
use Rattle.erd_meaning.proofs.Common.{object_record, record_in_election, placed_record, placed_with_key, records_of, election_records, selection_role, name_of}
use Rattle.erd_meaning.proofs.Common.{name_cmp, Key, inl, inr, cases_Bool}
use Rattle.std.proofs.lemmas.List.Folds.{list_any-append}
use Rattle.erd_meaning.proofs.rising.DistinctEntries.{options_exact, equal_keys, equal_names}
use Rattle.erd_meaning.proofs.meanings.WholeRecords.{names_in, absent_member, absent_plain, same_at_every_name, same_at_other_names}

-- ---- members

abbrev pub names_of_both : Data → Data → List (List ℕ)
names_of_both d e = names_in d ++ names_in e

-- these names without one of them
abbrev pub but_one : List ℕ → List (List ℕ) → List (List ℕ)
but_one one names = filter (λ n. not (bytes_eq n one)) names

in_neither : (d e : Data) (name : List ℕ) → list_any (bytes_eq name) (names_of_both d e) ≡ false → (list_any (bytes_eq name) (names_in d) ≡ false)
    × (list_any (bytes_eq name) (names_in e) ≡ false)
in_neither d e name h =
    or_parts (list_any (bytes_eq name) (names_in d)) (list_any (bytes_eq name) (names_in e))
    (sym (list_any-append (bytes_eq name) (names_in d) (names_in e)) ∙ h)

outside : (name one : List ℕ) (names : List (List ℕ)) → bytes_eq name one ≡ false → list_any (bytes_eq name) (but_one one names) ≡ false
    → list_any (bytes_eq name) names ≡ false
outside name one [] other h = refl
outside name one (n ∷ ns) other h = elim (cases_Bool (bytes_eq n one)) [
  | inl is ↦ or_from (bytes_eq name n) _ (ap (bytes_eq name) ((bytes_eq-Decides n one).0 is) ∙ other) (outside name one ns other (rw is at h))
  | inr is ↦ let both = or_parts (bytes_eq name n) _ (rw is at h) in or_from (bytes_eq name n) _ both.0 (outside name one ns other both.1)
]

-- a map from the names of an object: it has nothing where the object has no member
abbrev pub IsOfMembers : {V : Type 0} → Data → (List ℕ → Option V) → Type 0
IsOfMembers d f = (name : List ℕ) → get name d ≡ None → f name ≡ None

-- two objects mean the same at every name, if they do at those that either has
pub same_members : {V : Type 0} (f g : List ℕ → Option V) (d e : Data) → IsOfMembers d f → IsOfMembers e g → map f (names_of_both d e)
    ≡ map g (names_of_both d e) → f ≡ g
same_members f g d e no_f no_g agree =
    same_at_every_name f g d e (names_of_both d e) no_f no_g (λ name h. (in_neither d e name h).0) (λ name h. (in_neither d e name h).1) agree

-- the same but for one name
pub same_but_one : {V : Type 0} (f g : List ℕ → Option V) (d e : Data) (one : List ℕ) → IsOfMembers d f → IsOfMembers e g
    → map f (but_one one (names_of_both d e)) ≡ map g (but_one one (names_of_both d e)) → (name : List ℕ) → bytes_eq name one ≡ false → f name ≡ g name
same_but_one f g d e one no_f no_g agree =
    same_at_other_names f g d e (but_one one (names_of_both d e)) one no_f no_g
    (λ name other h. (in_neither d e name (outside name one (names_of_both d e) other h)).0)
    (λ name other h. (in_neither d e name (outside name one (names_of_both d e) other h)).1) agree

-- and at that name too
pub same_with_one : {V : Type 0} (f g : List ℕ → Option V) (d e : Data) (one : List ℕ) → IsOfMembers d f → IsOfMembers e g
    → map f (but_one one (names_of_both d e)) ≡ map g (but_one one (names_of_both d e)) → f one ≡ g one → f ≡ g
same_with_one f g d e one no_f no_g agree at_one =
    fun_ext (λ name. elim (cases_Bool (bytes_eq name one)) [
      | inl is ↦ subst (λ n. f n ≡ g n) (sym ((bytes_eq-Decides name one).0 is)) at_one
      | inr is ↦ same_but_one f g d e one no_f no_g agree name is
    ])

-- ---- objects

abbrev made_with : {V : Type 0} → (Class → List ℕ → Option V) → Class → Record V
made_with members_of c = record { class = c; members = members_of c }

abbrev pub record_of_members : {V : Type 0} → Class → (List ℕ → Option V) → Option (Record V)
record_of_members c members = Some (record { class = c; members = members })

same_record : {V : Type 0} (f g : Class → List ℕ → Option V) (r : Role) (d e : Data) (c : Class) → class_of_object r d ≡ Some c
    → class_of_object r e ≡ Some c → f c ≡ g c → record_with f r d ≡ record_with g r e
same_record f g r d e c left right same = ap (option_map (made_with f)) left ∙ (ap (record_of_members c) same ∙ sym (ap (option_map (made_with g)) right))

-- two objects of one class mean the same, if they do at the names that either has
pub same_object : (π : Preference) (t u d e : Data) (r : Role) (c : Class) → class_of_object r d ≡ Some c → class_of_object r e ≡ Some c
    → map (member_of_class π t d c) (names_of_both d e) ≡ map (member_of_class π u e c) (names_of_both d e) → object_record π t r d ≡ object_record π u r e
same_object π t u d e r c left right agree =
    same_record (member_of_class π t d) (member_of_class π u e) r d e c left right
    (same_members (member_of_class π t d c) (member_of_class π u e c) d e (absent_member π t d c) (absent_member π u e c) agree)

-- the same, where one member is shown apart
pub same_object_with : (π : Preference) (t u d e : Data) (r : Role) (c : Class) (one : List ℕ) → class_of_object r d ≡ Some c → class_of_object r e ≡ Some c
    → map (member_of_class π t d c) (but_one one (names_of_both d e)) ≡ map (member_of_class π u e c) (but_one one (names_of_both d e))
    → member_of_class π t d c one ≡ member_of_class π u e c one → object_record π t r d ≡ object_record π u r e
same_object_with π t u d e r c one left right agree at_one =
    same_record (member_of_class π t d) (member_of_class π u e) r d e c left right
    (same_with_one (member_of_class π t d c) (member_of_class π u e c) d e one (absent_member π t d c) (absent_member π u e c) agree at_one)

-- two selections of one class, where one member is shown apart
pub same_selection_with : (π : Preference) (t u d e : Data) (c : Class) (one : List ℕ) → class_of_object selection_role d ≡ Some c
    → class_of_object selection_role e ≡ Some c
    → map (plain_member π t d c) (but_one one (names_of_both d e)) ≡ map (plain_member π u e c) (but_one one (names_of_both d e))
    → plain_member π t d c one ≡ plain_member π u e c one → selection_record π t d ≡ selection_record π u e
same_selection_with π t u d e c one left right agree at_one =
    same_record (plain_member π t d) (plain_member π u e) selection_role d e c left right
    (same_with_one (plain_member π t d c) (plain_member π u e c) d e one (absent_plain π t d c) (absent_plain π u e c) agree at_one)

-- ---- keys and names

-- two maps agree at each of these keys
abbrev pub AgreeAt : {K V : Type 0} → (K → V) → (K → V) → List K → Type 0
AgreeAt f g [] = ⊤
AgreeAt f g (k ∷ ks) = (f k ≡ g k) × AgreeAt f g ks

agree_at : {K V : Type 0} (same : K → K → Bool) (equal : (k l : K) → same k l ≡ true → k ≡ l) (f g : K → V) (keys : List K) (k : K) → AgreeAt f g keys
    → list_any (λ l. same l k) keys ≡ true → f k ≡ g k
agree_at same equal f g [] k agree among = absurd (true≢false (sym among))
agree_at same equal f g (l ∷ ls) k agree among =
    elim (cases_Bool (same l k)) [ inl is ↦ subst (λ q. f q ≡ g q) (equal l k is) agree.0 | inr is ↦ agree_at same equal f g ls k agree.1 (rw is at among) ]

-- two maps that agree at these keys, and have nothing at any other, are equal at each key
pub same_at_every : {K V : Type 0} (same : K → K → Bool) (equal : (k l : K) → same k l ≡ true → k ≡ l) (f g : K → Option V) (keys : List K) → AgreeAt f g keys
    → ((k : K) → list_any (λ l. same l k) keys ≡ false → f k ≡ None) → ((k : K) → list_any (λ l. same l k) keys ≡ false → g k ≡ None) → (k : K) → f k ≡ g k
same_at_every same equal f g keys agree no_f no_g k =
    elim (cases_Bool (list_any (λ l. same l k) keys)) [ inl is ↦ agree_at same equal f g keys k agree is | inr is ↦ no_f k is ∙ sym (no_g k is) ]

-- some key of the list is equal to this one
abbrev pub is_key_in : List Key → Key → Bool
is_key_in keys k = list_any (λ l. is_eq (key_cmp l k)) keys

-- the same by keys
pub same_at_every_key : {V : Type 0} (f g : Key → Option V) (keys : List Key) → AgreeAt f g keys
    → ((k : Key) → is_key_in keys k ≡ false → f k ≡ None) → ((k : Key) → is_key_in keys k ≡ false → g k ≡ None) → (k : Key) → f k ≡ g k
same_at_every_key f g keys agree no_f no_g k = same_at_every (λ l k. is_eq (key_cmp l k)) equal_keys f g keys agree no_f no_g k

-- each of the later values is among the earlier ones
abbrev pub AreAmong : {A : Type 0} → List A → List A → Type 0
AreAmong xs [] = ⊤
AreAmong xs (y ∷ ys) = Contains xs y × AreAmong xs ys

failed : {A : Type 0} (test : A → Bool) (xs : List A) (x : A) → list_any test xs ≡ false → Contains xs x → test x ≡ false
failed test [] x h (k, low, is) = absurd (omega arith)
failed test (y ∷ ys) x h (zero, low, is) = subst (λ z. test z ≡ false) is (or_parts (test y) _ h).0
failed test (y ∷ ys) x h (suc k, low, is) = failed test ys x (or_parts (test y) _ h).1 (k, omega arith, is)

-- what none of the earlier values passes, none of the later does
pub none_among : {A : Type 0} (test : A → Bool) (xs ys : List A) → AreAmong xs ys → list_any test xs ≡ false → list_any test ys ≡ false
none_among test xs [] among h = refl
none_among test xs (y ∷ ys) among h = or_from (test y) _ (failed test xs y h among.0) (none_among test xs ys among.1 h)

-- where these are the keys of a list, one of its values has a key exactly if the key is among them
pub looked_for : {A K : Type 0} (cmp : K → K → Ordering) (key : A → Option K) (xs : List A) (keys : List K) → map key xs ≡ map Some keys → (k : K)
    → list_any (λ x. is_eq (option_cmp cmp (key x) (Some k))) xs ≡ list_any (λ l. is_eq (cmp l k)) keys
looked_for cmp key [] [] e k = refl
looked_for cmp key (x ∷ xs) (l ∷ ls) e k =
    let first : key x ≡ Some l = cc in let rest : map key xs ≡ map Some ls = cc in
    rw (first, looked_for cmp key xs ls rest k)
looked_for cmp key xs keys e k = absurd (cc e)

-- the values of the one list have the keys of the other, in order
abbrev pub have_keys : {A K : Type 0} → (K → K → Ordering) → (A → Option K) → List A → List K → Bool
have_keys cmp key [] [] = true
have_keys cmp key (x ∷ xs) (k ∷ ks) = is_eq (option_cmp cmp (key x) (Some k)) && have_keys cmp key xs ks
have_keys cmp key xs ks = false

pub keys_had : {A K : Type 0} (cmp : K → K → Ordering) → ((a b : K) → is_eq (cmp a b) ≡ true → a ≡ b) → (key : A → Option K) (xs : List A) (keys : List K)
    → have_keys cmp key xs keys ≡ true → map key xs ≡ map Some keys
keys_had cmp exact key [] [] h = refl
keys_had cmp exact key (x ∷ xs) (k ∷ ks) h =
    let both = and_parts (is_eq (option_cmp cmp (key x) (Some k))) _ h in
    let first : key x ≡ Some k = options_exact cmp exact (key x) (Some k) both.0 in
    let rest : map key xs ≡ map Some ks = keys_had cmp exact key xs ks both.1 in cc
keys_had cmp exact key xs keys h = absurd (cc h)

-- the object has this key
abbrev pub has_key : Preference → Key → Placed → Bool
has_key π k o = is_eq (option_cmp key_cmp (key_of π o.value) (Some k))

none_found : {A : Type 0} (test : A → Bool) (xs : List A) → list_any test xs ≡ false → find test xs ≡ None
none_found test [] h = refl
none_found test (x ∷ xs) h = let both = or_parts (test x) (list_any test xs) h in rw (both.0, none_found test xs both.1)

-- a family means nothing at a key that none of its objects has
pub no_record : (π : Preference) (t : Data) (f : Family) (k : Key) → list_any (has_key π k) (objects f t) ≡ false → records_of π t f k ≡ None
no_record π t family.Selection k h = refl
no_record π t f k h = ap (option_and_then (placed_record π t f)) (none_found (has_key π k) (objects f t) h)

-- the object of the family with this key, and its place, or nothing at the root
abbrev pub object_with_key : Preference → Data → Family → Key → Placed
object_with_key π t f k = unwrap_or (placed_with_key π t f k) (report_of null)

abbrev pub value_with_key : Preference → Data → Family → Key → Data
value_with_key π t f k = (object_with_key π t f k).value

one_found : {A : Type 0} (o : Option A) (other : A) → is_some o ≡ true → o ≡ Some (unwrap_or o other)
one_found o other h = grind arith

record_with_key : (π : Preference) (t : Data) (f : Family) (k : Key) → has_keys f ≡ true → is_some (placed_with_key π t f k) ≡ true → records_of π t f k
    ≡ placed_record π t f (object_with_key π t f k)
record_with_key π t family.Selection k keyed h = absurd (cc keyed)
record_with_key π t f k keyed h = ap (option_and_then (placed_record π t f)) (one_found (placed_with_key π t f k) (report_of null) h)

-- the key of the election that holds the object with this key
abbrev pub election_with : Preference → Data → Family → Key → Option Key
election_with π t f k = election_key_of π t (object_with_key π t f k)

-- the objects of one key mean the same in both reports, and are held by elections with one key
pub same_with_key : (π : Preference) (t u : Data) (f : Family) (k : Key) → has_keys f ≡ true → is_some (placed_with_key π t f k) ≡ true
    → is_some (placed_with_key π u f k) ≡ true → election_with π t f k ≡ election_with π u f k
    → object_record π t (role.OfFamily f) (value_with_key π t f k) ≡ object_record π u (role.OfFamily f) (value_with_key π u f k)
    → records_of π t f k ≡ records_of π u f k
same_with_key π t u f k keyed left right held same =
    record_with_key π t f k keyed left ∙ (ap₂ (λ e r. option_map (record_in_election e) r) held same ∙ sym (record_with_key π u f k keyed right))

-- both reports have an object of this key and class, with the same members
abbrev pub ObjectsAgree : Preference → Data → Data → Family → Key → Class → Type 0
ObjectsAgree π t u f k c =
    let d = value_with_key π t f k in let e = value_with_key π u f k in
    (is_some (placed_with_key π t f k) ≡ true) × (is_some (placed_with_key π u f k) ≡ true) × (election_with π t f k ≡ election_with π u f k)
    × (class_of_object (role.OfFamily f) d ≡ Some c) × (class_of_object (role.OfFamily f) e ≡ Some c)
    × (map (member_of_class π t d c) (names_of_both d e) ≡ map (member_of_class π u e c) (names_of_both d e))

pub same_at_key : (π : Preference) (t u : Data) (f : Family) (k : Key) (c : Class) → has_keys f ≡ true → ObjectsAgree π t u f k c
    → records_of π t f k ≡ records_of π u f k
same_at_key π t u f k c keyed agree =
    same_with_key π t u f k keyed agree.0 agree.1 agree.2 (same_object π t u (value_with_key π t f k) (value_with_key π u f k) (role.OfFamily f) c
    agree.3 agree.4 agree.5)

-- the same members but for one
abbrev pub ObjectsAgreeButOne : Preference → Data → Data → Family → Key → Class → List ℕ → Type 0
ObjectsAgreeButOne π t u f k c one =
    let d = value_with_key π t f k in let e = value_with_key π u f k in
    (is_some (placed_with_key π t f k) ≡ true) × (is_some (placed_with_key π u f k) ≡ true) × (election_with π t f k ≡ election_with π u f k)
    × (class_of_object (role.OfFamily f) d ≡ Some c) × (class_of_object (role.OfFamily f) e ≡ Some c)
    × (map (member_of_class π t d c) (but_one one (names_of_both d e)) ≡ map (member_of_class π u e c) (but_one one (names_of_both d e)))

abbrev pub SameMember : Preference → Data → Data → Family → Key → Class → List ℕ → Type 0
SameMember π t u f k c one = member_of_class π t (value_with_key π t f k) c one ≡ member_of_class π u (value_with_key π u f k) c one

pub same_at_key_with : (π : Preference) (t u : Data) (f : Family) (k : Key) (c : Class) (one : List ℕ) → has_keys f ≡ true → ObjectsAgreeButOne π t u f k c one
    → SameMember π t u f k c one → records_of π t f k ≡ records_of π u f k
same_at_key_with π t u f k c one keyed agree at_one =
    same_with_key π t u f k keyed agree.0 agree.1 agree.2 (same_object_with π t u (value_with_key π t f k) (value_with_key π u f k) (role.OfFamily f) c one
    agree.3 agree.4 agree.5 at_one)

-- the keys of the objects of a family, in their order
abbrev pub HaveKeys : Preference → Data → Family → List Key → Type 0
HaveKeys π t f keys = map (λ o. key_of π o.value) (objects f t) ≡ map Some keys

pub keys_of_family : (π : Preference) (t : Data) (f : Family) (keys : List Key) → have_keys key_cmp (λ o. key_of π o.value) (objects f t) keys
    ≡ true → HaveKeys π t f keys
keys_of_family π t f keys h = keys_had key_cmp equal_keys (λ o. key_of π o.value) (objects f t) keys h

-- a family means nothing at a key that is not among those of its objects
pub nothing_at : (π : Preference) (t : Data) (f : Family) (keys : List Key) (k : Key) → HaveKeys π t f keys → is_key_in keys k ≡ false
    → records_of π t f k ≡ None
nothing_at π t f keys k have h = no_record π t f k (looked_for key_cmp (λ o. key_of π o.value) (objects f t) keys have k ∙ h)

-- a family means the same in both reports, if its keys stand in any order and the object of each means the same
pub same_family : (π : Preference) (t u : Data) (f : Family) (keys others : List Key) → HaveKeys π t f keys → HaveKeys π u f others → AreAmong keys others
    → AgreeAt (records_of π t f) (records_of π u f) keys
    → (k : Key) → records_of π t f k ≡ records_of π u f k
same_family π t u f keys others have have_others among agree =
    same_at_every_key (records_of π t f) (records_of π u f) keys agree (λ k h. nothing_at π t f keys k have h)
    (λ k h. nothing_at π u f others k have_others (none_among (λ l. is_eq (key_cmp l k)) keys others among h))

-- the selection has this name
abbrev pub has_name : Preference → Data → NameParts → Data → Bool
has_name π t n d = is_eq (option_cmp name_cmp (name_of π t d) (Some n))

abbrev pub selection_with_name : Preference → Data → List Data → NameParts → Data
selection_with_name π t ds n = unwrap_or (find (has_name π t n) ds) null

-- the selections of one name mean the same in both
pub same_with_name : (π : Preference) (t u : Data) (ds es : List Data) (n : NameParts) → is_some (find (has_name π t n) ds) ≡ true
    → is_some (find (has_name π u n) es) ≡ true
    → selection_record π t (selection_with_name π t ds n) ≡ selection_record π u (selection_with_name π u es n) → selection_map π t ds n
    ≡ selection_map π u es n
same_with_name π t u ds es n left right same =
    ap (option_and_then (selection_record π t)) (one_found (find (has_name π t n) ds) null left)
    ∙ (same ∙ sym (ap (option_and_then (selection_record π u)) (one_found (find (has_name π u n) es) null right)))

-- both have a selection of this name and class, with the same members but for one
abbrev pub SelectionsAgreeButOne : Preference → Data → Data → List Data → List Data → NameParts → Class → List ℕ → Type 0
SelectionsAgreeButOne π t u ds es n c one =
    let d = selection_with_name π t ds n in let e = selection_with_name π u es n in
    (is_some (find (has_name π t n) ds) ≡ true) × (is_some (find (has_name π u n) es) ≡ true)
    × (class_of_object selection_role d ≡ Some c) × (class_of_object selection_role e ≡ Some c)
    × (map (plain_member π t d c) (but_one one (names_of_both d e)) ≡ map (plain_member π u e c) (but_one one (names_of_both d e)))

pub same_at_name : (π : Preference) (t u : Data) (ds es : List Data) (n : NameParts) (c : Class) (one : List ℕ) → SelectionsAgreeButOne π t u ds es n c one
    → plain_member π t (selection_with_name π t ds n) c one ≡ plain_member π u (selection_with_name π u es n) c one → selection_map π t ds n
    ≡ selection_map π u es n
same_at_name π t u ds es n c one agree at_one =
    same_with_name π t u ds es n agree.0 agree.1 (same_selection_with π t u (selection_with_name π t ds n) (selection_with_name π u es n) c one agree.2
    agree.3 agree.4 at_one)

-- the names of selections, in their order
abbrev pub HaveNames : Preference → Data → List Data → List NameParts → Type 0
HaveNames π t ds names = map (name_of π t) ds ≡ map Some names

pub names_of_selections : (π : Preference) (t : Data) (ds : List Data) (names : List NameParts) → have_keys name_cmp (name_of π t) ds names ≡ true
    → HaveNames π t ds names
names_of_selections π t ds names h = keys_had name_cmp equal_names (name_of π t) ds names h

-- two maps of selections are equal, if their names stand in any order and the selection of each means the same
pub same_selections : (π : Preference) (t u : Data) (ds es : List Data) (names others : List NameParts) → HaveNames π t ds names → HaveNames π u es others
    → AreAmong names others → AgreeAt (selection_map π t ds) (selection_map π u es) names → selection_map π t ds ≡ selection_map π u es
same_selections π t u ds es names others have have_others among agree =
    fun_ext (same_at_every (λ m n. is_eq (name_cmp m n)) equal_names (selection_map π t ds) (selection_map π u es) names agree
    (λ n h. ap (option_and_then (selection_record π t)) (none_found (has_name π t n) ds (looked_for name_cmp (name_of π t) ds names have n ∙ h)))
    (λ n h. ap (option_and_then (selection_record π u)) (none_found (has_name π u n) es
    (looked_for name_cmp (name_of π u) es others have_others n ∙ none_among (λ m. is_eq (name_cmp m n)) names others among h))))

-- ---- elections

-- the election has this key, or none
abbrev pub election_has_key : Preference → Option Key → Placed → Bool
election_has_key π k e = is_eq (option_cmp key_cmp (key_of π e.value) k)

-- reports of one election mean the same there, if the two have one key and mean the same
pub same_sole_election : (π ρ : Preference) (t u : Data) (d e : Placed) → elections t ≡ d ∷ [] → elections u ≡ e ∷ [] → key_of π d.value ≡ key_of ρ e.value
    → object_record π t role.Election d.value ≡ object_record ρ u role.Election e.value → (k : Option Key) → election_records π t k ≡ election_records ρ u k
same_sole_election π ρ t u d e left right keys same k =
    ap (λ es. option_and_then (λ e. object_record π t role.Election e.value) (find (election_has_key π k) es)) left
    ∙ (at (election_has_key π k d) refl (election_has_key ρ k e) (ap (λ l. is_eq (option_cmp key_cmp l k)) (sym keys))
    ∙ sym (ap (λ es. option_and_then (λ e. object_record ρ u role.Election e.value) (find (election_has_key ρ k) es)) right))
  where
    at : (b : Bool) → election_has_key π k d ≡ b → (c : Bool) → election_has_key ρ k e ≡ election_has_key π k d
        → option_and_then (λ e. object_record π t role.Election e.value) (find (election_has_key π k) (d ∷ []))
        ≡ option_and_then (λ e. object_record ρ u role.Election e.value) (find (election_has_key ρ k) (e ∷ []))
    at true is c also = let other : election_has_key ρ k e ≡ true = also ∙ is in rw (is, other) same
    at false is c also = let other : election_has_key ρ k e ≡ false = also ∙ is in rw (is, other) refl

-- ---- the whole

-- reports mean the same, if they do, and their elections and objects at each key
pub same_meaning : (π ρ : Preference) (t u : Data) → object_record π t role.Report t ≡ object_record ρ u role.Report u
    → ((k : Option Key) → election_records π t k ≡ election_records ρ u k)
    → ((f : Family) (k : Key) → records_of π t f k ≡ records_of ρ u f k) → meaning π t ≡ meaning ρ u
same_meaning π ρ t u report elections at_key =
    ap (λ x. record { report = x; elections = election_records π t; objects = records_of π t }) report
    ∙ (ap (λ x. record { report = object_record ρ u role.Report u; elections = x; objects = records_of π t }) (fun_ext elections)
    ∙ ap (λ x. record { report = object_record ρ u role.Report u; elections = election_records ρ u; objects = x }) (fun_ext (λ f. fun_ext (λ k. at_key f k))))
