-- The walk over the elections and the objects of a report, as lists: what it has met and told, and what it leaves.
use Rattle.erd_meaning.proofs.Common.{◌≡◌, Bool, false, ◌&&◌, ◌||◌, List, [], ◌∷◌, ◌++◌, map, is_none, Option, sym, refl, ap, ◌∙◌, ap₂, append_assoc}
use Rattle.erd_meaning.proofs.Common.{append-nil, filter_map-append, list_any, has_keys, Kept, Met, an_object, an_election, Located, object_met, election_met}
use Rattle.erd_meaning.proofs.Common.{objects_among, elections_among, same_key, has_same_key, has_same_id, faults_told, are_twins, are_named_alike}
use Rattle.erd_meaning.proofs.Common.{faults_after, ObjectsMet, met_one, met_all, Key, true, cond, Some, None, is_eq, key_cmp, AreSeen, is_seen, seen_with}
use Rattle.erd_meaning.proofs.Common.{key_cmp_exact, Equal-is, or-false, list_any-append, arith, length, subst, Data, ListsAll, Fault, none_from_empty, NoneOf}
use Rattle.erd_meaning.proofs.Common.{Preference, IdentityFault, all_located, kept_objects, election_keys, shown, met_of}
use Rattle.erd_meaning.proofs.identity.ToldFaults.{told}
use Rattle.erd_meaning.specs.code.ObjectWalk.{nothing_met}
use Rattle.erd_meaning.specs.declared.objects.filled.Tables.{Tables}
use Rattle.erd_meaning.proofs.identity.IdentityFaults.{identity_listed}
use Rattle.erd_meaning.proofs.identity.ObjectFamilies.{election_keys_met}

-- ---- what has been met

-- the objects and the keys of the elections are those that were met
record AreAmong (m : ObjectsMet) (earlier : List Met) : Type 0 where
  objects : m.objects ≡ objects_among earlier
  elections : m.elections ≡ elections_among earlier

-- ---- the tests of what is met

any_object : (test : Kept → Bool) (both : Met → Bool) → ((k : Kept) → both (an_object k) ≡ test k)
    → ((b : Bool) (key : Option Key) → both (an_election b key) ≡ false)
    → (ms : List Met) → list_any both ms ≡ list_any test (objects_among ms)
any_object test both objects elections [] = refl
any_object test both objects elections (an_object k ∷ ms) = ap₂ ◌||◌ (objects k) (any_object test both objects elections ms)
any_object test both objects elections (an_election b key ∷ ms) = ap (λ c. c || list_any both ms) (elections b key) ∙ any_object test both objects elections ms

twin_elections : (b : Bool) (key : Option Key) (ms : List Met) → list_any (are_twins (an_election b key)) ms ≡ list_any (same_key key) (elections_among ms)
twin_elections b key [] = refl
twin_elections b key (an_object k ∷ ms) = twin_elections b key ms
twin_elections b key (an_election c l ∷ ms) = ap (λ d. same_key key l || d) (twin_elections b key ms)

none_named : (b : Bool) (key : Option Key) (ms : List Met) → list_any (are_named_alike (an_election b key)) ms ≡ false
none_named b key [] = refl
none_named b key (m ∷ ms) = none_named b key ms

faults_are : (m : ObjectsMet) (earlier : List Met) (x : Located) → AreAmong m earlier → (met_one m x).faults ≡ m.faults ++ faults_after earlier x.place x.met
faults_are m earlier x is = at x.met
  where
    at : (y : Met) → (met_one m record { place = x.place; met = y }).faults ≡ m.faults ++ faults_after earlier x.place y
    at (an_object k) =
        ap₂ (λ b c. m.faults ++ faults_told (has_keys k.family && is_none k.key) b c x.place)
        (ap (list_any (has_same_key k)) is.objects ∙ sym (any_object (has_same_key k) (are_twins (an_object k)) (λ j. refl) (λ b key. refl) earlier))
        (ap (list_any (has_same_id k)) is.objects ∙ sym (any_object (has_same_id k) (are_named_alike (an_object k)) (λ j. refl) (λ b key. refl) earlier))
    at (an_election b key) =
        ap₂ (λ c d. m.faults ++ faults_told (b && is_none key) c d x.place)
        (ap (list_any (same_key key)) is.elections ∙ sym (twin_elections b key earlier)) (sym (none_named b key earlier))

one_more : (m : ObjectsMet) (earlier : List Met) (x : Located) → AreAmong m earlier → AreAmong (met_one m x) (earlier ++ x.met ∷ [])
one_more m earlier x is = at x.met
  where
    at : (y : Met) → AreAmong (met_one m record { place = x.place; met = y }) (earlier ++ y ∷ [])
    at (an_object k) = record {
      objects = ap (λ ks. ks ++ k ∷ []) is.objects ∙ sym (filter_map-append object_met earlier (an_object k ∷ []));
      elections = is.elections ∙ sym (append-nil (elections_among earlier)) ∙ sym (filter_map-append election_met earlier (an_object k ∷ []));
    }
    at (an_election b key) = record {
      objects = is.objects ∙ sym (append-nil (objects_among earlier)) ∙ sym (filter_map-append object_met earlier (an_election b key ∷ []));
      elections = ap (λ ks. ks ++ key ∷ []) is.elections ∙ sym (filter_map-append election_met earlier (an_election b key ∷ []));
    }

-- ---- the whole walk

abbrev mets : List Located → List Met
mets xs = map (λ x. x.met) xs

met_among : (m : ObjectsMet) (earlier : List Met) (xs : List Located) → AreAmong m earlier → AreAmong (met_all m xs) (earlier ++ mets xs)
met_among m earlier [] is =
    record { objects = is.objects ∙ ap objects_among (sym (append-nil earlier)); elections = is.elections ∙ ap elections_among (sym (append-nil earlier)) }
met_among m earlier (x ∷ xs) is =
    let rest = met_among (met_one m x) (earlier ++ x.met ∷ []) xs (one_more m earlier x is) in
    let all : earlier ++ x.met ∷ [] ++ mets xs ≡ earlier ++ mets (x ∷ xs) = append_assoc earlier (x.met ∷ []) (mets xs) in
    record { objects = rest.objects ∙ ap objects_among all; elections = rest.elections ∙ ap elections_among all }

met_faults : (m : ObjectsMet) (earlier : List Met) (xs : List Located) → AreAmong m earlier → (met_all m xs).faults ≡ m.faults ++ told earlier xs
met_faults m earlier [] is = sym (append-nil m.faults)
met_faults m earlier (x ∷ xs) is =
    let later = told (earlier ++ x.met ∷ []) xs in
    met_faults (met_one m x) (earlier ++ x.met ∷ []) xs (one_more m earlier x is) ∙ ap (λ fs. fs ++ later) (faults_are m earlier x is)
    ∙ append_assoc m.faults (faults_after earlier x.place x.met) later

-- a walk that begins with nothing
pub record WalksAll (m : ObjectsMet) (xs : List Located) : Type 0 where
  pub objects : m.objects ≡ objects_among (map (λ x. x.met) xs)
  pub elections : m.elections ≡ elections_among (map (λ x. x.met) xs)
  pub faults : m.faults ≡ told [] xs

pub walks_all : (m : ObjectsMet) (xs : List Located) → m.objects ≡ [] → m.elections ≡ [] → m.faults ≡ [] → WalksAll (met_all m xs) xs
walks_all m xs a b c =
    let is : AreAmong m [] = record { objects = a; elections = b } in
    let all = met_among m [] xs is in
    record { objects = all.objects; elections = all.elections; faults = met_faults m [] xs is ∙ ap (λ fs. fs ++ told [] xs) c }

-- ---- the keys of elections that were seen, once one more election was met

any-append : {A : Type 0} (test : A → Bool) (xs : List A) (x : A) → list_any test (xs ++ x ∷ []) ≡ (list_any test xs || test x)
any-append test xs x = list_any-append test xs (x ∷ []) ∙ ap (λ b. list_any test xs || b) (or-false (test x))

-- an earlier election has the key exactly if it was seen
pub seen_is : (keys : List (Option Key)) (seen : List Key) (key : Option Key) → AreSeen keys seen → is_seen seen key ≡ list_any (same_key key) keys
seen_is keys seen None are = none keys
  where
    none : (ks : List (Option Key)) → false ≡ list_any (same_key None) ks
    none [] = refl
    none (k ∷ ks) = none ks
seen_is keys seen (Some key) are = are key

pub or_same : (a b : Bool) → (b ≡ true → a ≡ true) → a ≡ (a || b)
or_same a b h = grind arith

-- one more key
known_more : (seen : List Key) (key k : Key) (b : Bool) → is_seen seen (Some k) ≡ b
    → list_any (λ l. is_eq (key_cmp key l)) (cond b seen (seen ++ k ∷ [])) ≡ (list_any (λ l. is_eq (key_cmp key l)) seen || is_eq (key_cmp key k))
known_more seen key k true known =
    or_same (list_any (λ l. is_eq (key_cmp key l)) seen) (is_eq (key_cmp key k))
    (λ h. ap (λ (j : Key). is_seen seen (Some j)) (key_cmp_exact key k ((Equal-is (key_cmp key k)).0 h)) ∙ known)
known_more seen key k false known = any-append (λ l. is_eq (key_cmp key l)) seen k

pub seen_more : (keys : List (Option Key)) (seen : List Key) (key : Option Key) → AreSeen keys seen → AreSeen (keys ++ key ∷ []) (seen_with seen key)
seen_more keys seen None are k = are k ∙ sym (or-false (list_any (same_key (Some k)) keys)) ∙ sym (any-append (same_key (Some k)) keys None)
seen_more keys seen (Some l) are k =
    known_more seen k l (is_seen seen (Some l)) refl ∙ ap (λ b. b || is_eq (key_cmp k l)) (are k) ∙ sym (any-append (same_key (Some k)) keys (Some l))

-- ---- what is in the tables of the elections and the objects of a report

filled : (π : Preference) (v : Tables) (t : Data) → met_of v ≡ met_all nothing_met (all_located π t) → WalksAll (met_of v) (all_located π t)
filled π v t met = subst (λ (m : ObjectsMet). WalksAll m (all_located π t)) (sym met) (walks_all nothing_met (all_located π t) refl refl refl)

pub filled_objects : (π : Preference) (v : Tables) (t : Data) → met_of v ≡ met_all nothing_met (all_located π t)
    → map shown v.objects.objects ≡ kept_objects π t
filled_objects π v t met = (filled π v t met).objects

pub filled_elections : (π : Preference) (v : Tables) (t : Data) → met_of v ≡ met_all nothing_met (all_located π t) → v.elections.keys ≡ election_keys π t
filled_elections π v t met = (filled π v t met).elections ∙ election_keys_met π t

pub all_told : (π : Preference) (v : Tables) (t : Data) → met_of v ≡ met_all nothing_met (all_located π t) → (fs : List Fault) → fs ≡ v.faults.items
    → ListsAll (IdentityFault π t) fs
all_told π v t met fs e = subst (ListsAll (IdentityFault π t)) (sym (e ∙ (filled π v t met).faults)) (identity_listed π t)

pub none_told : (π : Preference) (v : Tables) (t : Data) → met_of v ≡ met_all nothing_met (all_located π t) → (fs : List Fault) → fs ≡ v.faults.items
    → length fs ≡ 0 → NoneOf (IdentityFault π t)
none_told π v t met fs e empty = none_from_empty (IdentityFault π t) fs (all_told π v t met fs e) empty
