-- Two reports whose salts are computed from the same bytes give each index the same keys.
use Rattle.std.proofs.Common.{◌≡◌, ◌+◌, is_lt, ℕ, Bool, true, false, cond, List, [], ◌∷◌, ◌++◌, Option, Some, None, option_and_then, option_map, unwrap_or}
use Rattle.std.proofs.Common.{if◌then◌else◌, find, filter, filter_map, length, map, refl, sym, ap, ◌∙◌}
use Rattle.std.proofs.lemmas.List.{length-map}
use Rattle.std.specs.Option.{option_cmp}
use Rattle.serde_json.specs.Data.{Data, null}
use Rattle.erd_tables.specs.declared.class.Family.{Family}
use Rattle.erd_tables.specs.declared.class.Family.TheVariants as family
use Rattle.erd_meaning.specs.Keys.{Preference, key_cmp}
use Rattle.erd_meaning.specs.RankedNames.{family_chosen}
use Rattle.erd_meaning.specs.SelectionNames.{name_by}
use Rattle.erd_meaning.specs.code.ObjectIndexes.{contests_before, contests_noted}
use Rattle.erd_meaning.specs.code.ObjectLookups.{is_of_family, keeps_id, key_among, those_of}
use Rattle.erd_meaning.specs.code.ObjectWalk.{Kept, Met, an_election, an_object, all_met, elections_among, kept_objects, objects_among}
use Rattle.erd_meaning.specs.code.RanksAmong.{rank_among, ranked_name_among}
use Rattle.erd_meaning.specs.SaltWrites.{CoversEachKey, Hashed, all_hashed, whole_selection}
use Rattle.erd_meaning.specs.code.HashedMet.{hashed}
use Rattle.erd_meaning.specs.code.SaltLaws.{KeepsEachIndex, family_and_key, selection_names}
use Rattle.erd_meaning.specs.declared.keys.key.Key.{Key}
use Rattle.erd_meaning.proofs.identity.ObjectFamilies.{election_keys_met}
use Rattle.erd_meaning.proofs.salts.HashedReports.{hashed_report}
use Rattle.erd_meaning.proofs.salts.SaltedParts.{hashed_alike}

-- ---- objects without what no index hashes

-- The object without its value, unless it is a selection.
abbrev bare : Kept → Kept
bare k = record { family = k.family; value = unwrap_or (whole_selection k.family k.value) null; id = k.id; key = k.key; election = None }

abbrev bare_of : Hashed → Option Kept
bare_of h = option_map (λ f. record { family = f; value = unwrap_or h.selection null; id = h.id; key = h.key; election = None }) h.family

bare_among : (ms : List Met) → filter_map bare_of (map hashed ms) ≡ map bare (objects_among ms)
bare_among [] = refl
bare_among (an_object k ∷ ms) = ap (λ ks. bare k ∷ ks) (bare_among ms)
bare_among (an_election needed key ∷ ms) = bare_among ms

-- What is read of each object alike is read of all alike.
all_bare : {X : Type 0} (read : Kept → X) → ((k : Kept) → read (bare k) ≡ read k) → (ks : List Kept) → map read (map bare ks) ≡ map read ks
all_bare read same [] = refl
all_bare read same (k ∷ ks) = λ i. same k i ∷ all_bare read same ks i

-- ---- keys by their `@id`s, and their ranks

chosen : {A B : Type 0} (f : A → B) (b : Bool) (x y : A) → cond b (f x) (f y) ≡ f (cond b x y)
chosen f true x y = refl
chosen f false x y = refl

find_bare : (id : List ℕ) (ks : List Kept) → find (keeps_id id) (map bare ks) ≡ option_map bare (find (keeps_id id) ks)
find_bare id [] = refl
find_bare id (k ∷ ks) =
    ap (λ o. cond (keeps_id id k) (Some (bare k)) o) (find_bare id ks) ∙ chosen (option_map bare) (keeps_id id k) (Some k) (find (keeps_id id) ks)

key_bare : (ks : List Kept) (f : Family) (id : List ℕ) → key_among (map bare ks) f id ≡ key_among ks f id
key_bare ks f id = ap (λ (o : Option Kept). option_and_then (λ k. k.key) (option_and_then (λ k. if is_of_family f k then Some k else None) o)) (find_bare id ks)
    ∙ at (find (keeps_id id) ks)
  where
    one : (k : Kept) (b : Bool) → option_and_then (λ (k : Kept). k.key) (cond b (Some (bare k)) None)
        ≡ option_and_then (λ (k : Kept). k.key) (cond b (Some k) None)
    one k true = refl
    one k false = refl

    at : (o : Option Kept) → option_and_then (λ (k : Kept). k.key)
        (option_and_then (λ (k : Kept). if is_of_family f k then Some k else None) (option_map bare o)) ≡ option_and_then (λ (k : Kept). k.key)
        (option_and_then (λ (k : Kept). if is_of_family f k then Some k else None) o)
    at None = refl
    at (Some k) = one k (is_of_family f k)

filter_bare : (test : Kept → Bool) → ((k : Kept) → test (bare k) ≡ test k) → (ks : List Kept) → filter test (map bare ks) ≡ map bare (filter test ks)
filter_bare test same [] = refl
filter_bare test same (k ∷ ks) =
    (λ i. cond (same k i) (bare k ∷ filter_bare test same ks i) (filter_bare test same ks i)) ∙ chosen (map bare) (test k) (k ∷ filter test ks) (filter test ks)

rank_bare : (ks : List Kept) (f : Family) (key : Option Key) → rank_among (map bare ks) f key ≡ rank_among ks f key
rank_bare ks f key =
    let less = λ (k : Kept). is_lt (option_cmp key_cmp k.key key) in
    ap (λ ls. length (filter less ls)) (filter_bare (is_of_family f) (λ k. refl) ks) ∙ ap length (filter_bare less (λ k. refl) (those_of f ks))
    ∙ length-map (filter less (those_of f ks)) bare

contests_bare : (n : ℕ) (ks : List Kept) → contests_before n (map bare ks) ≡ contests_before n ks
contests_bare n [] = refl
contests_bare n (k ∷ ks) = ap (λ ns. contests_noted k.family n ++ ns) (contests_bare (if is_of_family family.Contest k then n + 1 else n) ks)

-- ---- names

abbrev of_family : Family → Kept → Kept
of_family f k = record { family = f; value = k.value; id = k.id; key = k.key; election = k.election }

values_bare : {X : Type 0} (read : Data → X) (ks : List Kept) → map (λ k. read k.value) (those_of family.Selection (map bare ks)) ≡ map (λ k. read k.value)
    (those_of family.Selection ks)
values_bare read [] = refl
values_bare read (k ∷ ks) = at k.family (values_bare read ks)
  where
    at : (f : Family) → map (λ l. read l.value) (those_of family.Selection (map bare ks)) ≡ map (λ l. read l.value) (those_of family.Selection ks)
        → map (λ l. read l.value) (those_of family.Selection (map bare (of_family f k ∷ ks))) ≡ map (λ l. read l.value)
        (those_of family.Selection (of_family f k ∷ ks))
    at family.Selection rest = ap (λ xs. read k.value ∷ xs) rest
    at f rest = rest

names_bare : (π : Preference) (ks : List Kept) → selection_names π (map bare ks) ≡ selection_names π ks
names_bare π ks =
    let keys : key_among (map bare ks) ≡ key_among ks = λ i f id. key_bare ks f id i in
    let ranks : rank_among (map bare ks) ≡ rank_among ks = λ i f key. rank_bare ks f key i in
    values_bare (ranked_name_among π (map bare ks)) ks
    ∙ (λ i. map (λ k. option_map (λ n. record { name = n; ranks = map (λ key. ranks i (family_chosen n.class) (Some key)) n.keys })
    (name_by π (keys i) k.value)) (those_of family.Selection ks))

-- ---- elections

abbrev election_of : Option Family → Option Key → Option (Option Key)
election_of None key = Some key
election_of (Some f) key = None

elections_hashed : (ms : List Met) → filter_map (λ h. election_of h.family h.key) (map hashed ms) ≡ elections_among ms
elections_hashed [] = refl
elections_hashed (an_object k ∷ ms) = elections_hashed ms
elections_hashed (an_election needed key ∷ ms) = ap (λ ks. key ∷ ks) (elections_hashed ms)

-- ---- the laws

pub covers_each_key : (π : Preference) (t : Data) → CoversEachKey π t
covers_each_key π t u p q same = hashed_alike (all_hashed π t) (all_hashed π u) p q same

pub keeps_each_index : (π : Preference) (t : Data) → KeepsEachIndex π t
keeps_each_index π t u p q same =
    let all : map hashed (all_met π t) ≡ map hashed (all_met π u) = hashed_report π t ∙ covers_each_key π t u p q same ∙ sym (hashed_report π u) in
    let ks = kept_objects π t in
    let ls = kept_objects π u in
    let objects : map bare ks ≡ map bare ls = sym (bare_among (all_met π t)) ∙ ap (filter_map bare_of) all ∙ bare_among (all_met π u) in
    record {
      ids = sym (all_bare (λ k. k.id) (λ k. refl) ks) ∙ ap (map (λ k. k.id)) objects ∙ all_bare (λ k. k.id) (λ k. refl) ls;
      keys = sym (all_bare family_and_key (λ k. refl) ks) ∙ ap (map family_and_key) objects ∙ all_bare family_and_key (λ k. refl) ls;
      elections = sym (election_keys_met π t) ∙ sym (elections_hashed (all_met π t)) ∙ ap (filter_map (λ h. election_of h.family h.key)) all
          ∙ elections_hashed (all_met π u) ∙ election_keys_met π u;
      names = sym (names_bare π ks) ∙ ap (selection_names π) objects ∙ names_bare π ls;
      contests = sym (contests_bare 0 ks) ∙ ap (contests_before 0) objects ∙ contests_bare 0 ls;
    }
