-- When records and reports mean the same, entry by entry.
use Rattle.erd_normal.proofs.Common.{◌≡◌, ℕ, Bool, true, false, List, Some, None, Option, option_map, option_and_then, is_eq, Equal, sym, refl, ap, ◌∙◌, ap₂}
use Rattle.erd_normal.proofs.Common.{tied_itself, options_total, option_cmp, Data, Class, family, Role, MemberKind, kind, object_in, ObjectIn, Within}
use Rattle.erd_normal.proofs.Common.{entries_of, class_of_object, asked, Object, no_shape_fault, is_selections, options_exact, equal_names, IsAccepted}
use Rattle.erd_normal.proofs.Common.{Preference, PlainValue, SelectionRecord, MemberValue, a_plain, a_selection_map, Record, NameParts, unless_empty}
use Rattle.erd_normal.proofs.Common.{plain_member, record_with, selection_record, selection_map, member_value, name_in_class, selection_role, name_of, name_cmp}
use Rattle.erd_normal.proofs.Common.{name_cmp_total, by_name, fun_ext, as_str, Family, is_same_json, key_cmp, json_set, key_set, key_named, keys_named, is_some}
use Rattle.erd_normal.proofs.Common.{if◌then◌else◌, codes, bytes_eq, list_all, family_of_class, rows_of_class, kind_of_identity, kind_of_member, role_of_class}
use Rattle.erd_normal.proofs.Common.{class, text_exact, kind_of_class, kind_of_type, IsPermutation, list_any-IsPermutation, reordered_kept, map, find, flat_map}
use Rattle.erd_normal.proofs.Common.{subst, eq_by_cmp, is_envelope_name, role, entries_at, objects_distinct, elections_distinct, no_identity_fault}
use Rattle.erd_normal.proofs.Common.{values-placed_entries, same_meaning, distinct_map, equal_keys, has_keys, key_of, Placed, placed_entries, report_of}
use Rattle.erd_normal.proofs.Common.{elections, objects, meaning, object_record, record_in_election, placed_with_key, records_of, election_records}
use Rattle.erd_normal.proofs.Common.{key_cmp_total, Key, by_key, In}
use Rattle.erd_meaning.proofs.meanings.HeldValues.{Held, held_by, held_in_elections, held_in_none, held_of, held_record, held_values, mapped_then}
use Rattle.erd_normal.proofs.lists.Matched.{find_values, AtMostOne, Matched, apart_distinct, matched_find, matched_flat, matched_mapped, one_if_apart}
use Rattle.erd_normal.proofs.lists.Matched.{said_same}

-- ---- the records of the objects of accepted reports: each object has one, of its class, and each selection has a name

-- what a record has under a name
abbrev pub members_in : {V : Type 0} → Option (Record V) → List ℕ → Option V
members_in None name = None
members_in (Some r) name = r.members name

-- an object of a class that has the role has a record
pub record_with-Some : {V : Type 0} (members_of : Class → List ℕ → Option V) (r : Role) (d : Data) (c : Class) → class_of_object r d ≡ Some c
    → record_with members_of r d ≡ Some (record { class = c; members = members_of c })
record_with-Some members_of r d c e = rw e

-- the class of a record is that of the object
pub class_of_record : {V : Type 0} (members_of : Class → List ℕ → Option V) (r : Role) (d : Data) → option_map (λ (x : Record V). x.class)
    (record_with members_of r d) ≡ class_of_object r d
class_of_record {V} members_of r d = at (class_of_object r d)
  where
    at : (o : Option Class) → option_map (λ (x : Record V). x.class) (option_map (λ c. record { class = c; members = members_of c }) o) ≡ o
    at None = refl
    at (Some c) = refl

-- an object that is asked to have a role is of a class that has it
pub class_within : (π : Preference) (t : Data) → IsAccepted π t → (r : Role) (d : Data) → Within t (asked (Object r) d) → (c : Class)
    × (class_of_object r d ≡ Some c)
class_within π t accepted r d w = let a : ObjectIn t r d = object_in t (no_shape_fault π t accepted) r d w in
    (a.class, ap (class_of_object r) a.is_object ∙ a.at.among)

-- a selection has a name
pub has_name : (π : Preference) (t : Data) → IsAccepted π t → (d : Data) → Within t (asked (Object selection_role) d) → (n : NameParts)
    × (name_of π t d ≡ Some n)
has_name π t accepted d w = let c = class_within π t accepted selection_role d w in (_, ap (option_map (λ c. name_in_class π (key_named π t) c d)) c.1)

-- a selection has a record
pub has_selection_record : (π : Preference) (t : Data) → IsAccepted π t → (d : Data) → Within t (asked (Object selection_role) d) → (r : SelectionRecord)
    × (selection_record π t d ≡ Some r)
has_selection_record π t accepted d w = let c = class_within π t accepted selection_role d w in
    (_, record_with-Some (plain_member π t d) selection_role d c.0 c.1)

abbrev pub selections_value : Preference → Data → Option Data → Option MemberValue
selections_value π t o = option_and_then (λ v. unless_empty (a_selection_map (selection_map π t (entries_of v))) v) o

abbrev pub map_in : Option MemberValue → NameParts → Option SelectionRecord
map_in (Some (a_selection_map m)) = m
map_in o = λ n. None

-- ---- records that are alike: objects of one class whose members mean the same, and selections of one name

-- objects of one class whose members mean the same have one record
pub record_alike : {V : Type 0} (m n : Class → List ℕ → Option V) (r : Role) (e d : Data) (c : Class) → class_of_object r e ≡ Some c → class_of_object r d
    ≡ Some c → ((name : List ℕ) → m c name ≡ n c name) → record_with m r e ≡ record_with n r d
record_alike {V} m n r e d c its own same =
    record_with-Some m r e c its ∙ ap (record_of c) (fun_ext same) ∙ sym (record_with-Some n r d c own)
  where
    record_of : Class → (List ℕ → Option V) → Option (Record V)
    record_of c f = Some (record { class = c; members = f })

-- ---- members

-- nothing is meant by what means nothing
pub nothing_of : {A B : Type 0} (f : A → Option B) (o : Option A) → ((x : A) → f x ≡ None) → option_and_then f o ≡ None
nothing_of f None none = refl
nothing_of f (Some x) none = none x

-- a member that is no array of selections means what it means by itself
pub member_plain : (π : Preference) (t : Data) (k : MemberKind) (found : Option Data) (plain : Option PlainValue) → is_selections k ≡ false
    → member_value π t k found plain ≡ option_map a_plain plain
member_plain π t (kind.Keyed family.Selection) found plain other = cc
member_plain π t k found plain other = refl

pub plain_members : (π : Preference) (t u : Data) (k : MemberKind) (o p : Option Data) (m n : Option PlainValue) → is_selections k ≡ false → n ≡ m
    → member_value π u k p n ≡ member_value π t k o m
plain_members π t u k o p m n other same = member_plain π u k p n other ∙ ap (option_map a_plain) same ∙ sym (member_plain π t k o m other)

-- ---- the names of selections

-- a selection has the name
abbrev pub is_named : Preference → Data → NameParts → Data → Bool
is_named π t name d = is_eq (option_cmp name_cmp (name_of π t d) (Some name))

pub named_tied : (π : Preference) (t : Data) (name : NameParts) (x y : Data) → is_named π t name x ≡ true → is_named π t name y ≡ true → by_name π t x y ≡ Equal
named_tied π t name x y h k =
    ap₂ (option_cmp name_cmp) (options_exact name_cmp equal_names (name_of π t x) (Some name) h)
    (options_exact name_cmp equal_names (name_of π t y) (Some name) k) ∙ tied_itself (options_total name_cmp_total) (Some name)

-- ---- what sets mean does not depend on the order of their arrays

pub json_set-reordered : {ds es : List Data} → IsPermutation ds es → json_set ds ≡ json_set es
json_set-reordered h = fun_ext (λ d. list_any-IsPermutation (is_same_json d) _ _ h)

-- the set of the keys that references name
pub keys_named-reordered : (π : Preference) (t : Data) (f : Family) {ds es : List Data} → IsPermutation ds es → key_set (keys_named π t f ds)
    ≡ key_set (keys_named π t f es)
keys_named-reordered π t f h =
    fun_ext (λ k. list_any-IsPermutation (λ l. is_eq (key_cmp l k)) _ _ (reordered_kept (λ r. option_and_then (key_named π t f) (as_str r)) h))

-- ---- the order of a ballot and the selections of contests stand in few classes

-- a member of this kind is neither the order of a ballot nor the selections of a contest
abbrev pub is_flat : MemberKind → Bool
is_flat kind.Content = false
is_flat (kind.Keyed family.Selection) = false
is_flat k = true

identity_flat : (c : Class) → is_flat (kind_of_identity c) ≡ true
identity_flat c = at (is_some (family_of_class c))
  where
    at : (b : Bool) → is_flat (if b then kind.Identity else kind.StrangeIdentity) ≡ true
    at true = refl
    at false = refl

-- what holds of the kinds of a class holds of a member's, whatever its name
by_rows : (P : MemberKind → Bool) (c : Class) (name : List ℕ) → list_all (λ m. P m.kind) (rows_of_class c) ≡ true → P kind.ClassText ≡ true
    → P (kind_of_identity c) ≡ true → P kind.StrangeReference ≡ true → P kind.Carried ≡ true → P (kind_of_member c name) ≡ true
by_rows P c name lines typed id reference carried = at (bytes_eq name (codes "@type")) refl
  where
    at : (b : Bool) → bytes_eq name (codes "@type") ≡ b → P (kind_of_member c name) ≡ true
    at true is = ap (λ n. P (kind_of_member c n)) (text_exact name (codes "@type") is) ∙ ap P (kind_of_type c) ∙ typed
    at false is = kind_of_class P c name is lines id reference carried

-- ---- the report and the elections have no ballot's order and no selections of their own

abbrev pub is_flat_role : Role → Bool
is_flat_role role.Report = true
is_flat_role role.Election = true
is_flat_role r = false

rows_flat : (c : Class) → is_flat_role (role_of_class c) ≡ true → list_all (λ m. is_flat m.kind) (rows_of_class c) ≡ true
rows_flat class.ElectionReport e = refl
rows_flat c e = cc

pub kind_is_flat : (c : Class) (name : List ℕ) → is_flat_role (role_of_class c) ≡ true → is_flat (kind_of_member c name) ≡ true
kind_is_flat c name flat = by_rows is_flat c name (rows_flat c flat) refl (identity_flat c) refl refl

-- ---- the selections of a contest

pub flat_no_selections : (k : MemberKind) → is_flat k ≡ true → is_selections k ≡ false
flat_no_selections (kind.Keyed family.Selection) e = cc
flat_no_selections k e = refl

-- ---- values by their keys

-- the value has the key, or has none
abbrev is_of_key : Preference → Option Key → Data → Bool
is_of_key π k d = is_eq (option_cmp key_cmp (key_of π d) k)

keys_tied : (π : Preference) (k : Option Key) (x y : Data) → is_of_key π k x ≡ true → is_of_key π k y ≡ true → by_key π x y ≡ Equal
keys_tied π k x y h l =
    ap₂ (option_cmp key_cmp) (options_exact key_cmp equal_keys (key_of π x) k h) (options_exact key_cmp equal_keys (key_of π y) k l)
    ∙ tied_itself (options_total key_cmp_total) k

module _ (π : Preference) (t : Data) (accepted : IsAccepted π t) where
  one_election : (k : Option Key) → AtMostOne (is_of_key π k) (entries_at (codes "Election") t)
  one_election k =
      one_if_apart (is_of_key π k) (entries_at (codes "Election") t)
      (apart_distinct (is_of_key π k) (eq_by_cmp (by_key π)) (entries_at (codes "Election") t) (λ x y h i. ap is_eq (keys_tied π k x y h i))
      (elections_distinct π t (no_identity_fault π t accepted)))

  one_object : (f : Family) → has_keys f ≡ true → (k : Option Key) → AtMostOne (λ (h : Held). is_of_key π k h.1) (held_values π f t)
  one_object f keyed k =
      one_if_apart (λ (h : Held). is_of_key π k h.1) (held_values π f t)
      (apart_distinct (λ (h : Held). is_of_key π k h.1) (λ (g h : Held). eq_by_cmp (by_key π) g.1 h.1) (held_values π f t)
      (λ x y h i. ap is_eq (keys_tied π k x.1 y.1 h i))
      (distinct_map (held_of π t) (λ (g h : Held). eq_by_cmp (by_key π) g.1 h.1) (objects f t) (objects_distinct π t (no_identity_fault π t accepted) f keyed)))

-- ---- what is found by a key

election_found : (π : Preference) (t : Data) (k : Option Key)
    → election_records π t k ≡ option_and_then (object_record π t role.Election) (find (is_of_key π k) (entries_at (codes "Election") t))
election_found π t k =
    let value : Placed → Data = λ o. o.value in
    let means = object_record π t role.Election in
    sym (mapped_then means value (find (λ e. is_of_key π k e.value) (elections t)))
    ∙ ap (option_and_then means) (find_values (is_of_key π k) value (elections t)
    ∙ ap (find (is_of_key π k)) (values-placed_entries (codes "Election") (report_of t)))

object_found : (π : Preference) (t : Data) (f : Family) (k : Key) → has_keys f ≡ true
    → records_of π t f k ≡ option_and_then (held_record π t f) (find (λ h. is_of_key π (Some k) h.1) (held_values π f t))
object_found π t family.Selection k keyed = cc
object_found π t f k keyed =
    sym (mapped_then (held_record π t f) (held_of π t) (placed_with_key π t f k))
    ∙ ap (option_and_then (held_record π t f)) (find_values (λ (h : Held). is_of_key π (Some k) h.1) (held_of π t) (objects f t))

-- ---- reports whose elections and objects are matched

-- the two values have one key, and mean the same
pub record MeanOne (π : Preference) (t u : Data) (r : Role) (d e : Data) : Type 0 where
  pub keys : key_of π d ≡ key_of π e
  pub records : object_record π t r d ≡ object_record π u r e

-- objects that are related, and held by elections with one key
abbrev pub HeldAlike : (Data → Data → Type 0) → Held → Held → Type 0
HeldAlike R a b = (a.0 ≡ b.0) × R a.1 b.1

module _ (π : Preference) (t u : Data) (accepted : IsAccepted π t) where
  elections_same : Matched (MeanOne π t u role.Election) (entries_at (codes "Election") t) (entries_at (codes "Election") u) → (k : Option Key)
      → election_records π t k ≡ election_records π u k
  elections_same matched k =
      election_found π t k ∙ said_same (object_record π t role.Election) (object_record π u role.Election) (λ d e h. h.records)
      (find (is_of_key π k) (entries_at (codes "Election") t)) (find (is_of_key π k) (entries_at (codes "Election") u))
      (matched_find (is_of_key π k) (is_of_key π k) (λ d e h. ap (λ l. is_eq (option_cmp key_cmp l k)) h.keys) matched (one_election π t accepted k))
      ∙ sym (election_found π u k)

  module _ (f : Family) (keyed : has_keys f ≡ true) (k : Key) where
    abbrev its_key : Held → Bool
    its_key h = is_of_key π (Some k) h.1

    family_same : Matched (HeldAlike (MeanOne π t u (role.OfFamily f))) (held_values π f t) (held_values π f u) → records_of π t f k ≡ records_of π u f k
    family_same matched =
        object_found π t f k keyed
        ∙ said_same (held_record π t f) (held_record π u f) (λ g h same. ap₂ (λ l r. option_map (record_in_election l) r) same.0 same.1.records)
        (find its_key (held_values π f t)) (find its_key (held_values π f u))
        (matched_find its_key its_key (λ g h same. ap (λ l. is_eq (option_cmp key_cmp l (Some k))) same.1.keys) matched
        (one_object π t accepted f keyed (Some k))) ∙ sym (object_found π u f k keyed)

  pub matched_meaning : object_record π t role.Report t ≡ object_record π u role.Report u
      → Matched (MeanOne π t u role.Election) (entries_at (codes "Election") t) (entries_at (codes "Election") u)
      → ((f : Family) → has_keys f ≡ true → Matched (HeldAlike (MeanOne π t u (role.OfFamily f))) (held_values π f t) (held_values π f u))
      → meaning π t ≡ meaning π u
  matched_meaning report of_elections of_families = same_meaning π π t u report (elections_same of_elections) same
    where
      same : (f : Family) (k : Key) → records_of π t f k ≡ records_of π u f k
      same family.Selection k = refl
      same f k = family_same f refl k (of_families f refl)

-- ---- objects by the arrays that hold them

-- where elections are matched, each with one of its key and of related objects, objects are held by elections with one key
module _ (π : Preference) (t u : Data) (E : Data → Data → Type 0) (R : Family → Data → Data → Type 0)
    (of_elections : Matched E (entries_at (codes "Election") t) (entries_at (codes "Election") u))
    (keys : (d e : Data) → In d (entries_at (codes "Election") t) → E d e → key_of π d ≡ key_of π e)
    (in_report : (f : Family) (name : List ℕ) → bytes_eq name (codes "@type") ≡ false → is_envelope_name name ≡ false
    → kind_of_member class.ElectionReport name ≡ kind.Keyed f → Matched (R f) (entries_at name t) (entries_at name u))
    (in_election : (f : Family) (name : List ℕ) → bytes_eq name (codes "@type") ≡ false → kind_of_member class.Election name ≡ kind.Keyed f
    → (d e : Data) → In d (entries_at (codes "Election") t) → E d e → Matched (R f) (entries_at name d) (entries_at name e)) where
  by_none : (f : Family) (name : List ℕ) → bytes_eq name (codes "Election") ≡ false → Matched (R f) (entries_at name t) (entries_at name u)
      → Matched (HeldAlike (R f)) (map (held_of π t) (placed_entries name (report_of t))) (map (held_of π u) (placed_entries name (report_of u)))
  by_none f name other matched =
      subst (λ hs. Matched (HeldAlike (R f)) hs (map (held_of π u) (placed_entries name (report_of u)))) (sym (held_in_none π t name other))
      (subst (Matched (HeldAlike (R f)) (map (λ d. (None, d)) (entries_at name t))) (sym (held_in_none π u name other))
      (matched_mapped (λ d. (None, d)) (λ d. (None, d)) (λ d e r. (refl, r)) matched))

  by_elections : (f : Family) (name : List ℕ) → bytes_eq name (codes "@type") ≡ false → kind_of_member class.Election name ≡ kind.Keyed f
      → Matched (HeldAlike (R f)) (map (held_of π t) (flat_map (placed_entries name) (elections t)))
      (map (held_of π u) (flat_map (placed_entries name) (elections u)))
  by_elections f name other is =
      subst (λ hs. Matched (HeldAlike (R f)) hs (map (held_of π u) (flat_map (placed_entries name) (elections u)))) (sym (held_in_elections π t name))
      (subst (Matched (HeldAlike (R f)) (flat_map (held_by π name) (entries_at (codes "Election") t))) (sym (held_in_elections π u name))
      (matched_flat (held_by π name) (held_by π name)
      (λ d e h r. matched_mapped (λ x. (key_of π d, x)) (λ y. (key_of π e, y)) (λ x y s. (keys d e h r, s)) (in_election f name other is d e h r))
      of_elections))

  pub held_matched : (f : Family) → has_keys f ≡ true → Matched (HeldAlike (R f)) (held_values π f t) (held_values π f u)
  held_matched family.Unit keyed = by_none family.Unit (codes "GpUnit") refl (in_report family.Unit (codes "GpUnit") refl refl refl)
  held_matched family.Party keyed = by_none family.Party (codes "Party") refl (in_report family.Party (codes "Party") refl refl refl)
  held_matched family.Person keyed = by_none family.Person (codes "Person") refl (in_report family.Person (codes "Person") refl refl refl)
  held_matched family.Office keyed = by_none family.Office (codes "Office") refl (in_report family.Office (codes "Office") refl refl refl)
  held_matched family.Header keyed = by_none family.Header (codes "Header") refl (in_report family.Header (codes "Header") refl refl refl)
  held_matched family.Candidate keyed = by_elections family.Candidate (codes "Candidate") refl refl
  held_matched family.Contest keyed = by_elections family.Contest (codes "Contest") refl refl
  held_matched family.Style keyed = by_elections family.Style (codes "BallotStyle") refl refl
  held_matched family.Selection keyed = cc
