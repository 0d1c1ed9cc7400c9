-- When two objects have one record: they agree at the names that either has, and neither has any other.
use Rattle.erd_meaning.proofs.Common.{◌≡◌, ℕ, Bool, true, false, cond, ◌||◌, List, [], ◌∷◌, map, Some, None, codes, Option, option_map, option_and_then}
use Rattle.erd_meaning.proofs.Common.{bytes_eq, nat_cmp, is_eq, Ordering, sym, refl, ap, ◌∙◌, subst, ap₂, true≢false, fun_ext, or_parts, bytes_eq-Decides}
use Rattle.erd_meaning.proofs.Common.{slice_cmp, list_any, match_ordering, Data, object, Members, no_members, member, get_member, get, kind_of_member, Class}
use Rattle.erd_meaning.proofs.Common.{class, family, MemberKind, kind, Preference, PlainValue, MemberValue, a_plain, ObjectRecord, plain_value, is_in_envelope}
use Rattle.erd_meaning.proofs.Common.{plain_member, member_value, member_of_class, with_election_id, record_in_election, Key, arith}
use Rattle.std.proofs.lemmas.Map.Text.{is_eq-slice_cmp}

-- the names of an object
abbrev pub names_of_members : Members → List (List ℕ)
names_of_members no_members = []
names_of_members (member k d ms) = k ∷ names_of_members ms

abbrev pub names_in : Data → List (List ℕ)
names_in (object ms) = names_of_members ms
names_in d = []

passed_over : (o : Ordering) (found rest : Option Data) → is_eq o ≡ false → match_ordering o rest found rest ≡ rest
passed_over o found rest h = grind arith

member_absent : (name : List ℕ) (ms : Members) → list_any (bytes_eq name) (names_of_members ms) ≡ false → get_member name ms ≡ None
member_absent name no_members e = refl
member_absent name (member k d ms) e =
    let both = or_parts (bytes_eq name k) (list_any (bytes_eq name) (names_of_members ms)) e in
    passed_over (slice_cmp nat_cmp name k) (Some d) (get_member name ms) (is_eq-slice_cmp name k ∙ both.0) ∙ member_absent name ms both.1

pub absent : (name : List ℕ) (d : Data) → list_any (bytes_eq name) (names_in d) ≡ false → get name d ≡ None
absent name (object ms) e = member_absent name ms e
absent name k e = refl

pub nothing_either_way : {V : Type 0} (b : Bool) (o : Option V) → o ≡ None → cond b None o ≡ None
nothing_either_way b o h = grind arith

nothing_meant : (π : Preference) (t : Data) (k : MemberKind) (plain : Option PlainValue) → plain ≡ None → member_value π t k None plain ≡ None
nothing_meant π t (kind.Keyed family.Selection) plain e = refl
nothing_meant π t k plain e = ap (option_map a_plain) e

-- a member that is not there means nothing
pub absent_plain : (π : Preference) (t d : Data) (c : Class) (name : List ℕ) → get name d ≡ None → plain_member π t d c name ≡ None
absent_plain π t d c name e =
    ap (λ o. cond (is_in_envelope c name) None (option_and_then (plain_value π t (kind_of_member c name)) o)) e
    ∙ nothing_either_way (is_in_envelope c name) None refl

pub absent_member : (π : Preference) (t d : Data) (c : Class) (name : List ℕ) → get name d ≡ None → member_of_class π t d c name ≡ None
absent_member π t d c name e =
    ap (λ o. member_value π t (kind_of_member c name) o (plain_member π t d c name)) e
    ∙ nothing_meant π t (kind_of_member c name) (plain_member π t d c name) (absent_plain π t d c name e)

-- ---- at every name

agree_at : {V : Type 0} (f g : List ℕ → V) (names : List (List ℕ)) (name : List ℕ) → map f names ≡ map g names → list_any (bytes_eq name) names
    ≡ true → f name ≡ g name
agree_at f g [] name e among = absurd (true≢false (sym among))
agree_at f g (n ∷ ns) name e among = at (bytes_eq name n) refl among (agree_at f g ns name (ap drop_first e))
  where
    drop_first : {W : Type 0} → List W → List W
    drop_first [] = []
    drop_first (x ∷ xs) = xs

    at : (b : Bool) → bytes_eq name n ≡ b → (b || list_any (bytes_eq name) ns) ≡ true → (list_any (bytes_eq name) ns ≡ true → f name ≡ g name) → f name ≡ g name
    at true is h later = let same : f n ≡ g n = cc in subst (λ q. f q ≡ g q) (sym ((bytes_eq-Decides name n).0 is)) same
    at false is h later = later h

either_name : {V : Type 0} (b : Bool) (x y : V) → (b ≡ true → x ≡ y) → (b ≡ false → x ≡ y) → x ≡ y
either_name true x y among outside = among refl
either_name false x y among outside = outside refl

-- what two objects mean is the same at every name, if it is at the names that either has
pub same_at_every_name : {V : Type 0} (f g : List ℕ → Option V) (d e : Data) (names : List (List ℕ))
    → ((name : List ℕ) → get name d ≡ None → f name ≡ None) → ((name : List ℕ) → get name e ≡ None → g name ≡ None)
    → ((name : List ℕ) → list_any (bytes_eq name) names ≡ false → list_any (bytes_eq name) (names_in d) ≡ false)
    → ((name : List ℕ) → list_any (bytes_eq name) names ≡ false → list_any (bytes_eq name) (names_in e) ≡ false) → map f names ≡ map g names → f ≡ g
same_at_every_name f g d e names no_f no_g left right agree =
    fun_ext (λ name.
    either_name (list_any (bytes_eq name) names) (f name) (g name) (λ among. agree_at f g names name agree among)
    (λ outside. no_f name (absent name d (left name outside)) ∙ sym (no_g name (absent name e (right name outside)))))

-- what two objects mean is the same at every name but one, if it is at the other names that either has
pub same_at_other_names : {V : Type 0} (f g : List ℕ → Option V) (d e : Data) (names : List (List ℕ)) (one : List ℕ)
    → ((name : List ℕ) → get name d ≡ None → f name ≡ None) → ((name : List ℕ) → get name e ≡ None → g name ≡ None)
    → ((name : List ℕ) → bytes_eq name one ≡ false → list_any (bytes_eq name) names ≡ false → list_any (bytes_eq name) (names_in d) ≡ false)
    → ((name : List ℕ) → bytes_eq name one ≡ false → list_any (bytes_eq name) names ≡ false → list_any (bytes_eq name) (names_in e) ≡ false)
    → map f names ≡ map g names → (name : List ℕ) → bytes_eq name one ≡ false → f name ≡ g name
same_at_other_names f g d e names one no_f no_g left right agree name other =
    either_name (list_any (bytes_eq name) names) (f name) (g name) (λ among. agree_at f g names name agree among)
    (λ outside. no_f name (absent name d (left name other outside)) ∙ sym (no_g name (absent name e (right name other outside))))

-- ---- the member `ElectionId` of a record: the key of the election that holds the object, and no member of the object itself

-- no class lists it
strange : (c : Class) → kind_of_member c (codes "ElectionId") ≡ kind.StrangeReference
strange class.ElectionReport = refl
strange c = refl

nothing_strange : (π : Preference) (t : Data) (o : Option Data) → option_and_then (plain_value π t kind.StrangeReference) o ≡ None
nothing_strange π t None = refl
nothing_strange π t (Some d) = refl

-- so no object has a member of this name that means anything
pub no_election_id : (π : Preference) (t d : Data) (c : Class) → member_of_class π t d c (codes "ElectionId") ≡ None
no_election_id π t d c =
    let name = codes "ElectionId" in
    let plain : plain_member π t d c name ≡ None =
    ap (λ k. cond (is_in_envelope c name) None (option_and_then (plain_value π t k) (get name d))) (strange c)
    ∙ nothing_either_way (is_in_envelope c name) (option_and_then (plain_value π t kind.StrangeReference) (get name d)) (nothing_strange π t (get name d)) in
    ap₂ (λ k p. member_value π t k (get name d) p) (strange c) plain

-- ---- apart again

-- at any other name stands the member of the object
pub other_than_election : (k : Option Key) (members : List ℕ → Option MemberValue) (name : List ℕ) → bytes_eq name (codes "ElectionId") ≡ false
    → with_election_id k members name ≡ members name
other_than_election None members name other = refl
other_than_election (Some k) members name other = rw other refl

key_apart : (k l : Option Key) (m n : List ℕ → Option MemberValue) → m (codes "ElectionId") ≡ None → n (codes "ElectionId") ≡ None
    → with_election_id k m (codes "ElectionId") ≡ with_election_id l n (codes "ElectionId") → k ≡ l
key_apart None None m n a b e = refl
key_apart None (Some l) m n a b e = cc
key_apart (Some k) None m n a b e = cc
key_apart (Some k) (Some l) m n a b e = cc

members_apart : (k l : Option Key) (m n : List ℕ → Option MemberValue) → m (codes "ElectionId") ≡ None → n (codes "ElectionId") ≡ None
    → with_election_id k m ≡ with_election_id l n → (name : List ℕ) (b : Bool) → bytes_eq name (codes "ElectionId") ≡ b → m name ≡ n name
members_apart k l m n a b e name true is = subst (λ x. m x ≡ n x) (sym ((bytes_eq-Decides name (codes "ElectionId")).0 is)) (a ∙ sym b)
members_apart k l m n a b e name false is = sym (other_than_election k m name is) ∙ ap (λ f. f name) e ∙ other_than_election l n name is

-- two records with the keys of elections are equal only if the keys and the records are
pub apart_from_election : (a b : ObjectRecord) (k l : Option Key) → a.members (codes "ElectionId") ≡ None → b.members (codes "ElectionId") ≡ None
    → record_in_election k a ≡ record_in_election l b → (k ≡ l) × (a ≡ b)
apart_from_election a b k l without without' e =
    let members : with_election_id k a.members ≡ with_election_id l b.members = ap (λ r. r.members) e in
    let same : a.members ≡ b.members =
    fun_ext (λ name. members_apart k l a.members b.members without without' members name (bytes_eq name (codes "ElectionId")) refl) in (
      key_apart k l a.members b.members without without' (ap (λ f. f (codes "ElectionId")) members),
      ap₂ (λ (c : Class) (m : List ℕ → Option MemberValue). record { class = c; members = m }) (ap (λ r. r.class) e) same,
    )
