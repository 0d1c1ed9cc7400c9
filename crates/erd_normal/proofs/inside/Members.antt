-- What stands under each name of members that are put in, or given one by one.
use Rattle.erd_normal.proofs.Common.{◌≡◌, ℕ, true, false, List, Some, bytes_eq, sym, refl, ap, ◌∙◌, subst, Data, object, Members, get_member, kind_of_member}
use Rattle.erd_normal.proofs.Common.{Class, MemberKind, text_exact, list_of_items, None, Option, option_map, option_and_then, Ordering, Equal, exact_bytes}
use Rattle.erd_normal.proofs.Common.{option_map_or, match_ordering, no_members, member, text_cmp, IsTree, Preference, IsBeforeFirst, AreMembers, before_later}
use Rattle.erd_normal.proofs.Common.{get_member-before, get_member-first, get_member-later, normal_members, normal_node_value, normal_content}
use Rattle.erd_normal.proofs.Common.{normal_node_members, AllByRecursion, array, Items, [], ◌∷◌, if◌then◌else◌, true≢false, put, get_member-put, put_all, Less}
use Rattle.erd_normal.proofs.Common.{Greater, nat_cmp, tied_itself, nat_list_cmp_total, slice_cmp, string, get_member-put_other, text_itself, array_of}
use Rattle.erd_normal.proofs.Common.{unsigned, number, get_member-tree, put-trees}
use Rattle.erd_normal.proofs.lists.Lists.{array_of-tree, trees_listed}

-- ---- the members of an object with a value put at a name: what stands at the other names, and two values put there in turn

-- the other names keep their values, where a name is other by a test that computes on literals; `get_member-put` of
-- serde_json says what stands at the name itself
pub put_elsewhere : (q k : List ℕ) (d : Data) (ms : Members) → bytes_eq q k ≡ false → get_member q (put k d ms) ≡ get_member q ms
put_elsewhere q k d ms other = get_member-put_other q k d ms (λ same. true≢false (sym (subst (λ x. bytes_eq q x ≡ true) same (text_itself q)) ∙ other))

-- the later of two values at a name stays
pub put_twice : (k : List ℕ) (d e : Data) (ms : Members) → put k d (put k e ms) ≡ put k d ms
put_twice k d e no_members = ap (λ o. match_ordering o (member k d (member k e no_members)) (member k d no_members) (member k e (put k d no_members)))
    (tied_itself nat_list_cmp_total k)
put_twice k d e (member l f ms) =
    (elim (slice_cmp nat_cmp k l) as (λ o. slice_cmp nat_cmp k l ≡ o
    → put k d (match_ordering o (member k e (member l f ms)) (member l e ms) (member l f (put k e ms))) ≡ match_ordering o (member k d (member l f ms))
    (member l d ms) (member l f (put k d ms))) [
      | Less ↦ λ is. ap (λ o. match_ordering o (member k d (member k e (member l f ms))) (member k d (member l f ms)) (member k e (put k d (member l f ms))))
          (tied_itself nat_list_cmp_total k)
      | Equal ↦ λ is. ap (λ o. match_ordering o (member k d (member l e ms)) (member l d ms) (member l e (put k d ms))) is
      | Greater ↦ λ is. ap (λ o. match_ordering o (member k d (member l f (put k e ms))) (member l d (put k e ms)) (member l f (put k d (put k e ms)))) is
          ∙ ap (member l f) (put_twice k d e ms)
    ]) refl

-- ---- several values put at their names

abbrev Named : Type 0
Named = List ℕ × Data

-- what stands at a name then, where o stood before
abbrev pub put_value : List Named → List ℕ → Option Data → Option Data
put_value [] name o = o
put_value (p ∷ ps) name o = if bytes_eq name p.0 then Some p.1 else put_value ps name o

pub get_put_all : (ps : List Named) (name : List ℕ) (ms : Members) → get_member name (put_all ps ms) ≡ put_value ps name (get_member name ms)
get_put_all [] name ms = refl
get_put_all (p ∷ ps) name ms =
    (elim (bytes_eq name p.0) as (λ b. bytes_eq name p.0 ≡ b → get_member name (put_all (p ∷ ps) ms)
    ≡ (if b then Some p.1 else put_value ps name (get_member name ms))) [
      | true ↦ λ is. ap (λ x. get_member x (put p.0 p.1 (put_all ps ms))) (text_exact name p.0 is) ∙ get_member-put p.0 p.1 (put_all ps ms)
      | false ↦ λ is. put_elsewhere name p.0 p.1 (put_all ps ms) is ∙ get_put_all ps name ms
    ]) refl

-- ---- a value by each name

-- the members for which there is a value
abbrev pub each_member : (List ℕ → Data → Option Data) → Members → Members
each_member value no_members = no_members
each_member value (member k d ms) = option_map_or (λ v. member k v (each_member value ms)) (value k d) (each_member value ms)

get_each_at : (value : List ℕ → Data → Option Data) (name l : List ℕ) (d : Data) (ms rest : Members) (o : Ordering) (r : Option Data)
    → text_cmp name l ≡ o → value l d ≡ r → AreMembers (member l d ms) → get_member name rest ≡ option_and_then (value name) (get_member name ms)
    → get_member name (option_map_or (λ v. member l v rest) r rest) ≡ option_and_then (value name)
    (match_ordering o (get_member name ms) (Some d) (get_member name ms))
get_each_at value name l d ms rest Equal None is given rise later =
    let same : name ≡ l = exact_bytes name l is in
    let none : get_member name ms ≡ None = ap (λ x. get_member x ms) same ∙ get_member-before l ms rise.2 rise.0 in
    later ∙ ap (option_and_then (value name)) none ∙ sym (ap (λ x. value x d) same ∙ given)
get_each_at value name l d ms rest Equal (Some v) is given rise later =
    let same : name ≡ l = exact_bytes name l is in
    rw is (sym (ap (λ x. value x d) same ∙ given))
get_each_at value name l d ms rest o None is given rise later = later
get_each_at value name l d ms rest o (Some v) is given rise later = rw is later

pub get_each : (value : List ℕ → Data → Option Data) (name : List ℕ) (ms : Members) → AreMembers ms → get_member name (each_member value ms)
    ≡ option_and_then (value name) (get_member name ms)
get_each value name no_members rise = refl
get_each value name (member l d ms) rise =
    get_each_at value name l d ms (each_member value ms) (text_cmp name l) (value l d) refl refl rise (get_each value name ms rise.2)

before_each : (value : List ℕ → Data → Option Data) (k : List ℕ) (ms : Members) → AreMembers ms → IsBeforeFirst k ms → IsBeforeFirst k (each_member value ms)
before_each value k no_members rise below = tt
before_each value k (member l d ms) rise below =
    elim (value l d) as (λ r. IsBeforeFirst k (option_map_or (λ v. member l v (each_member value ms)) r (each_member value ms)))
    [ None ↦ before_each value k ms rise.2 (before_later k l ms below rise.0) | Some v ↦ below ]

pub trees_of_each : (value : List ℕ → Data → Option Data) (ms : Members) → AreMembers ms
    → ((name : List ℕ) (d v : Data) → get_member name ms ≡ Some d → IsTree d → value name d ≡ Some v → IsTree v) → AreMembers (each_member value ms)
trees_of_each value no_members rise each = tt
trees_of_each value (member l d ms) rise each =
    let h = trees_of_each value ms rise.2 (λ name e v found. each name e v (get_member-later l name d e ms rise found)) in
    (elim (value l d) as (λ r. value l d ≡ r → AreMembers (option_map_or (λ v. member l v (each_member value ms)) r (each_member value ms))) [
      | None ↦ λ given. h
      | Some v ↦ λ given. (before_each value l ms rise.2 rise.0, each l d v (get_member-first l d ms) rise.1 given, h)
    ]) refl

-- ---- of an object of a class

-- what gives the value of a member, by its name and kind
abbrev pub Builder : Type 0
Builder = List ℕ → MemberKind → Data → Option Data

module _ (value_of : Builder) (c : Class) where
  -- the value by the name alone
  abbrev pub value_in_class : List ℕ → Data → Option Data
  value_in_class name d = value_of name (kind_of_member c name) d

  pub normal_members_each : (ms : Members) → normal_members value_of c ms ≡ each_member value_in_class ms
  normal_members_each no_members = refl
  normal_members_each (member k d ms) = rw (normal_members_each ms) refl

-- ---- of a contest or a header

module _ (π : Preference) (t : Data) (c : Option Class) where
  -- the value by the name alone, with what is built of it as a list of contests and headers
  abbrev pub node_value : List ℕ → Data → Option Data
  node_value name d = normal_node_value π t (option_map (λ c. kind_of_member c name) c) d (normal_content π t d)

  pub normal_node_members_each : (ms : Members) → normal_node_members π t c ms ≡ each_member node_value ms
  normal_node_members_each no_members = refl
  normal_node_members_each (member k d ms) = rw (normal_node_members_each ms) refl

-- ---- what holds of a value and is told part by part; so it is of trees

-- it holds of an array and of an object by what it says of their parts, and of texts and of the number of the envelope
pub record IsPartwise (P : Data → Type 0) : Type 0 where
  pub entries : (ds : Items) → P (array ds) → AllByRecursion P (list_of_items ds)
  pub listed : (ds : List Data) → AllByRecursion P ds → P (array_of ds)
  pub found : (name : List ℕ) (v : Data) (ms : Members) → P (object ms) → get_member name ms ≡ Some v → P v
  pub with_put : (name : List ℕ) (v : Data) (ms : Members) → P (object ms) → P v → P (object (put name v ms))
  pub with_each : (value : List ℕ → Data → Option Data) (ms : Members) → P (object ms)
      → ((name : List ℕ) (d v : Data) → get_member name ms ≡ Some d → P d → value name d ≡ Some v → P v) → P (object (each_member value ms))
  pub text : (s : List ℕ) → P (string s)
  pub one : P (number (unsigned 1))

pub tree_partwise : IsPartwise IsTree
tree_partwise = record {
  entries = trees_listed;
  listed = array_of-tree;
  found = get_member-tree;
  with_put = put-trees;
  with_each = trees_of_each;
  text = λ s. tt;
  one = tt;
}
