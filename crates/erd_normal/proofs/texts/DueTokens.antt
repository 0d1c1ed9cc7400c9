-- Members that are put into an object, and the tokens that are written of them.
use Rattle.erd_normal.proofs.Common.{◌≡◌, ℕ, true, false, not, List, [], ◌∷◌, is_some, if◌then◌else◌, Some, None, codes, refl, ap, Data, null, string, Members}
use Rattle.erd_normal.proofs.Common.{no_members, member, Class, Family, family, MemberKind, kind, Preference, is_empty_array, is_envelope_name, put_in}
use Rattle.erd_normal.proofs.Common.{normal_value, normal_members, normal_node_value, with_id, envelope_values, in_envelope, holds_objects}
use Rattle.erd_normal.proofs.Common.{written_object_value, written_election_value, written_report_value, slice_get, option_map, sym, ◌∙◌, object, get_item}
use Rattle.erd_normal.proofs.Common.{has_float, items_have_float, role, Within, list_of_items, entries_at, Asked, asked, IsAccepted, Placed, elections, objects}
use Rattle.erd_normal.proofs.Common.{all_at, within-holds, Object, option_map-Some, skeleton, election_stands, stands, in_at, zero, suc, ◌+◌, ◌<◌, ◌≤◌, Bool}
use Rattle.erd_normal.proofs.Common.{◌++◌, map, length, get_or, drop, Option, Less, Equal, Greater, subst, append_assoc, append-nil, arith, nat_list_cmp_total}
use Rattle.erd_normal.proofs.Common.{length-map, drop_more, exact_bytes, option_map_or, ordering_reverse, item, put, items_of, view, items_view, Value}
use Rattle.erd_normal.proofs.Common.{text_cmp, IsBeforeFirst, drop_all, Token, begin_array, end_array, key, before_put, put_all, due_value, due_list}
use Rattle.erd_normal.proofs.Common.{IsBeforeAll, NamesRise, WritesThrough, array_of, value_tokens, items_tokens, members_tokens, member_tokens}
use Rattle.erd_normal.proofs.lists.Lists.{entry_holds, items_again}
use Rattle.erd_text.proofs.WholeValues.{whole_entries, whole_get, all_whole}
use Rattle.erd_check.proofs.Positions.{left_there}
use Rattle.erd_meaning.proofs.EmptyLists.{given_by_test}
use Rattle.erd_normal.specs.declared.objects.due_members.DueMember.{DueMember}
use Rattle.erd_text.proofs.WrittenTokens.{then_rest}

-- ---- objects with members put in

-- members that are kept as they are
pub copied : (c : Class) (ms : Members) → normal_members (λ name k d. Some d) c ms ≡ ms
copied c no_members = refl
copied c (member k d ms) = ap (member k d) (copied c ms)

-- nothing is put in
pub put_none : (d : Data) → put_in [] d ≡ d
put_none null = refl
put_none e = refl

-- an `@id` is put in
pub put_id : (id : List ℕ) (d : Data) → put_in ((codes "@id", string id) ∷ []) d ≡ with_id (Some id) d
put_id id null = refl
put_id id e = refl

-- the envelope is put in
pub put_envelope : (d : Data) → put_in envelope_values d ≡ in_envelope d
put_envelope null = refl
put_envelope e = refl

-- a member of an election that holds no objects
pub other_election_value : (π : Preference) (t : Data) (i : ℕ) (k : MemberKind) (d : Data) → ((f : Family) → k ≡ kind.Keyed f → ⊥)
    → written_election_value π t i k d ≡ normal_value π t k d
other_election_value π t i (kind.Keyed f) d other = absurd (other f refl)
other_election_value π t i k d other = refl

-- a member of a report that holds no objects and is not in its envelope
pub other_report_value : (π : Preference) (t : Data) (name : List ℕ) (k : MemberKind) (d : Data) → ((f : Family) → k ≡ kind.Keyed f → ⊥)
    → (k ≡ kind.Elections → ⊥) → is_envelope_name name ≡ false → written_report_value π t name k d ≡ normal_value π t k d
other_report_value π t name (kind.Keyed f) d keyed elections other = absurd (keyed f refl)
other_report_value π t name kind.Elections d keyed elections other = absurd (elections refl)
other_report_value π t name k d keyed elections other = rw other refl

-- a member that is no list of contests and headers
pub other_node_value : (π : Preference) (t : Data) (k : MemberKind) (d inside : Data) → (k ≡ kind.Content → ⊥)
    → normal_node_value π t (Some k) d inside ≡ normal_value π t k d
other_node_value π t kind.Content d inside other = absurd (other refl)
other_node_value π t k d inside other = refl

-- a member of an object is kept: its content or its selections unless empty, and others by their kind
pub kept_in_object : (π : Preference) (t : Data) (i : ℕ) (k : MemberKind) (d : Data) → is_some (written_object_value π t i k d)
    ≡ (if holds_objects k then not (is_empty_array d) else is_some (normal_value π t k d))
kept_in_object π t i kind.Content d = given_by_test _ d
kept_in_object π t i (kind.Keyed family.Selection) d = given_by_test _ d
kept_in_object π t i (kind.Keyed f) d = cc
kept_in_object π t i k d = refl

-- ---- what stands in a report that has no fraction has none

-- an entry of an array that is a member
pub entry_whole : (name : List ℕ) (d : Data) → has_float d ≡ false → (i : ℕ) (e : Data) → slice_get (entries_at name d) i ≡ Some e → has_float e ≡ false
entry_whole name d whole i e at = all_at (λ d. has_float d ≡ false) (entries_at name d) i e (whole_entries name d whole) at

-- ---- the objects of a report that has no fraction have none

module _ (π : Preference) (t : Data) (accepted : IsAccepted π t) (whole : has_float t ≡ false) where
  whole_within : (a : Asked) → Within t a → has_float a.value ≡ false
  whole_within a w =
      within-holds (λ d. has_float d ≡ false)
      (record {
        of_object = λ k v ms h e. whole_get k (object ms) v h e;
        of_array = λ i v ds h e. entry_holds (λ d. has_float d ≡ false) (list_of_items ds) i v
            (all_whole (list_of_items ds) (ap items_have_float (items_again ds) ∙ h)) (ap (get_item i) (items_again ds) ∙ e);
      })
      t a whole w

  -- what is found at a position
  pub object_found : (f : Family) (i : ℕ) (d : Data) → Some d ≡ option_map (λ (o : Placed). o.value) (slice_get (objects f t) i) → has_float d ≡ false
  object_found f i d e =
      let o = option_map-Some (λ (o : Placed). o.value) (slice_get (objects f t) i) d (sym e) in
      ap has_float (sym o.2) ∙ whole_within (asked (Object (role.OfFamily f)) o.0.value)
      (record { place = o.0.place; is = stands π t accepted f o.0 (in_at (objects f t) i o.0 o.1) })

  pub election_found : (i : ℕ) (d : Data) → Some d ≡ option_map (λ (o : Placed). o.value) (slice_get (elections t) i) → has_float d ≡ false
  election_found i d e =
      let o = option_map-Some (λ (o : Placed). o.value) (slice_get (elections t) i) d (sym e) in
      ap has_float (sym o.2) ∙ whole_within (asked (Object role.Election) o.0.value)
      (record { place = o.0.place; is = election_stands t (skeleton π t accepted) o.0 (in_at (elections t) i o.0 o.1) })

-- ---- tokens that are written one value after another

-- a member that is kept
pub kept_member : (name : List ℕ) (r : Option Data) (was keyed now : List Token) → is_some r ≡ true → keyed ≡ was ++ key name ∷ []
    → ((d : Data) → r ≡ Some d → now ≡ keyed ++ value_tokens d) → now ≡ was ++ member_tokens name r
kept_member name None was keyed now some first second = cc
kept_member name (Some d) was keyed now some first second =
    second d refl ∙ (ap (λ ts. ts ++ value_tokens d) first ∙ append_assoc was (key name ∷ []) (value_tokens d))

-- a member if it is kept, and then the rest
pub member_or_none : (name : List ℕ) (r : Option Data) (ms : Members) (was now all : List Token) → now ≡ was ++ member_tokens name r
    → was ++ members_tokens (option_map_or (λ d. member name d ms) r ms) ≡ all → now ++ members_tokens ms ≡ all
member_or_none name None ms was now all written before = ap (λ ts. ts ++ members_tokens ms) (written ∙ append-nil was) ∙ before
member_or_none name (Some d) ms was now all written before = then_rest was (key name ∷ value_tokens d) now (members_tokens ms) all written before

-- the first of the entries that are left
pub entries_from : (vs : List Value) (i : ℕ) (v : Value) → i < length vs → v ≡ get_or vs i v → items_view (drop i vs)
    ≡ item (view v) (items_view (drop (i + 1) vs))
entries_from vs i v low is = ap items_view (drop_more vs i v low) ∙ ap (λ x. item (view x) (items_view (drop (i + 1) vs))) (sym is)

-- an array, once none of its entries is left
pub array_written : (was begun now : List Token) (left all : List Data) → begun ≡ was ++ begin_array ∷ [] → left ≡ [] → now ++ items_tokens (items_of left)
    ≡ begun ++ items_tokens (items_of all) → now ++ end_array ∷ [] ≡ was ++ value_tokens (array_of all)
array_written was begun now left all first none written =
    ap (λ ds. now ++ items_tokens (items_of ds)) (sym none) ∙ (written
    ∙ (ap (λ ts. ts ++ items_tokens (items_of all)) first ∙ append_assoc was (begin_array ∷ []) (items_tokens (items_of all))))

-- one entry more of a list
pub entry_written : {A : Type 0} (each : A → Data) (xs : List A) (k : ℕ) (x : A) (out now all : List Token) → slice_get xs k ≡ Some x
    → now ≡ out ++ value_tokens (each x)
    → out ++ items_tokens (items_of (map each (drop k xs))) ≡ all → now ++ items_tokens (items_of (map each (drop (k + 1) xs))) ≡ all
entry_written each xs k x out now all at written before =
    then_rest out (value_tokens (each x)) now (items_tokens (items_of (map each (drop (k + 1) xs)))) all written
    (ap (λ ys. out ++ items_tokens (items_of (map each ys))) (sym (left_there xs k x at)) ∙ before)

-- and all of them, which stand at these places
pub entries_written : {A : Type 0} (each : ℕ × A → Data) (ps : List (ℕ × A)) (places : List ℕ) (k : ℕ) (was begun out now : List Token)
    → places ≡ map (λ (p : ℕ × A). p.0) ps → length places ≤ k → begun ≡ was ++ begin_array ∷ []
    → out ++ items_tokens (items_of (map each (drop k ps))) ≡ begun ++ items_tokens (items_of (map each ps)) → now ≡ out ++ end_array ∷ []
    → now ≡ was ++ value_tokens (array_of (map each ps))
entries_written {A} each ps places k was begun out now are end first before written =
    let long = ap length are ∙ length-map ps (λ (p : ℕ × A). p.0) in
    written ∙ array_written was begun out (map each (drop k ps)) (map each ps) first (ap (map each) (drop_all k ps (omega (arith, end, long)))) before

-- ---- members that are put into an object, written in the order of their names

-- a name before the first goes first
put_before : (k : List ℕ) (v : Data) (ms : Members) → IsBeforeFirst k ms → put k v ms ≡ member k v ms
put_before k v no_members below = refl
put_before k v (member l d ms) below = rw below refl

-- a name before all that are put, and before the first, is before the first then
before_all : (k : List ℕ) (ps : List (List ℕ × Data)) (ms : Members) → IsBeforeAll k ps → IsBeforeFirst k ms → IsBeforeFirst k (put_all ps ms)
before_all k [] ms low below = below
before_all k (p ∷ ps) ms low below = before_put k p.0 p.1 (put_all ps ms) low.0 (before_all k ps ms low.1 below)

-- a member before all that are put stays first
stays_first : (k : List ℕ) (v : Data) (ps : List (List ℕ × Data)) (ms : Members) → IsBeforeAll k ps → put_all ps (member k v ms) ≡ member k v (put_all ps ms)
stays_first k v [] ms low = refl
stays_first k v (p ∷ ps) ms low =
    let turned : text_cmp p.0 k ≡ Greater = nat_list_cmp_total.antisymm p.0 k ∙ ap ordering_reverse low.0 in
    ap (put p.0 p.1) (stays_first k v ps ms low.1) ∙ rw turned refl

-- what comes before a name comes before those that it comes before
before_too : (k l : List ℕ) (ps : List (List ℕ × Data)) → text_cmp k l ≡ Less → IsBeforeAll l ps → IsBeforeAll k ps
before_too k l [] e low = tt
before_too k l (p ∷ ps) e low = (nat_list_cmp_total.trans k l p.0 e low.0, before_too k l ps e low.1)

-- ---- up to a name

-- all names that are put come after the name
pub none_through : (ps : List (List ℕ × Data)) (name : List ℕ) (out : List Token) → IsBeforeAll name ps → WritesThrough ps ps name false out out
none_through ps name out low = record {
  kept = λ e v ms. ap (λ x. out ++ members_tokens x) (stays_first name v ps ms low);
  replaced = λ e. cc;
}

pub greater_through : {all ps : List (List ℕ × Data)} {p : List ℕ × Data} → all ≡ p ∷ ps → NamesRise all → (name : List ℕ) (out : List Token)
    → text_cmp p.0 name ≡ Greater → WritesThrough all all name false out out
greater_through {ps = ps} {p = p} apart rise name out e =
    let below : text_cmp name p.0 ≡ Less = nat_list_cmp_total.antisymm name p.0 ∙ ap ordering_reverse e in
    rw apart (none_through (p ∷ ps) name out (below, before_too name p.0 ps below (subst NamesRise apart rise).0))

-- the first that is put has the name
pub equal_through : {all ps : List (List ℕ × Data)} {p : List ℕ × Data} → all ≡ p ∷ ps → NamesRise all → (name : List ℕ) (was now : List Token)
    → text_cmp p.0 name ≡ Equal → now ≡ was ++ key p.0 ∷ value_tokens p.1 → WritesThrough all ps name true was now
equal_through {ps = ps} {p = p} apart rise name was now e written = rw apart (record {
  kept = λ f. cc;
  replaced = λ f v ms.
      let same : p.0 ≡ name = exact_bytes p.0 name e in
      let itself : text_cmp p.0 p.0 ≡ Equal = ap (text_cmp p.0) same ∙ e in
      let there : put_all (p ∷ ps) (member p.0 v ms) ≡ member p.0 p.1 (put_all ps ms) =
      ap (put p.0 p.1) (stays_first p.0 v ps ms (subst NamesRise apart rise).0) ∙ rw itself refl in
      ap (λ n. was ++ members_tokens (put_all (p ∷ ps) (member n v ms))) (sym same)
      ∙ sym (then_rest was (key p.0 ∷ value_tokens p.1) now (members_tokens (put_all ps ms)) _ written (ap (λ x. was ++ members_tokens x) (sym there)));
})

-- the first that is put comes before the name
pub less_through : {all ps : List (List ℕ × Data)} {p : List ℕ × Data} → all ≡ p ∷ ps → NamesRise all → (left : List (List ℕ × Data)) (name : List ℕ)
    (taken : Bool) (was mid now : List Token) → text_cmp p.0 name ≡ Less
    → mid ≡ was ++ key p.0 ∷ value_tokens p.1 → WritesThrough ps left name taken mid now → WritesThrough all left name taken was now
less_through {ps = ps} {p = p} apart rise left name taken was mid now e written rest =
    let first : (v : Data) (ms : Members) → was ++ members_tokens (put_all (p ∷ ps) (member name v ms)) ≡ mid
    ++ members_tokens (put_all ps (member name v ms)) =
    λ v ms.
    sym (then_rest was (key p.0 ∷ value_tokens p.1) mid (members_tokens (put_all ps (member name v ms))) _ written
    (ap (λ x. was ++ members_tokens x)
    (sym (put_before p.0 p.1 (put_all ps (member name v ms)) (before_all p.0 ps (member name v ms) (subst NamesRise apart rise).0 e))))) in
    rw apart (record {
      kept = λ f v ms. first v ms ∙ rest.kept f v ms;
      replaced = λ f v ms. first v ms ∙ rest.replaced f v ms;
    })

-- ---- to the end

pub first_of_all : {all ps : List (List ℕ × Data)} {p : List ℕ × Data} → all ≡ p ∷ ps → NamesRise all → (was mid now : List Token)
    → mid ≡ was ++ key p.0 ∷ value_tokens p.1
    → mid ++ members_tokens (put_all ps no_members) ≡ now ++ members_tokens no_members → was ++ members_tokens (put_all all no_members) ≡ now
    ++ members_tokens no_members
first_of_all {ps = ps} {p = p} apart rise was mid now written rest =
    ap (λ qs. was ++ members_tokens (put_all qs no_members)) apart
    ∙ sym (then_rest was (key p.0 ∷ value_tokens p.1) mid (members_tokens (put_all ps no_members)) _ written
    (ap (λ x. was ++ members_tokens x) (sym (put_before p.0 p.1 (put_all ps no_members) (before_all p.0 ps no_members (subst NamesRise apart rise).0 tt)))))
    ∙ rest

-- ---- of a list that is taken apart

-- the names from a position on rise too
pub rise_from : (n : ℕ) (ms : List DueMember) → NamesRise (due_list ms) → NamesRise (due_list (drop n ms))
rise_from zero ms rise = rise
rise_from (suc n) [] rise = tt
rise_from (suc n) (m ∷ ms) rise = rise_from n ms rise.1

-- the member at a position, and those after it
pub apart_at : (ms : List DueMember) (at : ℕ) (m : DueMember) → at < length ms → m ≡ get_or ms at m → due_list (drop at ms) ≡ (m.name.now, due_value m.value)
    ∷ due_list (drop (at + 1) ms)
apart_at ms at m low is = ap due_list (drop_more ms at m low) ∙ ap (λ (x : DueMember). (x.name.now, due_value x.value) ∷ due_list (drop (at + 1) ms)) (sym is)
