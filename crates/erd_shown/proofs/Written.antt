-- What is written of the order of a ballot.
use Rattle.erd_text.proofs.Common.{◌≡◌, ℕ, zero, suc, ◌+◌, ◌<◌, ◌≤◌, Bool, true, false, cond, List, [], ◌∷◌, ◌++◌, length, get_or, drop, drop_more, Some, None}
use Rattle.erd_text.proofs.Common.{Option, codes, is_eq, Ordering, Equal, sym, refl, ap, ◌∙◌, arith, append-nil, Data, null, boolean, string, array, object}
use Rattle.erd_text.proofs.Common.{no_items, item, Members, no_members, member, get_member, get, view, items_view, members_tokens, value_tokens, Value}
use Rattle.std.proofs.lemmas.Map.Text.{is_eq-slice_cmp}
use Rattle.json.specs.Token.{Token, key, begin_object, end_object}
use Rattle.serde_json.specs.Data.{number, depth, items_depth, members_depth}
use Rattle.erd_tables.specs.Texts.{text_cmp}
use Rattle.erd_check.proofs.Shapes.{get_member-depth}
use Rattle.erd_text.proofs.WrittenTokens.{then_rest}
use Rattle.erd_meaning.specs.Keys.{Preference}
use Rattle.erd_meaning.specs.Records.{class_of_node, is_header_class}
use Rattle.std.specs.Option.{option_map_or}
use Rattle.erd_meaning.specs.declared.keys.key.Key.{Key}
use Rattle.erd_shown.proofs.Common.{compact_text, option_map, items_of, items_tokens, is_some, begin_array, append_assoc, map, map-append, slice_get}
use Rattle.erd_shown.proofs.Common.{slice_get_within, get_or_from_slice_get}
use Rattle.erd_shown.specs.KeyData.{array_of, shown_key}
use Rattle.erd_shown.specs.code.Writing.{member_if, member_told}
use Rattle.erd_shown.specs.ContentData.{content_data, contest_data, header_data, inside_data, members_in, node_data}

-- ---- carried members

pub carried_one : (b : Bool) (k : List ℕ) (d : Data) (ms : Members) (was now all : List Token) → now ≡ was ++ member_if b k d
    → was ++ members_tokens (cond b (member k d ms) ms) ≡ all → now ++ members_tokens ms ≡ all
carried_one true k d ms was now all written before = then_rest was (key k ∷ value_tokens d) now (members_tokens ms) all written before
carried_one false k d ms was now all written before = ap (λ ts. ts ++ members_tokens ms) (written ∙ append-nil was) ∙ before

-- ---- nodes

pub node_header : (π : Preference) (t d : Data) → is_header_class (class_of_node d) ≡ true → node_data π t d
    ≡ header_data π t d (inside_data π t (members_in d))
node_header π t (object ms) e = rw e
node_header π t d e = cc

pub node_contest : (π : Preference) (t d : Data) → is_header_class (class_of_node d) ≡ false → node_data π t d ≡ contest_data π t d
node_contest π t (object ms) e = rw e
node_contest π t d e = refl

abbrev pub content_at : Preference → Data → Option Data → Data
content_at π t None = array no_items
content_at π t (Some v) = content_data π t v

inside-get : (π : Preference) (t : Data) (ms : Members) → inside_data π t ms ≡ content_at π t (get_member (codes "OrderedContent") ms)
inside-get π t no_members = refl
inside-get π t (member k d ms) = at (text_cmp (codes "OrderedContent") k) refl (inside-get π t ms)
  where
    at : (o : Ordering) → text_cmp (codes "OrderedContent") k ≡ o → inside_data π t ms ≡ content_at π t (get_member (codes "OrderedContent") ms)
        → inside_data π t (member k d ms) ≡ content_at π t (get_member (codes "OrderedContent") (member k d ms))
    at Equal is h = rw (is, sym (is_eq-slice_cmp (codes "OrderedContent") k) ∙ ap is_eq is)
    at e is h = rw (is, sym (is_eq-slice_cmp (codes "OrderedContent") k) ∙ ap is_eq is) h

pub inside_at : (π : Preference) (t d : Data) (o : Option Data) → o ≡ get (codes "OrderedContent") d → content_at π t o ≡ inside_data π t (members_in d)
inside_at π t (object ms) o e = ap (content_at π t) e ∙ sym (inside-get π t ms)
inside_at π t null o e = ap (content_at π t) e
inside_at π t (boolean b) o e = ap (content_at π t) e
inside_at π t (number n) o e = ap (content_at π t) e
inside_at π t (string s) o e = ap (content_at π t) e
inside_at π t (array ds) o e = ap (content_at π t) e

-- ---- depths (erd_compare has these)

pub get_depth : (name : List ℕ) (d v : Data) → get name d ≡ Some v → suc (depth v) ≤ depth d
get_depth name (object ms) v e = let h : depth v ≤ members_depth ms = get_member-depth name v ms e in omega arith
get_depth name d v e = cc

pub entry_depth : (vs : List Value) (i : ℕ) (v : Value) → i < length vs → v ≡ get_or vs i v → depth (view v) ≤ items_depth (items_view vs)
entry_depth [] i v low e = absurd (omega arith)
entry_depth (w ∷ vs) zero v low e = let h : depth (view v) ≡ depth (view w) = ap (λ (u : Value). depth (view u)) e in omega arith
entry_depth (w ∷ vs) (suc i) v low e = let h : depth (view v) ≤ items_depth (items_view vs) = entry_depth vs i v (omega arith) e in omega arith

pub entries_from : (vs : List Value) (i : ℕ) (v : Value) → i < length vs → v ≡ get_or vs i v → items_view (drop i vs)
    ≡ item (view v) (items_view (drop (i + 1) vs))
entries_from vs i v low is = ap items_view (drop_more vs i v low) ∙ ap (λ x. item (view x) (items_view (drop (i + 1) vs))) (sym is)

-- ---- tokens

-- what is written of a contest, step by step
pub contest_tokens : (o0 o1 o2 o3 o4 o5 o6 o7 o8 : List Token) (a b s : Data) → o1 ≡ o0 ++ begin_object ∷ [] → o2 ≡ o1 ++ key (codes "carried") ∷ []
    → o3 ≡ o2 ++ value_tokens a
    → o4 ≡ o3 ++ key (codes "contest") ∷ [] → o5 ≡ o4 ++ value_tokens b → o6 ≡ o5 ++ key (codes "selections") ∷ [] → o7 ≡ o6 ++ value_tokens s
    → o8 ≡ o7 ++ end_object ∷ []
    → o8 ≡ o0 ++ value_tokens (object (member (codes "carried") a (member (codes "contest") b (member (codes "selections") s no_members))))
contest_tokens o0 o1 o2 o3 o4 o5 o6 o7 o8 a b s e1 e2 e3 e4 e5 e6 e7 e8 =
    let all = o0 ++ value_tokens (object (member (codes "carried") a (member (codes "contest") b (member (codes "selections") s no_members)))) in
    let r7 = end_object ∷ [] in
    let r6 = value_tokens s ++ r7 in
    let r5 = key (codes "selections") ∷ r6 in
    let r4 = value_tokens b ++ r5 in
    let r3 = key (codes "contest") ∷ r4 in
    let r2 = value_tokens a ++ r3 in
    let r1 = key (codes "carried") ∷ r2 in
    e8
    ∙ then_rest o6 (value_tokens s) o7 r7 all e7
    (then_rest o5 (key (codes "selections") ∷ []) o6 r6 all e6
    (then_rest o4 (value_tokens b) o5 r5 all e5
    (then_rest o3 (key (codes "contest") ∷ []) o4 r4 all e4
    (then_rest o2 (value_tokens a) o3 r3 all e3
    (then_rest o1 (key (codes "carried") ∷ []) o2 r2 all e2
    (then_rest o0 (begin_object ∷ []) o1 r1 all e1 refl))))))

-- ---- lists, entry by entry

pub drop_there : {A : Type 0} (xs : List A) (i : ℕ) (x : A) → slice_get xs i ≡ Some x → drop i xs ≡ x ∷ drop (i + 1) xs
drop_there xs i x e = drop_more xs i x (slice_get_within xs i x e) ∙ ap (λ y. y ∷ drop (i + 1) xs) (get_or_from_slice_get xs i x x e)

-- one more key is written
pub key_next : (ks : List Key) (i : ℕ) (k : Key) (was now all : List Token) → slice_get ks i ≡ Some k
    → was ++ items_tokens (items_of (map shown_key (drop i ks))) ≡ all
    → now ≡ was ++ value_tokens (shown_key k) → now ++ items_tokens (items_of (map shown_key (drop (i + 1) ks))) ≡ all
key_next ks i k was now all there before written =
    then_rest was (value_tokens (shown_key k)) now (items_tokens (items_of (map shown_key (drop (i + 1) ks)))) all written
    (ap (λ xs. was ++ items_tokens (items_of (map shown_key xs))) (sym (drop_there ks i k there)) ∙ before)

-- one more member is written, if there is a value for it
pub told_one : (k : List ℕ) (o : Option Data) (ms : Members) (was now all : List Token) → now ≡ was ++ member_told k o
    → was ++ members_tokens (option_map_or (λ v. member k v ms) o ms) ≡ all → now ++ members_tokens ms ≡ all
told_one k (Some d) ms was now all written before = then_rest was (key k ∷ value_tokens d) now (members_tokens ms) all written before
told_one k None ms was now all written before = ap (λ ts. ts ++ members_tokens ms) (written ∙ append-nil was) ∙ before

-- a member that is written, or not
pub told_member : (b : Bool) (o : Option Data) (k : List ℕ) (was now : List Token) → is_some (cond b None o) ≡ true
    → ((d : Data) → o ≡ Some d → now ≡ (was ++ key k ∷ []) ++ value_tokens d)
    → now ≡ was ++ member_told k (cond b None o)
told_member true o k was now some each = cc
told_member false None k was now some each = cc
told_member false (Some d) k was now some each = each d refl ∙ append_assoc was (key k ∷ []) (value_tokens d)

pub untold_member : (o : Option Data) (k : List ℕ) (was : List Token) → is_some o ≡ false → was ≡ was ++ member_told k o
untold_member None k was none = sym (append-nil was)
untold_member (Some d) k was none = cc

-- the text of a value, if there is one
pub some_text : (o : Option Data) (text : List ℕ) → is_some o ≡ true → ((d : Data) → o ≡ Some d → text ≡ compact_text d) → Some text ≡ option_map compact_text o
some_text None text some each = cc
some_text (Some d) text some each = ap Some (each d refl)

pub no_text : (o : Option Data) → is_some o ≡ false → None ≡ option_map compact_text o
no_text None none = refl
no_text (Some d) none = cc

-- the start of a name, and its other parts
pub name_tokens : (o0 o1 o2 o3 o4 : List Token) (s : List ℕ) (ks : Data) (rest : List Data) → o1 ≡ o0 ++ begin_array ∷ [] → o2 ≡ o1 ++ value_tokens (string s)
    → o3 ≡ o2 ++ value_tokens ks
    → o4 ≡ o3 ++ items_tokens (items_of rest) → o4 ≡ o0 ++ value_tokens (array_of (string s ∷ ks ∷ rest))
name_tokens o0 o1 o2 o3 o4 s ks rest e1 e2 e3 e4 =
    let all = o0 ++ value_tokens (array_of (string s ∷ ks ∷ rest)) in
    let r3 = items_tokens (items_of rest) in
    let r2 = value_tokens ks ++ r3 in
    e4
    ∙ then_rest o2 (value_tokens ks) o3 r3 all e3
    (then_rest o1 (value_tokens (string s)) o2 r2 all e2
    (then_rest o0 (begin_array ∷ []) o1 (value_tokens (string s) ++ r2) all e1 refl))

-- ---- pairs of a name and a selection

-- one more stands with its name
pub next_named : {P Q : Type 0} (g : P → Q) (f : Data → Q) (old new : List P) (p : P) (vs : List Value) (i : ℕ) (v : Value) (all : List Q) → new ≡ old ++ p ∷ []
    → g p ≡ f (view v) → slice_get vs i ≡ Some v
    → map g old ++ map f (map view (drop i vs)) ≡ all → map g new ++ map f (map view (drop (i + 1) vs)) ≡ all
next_named g f old new p vs i v all is one there before =
    let rest = map f (map view (drop (i + 1) vs)) in
    ap (λ xs. map g xs ++ rest) is
    ∙ ap (λ xs. xs ++ rest) (map-append g old (p ∷ []))
    ∙ append_assoc (map g old) (g p ∷ []) rest
    ∙ ap (λ x. map g old ++ x ∷ rest) one
    ∙ ap (λ xs. map g old ++ map f (map view xs)) (sym (drop_there vs i v there))
    ∙ before

-- ---- objects

-- the start of an object, its class, and the key of its election
pub head_tokens : (o0 o1 o2 o3 o4 o5 : List Token) (s : List ℕ) (e : Data) → o1 ≡ o0 ++ begin_object ∷ [] → o2 ≡ o1 ++ key (codes "class") ∷ []
    → o3 ≡ o2 ++ value_tokens (string s)
    → o4 ≡ o3 ++ key (codes "election") ∷ [] → o5 ≡ o4 ++ value_tokens e → o5 ≡ o0 ++ begin_object ∷ key (codes "class")
    ∷ (value_tokens (string s) ++ key (codes "election") ∷ value_tokens e)
head_tokens o0 o1 o2 o3 o4 o5 s e e1 e2 e3 e4 e5 =
    let r4 = value_tokens e in
    let r3 = key (codes "election") ∷ r4 in
    let r2 = value_tokens (string s) ++ r3 in
    let all = o0 ++ begin_object ∷ key (codes "class") ∷ r2 in
    e5
    ∙ then_rest o3 (key (codes "election") ∷ []) o4 r4 all e4
    (then_rest o2 (value_tokens (string s)) o3 r3 all e3
    (then_rest o1 (key (codes "class") ∷ []) o2 r2 all e2
    (then_rest o0 (begin_object ∷ []) o1 (key (codes "class") ∷ r2) all e1 refl)))

-- an object of two members
pub two_members : (o0 o1 o2 o3 o4 o5 o6 : List Token) (k l : List ℕ) (a b : Data) → o1 ≡ o0 ++ begin_object ∷ [] → o2 ≡ o1 ++ key k ∷ []
    → o3 ≡ o2 ++ value_tokens a → o4 ≡ o3 ++ key l ∷ []
    → o5 ≡ o4 ++ value_tokens b → o6 ≡ o5 ++ end_object ∷ [] → o6 ≡ o0 ++ value_tokens (object (member k a (member l b no_members)))
two_members o0 o1 o2 o3 o4 o5 o6 k l a b e1 e2 e3 e4 e5 e6 =
    let all = o0 ++ value_tokens (object (member k a (member l b no_members))) in
    let r5 = end_object ∷ [] in
    let r4 = value_tokens b ++ r5 in
    let r3 = key l ∷ r4 in
    let r2 = value_tokens a ++ r3 in
    e6
    ∙ then_rest o4 (value_tokens b) o5 r5 all e5
    (then_rest o3 (key l ∷ []) o4 r4 all e4
    (then_rest o2 (value_tokens a) o3 r3 all e3
    (then_rest o1 (key k ∷ []) o2 r2 all e2
    (then_rest o0 (begin_object ∷ []) o1 (key k ∷ r2) all e1 refl))))

-- an object of two members and others
pub two_then : (o0 o1 o2 o3 o4 o5 o6 : List Token) (k l : List ℕ) (a b : Data) (ms : Members) → o1 ≡ o0 ++ begin_object ∷ [] → o2 ≡ o1 ++ key k ∷ []
    → o3 ≡ o2 ++ value_tokens a → o4 ≡ o3 ++ key l ∷ []
    → o5 ≡ o4 ++ value_tokens b → o6 ≡ o5 ++ members_tokens ms → o6 ≡ o0 ++ value_tokens (object (member k a (member l b ms)))
two_then o0 o1 o2 o3 o4 o5 o6 k l a b ms e1 e2 e3 e4 e5 e6 =
    let all = o0 ++ value_tokens (object (member k a (member l b ms))) in
    let r5 = members_tokens ms in
    let r4 = value_tokens b ++ r5 in
    let r3 = key l ∷ r4 in
    let r2 = value_tokens a ++ r3 in
    e6
    ∙ then_rest o4 (value_tokens b) o5 r5 all e5
    (then_rest o3 (key l ∷ []) o4 r4 all e4
    (then_rest o2 (value_tokens a) o3 r3 all e3
    (then_rest o1 (key k ∷ []) o2 r2 all e2
    (then_rest o0 (begin_object ∷ []) o1 (key k ∷ r2) all e1 refl))))
