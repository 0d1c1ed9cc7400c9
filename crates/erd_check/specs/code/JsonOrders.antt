-- The order of JSON values is total.
use Rattle.std.proofs.Common.{◌≡◌, ◌⊎◌, inl, inr, ⊎_elim, Ordering, Less, Equal, Greater, nat_cmp, refl, sym, ap, ap₂, ◌∙◌, subst}
use Rattle.std.proofs.lemmas.Cmp.{alike_right, int_cmp_total, nat_cmp_total, nat_list_cmp_total}
use Rattle.std.specs.Cmp.{IsTotalOrder, bool_cmp_total, on_total}
use Rattle.std.specs.Cmp.Lexicographic.{options_total}
use Rattle.std.specs.Ordering.{ordering_reverse, ordering_then}
use Rattle.serde_json.specs.Data.{Data, null, boolean, number, string, array, object, Items, no_items, item, Members, no_members, member}
use Rattle.serde_json.specs.Find.{as_integer}
use Rattle.erd_tables.proofs.PlaceOrder.{then_both}
use Rattle.erd_tables.specs.Texts.{text_cmp}
use Rattle.erd_check.specs.code.JsonOrder.{items_cmp, json_cmp, kind_number, members_cmp, number_cmp}

number_cmp_total : IsTotalOrder number_cmp
number_cmp_total = on_total as_integer (options_total int_cmp_total)

-- ---- the other way round

then_reversed : (a b c d : Ordering) → a ≡ ordering_reverse c → b ≡ ordering_reverse d → ordering_then a b ≡ ordering_reverse (ordering_then c d)
then_reversed a b Less d first second = rw first refl
then_reversed a b Equal d first second = rw first second
then_reversed a b Greater d first second = rw first refl

null_reversed : (e : Data) → json_cmp null e ≡ ordering_reverse (json_cmp e null)
null_reversed null = refl
null_reversed (boolean b) = refl
null_reversed (number n) = refl
null_reversed (string s) = refl
null_reversed (array ds) = refl
null_reversed (object ms) = refl

mutual
  reversed : (d e : Data) → json_cmp d e ≡ ordering_reverse (json_cmp e d)
  reversed (boolean a) (boolean b) = bool_cmp_total.antisymm a b
  reversed (number m) (number n) = number_cmp_total.antisymm m n
  reversed (string a) (string b) = nat_list_cmp_total.antisymm a b
  reversed (array ds) (array es) = items_reversed ds es
  reversed (object ms) (object ns) = members_reversed ms ns
  reversed null e = null_reversed e
  reversed d e = refl

  items_reversed : (ds es : Items) → items_cmp ds es ≡ ordering_reverse (items_cmp es ds)
  items_reversed no_items no_items = refl
  items_reversed no_items (item e es) = refl
  items_reversed (item d ds) no_items = refl
  items_reversed (item d ds) (item e es) = then_reversed (json_cmp d e) (items_cmp ds es) (json_cmp e d) (items_cmp es ds) (reversed d e) (items_reversed ds es)

  members_reversed : (ms ns : Members) → members_cmp ms ns ≡ ordering_reverse (members_cmp ns ms)
  members_reversed no_members no_members = refl
  members_reversed no_members (member l e ns) = refl
  members_reversed (member k d ms) no_members = refl
  members_reversed (member k d ms) (member l e ns) =
      then_reversed (text_cmp k l) _ (text_cmp l k) _ (nat_list_cmp_total.antisymm k l)
      (then_reversed (json_cmp d e) (members_cmp ms ns) (json_cmp e d) (members_cmp ns ms) (reversed d e) (members_reversed ms ns))

-- ---- tied values compare alike

mutual
  alike : (d e f : Data) → json_cmp d e ≡ Equal → json_cmp d f ≡ json_cmp e f
  alike (boolean a) (boolean b) (boolean c) h = bool_cmp_total.congr a b c h
  alike (boolean a) (boolean b) f h = refl
  alike (number m) (number n) (number o) h = number_cmp_total.congr m n o h
  alike (number m) (number n) f h = refl
  alike (string a) (string b) (string c) h = nat_list_cmp_total.congr a b c h
  alike (string a) (string b) f h = refl
  alike (array ds) (array es) (array fs) h = items_alike ds es fs h
  alike (array ds) (array es) f h = refl
  alike (object ms) (object ns) (object os) h = members_alike ms ns os h
  alike (object ms) (object ns) f h = refl
  alike null null f h = refl
  alike d e f h = cc

  items_alike : (ds es fs : Items) → items_cmp ds es ≡ Equal → items_cmp ds fs ≡ items_cmp es fs
  items_alike no_items no_items fs h = refl
  items_alike no_items (item e es) fs h = cc
  items_alike (item d ds) no_items fs h = cc
  items_alike (item d ds) (item e es) no_items h = refl
  items_alike (item d ds) (item e es) (item f fs) h =
      let both = then_both (json_cmp d e) (items_cmp ds es) h in
      ap₂ ordering_then (alike d e f both.0) (items_alike ds es fs both.1)

  members_alike : (ms ns os : Members) → members_cmp ms ns ≡ Equal → members_cmp ms os ≡ members_cmp ns os
  members_alike no_members no_members os h = refl
  members_alike no_members (member l e ns) os h = cc
  members_alike (member k d ms) no_members os h = cc
  members_alike (member k d ms) (member l e ns) no_members h = refl
  members_alike (member k d ms) (member l e ns) (member j f os) h =
      let first = then_both (text_cmp k l) (ordering_then (json_cmp d e) (members_cmp ms ns)) h in
      let both = then_both (json_cmp d e) (members_cmp ms ns) first.1 in
      ap₂ ordering_then (nat_list_cmp_total.congr k l j first.0) (ap₂ ordering_then (alike d e f both.0) (members_alike ms ns os both.1))

-- what is less than one of two tied values is less than the other
less_tied : (d e f : Data) → json_cmp d e ≡ Less → json_cmp e f ≡ Equal → json_cmp d f ≡ Less
less_tied d e f h k =
    let back : json_cmp f e ≡ Equal = reversed f e ∙ ap ordering_reverse k in
    reversed d f ∙ ap ordering_reverse (alike f e d back ∙ (reversed e d ∙ ap ordering_reverse h))

-- ---- what is less than a lesser value is less

then_less : (a b c x y z : Ordering) → (a ≡ Less → b ≡ Less → c ≡ Less) → (a ≡ Less → b ≡ Equal → c ≡ Less) → (a ≡ Equal → c ≡ b)
    → (x ≡ Less → y ≡ Less → z ≡ Less) → ordering_then a x ≡ Less → ordering_then b y ≡ Less → ordering_then c z ≡ Less
then_less Less Less c x y z both tied same rest h k = rw (both refl refl) refl
then_less Less Equal c x y z both tied same rest h k = rw (tied refl refl) refl
then_less Less Greater c x y z both tied same rest h k = cc
then_less Equal Less c x y z both tied same rest h k = rw (same refl) refl
then_less Equal Equal c x y z both tied same rest h k = rw (same refl) (rest h k)
then_less Equal Greater c x y z both tied same rest h k = cc
then_less Greater b c x y z both tied same rest h k = cc

-- a lesser kind makes a lesser value
by_kind : (d e : Data) → nat_cmp (kind_number d) (kind_number e) ≡ Less → json_cmp d e ≡ Less
by_kind null e h = h
by_kind (boolean a) (boolean b) h = cc
by_kind (number m) (number n) h = cc
by_kind (string a) (string b) h = cc
by_kind (array ds) (array es) h = cc
by_kind (object ms) (object ns) h = cc
by_kind d e h = h

-- a lesser value is of a lesser kind, or of the same
kinds : (d e : Data) → json_cmp d e ≡ Less → (nat_cmp (kind_number d) (kind_number e) ≡ Less) ⊎ (kind_number d ≡ kind_number e)
kinds null e h = inl h
kinds (boolean a) (boolean b) h = inr refl
kinds (number m) (number n) h = inr refl
kinds (string a) (string b) h = inr refl
kinds (array ds) (array es) h = inr refl
kinds (object ms) (object ns) h = inr refl
kinds d e h = inl h

first_apart : (d e f : Data) → nat_cmp (kind_number d) (kind_number e) ≡ Less → json_cmp e f ≡ Less → json_cmp d f ≡ Less
first_apart d e f h k =
    ⊎_elim (λ low. by_kind d f (nat_cmp_total.trans (kind_number d) (kind_number e) (kind_number f) h low))
    (λ same. by_kind d f (subst (λ n. nat_cmp (kind_number d) n ≡ Less) same h)) (kinds e f k)

last_apart : (d e f : Data) → json_cmp d e ≡ Less → nat_cmp (kind_number e) (kind_number f) ≡ Less → json_cmp d f ≡ Less
last_apart d e f h k =
    ⊎_elim (λ low. by_kind d f (nat_cmp_total.trans (kind_number d) (kind_number e) (kind_number f) low k))
    (λ same. by_kind d f (subst (λ n. nat_cmp n (kind_number f) ≡ Less) (sym same) k)) (kinds d e h)

mutual
  less : (d e f : Data) → json_cmp d e ≡ Less → json_cmp e f ≡ Less → json_cmp d f ≡ Less
  less (boolean a) (boolean b) (boolean c) h k = bool_cmp_total.trans a b c h k
  less (boolean a) (boolean b) f h k = last_apart (boolean a) (boolean b) f h k
  less (number m) (number n) (number o) h k = number_cmp_total.trans m n o h k
  less (number m) (number n) f h k = last_apart (number m) (number n) f h k
  less (string a) (string b) (string c) h k = nat_list_cmp_total.trans a b c h k
  less (string a) (string b) f h k = last_apart (string a) (string b) f h k
  less (array ds) (array es) (array fs) h k = items_less ds es fs h k
  less (array ds) (array es) f h k = last_apart (array ds) (array es) f h k
  less (object ms) (object ns) (object os) h k = members_less ms ns os h k
  less (object ms) (object ns) f h k = last_apart (object ms) (object ns) f h k
  less d e f h k = first_apart d e f h k

  items_less : (ds es fs : Items) → items_cmp ds es ≡ Less → items_cmp es fs ≡ Less → items_cmp ds fs ≡ Less
  items_less no_items no_items no_items h k = h
  items_less no_items (item e es) no_items h k = cc
  items_less no_items es (item f fs) h k = refl
  items_less (item d ds) no_items fs h k = cc
  items_less (item d ds) (item e es) no_items h k = cc
  items_less (item d ds) (item e es) (item f fs) h k =
      then_less (json_cmp d e) (json_cmp e f) (json_cmp d f) (items_cmp ds es) (items_cmp es fs) (items_cmp ds fs) (less d e f) (less_tied d e f) (alike d e f)
      (items_less ds es fs) h k

  members_less : (ms ns os : Members) → members_cmp ms ns ≡ Less → members_cmp ns os ≡ Less → members_cmp ms os ≡ Less
  members_less no_members no_members no_members h k = h
  members_less no_members (member l e ns) no_members h k = cc
  members_less no_members ns (member j f os) h k = refl
  members_less (member k d ms) no_members os h i = cc
  members_less (member k d ms) (member l e ns) no_members h i = cc
  members_less (member k d ms) (member l e ns) (member j f os) h i =
      then_less (text_cmp k l) (text_cmp l j) (text_cmp k j) _ _ _ (nat_list_cmp_total.trans k l j)
      (λ low tied. sym (alike_right nat_list_cmp_total l j k tied) ∙ low) (nat_list_cmp_total.congr k l j)
      (then_less (json_cmp d e) (json_cmp e f) (json_cmp d f) (members_cmp ms ns) (members_cmp ns os) (members_cmp ms os) (less d e f) (less_tied d e f)
      (alike d e f) (members_less ms ns os)) h i

pub json_cmp_total : IsTotalOrder json_cmp
json_cmp_total = record { antisymm = reversed; trans = less; congr = alike }
