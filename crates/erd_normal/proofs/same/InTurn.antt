-- Reports that say the same in turn: what each reference came from, and what three reports say.
use Rattle.erd_normal.proofs.Common.{◌≡◌, ℕ, Bool, true, ◌&&◌, ◌⊎◌, List, [], ◌∷◌, Some, None, Option, option_map, option_and_then, sym, refl, ap, ◌∙◌, subst}
use Rattle.erd_normal.proofs.Common.{inl, inr, Data, array, object, Items, Members, get_member, get_item, role, Step, At, Name, list_of_items-place}
use Rattle.erd_normal.proofs.Common.{Within-step, Within-root, within-tree, Within, is_reference, IsTree, list_of_items, scope_inside, want_of_name, entry_want}
use Rattle.erd_normal.proofs.Common.{is_compared_set, Asked, asked, is_repeated, asked_of_member, asked_inside, asked_from, asked_at, Want, Object, Sides}
use Rattle.erd_normal.proofs.Common.{a_list, a_set, an_object, Same, SameMembers, MayBeAbsent, false, no_items, class, MemberKind, kind, member_want}
use Rattle.erd_normal.proofs.Common.{asked_of_entry, Scope, scope, Member, Reference, is_envelope, an_empty_array, of_the_envelope, an_unused_id, option_map_or}
use Rattle.erd_normal.proofs.Common.{⊎_elim, IsPermutation, IsPermutation-sym, IsPermutation-trans, string, item, no_members, member, is_id_text, SaysInTurn}
use Rattle.erd_normal.proofs.Common.{NameOneThing, IsUnused, not_asked, a_null, a_flag, a_number, a_text, an_id, no_entry, one_entry, no_member, in_both}
use Rattle.erd_normal.proofs.Common.{left_only, right_only, SameEntries, true≢false}
use Rattle.erd_normal.proofs.lists.Matched.{Matched, matched_back}
use Rattle.erd_normal.proofs.same.Related.{entry_has, entries_matched, same_back, set_swapped, turned}
use Rattle.erd_normal.proofs.same.Lookups.{Aligned, both_there, not_both, lookups, MayLack, scope_same, plain_scope, is_plain, AllPlain}
use Rattle.erd_normal.proofs.inside.Walks.{along, known_passes, one_inside}
use Rattle.erd_normal.proofs.inside.Homes.{of_envelope}
use Rattle.std.proofs.lemmas.List.Sorted.{length_permutation}

-- ---- no reference is asked for in what is plain, nor in identifiers

abbrev pub is_quiet : Want → Bool
is_quiet (Member kind.Identifiers required) = true
is_quiet w = is_plain w

quiet_plain : (w : Want) → is_plain w ≡ true → is_quiet w ≡ true
quiet_plain (Member kind.Identifiers required) h = refl
quiet_plain w h = h

pub quiet_no_reference : (w : Want) → is_quiet w ≡ true → is_reference w ≡ true → ⊥
quiet_no_reference (Reference f) h r = cc
quiet_no_reference w h r = cc

quiet_entry : (w : Want) → is_quiet w ≡ true → option_map_or is_quiet (entry_want w) true ≡ true
quiet_entry (Member kind.Identifiers required) h = refl
quiet_entry w h = cc

quiet_name : (w : Want) (ms : Members) (n : List ℕ) (v : Want) → is_quiet w ≡ true → want_of_name (scope_inside w (object ms)) n ≡ Some v → is_quiet v ≡ true
quiet_name (Member kind.Identifiers required) ms n v h asks = cc
quiet_name w ms n v h asks = quiet_plain v (subst AllPlain asks (plain_scope w ms h n))

pub quiet_step : (w : Want) (d : Data) (s : Step) (c : Asked) → is_quiet w ≡ true → asked_inside w d s ≡ Some c → is_quiet c.want ≡ true
quiet_step =
    one_inside (λ w d. is_quiet w ≡ true) (λ w ms n v x h asks found. quiet_name w ms n v h asks)
    (λ w ds i v x h asks found. subst (λ o. option_map_or is_quiet o true ≡ true) asks (quiet_entry w h))

pub quiet_from : (a : Asked) (ss : List Step) (c : Asked) → is_quiet a.want ≡ true → asked_from a ss ≡ Some c → is_quiet c.want ≡ true
quiet_from = along (λ x. is_quiet x.want ≡ true) (λ x y s. quiet_step x.want x.value s y)

-- ---- what may be absent

-- nor in the envelope
pub envelope_quiet : (s : Scope) (n : List ℕ) (v : Want) → is_envelope s n ≡ true → want_of_name s n ≡ Some v → is_quiet v ≡ true
envelope_quiet (scope.Members r (Some class.ElectionReport)) n v h asks =
    subst (λ o. option_map_or is_quiet o true ≡ true) asks
    (known_passes is_quiet r class.ElectionReport n refl (λ other. of_envelope (λ n. is_quiet (member_want class.ElectionReport n) ≡ true) refl refl refl refl
    refl refl refl refl refl n h))
envelope_quiet s n v h asks = cc

nothing_in_no_items : (o : Option Want) (set : Bool) (i : ℕ) → asked_of_entry o set no_items i ≡ None
nothing_in_no_items None set i = refl
nothing_in_no_items (Some w) set i = refl

pub nothing_empty : (w : Want) (s : Step) → asked_inside w (array no_items) s ≡ None
nothing_empty w (Name n) = refl
nothing_empty w (At i) = nothing_in_no_items (entry_want w) (is_compared_set w) i

pub nothing_after : (w : Want) (d : Data) (s : Step) (ss : List Step) (c : Asked) → asked_inside w d s ≡ None → asked_from (asked w d) (s ∷ ss) ≡ Some c → ⊥
nothing_after w d s ss c none e = let g : None ≡ Some c = ap (option_and_then (λ b. asked_from b ss)) (sym none) ∙ e in cc

member_no_reference : (k : MemberKind) (required : Bool) (w : Want) → Some w ≡ Some (Member k required) → is_reference w ≡ true → ⊥
member_no_reference k required w e r = let one : w ≡ Member k required = cc in let g : true ≡ false = sym r ∙ ap is_reference one in cc

-- no reference stands at or in it
pub no_reference_absent : (t : Data) (s : Scope) (n : List ℕ) (v : Want) (d : Data) → MayBeAbsent t s n d → want_of_name s n ≡ Some v
    → (ss : List Step) (c : Asked) → asked_from (asked v d) ss ≡ Some c → is_reference c.want ≡ true → ⊥
no_reference_absent t s n v d (an_empty_array k required asks_too is empty) asks [] c e r =
    let one : asked v d ≡ c = cc in member_no_reference k required v (sym asks ∙ asks_too) (ap (λ (x : Asked). is_reference x.want) one ∙ r)
no_reference_absent t s n v d (an_empty_array k required asks_too is empty) asks (x ∷ ss) c e r =
    nothing_after v d x ss c (ap (λ y. asked_inside v y x) empty ∙ nothing_empty v x) e
no_reference_absent t s n v d (of_the_envelope h) asks ss c e r = quiet_no_reference c.want (quiet_from (asked v d) ss c (envelope_quiet s n v h asks) e) r
no_reference_absent t s n v d (an_unused_id id required asks_too is unused) asks [] c e r =
    let one : asked v d ≡ c = cc in member_no_reference kind.Identity required v (sym asks ∙ asks_too) (ap (λ (x : Asked). is_reference x.want) one ∙ r)
no_reference_absent t s n v d (an_unused_id id required asks_too is unused) asks (x ∷ ss) c e r =
    nothing_after v d x ss c (ap (λ y. asked_inside v y x) is) e

-- ---- each reference of the right report

-- the same is asked in the left report of a value that says the same
pub record CameFrom (m : Sides) (t : Data) (b : Asked) : Type 0 where
  pub of : Asked
  pub inside : Within t of
  pub want : of.want ≡ b.want
  pub same : Same m (Some b.want) of.value b.value

-- it holds of all that is asked at or in it
abbrev pub Inside : (Asked → Type 0) → Asked → Type 0
Inside Q b = (ss : List Step) (c : Asked) → asked_from b ss ≡ Some c → Q c

module _ (m : Sides) where
  -- what an object or an array comes from
  pub record FromObject (w : Want) (d : Data) (ns : Members) : Type 0 where
    pub ms : Members
    pub is : d ≡ object ms
    pub same : SameMembers m (scope_inside w (object ms)) ms ns

  pub from_object : (w : Want) (d : Data) (ns : Members) → Same m (Some w) d (object ns) → FromObject w d ns
  from_object w d ns (an_object {ms = ms} h) = record { ms = ms; is = refl; same = h }

  pub record FromArray (w : Want) (d : Data) (es : Items) : Type 0 where
    pub ds : Items
    pub is : d ≡ array ds

  pub from_array : (w : Want) (d : Data) (es : Items) → Same m (Some w) d (array es) → FromArray w d es
  from_array w d es (a_list {ds = ds} is h) = record { ds = ds; is = refl }
  from_array w d es (a_set {ds = ds} fs is p h) = record { ds = ds; is = refl }

-- m is of these reports; which `@id`s it calls unused is another matter
module _ (m : Sides) (t u : Data) (left_tree : IsTree t) (right_tree : IsTree u) (Q : Asked → Type 0) where
  -- it holds in what stands in the right object alone
  abbrev pub HoldsAlone : Asked → Data → Type 0
  HoldsAlone a e =
      (ms ns : Members) (n : List ℕ) (v : Want) (f : Data) → a.value ≡ object ms → e ≡ object ns → scope_inside a.want (object ms)
      ≡ scope_inside a.want (object ns) → MayLack m.left (scope_inside a.want (object ms)) n (get_member n ms) → get_member n ns ≡ Some f
      → want_of_name (scope_inside a.want (object ms)) n ≡ Some v → MayBeAbsent m.right (scope_inside a.want (object ms)) n f → Inside Q (asked v f)

  abbrev OneStep : Asked → Type 0
  OneStep c = CameFrom m t c ⊎ Inside Q c

  name_step : (a : Asked) (n : List ℕ) (ms ns : Members) → Within t a → a.value ≡ object ms → scope_inside a.want (object ms) ≡ scope_inside a.want (object ns)
      → HoldsAlone a (object ns)
      → (o p : Option Data) → get_member n ms ≡ o → get_member n ns ≡ p → Aligned m (scope_inside a.want (object ms)) n o p
      → (v : Option Want) → want_of_name (scope_inside a.want (object ms)) n ≡ v → (c : Asked) → asked_of_member v p ≡ Some c → OneStep c
  name_step a n ms ns inside value scopes alone o p found found' aligned None asks c e = cc
  name_step a n ms ns inside value scopes alone o None found found' aligned (Some v) asks c e = cc
  name_step a n ms ns inside value scopes alone (Some d) (Some f) found found' (both_there h) (Some v) asks c e =
      let one : asked v f ≡ c = cc in
      inl (subst (CameFrom m t) one (record {
        of = asked v d;
        inside = Within-step t a (asked v d) (Name n) inside (rw (value, asks, found) refl);
        want = refl;
        same = subst (λ x. Same m x d f) asks h;
      }))
  name_step a n ms ns inside value scopes alone o (Some f) found found' (not_both l r) (Some v) asks c e =
      let one : asked v f ≡ c = cc in
      inr (subst (Inside Q) one (alone ms ns n v f value refl scopes (subst (MayLack m.left (scope_inside a.want (object ms)) n) (sym found) l)
      found' asks (r.each f refl)))

  entry_step : (a : Asked) (i : ℕ) (ds es : Items) → Within t a → a.value ≡ array ds → (v : Option Want) → entry_want a.want ≡ v
      → Matched (Same m v) (list_of_items ds) (list_of_items es)
      → (o : Option Data) → get_item i es ≡ o → (set : Bool) (c : Asked)
      → option_and_then {U = Asked} (λ w. option_map (λ d. record { want = w; value = d; repeated = set && is_repeated es i d }) o) v ≡ Some c → OneStep c
  entry_step a i ds es inside value None asks matched o found set c e = cc
  entry_step a i ds es inside value (Some v) asks matched None found set c e = cc
  entry_step a i ds es inside value (Some v) asks matched (Some f) found set c e =
      let from = matched_back f matched (entry_has es i f found) in
      let j = list_of_items-place ds from.0 from.1 in
      let b : Asked = record { want = v; value = from.0; repeated = is_compared_set a.want && is_repeated ds j.0 from.0 } in
      let one : ◌≡◌ {A = Asked} (record { want = v; value = f; repeated = set && is_repeated es i f }) c = cc in
      inl (subst (CameFrom m t) one (record {
        of = b;
        inside = Within-step t a b (At j.0) inside (rw (value, asks, j.1) refl);
        want = refl;
        same = from.2;
      }))

  one_step : (a : Asked) (e : Data) (s : Step) → Within t a → Same m (Some a.want) a.value e → IsTree e → HoldsAlone a e → (c : Asked)
      → asked_inside a.want e s ≡ Some c → OneStep c
  one_step a (object ns) (Name n) inside same tree alone c found =
      let f = from_object m a.want a.value ns same in
      let scopes = scope_same m a.want f.ms ns f.same in
      let here : IsTree (object f.ms) = subst IsTree f.is (within-tree t a left_tree inside) in
      name_step a n f.ms ns inside f.is scopes alone (get_member n f.ms) (get_member n ns) refl refl (lookups m n f.same here tree)
      (want_of_name (scope_inside a.want (object f.ms)) n) refl c (ap (λ s. asked_of_member (want_of_name s n) (get_member n ns)) scopes ∙ found)
  one_step a (array es) (At i) inside same tree alone c found =
      let f = from_array m a.want a.value es same in
      entry_step a i f.ds es inside f.is (entry_want a.want) refl (entries_matched m a.want (subst (λ x. Same m (Some a.want) x (array es)) f.is same))
      (get_item i es) refl (is_compared_set a.want) c found
  one_step a e s inside same tree alone c found = cc

  -- along a place of the right report
  module _ (P First : Asked → Type 0) (keeps : (b x : Asked) (s : Step) → P b → asked_inside b.want b.value s ≡ Some x → P x)
      (alone : (b : Asked) → Within u b → P b → (from : CameFrom m t b) → HoldsAlone from.of b.value)
      (first : (b x : Asked) (s : Step) → Within u b → CameFrom m t b → asked_inside b.want b.value s ≡ Some x → First x) where
    next : (b x : Asked) (s : Step) → Within u b → P b → (CameFrom m t b × First b) ⊎ Inside Q b → asked_inside b.want b.value s ≡ Some x
        → (CameFrom m t x × First x) ⊎ Inside Q x
    next b x s inside p (inr all) found = inr (λ ss c e. all (s ∷ ss) c (ap (option_and_then (λ y. asked_from y ss)) found ∙ e))
    next b x s inside p (inl from) found =
        ⊎_elim (λ f. inl (f, first b x s inside from.0 found)) inr
        (one_step from.0.of b.value s from.0.inside (subst (λ w. Same m (Some w) from.0.of.value b.value) (sym from.0.want) from.0.same)
        (within-tree u b right_tree inside) (alone b inside p from.0) x
        (ap (λ w. asked_inside w b.value s) from.0.want ∙ found))

    pub came_along : (b : Asked) (ss : List Step) (c : Asked) → Within u b → P b → CameFrom m t b → First b → asked_from b ss ≡ Some c
        → (CameFrom m t c × First c) ⊎ Q c
    came_along b ss c inside p from here e =
        ⊎_elim inl (λ all. inr (all [] c refl))
        (along (λ x. Within u x × P x × ((CameFrom m t x × First x) ⊎ Inside Q x))
        (λ x y s h found. (Within-step u x y s h.0 found, keeps x y s h.1 found, next x y s h.0 h.1 h.2 found)) b ss c (inside, p, inl (from, here)) e).2

-- each reference of the right report
pub reference_came_from : (m : Sides) (t u : Data) → IsTree t → IsTree u → Same m (Some (Object role.Report)) t u → (p : List Step) (c : Asked) → asked_at u p
    ≡ Some c → is_reference c.want ≡ true → CameFrom m t c
reference_came_from m t u left_tree right_tree same p c e is =
    ⊎_elim (λ from. from.0) (λ none. absurd (none is))
    (came_along m t u left_tree right_tree (λ x. is_reference x.want ≡ true → ⊥) (λ x. Unit {0}) (λ x. Unit {0}) (λ b x s h found. tt)
    (λ b inside h from ms ns n v f value here scopes lacks there asks may. no_reference_absent m.right (scope_inside from.of.want (object ms)) n v f may asks)
    (λ b x s inside from found. tt)
    (asked (Object role.Report) u) p c (Within-root u) tt (record { of = asked (Object role.Report) t; inside = Within-root t; want = refl; same = same }) tt e)

-- ---- what may be absent, along the relation

pub record OtherText (m : Sides) (id : List ℕ) (c : Data) : Type 0 where
  pub other : List ℕ
  pub is : c ≡ string other
  pub pair : NameOneThing m id other

pub id_text : (m : Sides) {w : Want} {x c : Data} (id : List ℕ) → Same m (Some w) x c → is_id_text w ≡ true → x ≡ string id → OtherText m id c
id_text m id (a_text is) h e = absurd (true≢false (sym h ∙ is))
id_text m id (an_id {s = s} {s' = s'} is pair) h e = let one : s ≡ id = cc in record { other = s'; is = refl; pair = subst (λ z. NameOneThing m z s') one pair }
id_text m id same h e = cc

pub reference_is_id : (w : Want) → is_reference w ≡ true → is_id_text w ≡ true
reference_is_id (Reference f) h = refl
reference_is_id w h = cc

nothing_same : (m : Sides) {o : Option Want} {es : Items} → SameEntries m o no_items es → es ≡ no_items
nothing_same m no_entry = refl

nothing_moved : (fs : Items) → IsPermutation [] (list_of_items fs) → fs ≡ no_items
nothing_moved no_items h = refl
nothing_moved (item f fs) h = let e = length_permutation _ _ h in cc

empty_same : (m : Sides) {w : Want} {x c : Data} → Same m (Some w) x c → x ≡ array no_items → c ≡ array no_items
empty_same m (a_list {w = w} {ds = ds} {es = es} is h) e =
    let none : ds ≡ no_items = cc in ap array (nothing_same m (subst (λ x. SameEntries m (entry_want w) x es) none h))
empty_same m (a_set {w = w} {ds = ds} {es = es} fs is p h) e =
    let none : ds ≡ no_items = cc in
    let moved : fs ≡ no_items = nothing_moved fs (subst (λ x. IsPermutation (list_of_items x) (list_of_items fs)) none p) in
    ap array (nothing_same m (subst (λ x. SameEntries m (entry_want w) x es) moved h))
empty_same m h e = cc

module _ (m : Sides) (left_tree : IsTree m.left) (right_tree : IsTree m.right) (root : Same m (Some (Object role.Report)) m.left m.right) where
  unused_along : (id id' : List ℕ) → NameOneThing m id id' → IsUnused m.left id → IsUnused m.right id'
  unused_along id id' pair unused p a stands is text =
      let f : CameFrom m m.left a = reference_came_from m m.left m.right left_tree right_tree root p a stands is in
      let back = same_back m f.same in
      let o = id_text (turned m) id' back (reference_is_id a.want is) text in
      let one : o.other ≡ id = o.pair.0 ∙ sym pair.1 in
      unused f.inside.place f.of f.inside.is (ap is_reference f.want ∙ is) (o.is ∙ ap string one)

  pub absent_along : (s : Scope) (k : List ℕ) (d e : Data) → MayBeAbsent m.left s k d → Same m (want_of_name s k) d e → MayBeAbsent m.right s k e
  absent_along s k d e (an_empty_array q required asks is empty) h = an_empty_array q required asks is (empty_same m (subst (λ o. Same m o d e) asks h) empty)
  absent_along s k d e (of_the_envelope is) h = of_the_envelope is
  absent_along s k d e (an_unused_id id required asks is unused) h =
      let o = id_text m id (subst (λ o. Same m o d e) asks h) refl is in an_unused_id o.other required asks o.is (unused_along id o.other o.pair unused)

-- ---- one after the other

module _ (t v u : Data) (there back there' back' : List ℕ → List ℕ) where
  abbrev one : Sides
  one = record { left = t; right = v; there = there; back = back }

  abbrev two : Sides
  two = record { left = v; right = u; there = there'; back = back' }

  abbrev whole : Sides
  whole = record { left = t; right = u; there = λ s. there' (there s); back = λ s. back (back' s) }

  abbrev Forth : Type 0
  Forth = (s : Scope) (k : List ℕ) (e c : Data) → MayBeAbsent v s k e → Same two (want_of_name s k) e c → MayBeAbsent u s k c

  abbrev Backward : Type 0
  Backward = (s : Scope) (k : List ℕ) (d e : Data) → MayBeAbsent v s k e → Same one (want_of_name s k) d e → MayBeAbsent t s k d

  module _ (forth : Forth) (backward : Backward) where
    -- members of the middle that may be absent
    only_left : {s : Scope} {ms : Members} → SameMembers one s ms no_members → SameMembers whole s ms no_members
    only_left no_member = no_member
    only_left (left_only h rest) = left_only h (only_left rest)

    -- the first member of the middle, which stands in the last too
    through_both : {s : Scope} {ms ns ps : Members} {k : List ℕ} {e c : Data} → SameMembers one s ms (member k e ns) → Same two (want_of_name s k) e c
        → ((d : Data) → Same one (want_of_name s k) d e → Same whole (want_of_name s k) d c)
        → ((qs : Members) → SameMembers one s qs ns → SameMembers whole s qs ps) → SameMembers whole s ms (member k c ps)
    through_both (in_both h more) g value rest = in_both (value _ h) (rest _ more)
    through_both (left_only h more) g value rest = left_only h (through_both more g value rest)
    through_both {s} {k = k} {e = e} {c = c} (right_only h more) g value rest = right_only (forth s k e c h g) (rest _ more)

    -- and one that does not
    through_left : {s : Scope} {ms ns ps : Members} {k : List ℕ} {e : Data} → SameMembers one s ms (member k e ns) → MayBeAbsent v s k e
        → ((qs : Members) → SameMembers one s qs ns → SameMembers whole s qs ps) → SameMembers whole s ms ps
    through_left {s} {k = k} {e = e} (in_both {d = d} h more) g rest = left_only (backward s k d e g h) (rest _ more)
    through_left (left_only h more) g rest = left_only h (through_left more g rest)
    through_left (right_only h more) g rest = rest _ more

    mutual
      pub in_turn : {o : Option Want} {d e c : Data} → Same two o e c → Same one o d e → Same whole o d c
      in_turn not_asked not_asked = not_asked
      in_turn a_null a_null = a_null
      in_turn a_flag a_flag = a_flag
      in_turn a_number a_number = a_number
      in_turn (a_text is) (a_text other) = a_text is
      in_turn (a_text is) (an_id other first) = absurd (true≢false (sym other ∙ is))
      in_turn (an_id is pair) (a_text other) = absurd (true≢false (sym is ∙ other))
      in_turn (an_id is pair) (an_id other first) = an_id is (pair.0 ∙ ap there' first.0, first.1 ∙ ap back pair.1)
      in_turn (a_list is g) (a_list other h) = a_list is (entries_in_turn g h)
      in_turn (a_list is g) (a_set fs other p h) = absurd (true≢false (sym other ∙ is))
      in_turn (a_set hs is q g) (a_list other h) = absurd (true≢false (sym is ∙ other))
      in_turn (a_set {w = w} {ds = es} hs is q g) (a_set {ds = ds} fs other p h) =
          let b = set_swapped one (entry_want w) hs es fs (IsPermutation-sym (list_of_items es) (list_of_items hs) q) h in
          a_set b.moved is (IsPermutation-trans (list_of_items ds) (list_of_items fs) (list_of_items b.moved) p b.permuted) (entries_in_turn g b.entries)
      in_turn (an_object {w = w} {ms = ns} g) (an_object {ms = ms} h) = an_object (members_in_turn g (scope_same one w ms ns h) h)

      entries_in_turn : {o : Option Want} {ds es gs : Items} → SameEntries two o es gs → SameEntries one o ds es → SameEntries whole o ds gs
      entries_in_turn no_entry no_entry = no_entry
      entries_in_turn (one_entry g more) (one_entry h rest) = one_entry (in_turn g h) (entries_in_turn more rest)

      members_in_turn : {s s' : Scope} {ms ns ps : Members} → SameMembers two s' ns ps → s ≡ s' → SameMembers one s ms ns → SameMembers whole s ms ps
      members_in_turn no_member same h = only_left h
      members_in_turn (in_both {k = k} {d = e} {e = c} g more) same h =
          through_both h (subst (λ x. Same two (want_of_name x k) e c) (sym same) g)
          (λ d i. subst (λ x. Same whole (want_of_name x k) d c) (sym same) (in_turn g (subst (λ x. Same one (want_of_name x k) d e) same i)))
          (λ qs i. members_in_turn more same i)
      members_in_turn (left_only {k = k} {d = e} g more) same h =
          through_left h (subst (λ x. MayBeAbsent v x k e) (sym same) g) (λ qs i. members_in_turn more same i)
      members_in_turn (right_only {k = k} {e = c} g more) same h = right_only (subst (λ x. MayBeAbsent u x k c) (sym same) g) (members_in_turn more same h)

pub says_in_turn : SaysInTurn
says_in_turn t v u tree tree' tree'' h g =
    let m : Sides = record { left = t; right = v; there = h.there; back = h.back } in
    let n : Sides = record { left = v; right = u; there = g.there; back = g.back } in
    record {
      there = λ s. g.there (h.there s);
      back = λ s. h.back (g.back s);
      same = in_turn t v u h.there h.back g.there g.back
          (λ s k e c i j. absent_along n tree' tree'' g.same s k e c i j)
          (λ s k d e i j. absent_along (turned m) tree' tree (same_back m h.same) s k e d i (same_back m j))
          g.same h.same;
    }
