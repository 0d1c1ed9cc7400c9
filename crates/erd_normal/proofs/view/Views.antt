-- A report that is written anew, in any style: it is a tree, whatever is asked in it is asked of what is written of a value, and
-- it says the same.
use Rattle.erd_normal.proofs.Common.{◌≡◌, ℕ, zero, suc, Bool, true, false, ◌||◌, inl, inr, List, [], ◌∷◌, map, if◌then◌else◌, Some, None, Option}
use Rattle.erd_normal.proofs.Common.{option_and_then, bytes_eq, list_any, sym, refl, ap, ◌∙◌, subst, AllByRecursion, IsPermutation, IsPermutation-map, Data}
use Rattle.erd_normal.proofs.Common.{null, boolean, string, number, array, object, Items, no_items, item, Members, no_members, member, get_member, get_item}
use Rattle.erd_normal.proofs.Common.{items_of, MemberKind, kind, IsTree, AreMembers, list_of_items, is_empty_array, In, text_exact, found_cases}
use Rattle.erd_normal.proofs.Common.{list_of_items-items_of, entry_want, is_table_set, scope_inside, Scope, want_of_name, Reference, Member, Want}
use Rattle.erd_normal.proofs.Common.{reordered_rising, all-reordered, rising_list, put_all, and_parts, rising_list_map, entries_of}
use Rattle.erd_text.proofs.StableRising.{map_after}
use Rattle.erd_normal.proofs.Common.{Sides, MayBeAbsent, Same, SameEntries, is_array_kind, is_envelope, NameOneThing, not_asked, a_null, a_flag, a_number}
use Rattle.erd_normal.proofs.Common.{a_text, an_id, a_list, a_set, an_object, no_entry, one_entry, an_empty_array, of_the_envelope}
use Rattle.erd_check.specs.Wants.{entry_want_of_kind}
use Rattle.erd_normal.proofs.inside.Members.{each_member, get_each, put_value, get_put_all, IsPartwise, tree_partwise}
use Rattle.erd_normal.proofs.inside.Entries.{no_entry as none_inside}
use Rattle.erd_normal.proofs.lists.Lists.{items_again}
use Rattle.erd_normal.proofs.same.Lookups.{Aligned, both_there, not_both, lacks_none, lacks_one, merged}
use Rattle.erd_normal.specs.code.View.{Style, text_for, is_dropped, is_left_out, set_in_order, view, view_entries, view_members}

-- ---- members

abbrev pub viewed : Style → Data → Scope → List ℕ → Data → Option Data
viewed n o s k d = if is_left_out s k d then None else Some (view n o (want_of_name s k) d)

pub view_members_each : (n : Style) (o : Data) (s : Scope) (ms : Members) → view_members n o s ms ≡ each_member (viewed n o s) ms
view_members_each n o s no_members = refl
view_members_each n o s (member k d ms) = rw (view_members_each n o s ms) refl

-- what stands under a name
pub get_view : (n : Style) (o : Data) (s : Scope) (ps : List (List ℕ × Data)) (k : List ℕ) (ms : Members) → AreMembers ms
    → get_member k (put_all ps (view_members n o s ms)) ≡ put_value ps k (option_and_then (viewed n o s k) (get_member k ms))
get_view n o s ps k ms rise =
    get_put_all ps k (view_members n o s ms) ∙ ap (put_value ps k) (ap (get_member k) (view_members_each n o s ms) ∙ get_each (viewed n o s) k ms rise)

abbrev pub is_put : List (List ℕ × Data) → List ℕ → Bool
is_put ps k = list_any (λ (p : List ℕ × Data). bytes_eq k p.0) ps

-- one of these is put there, or none is
pub data IsPutOrNot (ps : List (List ℕ × Data)) (k : List ℕ) : Type 0 where
  one_put : (v : Data) → In (k, v) ps → ((o : Option Data) → put_value ps k o ≡ Some v) → IsPutOrNot ps k
  none_put : is_put ps k ≡ false → ((o : Option Data) → put_value ps k o ≡ o) → IsPutOrNot ps k

pub put_or_not : (ps : List (List ℕ × Data)) (k : List ℕ) → IsPutOrNot ps k
put_or_not [] k = none_put refl (λ o. refl)
put_or_not (p ∷ ps) k = at (bytes_eq k p.0) refl (put_or_not ps k)
  where
    at : (b : Bool) → bytes_eq k p.0 ≡ b → IsPutOrNot ps k → IsPutOrNot (p ∷ ps) k
    at true is later = one_put p.1 (inl (ap (λ x. (x, p.1)) (sym (text_exact k p.0 is)))) (λ o. ap (λ b. if b then Some p.1 else put_value ps k o) is)
    at false is (one_put v here puts) = one_put v (inr here) (λ o. ap (λ b. if b then Some p.1 else put_value ps k o) is ∙ puts o)
    at false is (none_put none puts) = none_put (ap (λ b. b || is_put ps k) is ∙ none) (λ o. ap (λ b. if b then Some p.1 else put_value ps k o) is ∙ puts o)

-- ---- entries

abbrev first : Data × Data → Data
first p = p.0

abbrev pub second : Data × Data → Data
second p = p.1

pub firsts : (n : Style) (o : Data) (w : Option Want) (ds : Items) → map first (view_entries n o w ds) ≡ list_of_items ds
firsts n o w no_items = refl
firsts n o w (item d ds) = ap (λ xs. d ∷ xs) (firsts n o w ds)

kind_kept : (k : MemberKind) (x : Data) → is_dropped (entry_want_of_kind k) x ≡ false
kind_kept (kind.Many f) x = refl
kind_kept k x = refl

pub entry_kept : (w : Want) (x : Data) → is_dropped (entry_want w) x ≡ false
entry_kept (Member k r) x = kind_kept k x
entry_kept w x = refl

pub right_false : (b c : Bool) → (b || c) ≡ false → c ≡ false
right_false true c h = cc
right_false false c h = h

-- the entries in the order in which they are written
abbrev pub entries_in_order : Style → Want → List Data → List Data
entries_in_order n w ds = if is_table_set w then rising_list (n.cmp w) ds else ds

paired_entries : (n : Style) (o : Data) (w : Option Want) (ds : Items) → view_entries n o w ds ≡ map (λ d. (d, view n o w d)) (list_of_items ds)
paired_entries n o w no_items = refl
paired_entries n o w (item d ds) = ap (λ xs. (d, view n o w d) ∷ xs) (paired_entries n o w ds)

pub written_entries : (n : Style) (o : Data) (w : Want) (ds : Items) → map second (set_in_order n w (view_entries n o (entry_want w) ds))
    ≡ map (view n o (entry_want w)) (entries_in_order n w (list_of_items ds))
written_entries n o w ds = ap (λ ps. map second (set_in_order n w ps)) (paired_entries n o (entry_want w) ds) ∙ at (is_table_set w)
  where
    at : (b : Bool) → map second (if b then rising_list (λ (p q : Data × Data). n.cmp w p.0 q.0) (map (λ d. (d, view n o (entry_want w) d)) (list_of_items ds))
        else map (λ d. (d, view n o (entry_want w) d)) (list_of_items ds))
        ≡ map (view n o (entry_want w)) (if b then rising_list (n.cmp w) (list_of_items ds) else list_of_items ds)
    at true =
        ap (map second) (sym (rising_list_map (λ d. (d, view n o (entry_want w) d)) (λ (p q : Data × Data). n.cmp w p.0 q.0) (list_of_items ds)))
        ∙ sym (map_after (λ d. (d, view n o (entry_want w) d)) second (rising_list (n.cmp w) (list_of_items ds)))
    at false = sym (map_after (λ d. (d, view n o (entry_want w) d)) second (list_of_items ds))

-- the entries of an array that is written
pub entries_viewed : (n : Style) (o : Data) (w : Want) (ds : Items) → entries_of (view n o (Some w) (array ds)) ≡ map (view n o (entry_want w))
    (entries_in_order n w (list_of_items ds))
entries_viewed n o w ds = list_of_items-items_of (map second (set_in_order n w (view_entries n o (entry_want w) ds))) ∙ written_entries n o w ds

-- ---- it is a tree

-- what holds of each entry holds of each, in the order in which they are written
pub each_in_order : (n : Style) (P : Data × Data → Type 0) (w : Want) (ps : List (Data × Data)) → AllByRecursion P ps → AllByRecursion P (set_in_order n w ps)
each_in_order n P w ps all = at (is_table_set w)
  where
    at : (b : Bool) → AllByRecursion P (if b then rising_list (λ (p q : Data × Data). n.cmp w p.0 q.0) ps else ps)
    at true = all-reordered P (reordered_rising (λ (p q : Data × Data). n.cmp w p.0 q.0) ps) all
    at false = all

-- what is told part by part holds of what is written, if it holds of what is put in
module _ (P : Data → Type 0) (parts : IsPartwise P) (n : Style) (puts : (o : Data) (w : Want) (d : Data) → AllByRecursion (λ p. P p.1) (n.puts o w d)) where
  put_all-hold : (ps : List (List ℕ × Data)) (ms : Members) → AllByRecursion (λ p. P p.1) ps → P (object ms) → P (object (put_all ps ms))
  put_all-hold [] ms all h = h
  put_all-hold (p ∷ ps) ms all h = parts.with_put p.0 p.1 (put_all ps ms) (put_all-hold ps ms all.1 h) all.0

  seconds-hold : (ps : List (Data × Data)) → AllByRecursion (λ p. P p.1) ps → AllByRecursion P (map second ps)
  seconds-hold [] all = tt
  seconds-hold (p ∷ ps) all = (all.0, seconds-hold ps all.1)

  one-holds : (o : Data) (s : Scope) (k : List ℕ) (d v : Data) → P (view n o (want_of_name s k) d) → viewed n o s k d ≡ Some v → P v
  one-holds o s k d v h = at (is_left_out s k d)
    where
      at : (b : Bool) → (if b then None else Some (view n o (want_of_name s k) d)) ≡ Some v → P v
      at true e = cc
      at false e = let same : view n o (want_of_name s k) d ≡ v = cc in subst P same h

  mutual
    pub view-holds : (o : Data) (w : Option Want) (d : Data) → P d → P (view n o w d)
    view-holds o None d h = h
    view-holds o (Some w) null h = h
    view-holds o (Some w) (boolean b) h = h
    view-holds o (Some w) (number k) h = h
    view-holds o (Some w) (string s) h = parts.text (text_for n w s)
    view-holds o (Some w) (array ds) h =
        let ps = view_entries n o (entry_want w) ds in
        parts.listed (map second (set_in_order n w ps))
        (seconds-hold (set_in_order n w ps) (each_in_order n (λ p. P p.1) w ps (entries-hold o (entry_want w) ds (parts.entries ds h))))
    view-holds o (Some w) (object ms) h =
        let s = scope_inside w (object ms) in
        put_all-hold (n.puts o w (object ms)) (view_members n (object ms) s ms) (puts o w (object ms))
        (subst (λ xs. P (object xs)) (sym (view_members_each n (object ms) s ms))
        (parts.with_each (viewed n (object ms) s) ms h (λ k d v found here. one-holds (object ms) s k d v (members-hold (object ms) s ms k d found here))))

    entries-hold : (o : Data) (w : Option Want) (ds : Items) → AllByRecursion P (list_of_items ds) → AllByRecursion (λ p. P p.1) (view_entries n o w ds)
    entries-hold o w no_items all = tt
    entries-hold o w (item d ds) all = (view-holds o w d all.0, entries-hold o w ds all.1)

    members-hold : (o : Data) (s : Scope) (ms : Members) (k : List ℕ) (d : Data) → get_member k ms ≡ Some d → P d → P (view n o (want_of_name s k) d)
    members-hold o s no_members k d found = cc
    members-hold o s (member l e ms) k d found =
        found_cases k l d e ms found (λ named same. subst (λ x. P x → P (view n o (want_of_name s k) x)) same (λ h. view-holds o (want_of_name s k) e h))
        (members-hold o s ms k d)

pub view-tree : (n : Style) → ((o : Data) (w : Want) (d : Data) → AllByRecursion (λ p. IsTree p.1) (n.puts o w d)) → (o : Data) (w : Option Want) (d : Data)
    → IsTree d → IsTree (view n o w d)
view-tree = view-holds IsTree tree_partwise

-- ---- what stands where this is asked, given the object that holds it

abbrev pub Holding : Type 1
Holding = Data → Want → Data → Type 0

abbrev pub HeldAt : Holding → Data → Option Want → Data → Type 0
HeldAt H o None d = Unit {0}
HeldAt H o (Some w) d = H o w d

-- it goes inward, and it holds of trees
pub record GoesInward (H : Holding) : Type 0 where
  pub entries : (o : Data) (w v : Want) (ds : Items) (i : ℕ) (x : Data) → H o w (array ds) → entry_want w ≡ Some v → get_item i ds ≡ Some x → H o v x
  pub members : (o : Data) (w v : Want) (ms : Members) (k : List ℕ) (x : Data) → H o w (object ms) → want_of_name (scope_inside w (object ms)) k ≡ Some v
      → get_member k ms ≡ Some x → H (object ms) v x
  pub trees : (o : Data) (w : Want) (d : Data) → H o w d → IsTree d

module _ (H : Holding) (inward : GoesInward H) where
  pub members_held : (o : Data) (w : Want) (ms : Members) → H o w (object ms) → (k : List ℕ) (d : Data) → get_member k ms ≡ Some d
      → HeldAt H (object ms) (want_of_name (scope_inside w (object ms)) k) d
  members_held o w ms h k d found = at (want_of_name (scope_inside w (object ms)) k) refl
    where
      at : (a : Option Want) → want_of_name (scope_inside w (object ms)) k ≡ a → HeldAt H (object ms) a d
      at None asks = tt
      at (Some v) asks = inward.members o w v ms k d h asks found

  pub entries_held : (o : Data) (w : Want) (ds : Items) → H o w (array ds) → (i : ℕ) (d : Data) → get_item i ds ≡ Some d → HeldAt H o (entry_want w) d
  entries_held o w ds h i d found = at (entry_want w) refl
    where
      at : (a : Option Want) → entry_want w ≡ a → HeldAt H o a d
      at None asks = tt
      at (Some v) asks = inward.entries o w v ds i d h asks found

-- ---- it says the same

-- the style suits the sides: texts of references stand for one another, what is put in is aligned, and an `@id` that is left out
-- with none put in may be absent
pub record Suits (n : Style) (m : Sides) (H : Holding) : Type 0 where
  pub texts : (o : Data) (f : Rattle.erd_tables.specs.declared.class.Family.Family) (s : List ℕ) → H o (Reference f) (string s) → NameOneThing m s (n.text f s)
  pub puts : (o : Data) (w : Want) (ms : Members) (k : List ℕ) (v : Data) → H o w (object ms) → In (k, v) (n.puts o w (object ms))
      → Aligned m (scope_inside w (object ms)) k (get_member k ms) (Some v)
  pub lost : (o : Data) (w : Want) (ms : Members) (k : List ℕ) (d : Data) (r : Bool) → H o w (object ms) → get_member k ms ≡ Some d
      → want_of_name (scope_inside w (object ms)) k ≡ Some (Member kind.Identity r)
      → is_put (n.puts o w (object ms)) k ≡ false → MayBeAbsent m.left (scope_inside w (object ms)) k d

pub empty_is : (d : Data) → is_empty_array d ≡ true → d ≡ array no_items
empty_is (array no_items) h = refl
empty_is (array (item d ds)) h = let none : d ∷ list_of_items ds ≡ [] = none_inside (array (item d ds)) h in cc
empty_is d h = cc

module _ (n : Style) (m : Sides) (H : Holding) (inward : GoesInward H) (suits : Suits n m H)
    (trees : (o : Data) (w : Want) (d : Data) → AllByRecursion (λ p. IsTree p.1) (n.puts o w d)) where
  text_said : (o : Data) (w : Want) (s : List ℕ) → H o w (string s) → is_dropped (Some w) (string s) ≡ false
      → Same m (Some w) (string s) (string (text_for n w s))
  text_said o (Reference f) s h read = an_id refl (suits.texts o f s h)
  text_said o (Member kind.Identity r) s h read = cc
  text_said o w s h read = a_text refl

  paired : (w : Option Want) (ps : List (Data × Data)) → AllByRecursion (λ p. Same m w p.0 p.1) ps → SameEntries m w (items_of (map first ps))
      (items_of (map second ps))
  paired w [] all = no_entry
  paired w (p ∷ ps) all = one_entry all.0 (paired w ps all.1)

  array_said : (w : Want) (ds : Items) (ps : List (Data × Data)) → map first ps ≡ list_of_items ds → AllByRecursion (λ p. Same m (entry_want w) p.0 p.1) ps
      → (b : Bool) → is_table_set w ≡ b
      → Same m (Some w) (array ds) (array (items_of (map second (if b then rising_list (λ (p q : Data × Data). n.cmp w p.0 q.0) ps else ps))))
  array_said w ds ps of all true is =
      let qs = rising_list (λ (p q : Data × Data). n.cmp w p.0 q.0) ps in
      let moved : IsPermutation ps qs = reordered_rising (λ (p q : Data × Data). n.cmp w p.0 q.0) ps in
      a_set (items_of (map first qs)) is
      (subst (λ xs. IsPermutation xs (list_of_items (items_of (map first qs)))) of
      (subst (IsPermutation (map first ps)) (sym (list_of_items-items_of (map first qs))) (IsPermutation-map first ps qs moved)))
      (paired (entry_want w) qs (all-reordered (λ p. Same m (entry_want w) p.0 p.1) moved all))
  array_said w ds ps of all false is =
      a_list is (subst (λ xs. SameEntries m (entry_want w) xs (items_of (map second ps))) (ap items_of of ∙ items_again ds) (paired (entry_want w) ps all))

  -- why a member is left out
  dropped_absent : (o : Data) (w : Want) (ms : Members) (k : List ℕ) (d : Data) → H o w (object ms) → get_member k ms ≡ Some d
      → is_put (n.puts o w (object ms)) k ≡ false
      → (a : Option Want) → want_of_name (scope_inside w (object ms)) k ≡ a → is_dropped a d ≡ true → MayBeAbsent m.left (scope_inside w (object ms)) k d
  dropped_absent o w ms k d h found none (Some (Member kind.Identity r)) asks drops = suits.lost o w ms k d r h found asks none
  dropped_absent o w ms k d h found none (Some (Member q r)) asks drops = let both = and_parts (is_array_kind q) (is_empty_array d) drops in
      an_empty_array q r asks both.0 (empty_is d both.1)
  dropped_absent o w ms k d h found none a asks drops = cc

  left_out_absent : (o : Data) (w : Want) (ms : Members) (k : List ℕ) (d : Data) → H o w (object ms) → get_member k ms ≡ Some d
      → is_put (n.puts o w (object ms)) k ≡ false → is_left_out (scope_inside w (object ms)) k d ≡ true → MayBeAbsent m.left (scope_inside w (object ms)) k d
  left_out_absent o w ms k d h found none left = at (is_envelope (scope_inside w (object ms)) k) refl left
    where
      at : (b : Bool) → is_envelope (scope_inside w (object ms)) k ≡ b → (b || is_dropped (want_of_name (scope_inside w (object ms)) k) d) ≡ true
          → MayBeAbsent m.left (scope_inside w (object ms)) k d
      at true is left = of_the_envelope is
      at false is left = dropped_absent o w ms k d h found none (want_of_name (scope_inside w (object ms)) k) refl left

  abbrev SaidAt : Data → Scope → List ℕ → Data → Type 0
  SaidAt o s k d = HeldAt H o (want_of_name s k) d → is_dropped (want_of_name s k) d ≡ false → Same m (want_of_name s k) d (view n o (want_of_name s k) d)

  kept_aligned : (o : Data) (w : Want) (ms : Members) (k : List ℕ) → H o w (object ms) → is_put (n.puts o w (object ms)) k ≡ false
      → ((d : Data) → get_member k ms ≡ Some d → SaidAt (object ms) (scope_inside w (object ms)) k d) → (found : Option Data) → get_member k ms ≡ found
      → Aligned m (scope_inside w (object ms)) k found (option_and_then (viewed n (object ms) (scope_inside w (object ms)) k) found)
  kept_aligned o w ms k h none said None is = not_both (lacks_none m.left (scope_inside w (object ms)) k) (lacks_none m.right (scope_inside w (object ms)) k)
  kept_aligned o w ms k h none said (Some d) is = at (is_left_out (scope_inside w (object ms)) k d) refl
    where
      s : Scope
      s = scope_inside w (object ms)

      at : (b : Bool) → is_left_out (scope_inside w (object ms)) k d ≡ b
          → Aligned m (scope_inside w (object ms)) k (Some d) (if b then None else Some (view n (object ms) (want_of_name (scope_inside w (object ms)) k) d))
      at true left = not_both (lacks_one m.left s k d (left_out_absent o w ms k d h is none left)) (lacks_none m.right s k)
      at false left = both_there (said d is (members_held H inward o w ms h k d is) (right_false (is_envelope s k) (is_dropped (want_of_name s k) d) left))

  name_aligned : (o : Data) (w : Want) (ms : Members) → H o w (object ms)
      → ((k : List ℕ) (d : Data) → get_member k ms ≡ Some d → SaidAt (object ms) (scope_inside w (object ms)) k d)
      → (k : List ℕ) → Aligned m (scope_inside w (object ms)) k (get_member k ms)
      (get_member k (put_all (n.puts o w (object ms)) (view_members n (object ms) (scope_inside w (object ms)) ms)))
  name_aligned o w ms h said k =
      subst (Aligned m (scope_inside w (object ms)) k (get_member k ms))
      (sym (get_view n (object ms) (scope_inside w (object ms)) (n.puts o w (object ms)) k ms (inward.trees o w (object ms) h)))
      (at (put_or_not (n.puts o w (object ms)) k))
    where
      at : IsPutOrNot (n.puts o w (object ms)) k → Aligned m (scope_inside w (object ms)) k (get_member k ms)
          (put_value (n.puts o w (object ms)) k (option_and_then (viewed n (object ms) (scope_inside w (object ms)) k) (get_member k ms)))
      at (one_put v here puts) = subst (Aligned m (scope_inside w (object ms)) k (get_member k ms))
          (sym (puts (option_and_then (viewed n (object ms) (scope_inside w (object ms)) k) (get_member k ms)))) (suits.puts o w ms k v h here)
      at (none_put none puts) =
          subst (Aligned m (scope_inside w (object ms)) k (get_member k ms))
          (sym (puts (option_and_then (viewed n (object ms) (scope_inside w (object ms)) k) (get_member k ms))))
          (kept_aligned o w ms k h none (said k) (get_member k ms) refl)

  mutual
    pub said : (o : Data) (w : Option Want) (d : Data) → HeldAt H o w d → is_dropped w d ≡ false → Same m w d (view n o w d)
    said o None d h read = not_asked
    said o (Some w) null h read = a_null
    said o (Some w) (boolean b) h read = a_flag
    said o (Some w) (number k) h read = a_number
    said o (Some w) (string s) h read = text_said o w s h read
    said o (Some w) (array ds) h read =
        array_said w ds (view_entries n o (entry_want w) ds) (firsts n o (entry_want w) ds)
        (entries_said o (entry_want w) ds (entries_held H inward o w ds h) (entry_kept w)) (is_table_set w) refl
    said o (Some w) (object ms) h read =
        let s = scope_inside w (object ms) in
        let ns = put_all (n.puts o w (object ms)) (view_members n (object ms) s ms) in
        an_object (merged m s ms ns (inward.trees o w (object ms) h) (view-tree n trees o (Some w) (object ms) (inward.trees o w (object ms) h))
        (name_aligned o w ms h (members_said (object ms) s ms)))

    entries_said : (o : Data) (w : Option Want) (ds : Items) → ((i : ℕ) (d : Data) → get_item i ds ≡ Some d → HeldAt H o w d)
        → ((d : Data) → is_dropped w d ≡ false) → AllByRecursion (λ p. Same m w p.0 p.1) (view_entries n o w ds)
    entries_said o w no_items held read = tt
    entries_said o w (item d ds) held read = (said o w d (held zero d refl) (read d), entries_said o w ds (λ i x e. held (suc i) x e) read)

    members_said : (o : Data) (s : Scope) (ms : Members) (k : List ℕ) (d : Data) → get_member k ms ≡ Some d → SaidAt o s k d
    members_said o s no_members k d found = cc
    members_said o s (member l e ms) k d found =
        found_cases k l d e ms found (λ named same. subst (SaidAt o s k) same (λ h read. said o (want_of_name s k) e h read)) (members_said o s ms k d)
