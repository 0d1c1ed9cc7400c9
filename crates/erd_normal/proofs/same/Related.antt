-- Values of two reports that say the same, either way round, and the entries of those that are arrays.
use Rattle.erd_normal.proofs.Common.{◌≡◌, ℕ, zero, suc, true, List, [], ◌∷◌, Some, sym, refl, ap, ◌∙◌, subst, list_any, Data, Items, no_items, item, get_item}
use Rattle.erd_normal.proofs.Common.{is_same_exact, IsTree, is_same_json, list_of_items, find-any, two_exchanged, json_set, ⊎_elim, IsPermutation}
use Rattle.erd_normal.proofs.Common.{IsPermutation-cons, IsPermutation-refl, IsPermutation-sym, IsPermutation-trans, along_permutation, In, any_at, inl, inr}
use Rattle.erd_normal.proofs.Common.{reordered-In, Option, Members, items_of, list_of_items-items_of, entry_want, Scope, Want, SaysBack, Sides, not_asked}
use Rattle.erd_normal.proofs.Common.{a_null, a_flag, a_number, a_text, an_id, a_list, a_set, an_object, no_entry, one_entry, no_member, in_both, left_only}
use Rattle.erd_normal.proofs.Common.{right_only, Same, SameEntries, SameMembers, is_table_set, false, array, Bool, None, null, boolean, number, string, object}
use Rattle.erd_normal.proofs.Common.{no_members, member, role, scope_inside, want_of_name, Object, is_id_text, SaysItself, NameOneThing, option_map_or}
use Rattle.erd_normal.proofs.Common.{entries_of, is_envelope, an_empty_array, of_the_envelope, an_unused_id, MayBeAbsent, list_of_items-place, Within-step}
use Rattle.erd_normal.proofs.Common.{within-tree, Within, Asked, asked, is_compared_set, is_repeated, At, Name, ◌&&◌, get_member}
use Rattle.erd_normal.proofs.lists.Matched.{Paired, more, Matched, matched_none, matched_equal, none}
use Rattle.erd_normal.proofs.lists.Lists.{items_again}
use Rattle.erd_normal.proofs.same.Lookups.{scope_same, MayLack}

-- ---- lists that are related entry by entry, when the one is reordered; and the two words for that

-- what is related to a list is reordered as the list is
pub record Follows {A B : Type 0} (R : A → B → Type 0) (zs : List A) (ys : List B) : Type 0 where
  pub new : List B
  pub paired : Paired R zs new
  pub reordered : IsPermutation ys new

pub follows : {A B : Type 0} {R : A → B → Type 0} {xs zs : List A} {ys : List B} → IsPermutation xs zs → Paired R xs ys → Follows R zs ys
follows {A} {B} {R} {ys = ys} h p = along_permutation Leads (λ xs vs q. record { new = vs; paired = q; reordered = IsPermutation-refl vs }) kept exchanged
    (λ us vs ws k one two ts q. let f = one ts q in let g = two f.new f.paired in
    record { new = g.new; paired = g.paired; reordered = IsPermutation-trans _ _ _ f.reordered g.reordered }) h ys p
  where
    Leads : List A → List A → Type 0
    Leads us ws = (vs : List B) → Paired R us vs → Follows R ws vs

    kept : (x : A) (us ws : List A) → IsPermutation us ws → Leads us ws → Leads (x ∷ us) (x ∷ ws)
    kept x us ws k leads _ (more {y = y} {ys = vs} r rest) = let f = leads vs rest in
        record { new = y ∷ f.new; paired = more r f.paired; reordered = IsPermutation-cons _ _ _ f.reordered }

    exchanged : (x x' : A) (us : List A) → Leads (x ∷ (x' ∷ us)) (x' ∷ (x ∷ us))
    exchanged x x' us _ (more {y = y} r (more {y = z} {ys = vs} q rest)) =
        record { new = z ∷ (y ∷ vs); paired = more q (more r rest); reordered = two_exchanged }

-- what is found in an array is one of its entries
pub entry_has : (ds : Items) (i : ℕ) (d : Data) → get_item i ds ≡ Some d → In d (list_of_items ds)
entry_has no_items i d e = cc
entry_has (item f ds) zero d e = let same : f ≡ d = cc in subst (λ z. In z (f ∷ list_of_items ds)) same (inl refl)
entry_has (item f ds) (suc i) d e = inr (entry_has ds i d e)

-- ---- two lists whose entries are told apart by keys, and that have the same keys, are matched: the way from equal records to
-- members that say the same

-- no two entries have one key
abbrev pub ApartBy : {A K : Type 0} → (A → K) → List A → Type 0
ApartBy key [] = Unit {0}
ApartBy {A} key (x ∷ xs) = ((y : A) → In y xs → key x ≡ key y → ⊥) × ApartBy key xs

apart-reordered : {A K : Type 0} (key : A → K) {xs ys : List A} → IsPermutation xs ys → ApartBy key xs → ApartBy key ys
apart-reordered key = along_permutation (λ xs ys. ApartBy key xs → ApartBy key ys)
    (λ xs a. a)
    (λ x xs ys p h a. ((λ z i. a.0 z (reordered-In z (IsPermutation-sym xs ys p) i)), h a.1))
    (λ x y xs a. ((λ z i e. ⊎_elim (λ is. a.0 y (inl refl) (ap key is ∙ sym e)) (λ j. a.1.0 z j e) i), ((λ z i. a.0 z (inr i)), a.1.1)))
    (λ xs ys zs p h k a. k (h a))

-- the list without one of its entries
pub record Without {A : Type 0} (ys : List A) (y : A) : Type 0 where
  pub rest : List A
  pub same : IsPermutation (y ∷ rest) ys

pub without : {A : Type 0} (ys : List A) (y : A) → In y ys → Without ys y
without [] y h = absurd h
without (x ∷ xs) y (inl e) = subst (Without (x ∷ xs)) e (record { rest = xs; same = IsPermutation-refl _ })
without (x ∷ xs) y (inr h) = let w = without xs y h in
    record { rest = x ∷ w.rest; same = IsPermutation-trans _ _ _ two_exchanged (IsPermutation-cons _ _ _ w.same) }

module _ {A B K : Type 0} (key : A → K) (key' : B → K) where
  abbrev pub Tied : A → B → Type 0
  Tied x y = key x ≡ key' y

  no_other : (ys : List B) → ((y : B) → In y ys → (x : A) × In x [] × Tied x y) → [] ≡ ys
  no_other [] from = refl
  no_other (y ∷ ys) from = elim (from y (inl refl)).1 [ ]

  pub matched_by_keys : (xs : List A) (ys : List B) → ApartBy key xs → ApartBy key' ys
      → ((x : A) → In x xs → (y : B) × In y ys × Tied x y) → ((y : B) → In y ys → (x : A) × In x xs × Tied x y) → Matched Tied xs ys
  matched_by_keys [] ys left right to from = subst (Matched Tied []) (no_other ys from) (matched_none Tied)
  matched_by_keys (x ∷ xs) ys left right to from =
      let t = to x (inl refl) in
      let w = without ys t.0 t.1 in
      let apart : ApartBy key' (t.0 ∷ w.rest) = apart-reordered key' (IsPermutation-sym _ _ w.same) right in
      let m = matched_by_keys xs w.rest left.1 apart.1 (λ x' i. onward t.0 w.rest t.2 x' i (to x' (inr i)) (IsPermutation-sym _ _ w.same))
      (λ y' i. backward t.0 w.rest t.2 apart.0 y' i (from y' (reordered-In y' w.same (inr i)))) in
      record { middle = t.0 ∷ m.middle; paired = more t.2 m.paired; reordered = IsPermutation-trans _ _ _ (IsPermutation-cons _ _ _ m.reordered) w.same }
    where
      onward : (y : B) (rest : List B) → Tied x y → (x' : A) → In x' xs → (y' : B) × In y' ys × Tied x' y' → IsPermutation ys (y ∷ rest) → (y' : B)
          × In y' rest × Tied x' y'
      onward y rest e x' i t same = ⊎_elim (λ is. absurd (left.0 x' i (e ∙ ap key' is ∙ sym t.2))) (λ j. (t.0, j, t.2)) (reordered-In t.0 same t.1)

      backward : (y : B) (rest : List B) → Tied x y → ((z : B) → In z rest → key' y ≡ key' z → ⊥) → (y' : B) → In y' rest → (x' : A) × In x' (x ∷ xs)
          × Tied x' y' → (x' : A) × In x' xs × Tied x' y'
      backward y rest e apart y' i t = ⊎_elim (λ is. absurd (apart y' i (sym e ∙ ap key is ∙ t.2))) (λ j. (t.0, j, t.2)) (t.1)

-- ---- lists of different JSON values that are one set are the same but for their order; and so are references that name one
-- set of keys

-- trees that are equal to themselves as JSON: those without fractions
abbrev pub AreSound : List Data → Type 0
AreSound ds = (d : Data) → In d ds → IsTree d × (is_same_json d d ≡ true)

abbrev pub itself : Data → Data
itself d = d

in_other : (ds es : List Data) → AreSound ds → AreSound es → json_set ds ≡ json_set es → (x : Data) → In x ds → (y : Data) × In y es × (x ≡ y)
in_other ds es left right same x i =
    let h : list_any (is_same_json x) es ≡ true = sym (ap (λ set. set x) same) ∙ any_at (is_same_json x) x ds i (left x i).1 in
    let f = find-any (is_same_json x) es h in
    (f.0, f.3, is_same_exact x f.0 (left x i).0 (right f.0 f.3).0 f.2)

pub json_sets_reordered : (ds es : List Data) → AreSound ds → AreSound es → ApartBy itself ds → ApartBy itself es → json_set ds
    ≡ json_set es → IsPermutation ds es
json_sets_reordered ds es left right apart apart' same =
    matched_equal (λ x y h. h)
    (matched_by_keys itself itself ds es apart apart' (in_other ds es left right same)
    (λ y i. let o = in_other es ds right left (sym same) y i in (o.0, o.1, sym o.2)))

-- ---- each report says what it says, and if u says what t says, t says what u says

abbrev pub turned : Sides → Sides
turned m = record { left = m.right; right = m.left; there = m.back; back = m.there }

-- ---- entries as lists

pub entries_paired : (m : Sides) {w : Option Want} {ds es : Items} → SameEntries m w ds es → Paired (Same m w) (list_of_items ds) (list_of_items es)
entries_paired m no_entry = none
entries_paired m (one_entry h rest) = more h (entries_paired m rest)

pub paired_entries : (m : Sides) (w : Option Want) {ds es : List Data} → Paired (Same m w) ds es → SameEntries m w (items_of ds) (items_of es)
paired_entries m w none = no_entry
paired_entries m w (more h rest) = one_entry h (paired_entries m w rest)

pub paired_flip : {A B : Type 0} {R : A → B → Type 0} {xs : List A} {ys : List B} → Paired R xs ys → Paired (λ y x. R x y) ys xs
paired_flip none = none
paired_flip (more r rest) = more r (paired_flip rest)

-- where the entries of the right list are reordered, those of the left one can be
pub record SetMoved (m : Sides) (w : Option Want) (es ds : Items) : Type 0 where
  pub moved : Items
  pub permuted : IsPermutation (list_of_items es) (list_of_items moved)
  pub entries : SameEntries m w moved ds

pub set_swapped : (m : Sides) (w : Option Want) (ds fs es : Items) → IsPermutation (list_of_items ds) (list_of_items fs)
    → SameEntries m w es fs → SetMoved m w es ds
set_swapped m w ds fs es p h =
    let f = follows (IsPermutation-sym (list_of_items ds) (list_of_items fs) p) (paired_flip (entries_paired m h)) in
    record {
      moved = items_of f.new;
      permuted = subst (IsPermutation (list_of_items es)) (sym (list_of_items-items_of f.new)) f.reordered;
      entries = subst (SameEntries m w (items_of f.new)) (items_again ds) (paired_entries m w (paired_flip f.paired));
    }

-- arrays whose entries say the same say the same
module _ (m : Sides) where
  pub set_says : (w : Want) (ds es : Items) → is_table_set w ≡ true → Matched (Same m (entry_want w)) (list_of_items ds) (list_of_items es)
      → Same m (Some w) (array ds) (array es)
  set_says w ds es is h =
      let f = follows h.reordered (paired_flip h.paired) in
      a_set (items_of f.new) is (subst (IsPermutation (list_of_items ds)) (sym (list_of_items-items_of f.new)) f.reordered)
      (subst (SameEntries m (entry_want w) (items_of f.new)) (items_again es) (paired_entries m (entry_want w) (paired_flip f.paired)))

  pub list_says : (w : Want) (ds es : Items) → is_table_set w ≡ false → Paired (Same m (entry_want w)) (list_of_items ds) (list_of_items es)
      → Same m (Some w) (array ds) (array es)
  list_says w ds es is h =
      a_list is
      (subst (λ x. SameEntries m (entry_want w) x es) (items_again ds)
      (subst (SameEntries m (entry_want w) (items_of (list_of_items ds))) (items_again es) (paired_entries m (entry_want w) h)))

-- ---- the other way round

mutual
  pub same_back : (m : Sides) {o : Option Want} {d e : Data} → Same m o d e → Same (turned m) o e d
  same_back m not_asked = not_asked
  same_back m a_null = a_null
  same_back m a_flag = a_flag
  same_back m a_number = a_number
  same_back m (a_text is) = a_text is
  same_back m (an_id is h) = an_id is (h.1, h.0)
  same_back m (a_list is h) = a_list is (entries_back m h)
  same_back m (a_set {w = w} {ds = ds} {es = es} fs is p h) =
      let b = set_swapped (turned m) (entry_want w) ds fs es p (entries_back m h) in a_set b.moved is b.permuted b.entries
  same_back m (an_object {w = w} {ms = ms} {ns = ns} h) =
      an_object (subst (λ s. SameMembers (turned m) s ns ms) (scope_same m w ms ns h) (members_back m h))

  pub entries_back : (m : Sides) {w : Option Want} {ds es : Items} → SameEntries m w ds es → SameEntries (turned m) w es ds
  entries_back m no_entry = no_entry
  entries_back m (one_entry h rest) = one_entry (same_back m h) (entries_back m rest)

  pub members_back : (m : Sides) {s : Scope} {ms ns : Members} → SameMembers m s ms ns → SameMembers (turned m) s ns ms
  members_back m no_member = no_member
  members_back m (in_both h rest) = in_both (same_back m h) (members_back m rest)
  members_back m (left_only h rest) = right_only h (members_back m rest)
  members_back m (right_only h rest) = left_only h (members_back m rest)

pub says_back : SaysBack
says_back t u h = record { there = h.back; back = h.there; same = same_back (record { left = t; right = u; there = h.there; back = h.back }) h.same }

-- ---- each report says what it says

abbrev pub as_it_is : List ℕ → List ℕ
as_it_is s = s

-- ---- values that say the same with nothing absent

-- a value with nothing inside it of which anything is asked
abbrev pub is_leaf : Option Want → Data → Bool
is_leaf (Some w) (array ds) = false
is_leaf (Some w) (object ms) = false
is_leaf o d = true

mutual
  -- The values say the same, and no member of the one is absent in the other.
  pub data Alike (m : Sides) : Option Want → Data → Data → Type 0 where
    alike_leaf : {o : Option Want} {d e : Data} → is_leaf o d ≡ true → Same m o d e → Alike m o d e
    alike_list : {w : Want} {ds es : Items} → is_table_set w ≡ false → AlikeEntries m (entry_want w) ds es → Alike m (Some w) (array ds) (array es)
    alike_set : {w : Want} {ds es : Items} (fs : Items) → is_table_set w ≡ true → IsPermutation (list_of_items ds) (list_of_items fs)
        → AlikeEntries m (entry_want w) fs es → Alike m (Some w) (array ds) (array es)
    alike_object : {w : Want} {ms ns : Members} → AlikeMembers m (scope_inside w (object ms)) ms ns → Alike m (Some w) (object ms) (object ns)

  -- the entries of an array, one by one
  pub data AlikeEntries (m : Sides) : Option Want → Items → Items → Type 0 where
    alike_none : {o : Option Want} → AlikeEntries m o no_items no_items
    alike_more : {o : Option Want} {d e : Data} {ds es : Items} → Alike m o d e → AlikeEntries m o ds es → AlikeEntries m o (item d ds) (item e es)

  -- the members of an object, one by one
  pub data AlikeMembers (m : Sides) : Scope → Members → Members → Type 0 where
    alike_nothing : {s : Scope} → AlikeMembers m s no_members no_members
    alike_under : {s : Scope} {k : List ℕ} {d e : Data} {ms ns : Members} → Alike m (want_of_name s k) d e → AlikeMembers m s ms ns
        → AlikeMembers m s (member k d ms) (member k e ns)

mutual
  pub alike_same : {m : Sides} {o : Option Want} {d e : Data} → Alike m o d e → Same m o d e
  alike_same (alike_leaf is h) = h
  alike_same (alike_list is h) = a_list is (entries_same h)
  alike_same (alike_set fs is p h) = a_set fs is p (entries_same h)
  alike_same (alike_object h) = an_object (members_same h)

  pub entries_same : {m : Sides} {o : Option Want} {ds es : Items} → AlikeEntries m o ds es → SameEntries m o ds es
  entries_same alike_none = no_entry
  entries_same (alike_more h rest) = one_entry (alike_same h) (entries_same rest)

  pub members_same : {m : Sides} {s : Scope} {ms ns : Members} → AlikeMembers m s ms ns → SameMembers m s ms ns
  members_same alike_nothing = no_member
  members_same (alike_under h rest) = in_both (alike_same h) (members_same rest)

-- arrays whose entries are alike in their order
pub alike_array : (m : Sides) (w : Want) (ds es : Items) (b : Bool) → is_table_set w ≡ b → AlikeEntries m (entry_want w) ds es
    → Alike m (Some w) (array ds) (array es)
alike_array m w ds es true is h = alike_set ds is (IsPermutation-refl (list_of_items ds)) h
alike_array m w ds es false is h = alike_list is h

-- what is asked is alike to itself, with all that is inside it, where each text of an `@id` stands for itself
module _ (m : Sides) (H : Option Want → Type 0) (texts : (w : Want) (s : List ℕ) → H (Some w) → is_id_text w ≡ true → NameOneThing m s s)
    (entries : (w : Want) → H (Some w) → H (entry_want w))
    (names : (w : Want) (ms : Members) → H (Some w) → (n : List ℕ) → H (want_of_name (scope_inside w (object ms)) n)) where
  text_self : (w : Want) (s : List ℕ) (b : Bool) → is_id_text w ≡ b → H (Some w) → Same m (Some w) (string s) (string s)
  text_self w s true is h = an_id is (texts w s h is)
  text_self w s false is h = a_text is

  mutual
    pub alike_self : (o : Option Want) (d : Data) → H o → Alike m o d d
    alike_self None d h = alike_leaf refl not_asked
    alike_self (Some w) null h = alike_leaf refl a_null
    alike_self (Some w) (boolean b) h = alike_leaf refl a_flag
    alike_self (Some w) (number n) h = alike_leaf refl a_number
    alike_self (Some w) (string s) h = alike_leaf refl (text_self w s (is_id_text w) refl h)
    alike_self (Some w) (array ds) h = alike_array m w ds ds (is_table_set w) refl (entries_self (entry_want w) ds (entries w h))
    alike_self (Some w) (object ms) h = alike_object (members_self (scope_inside w (object ms)) ms (names w ms h))

    pub entries_self : (o : Option Want) (ds : Items) → H o → AlikeEntries m o ds ds
    entries_self o no_items h = alike_none
    entries_self o (item d ds) h = alike_more (alike_self o d h) (entries_self o ds h)

    pub members_self : (s : Scope) (ms : Members) → ((n : List ℕ) → H (want_of_name s n)) → AlikeMembers m s ms ms
    members_self s no_members h = alike_nothing
    members_self s (member k d ms) h = alike_under (alike_self (want_of_name s k) d (h k)) (members_self s ms h)

pub says_itself : SaysItself
says_itself t = record {
  there = as_it_is;
  back = as_it_is;
  same = alike_same (alike_self (record { left = t; right = t; there = as_it_is; back = as_it_is }) (λ o. Unit {0}) (λ w s h is. (refl, refl)) (λ w h. tt)
      (λ w ms h n. tt) (Some (Object role.Report)) t tt);
}

-- ---- values of a report

-- this is asked of the value, somewhere in the report
pub record Stands (t : Data) (w : Want) (d : Data) : Type 0 where
  pub repeated : Bool
  pub inside : Within t (record { want = w; value = d; repeated = repeated })

-- what stands in arrays and objects
pub entry_stands : (t : Data) (w v : Want) (d : Data) → entry_want w ≡ Some v → Stands t w d → (x : Data) → In x (entries_of d) → Stands t v x
entry_stands t w v (array ds) asks st x h =
    let j = list_of_items-place ds x h in
    let a : Asked = record { want = w; value = array ds; repeated = st.repeated } in
    let b : Asked = record { want = v; value = x; repeated = is_compared_set w && is_repeated ds j.0 x } in
    record { repeated = is_compared_set w && is_repeated ds j.0 x; inside = Within-step t a b (At j.0) st.inside (rw (asks, j.1) refl) }
entry_stands t w v e asks st x h = elim h [ ]

pub member_stands : (t : Data) (w : Want) (ms : Members) → Stands t w (object ms) → (k : List ℕ) (v : Want) (d : Data)
    → want_of_name (scope_inside w (object ms)) k ≡ Some v → get_member k ms ≡ Some d → Stands t v d
member_stands t w ms st k v d asks found =
    let a : Asked = record { want = w; value = object ms; repeated = st.repeated } in
    record { repeated = false; inside = Within-step t a (asked v d) (Name k) st.inside (rw (asks, found) refl) }

pub stands_tree : (t : Data) (w : Want) (d : Data) → IsTree t → Stands t w d → IsTree d
stands_tree t w d tree st = within-tree t (record { want = w; value = d; repeated = st.repeated }) tree st.inside

-- ---- lists

pub paired_within_both : {A B : Type 0} {R : A → B → Type 0} (S : A → B → Type 0) {xs : List A} {ys : List B}
    → ((x : A) (y : B) → In x xs → In y ys → R x y → S x y) → Paired R xs ys → Paired S xs ys
paired_within_both S h none = none
paired_within_both S h (more {x = x} {y = y} r rest) = more (h x y (inl refl) (inl refl) r) (paired_within_both S (λ a b i j. h a b (inr i) (inr j)) rest)

pub matched_within_both : {A B : Type 0} {R : A → B → Type 0} (S : A → B → Type 0) {xs : List A} {ys : List B}
    → ((x : A) (y : B) → In x xs → In y ys → R x y → S x y) → Matched R xs ys → Matched S xs ys
matched_within_both S h m = record {
  middle = m.middle;
  paired = paired_within_both S (λ x y i j. h x y i (reordered-In y m.reordered j)) m.paired;
  reordered = m.reordered;
}

pub matched_left : {A B : Type 0} {R : A → B → Type 0} {xs ws : List A} {ys : List B} → IsPermutation xs ws → Paired R ws ys → Matched R xs ys
matched_left h p = let f = follows (IsPermutation-sym _ _ h) p in record { middle = f.new; paired = f.paired; reordered = IsPermutation-sym _ _ f.reordered }

-- ---- arrays

-- the entries of values that say the same are matched
pub entries_matched : (m : Sides) (w : Want) {d e : Data} → Same m (Some w) d e → Matched (Same m (entry_want w)) (entries_of d) (entries_of e)
entries_matched m w (a_list {es = es} is h) =
    record { middle = list_of_items es; paired = entries_paired m h; reordered = IsPermutation-refl (list_of_items es) }
entries_matched m w (a_set {ds = ds} fs is p h) = matched_left p (entries_paired m h)
entries_matched m w h = matched_none _

-- a member that may be absent has no entries, if it is not in the envelope
absent_empty : (t : Data) (s : Scope) (name : List ℕ) (d : Data) → is_envelope s name ≡ false → MayBeAbsent t s name d → entries_of d ≡ []
absent_empty t s name d other (an_empty_array k required asks is empty) = ap entries_of empty
absent_empty t s name d other (of_the_envelope h) = let e : true ≡ false = sym h ∙ other in cc
absent_empty t s name d other (an_unused_id id required asks is unused) = ap entries_of is

pub lacking_empty : (t : Data) (s : Scope) (name : List ℕ) (o : Option Data) → is_envelope s name ≡ false → MayLack t s name o
    → option_map_or entries_of o [] ≡ []
lacking_empty t s name None other h = refl
lacking_empty t s name (Some d) other h = absent_empty t s name d other (h.each d refl)

-- ---- values of both reports

-- values of the reports of which this is asked, and which say the same
pub record Related (m : Sides) (w : Want) (d e : Data) : Type 0 where
  pub left : Stands m.left w d
  pub right : Stands m.right w e
  pub same : Same m (Some w) d e
