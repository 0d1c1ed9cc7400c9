-- The selections of two contests are written alike if and only if they mean the same.
use Rattle.erd_text.proofs.Common.{⊤, ◌≡◌, inl, inr, Bool, true, false, cond, List, [], ◌∷◌, map, Some, None, Option, option_and_then, option_map, find, is_eq}
use Rattle.erd_text.proofs.Common.{is_lt, sym, refl, ap, ap₂, ◌∙◌, subst, fun_ext, Ordering, Less, Equal, Greater, Data, null, object, string, Members}
use Rattle.erd_text.proofs.Common.{no_members, member, codes, Class, In, In-map, In-map_from, AllByRecursion, IsTotalOrder, CmpEqualImpliesEq, rising_list}
use Rattle.erd_text.proofs.Common.{with_inserted, eq_by_cmp, tied_itself, class_of_object, In-all}
unfoldable use Rattle.erd_text.proofs.Common.{IsDistinct}
use Rattle.std.specs.Prelude.{◌↔◌}
use Rattle.std.specs.Option.{option_cmp, option_map_or}
use Rattle.std.specs.Ordering.{ordering_reverse}
use Rattle.std.specs.Cmp.{Equal-is}
use Rattle.std.specs.Cmp.Lexicographic.{options_total}
use Rattle.erd_tables.specs.Classes.{text_of_class}
use Rattle.erd_check.specs.Trees.{AreMembers}
use Rattle.erd_text.proofs.RisingLists.{rising_list_map}
use Rattle.erd_text.proofs.RisingOrders.{all_rising, In-rising}
use Rattle.erd_meaning.specs.Keys.{Preference}
use Rattle.erd_meaning.specs.NameParts.{NameParts}
use Rattle.erd_meaning.specs.Meaning.{SelectionRecord}
use Rattle.erd_meaning.specs.Records.{plain_member, selection_map, selection_record}
use Rattle.erd_meaning.specs.SelectionNames.{key_named, name_cmp, name_in_class, name_of, selection_role}
use Rattle.erd_shown.specs.Shown.{record_data, selection_record_data, shown_selections, shown_members, shown_plain}
use Rattle.erd_meaning.specs.code.Orders.{name_cmp_total, name_cmp_exact}
use Rattle.erd_shown.proofs.told.Sets.{array_exact, one_order}
use Rattle.erd_shown.proofs.told.Names.{Fits, class_exact, names_exact}
use Rattle.erd_shown.proofs.told.Records.{records_tell}
use Rattle.erd_shown.specs.KeyData.{array_of, shown_name}
use Rattle.erd_shown.specs.code.Fitting.{AreFit, AreSelections, IsSelection, SelectionsTell}

-- ---- orders

abbrev pub names_cmp : Option NameParts → Option NameParts → Ordering
names_cmp = option_cmp name_cmp

names_total : IsTotalOrder names_cmp
names_total = options_total name_cmp_total

names_cmp_exact : CmpEqualImpliesEq names_cmp
names_cmp_exact None None e = refl
names_cmp_exact None (Some y) e = cc
names_cmp_exact (Some x) None e = cc
names_cmp_exact (Some x) (Some y) e = ap Some (name_cmp_exact x y e)

turned : (o : Ordering) → is_eq (ordering_reverse o) ≡ is_eq o
turned Less = refl
turned Equal = refl
turned Greater = refl

-- ---- the first that passes a test, in another order

module _ {A : Type 0} (p : A → Bool) where
  -- at most one passes
  abbrev pub Once : List A → Type 0
  Once [] = ⊤
  Once (x ∷ xs) = (p x ≡ true → AllByRecursion (λ y. p y ≡ false) xs) × Once xs

  module _ (cmp : A → A → Ordering) where
    not_found : (x : A) (ys : List A) → p x ≡ false → find p (with_inserted cmp x ys) ≡ find p ys
    not_found x [] e = rw e
    not_found x (y ∷ ys) e = at (is_lt (cmp y x)) (not_found x ys e)
      where
        at : (b : Bool) → find p (with_inserted cmp x ys) ≡ find p ys → find p (cond b (y ∷ with_inserted cmp x ys) (x ∷ (y ∷ ys))) ≡ find p (y ∷ ys)
        at true h = ap (λ o. cond (p y) (Some y) o) h
        at false h = ap (λ b. cond b (Some x) (find p (y ∷ ys))) e

    found : (x : A) (ys : List A) → p x ≡ true → AllByRecursion (λ y. p y ≡ false) ys → find p (with_inserted cmp x ys) ≡ Some x
    found x [] e h = rw e
    found x (y ∷ ys) e h = at (is_lt (cmp y x)) (found x ys e h.1)
      where
        at : (b : Bool) → find p (with_inserted cmp x ys) ≡ Some x → find p (cond b (y ∷ with_inserted cmp x ys) (x ∷ (y ∷ ys))) ≡ Some x
        at true g = ap (λ b. cond b (Some y) (find p (with_inserted cmp x ys))) h.0 ∙ g
        at false g = ap (λ b. cond b (Some x) (find p (y ∷ ys))) e

    pub find_rising : (xs : List A) → Once xs → find p (rising_list cmp xs) ≡ find p xs
    find_rising [] h = refl
    find_rising (x ∷ xs) h = at (p x) refl (find_rising xs h.1)
      where
        at : (b : Bool) → p x ≡ b → find p (rising_list cmp xs) ≡ find p xs → find p (with_inserted cmp x (rising_list cmp xs)) ≡ find p (x ∷ xs)
        at true e g = found x (rising_list cmp xs) e (all_rising (λ y. p y ≡ false) cmp xs (h.0 e)) ∙ sym (ap (λ b. cond b (Some x) (find p xs)) e)
        at false e g = not_found x (rising_list cmp xs) e ∙ g ∙ sym (ap (λ b. cond b (Some x) (find p xs)) e)

  pub own : (xs : List A) (x : A) → Once xs → In x xs → p x ≡ true → find p xs ≡ Some x
  own [] x h i e = absurd i
  own (y ∷ ys) x h (inl same) e = ap (λ b. cond b (Some y) (find p ys)) (ap p same ∙ e) ∙ ap Some same
  own (y ∷ ys) x h (inr i) e = at (p y) refl (own ys x h.1 i e)
    where
      at : (b : Bool) → p y ≡ b → find p ys ≡ Some x → find p (y ∷ ys) ≡ Some x
      at true f g = let no : p x ≡ false = In-all (λ z. p z ≡ false) x ys (h.0 f) i in let w : true ≡ false = sym e ∙ no in cc
      at false f g = ap (λ b. cond b (Some y) (find p ys)) f ∙ g

  pub find_In : (xs : List A) (x : A) → find p xs ≡ Some x → In x xs × (p x ≡ true)
  find_In [] x e = cc
  find_In (y ∷ ys) x e = at (p y) refl (find_In ys x)
    where
      at : (b : Bool) → p y ≡ b → (find p ys ≡ Some x → In x ys × (p x ≡ true)) → In x (y ∷ ys) × (p x ≡ true)
      at true f later = let same : Some y ≡ Some x = sym (ap (λ b. cond b (Some y) (find p ys)) f) ∙ e in let one : y ≡ x = cc in (inl one, ap p (sym one) ∙ f)
      at false f later = let r = later (sym (ap (λ b. cond b (Some y) (find p ys)) f) ∙ e) in (inr r.0, r.1)

-- ---- records of selections

module _ (π ρ : Preference) (t u : Data) (ms ns : Members) (rise : AreMembers ms) (rise' : AreMembers ns)
    (fit : (c : Class) → class_of_object selection_role (object ms) ≡ Some c → AreFit π t c ms)
    (fit' : (c : Class) → class_of_object selection_role (object ns) ≡ Some c → AreFit ρ u c ns) where
  members_at : (c d : Class) → class_of_object selection_role (object ms) ≡ Some c → class_of_object selection_role (object ns) ≡ Some d → c ≡ d
      → (shown_members (shown_plain π t c) ms ≡ shown_members (shown_plain ρ u d) ns) ↔ (plain_member π t (object ms) c ≡ plain_member ρ u (object ns) d)
  members_at c d is is' same =
      subst (λ x. (shown_members (shown_plain π t c) ms ≡ shown_members (shown_plain ρ u x) ns)
      ↔ (plain_member π t (object ms) c ≡ plain_member ρ u (object ns) x)) same
      (records_tell π ρ t u c ms ns rise rise' (fit c is) (fit' c (is' ∙ ap Some (sym same))))

  abbrev written : Preference → Data → Members → Class → Data
  written π t ms c =
      object (member (codes "class") (string (text_of_class c)) (member (codes "members") (object (shown_members (shown_plain π t c) ms)) no_members))

  abbrev meant : Preference → Data → Members → Class → SelectionRecord
  meant π t ms c = record { class = c; members = plain_member π t (object ms) c }

  by_class : (o p : Option Class) → class_of_object selection_role (object ms) ≡ o → class_of_object selection_role (object ns) ≡ p
      → (option_map_or (written π t ms) o null ≡ option_map_or (written ρ u ns) p null) ↔ (option_map (meant π t ms) o ≡ option_map (meant ρ u ns) p)
  by_class None None is is' = (λ e. refl, λ e. refl)
  by_class None (Some d) is is' = (λ e. cc, λ e. cc)
  by_class (Some c) None is is' = (λ e. cc, λ e. cc)
  by_class (Some c) (Some d) is is' = (
    λ e.
        let texts : text_of_class c ≡ text_of_class d = cc in
        let members : shown_members (shown_plain π t c) ms ≡ shown_members (shown_plain ρ u d) ns = cc in
        let same = class_exact c d texts in
        let all = (members_at c d is is' same).0 members in
        λ i. Some (record { class = same i; members = all i }),
    λ e.
        let one : meant π t ms c ≡ meant ρ u ns d = cc in
        let same : c ≡ d = ap (λ (r : SelectionRecord). r.class) one in
        let all = (members_at c d is is' same).1 (ap (λ (r : SelectionRecord). r.members) one) in
        ap₂ (λ s x. object (member (codes "class") (string s) (member (codes "members") (object x) no_members))) (ap text_of_class same) all,
  )

  pub record_told : (record_data (shown_plain π t) selection_role (object ms) ≡ record_data (shown_plain ρ u) selection_role (object ns))
      ↔ (selection_record π t (object ms) ≡ selection_record ρ u (object ns))
  record_told = by_class (class_of_object selection_role (object ms)) (class_of_object selection_role (object ns)) refl refl

-- ---- the selections of one contest

no_record : {A B C : Type 0} (f : A → B) (g : A → C) (o : Option A) (b : B) → option_map f o ≡ Some b → option_map g o ≡ None → ⊥
no_record f g None b e h = cc
no_record f g (Some a) b e h = cc

module _ (π : Preference) (t : Data) where
  abbrev pub by_name : Data → Data → Ordering
  by_name a b = names_cmp (name_of π t a) (name_of π t b)

  abbrev pub has_name : NameParts → Data → Bool
  has_name n d = is_eq (names_cmp (name_of π t d) (Some n))

  pub name_told : (n : NameParts) (d : Data) → has_name n d ≡ true → name_of π t d ≡ Some n
  name_told n d e = names_cmp_exact (name_of π t d) (Some n) ((Equal-is (names_cmp (name_of π t d) (Some n))).0 e)

  pub told_name : (n : NameParts) (d : Data) → name_of π t d ≡ Some n → has_name n d ≡ true
  told_name n d e = ap (λ o. is_eq (names_cmp o (Some n))) e ∙ ap is_eq (tied_itself names_total (Some n))

  apart : (n : NameParts) (d : Data) (ds : List Data) → has_name n d ≡ true → AllByRecursion (λ e. eq_by_cmp by_name d e ≡ false) ds
      → AllByRecursion (λ e. has_name n e ≡ false) ds
  apart n d [] e h = tt
  apart n d (x ∷ ds) e h = (
    ap is_eq (names_total.antisymm (name_of π t x) (Some n)) ∙ turned (names_cmp (Some n) (name_of π t x)) ∙ ap (λ o. is_eq (names_cmp o (name_of π t x)))
        (sym (name_told n d e)) ∙ h.0,
    apart n d ds e h.1,
  )

  pub once : (n : NameParts) (ds : List Data) → IsDistinct (eq_by_cmp by_name) ds → Once (has_name n) ds
  unfolding IsDistinct
  once n [] h = tt
  once n (d ∷ ds) h = (λ e. apart n d ds e h.0, once n ds h.1)

  distinct_names : (ds : List Data) → IsDistinct (eq_by_cmp by_name) ds → IsDistinct (eq_by_cmp names_cmp) (map (name_of π t) ds)
  unfolding IsDistinct
  distinct_names [] h = tt
  distinct_names (d ∷ ds) h = (each ds h.0, distinct_names ds h.1)
    where
      each : (es : List Data) → AllByRecursion (λ e. eq_by_cmp by_name d e ≡ false) es
          → AllByRecursion (λ n. eq_by_cmp names_cmp (name_of π t d) n ≡ false) (map (name_of π t) es)
      each [] g = tt
      each (e ∷ es) g = (g.0, each es g.1)

  -- what the map has at the name of a selection
  at_name : (ds : List Data) → IsDistinct (eq_by_cmp by_name) ds → (d : Data) → In d ds → (n : NameParts) → name_of π t d ≡ Some n → selection_map π t ds n
      ≡ selection_record π t d
  at_name ds h d i n e = ap (option_and_then (selection_record π t)) (own (has_name n) ds d (once n ds h) i (told_name n d e))

  -- a selection with a name has a record
  abbrev meant_in : Data → Class → SelectionRecord
  meant_in d c = record { class = c; members = plain_member π t d c }

  pub has_record : (d : Data) (n : NameParts) → name_of π t d ≡ Some n → selection_record π t d ≡ None → ⊥
  has_record d n e g = no_record (λ c. name_in_class π (key_named π t) c d) (meant_in d) (class_of_object selection_role d) n e g

  -- what the map has a record at is the name of a selection
  named_in : (ds : List Data) (n : NameParts) → (selection_map π t ds n ≡ None → ⊥) → In (Some n) (map (name_of π t) ds)
  named_in ds n some = at (find (has_name n) ds) refl
    where
      at : (o : Option Data) → find (has_name n) ds ≡ o → In (Some n) (map (name_of π t) ds)
      at None e = absurd (some (ap (option_and_then (selection_record π t)) e))
      at (Some d) e = let r = find_In (has_name n) ds d e in subst (λ o. In o (map (name_of π t) ds)) (name_told n d r.1) (In-map (name_of π t) d ds r.0)

-- ---- two contests

module _ (π ρ : Preference) (t u : Data) where
  fits_of : (σ : Preference) (v d : Data) → IsSelection σ v d → Fits (name_of σ v d)
  fits_of σ v d s = subst Fits (sym s.named) s.fits

  pub one_record : (d e : Data) → IsSelection π t d → IsSelection ρ u e
      → (record_data (shown_plain π t) selection_role d ≡ record_data (shown_plain ρ u) selection_role e) ↔ (selection_record π t d ≡ selection_record ρ u e)
  one_record d e s r =
      let told = record_told π ρ t u s.ms r.ms s.rise r.rise s.fit r.fit in
      subst (λ x. (record_data (shown_plain π t) selection_role x ≡ record_data (shown_plain ρ u) selection_role e)
      ↔ (selection_record π t x ≡ selection_record ρ u e)) (sym s.is_object)
      (subst (λ y. (record_data (shown_plain π t) selection_role (object s.ms) ≡ record_data (shown_plain ρ u) selection_role y)
      ↔ (selection_record π t (object s.ms) ≡ selection_record ρ u y)) (sym r.is_object) told)

  abbrev one : Data → Data
  one d = selection_record_data π t d

  abbrev other : Data → Data
  other e = selection_record_data ρ u e

  -- equal entries
  pub names_from : (d e : Data) → IsSelection π t d → IsSelection ρ u e → one d ≡ other e → name_of π t d ≡ name_of ρ u e
  names_from d e s r h = let names : shown_name (name_of π t d) ≡ shown_name (name_of ρ u e) = cc in names_exact _ _ (fits_of π t d s) (fits_of ρ u e r) names

  pub records_from : (d e : Data) → one d ≡ other e → record_data (shown_plain π t) selection_role d ≡ record_data (shown_plain ρ u) selection_role e
  records_from d e h = cc

  in_step : (n : NameParts) (xs ys : List Data) → AllByRecursion (IsSelection π t) xs → AllByRecursion (IsSelection ρ u) ys → map one xs ≡ map other ys
      → option_and_then (selection_record π t) (find (has_name π t n) xs) ≡ option_and_then (selection_record ρ u) (find (has_name ρ u n) ys)
  in_step n [] [] g h e = refl
  in_step n [] (y ∷ ys) g h e = cc
  in_step n (x ∷ xs) [] g h e = cc
  in_step n (x ∷ xs) (y ∷ ys) g h e =
      let first : one x ≡ other y = cc in
      let rest : map one xs ≡ map other ys = cc in
      at (has_name π t n x) (has_name ρ u n y) (ap (λ o. is_eq (names_cmp o (Some n))) (names_from x y g.0 h.0 first))
      ((one_record x y g.0 h.0).0 (records_from x y first)) (in_step n xs ys g.1 h.1 rest)
    where
      at : (a b : Bool) → a ≡ b → selection_record π t x ≡ selection_record ρ u y
          → option_and_then (selection_record π t) (find (has_name π t n) xs) ≡ option_and_then (selection_record ρ u) (find (has_name ρ u n) ys)
          → option_and_then (selection_record π t) (cond a (Some x) (find (has_name π t n) xs)) ≡ option_and_then (selection_record ρ u)
          (cond b (Some y) (find (has_name ρ u n) ys))
      at true true e here later = here
      at false false e here later = later
      at true false e here later = cc
      at false true e here later = cc

  -- and back
  pair_up : (xs ys : List Data) → ((x y : Data) → In x xs → In y ys → name_of π t x ≡ name_of ρ u y → one x ≡ other y) → map (name_of π t) xs
      ≡ map (name_of ρ u) ys → map one xs ≡ map other ys
  pair_up [] [] each e = refl
  pair_up [] (y ∷ ys) each e = cc
  pair_up (x ∷ xs) [] each e = cc
  pair_up (x ∷ xs) (y ∷ ys) each e =
      let first : name_of π t x ≡ name_of ρ u y = cc in
      let rest : map (name_of π t) xs ≡ map (name_of ρ u) ys = cc in
      ap₂ ◌∷◌ (each x y (inl refl) (inl refl) first) (pair_up xs ys (λ a b i j. each a b (inr i) (inr j)) rest)

  module _ (ds es : List Data) (left : AreSelections π t ds) (right : AreSelections ρ u es) where
    forward : shown_selections π t ds ≡ shown_selections ρ u es → selection_map π t ds ≡ selection_map ρ u es
    forward e =
        let lists = array_exact _ _ e in
        fun_ext (λ n.
        ap (option_and_then (selection_record π t)) (sym (find_rising (has_name π t n) (by_name π t) ds (once π t n ds left.1)))
        ∙ in_step n _ _ (all_rising (IsSelection π t) (by_name π t) ds left.0) (all_rising (IsSelection ρ u) (by_name ρ u) es right.0) lists
        ∙ ap (option_and_then (selection_record ρ u)) (find_rising (has_name ρ u n) (by_name ρ u) es (once ρ u n es right.1)))

    module _ (same : selection_map π t ds ≡ selection_map ρ u es) where
      there : (o : Option NameParts) → In o (map (name_of π t) ds) → In o (map (name_of ρ u) es)
      there o i =
          let r = In-map_from (name_of π t) ds o i in
          let s = In-all (IsSelection π t) r.0 ds left.0 r.1 in
          subst (λ x. In x (map (name_of ρ u) es)) (sym s.named ∙ r.2)
          (named_in ρ u es s.name
          (λ none. has_record π t r.0 s.name s.named (sym (at_name π t ds left.1 r.0 r.1 s.name s.named) ∙ ap (λ f. f s.name) same ∙ none)))

      back : (o : Option NameParts) → In o (map (name_of ρ u) es) → In o (map (name_of π t) ds)
      back o i =
          let r = In-map_from (name_of ρ u) es o i in
          let s = In-all (IsSelection ρ u) r.0 es right.0 r.1 in
          subst (λ x. In x (map (name_of π t) ds)) (sym s.named ∙ r.2)
          (named_in π t ds s.name
          (λ none. has_record ρ u r.0 s.name s.named (sym (at_name ρ u es right.1 r.0 r.1 s.name s.named) ∙ sym (ap (λ f. f s.name) same) ∙ none)))

      names : map (name_of π t) (rising_list (by_name π t) ds) ≡ map (name_of ρ u) (rising_list (by_name ρ u) es)
      names =
          rising_list_map (name_of π t) names_cmp ds
          ∙ one_order names_cmp names_total _ _ (distinct_names π t ds left.1) (distinct_names ρ u es right.1) there back
          ∙ sym (rising_list_map (name_of ρ u) names_cmp es)

      alike : (x y : Data) → In x (rising_list (by_name π t) ds) → In y (rising_list (by_name ρ u) es) → name_of π t x ≡ name_of ρ u y → one x ≡ other y
      alike x y i j e =
          let i' = In-rising (by_name π t) x ds i in
          let j' = In-rising (by_name ρ u) y es j in
          let s = In-all (IsSelection π t) x ds left.0 i' in
          let r = In-all (IsSelection ρ u) y es right.0 j' in
          let records : selection_record π t x ≡ selection_record ρ u y =
          sym (at_name π t ds left.1 x i' s.name s.named) ∙ ap (λ f. f s.name) same ∙ at_name ρ u es right.1 y j' s.name (sym e ∙ s.named) in
          ap₂ (λ n d. object (member (codes "name") (shown_name n) (member (codes "record") d no_members))) e ((one_record x y s r).1 records)

      backward : shown_selections π t ds ≡ shown_selections ρ u es
      backward = ap array_of (pair_up _ _ alike names)

pub selections_tell : SelectionsTell
selections_tell π ρ t u ds es left right = (forward π ρ t u ds es left right, backward π ρ t u ds es left right)
