-- The selections of a contest are put under the numbers of their names one after another, the first of each name.
use Rattle.erd_compare.proofs.Common.{◌≡◌, ℕ, Bool, true, false, cond, List, [], ◌∷◌, is_some, ◌==◌, Some, None, Option, option_map, find, sym, refl, ap, ◌∙◌}
use Rattle.erd_compare.proofs.Common.{true≢false, Bor, Decides-eqb, option_eq, option_or, Data, view, Value, Judged, number_of_selection, has_number}
use Rattle.erd_compare.proofs.Common.{IsByNumber, ComparedReport, suc, ◌⊎◌, length, option_and_then, subst, inl, inr, arith, fun_ext, AllByRecursion, Class}
use Rattle.erd_compare.proofs.Common.{Preference, plain_member, selection_record, name_in_class, selection_role, ◌↔◌, IsDistinct, find-Some, SelectionRecord}
use Rattle.erd_compare.proofs.Common.{number_of_name, Decides, IsWholeTree, on_side, numbered_map, Left, Right, In-all, key_named, not, IfSome, IfOk, Ok, Err}
use Rattle.erd_compare.proofs.Common.{Result, array, no_items, item, kind_of_member, family, MemberKind, kind, entries_of, PlainValue, MemberValue, a_plain}
use Rattle.erd_compare.proofs.Common.{NameParts, selection_map, member_value, a_selection_map, plain_found, member_found, is_selections, if_filled}
use Rattle.erd_compare.proofs.Common.{selections_meant}
use Rattle.std.specs.Cmp.{unsigned_tied}
use Rattle.std.specs.Map.{lookup, keys_of}
use Rattle.std.specs.Ordering.{eq_by_cmp, nat_cmp}
use Rattle.std.proofs.lemmas.Map.Keys.{IsDistinct-from_sorted}
use Rattle.std.specs.List.Sorted.{IsStrictlySortedBy}
use Rattle.erd_check.specs.Wants.{class_of_object}
use Rattle.erd_meaning.proofs.identity.ObjectFamilies.{itself}
use Rattle.erd_compare.proofs.whole_trees.WholeTrees.{AreWholeTrees}
use Rattle.erd_compare.specs.code.DifferingNames.{GoesOn}
use Rattle.erd_compare.specs.declared.objects.differing_names.PairsLeft.{PairsLeft}
use Rattle.erd_compare.proofs.differing.Walks.{none_there}

-- values under numbers, such as selections under those of their names
abbrev pub Numbered : Type 0 → Type 0
Numbered V = List (ℕ × V)

-- the value under a number
abbrev pub at_number : {V : Type 0} → Numbered V → ℕ → Option V
at_number m q = lookup (λ l. q == l) m

-- numbers are tested by their order
sorted_tests : eq_by_cmp nat_cmp ≡ ◌==◌
sorted_tests = fun_ext (λ k. fun_ext (λ q. unsigned_tied k q))

pub sorted_at : {V : Type 0} (m : Numbered V) (q : ℕ) → lookup (eq_by_cmp nat_cmp q) m ≡ at_number m q
sorted_at m q = ap (λ (same : ℕ → ℕ → Bool). lookup (same q) m) sorted_tests

-- a value is put there
pub sorted_update : {V : Type 0} (m n : Numbered V) (k : ℕ) (w : Option V)
    → ((q : ℕ) → lookup (eq_by_cmp nat_cmp q) n ≡ cond (eq_by_cmp nat_cmp k q) w (lookup (eq_by_cmp nat_cmp q) m)) → (q : ℕ) → at_number n q
    ≡ cond (k == q) w (at_number m q)
sorted_update m n k w h = subst (λ (same : ℕ → ℕ → Bool). (q : ℕ) → lookup (same q) n ≡ cond (same k q) w (lookup (same q) m)) sorted_tests h

-- sorted numbers are distinct
pub sorted_apart : {V : Type 0} (m : Numbered V) → IsStrictlySortedBy nat_cmp (keys_of m) → IsDistinct ◌==◌ (keys_of m)
sorted_apart m h = subst (λ (same : ℕ → ℕ → Bool). IsDistinct same (keys_of m)) sorted_tests (IsDistinct-from_sorted nat_cmp (keys_of m) h)

-- numbers that pass the test are one
pub one_number : (k q : ℕ) → (k == q) ≡ true → k ≡ q
one_number k q e = (Decides-eqb k q).0 e

-- ---- selections are put there one after another, as values that are seen as selections

abbrev pub seen_value : Bor Value → Data
seen_value v = view v.now

module _ {V : Type 0} (see : V → Data) where
  -- the selection under a number
  abbrev pub had : Numbered V → ℕ → Option Data
  had m q = option_map see (at_number m q)

  -- there is the first selection of each name, but for these, which are left
  abbrev pub IsFilling : Judged → Judged → ComparedReport → List Data → List Data → Numbered V → Type 0
  IsFilling a b side all left m = (q : ℕ) → option_or (had m q) (find (has_number a b side q) left) ≡ find (has_number a b side q) all

  module _ (a b : Judged) (side : ComparedReport) where
    pub none_put : (all left : List Data) (m : Numbered V) → left ≡ all → m ≡ [] → IsFilling a b side all left m
    none_put all left m is none q = rw none (ap (find (has_number a b side q)) is)

    pub all_put : (all left : List Data) (m : Numbered V) → left ≡ [] → IsFilling a b side all left m → (q : ℕ) → had m q ≡ find (has_number a b side q) all
    all_put all left m is h q = unless_left (had m q) ∙ (ap (λ ds. option_or (had m q) (find (has_number a b side q) ds)) (sym is) ∙ h q)
      where
        unless_left : (o : Option Data) → o ≡ option_or o None
        unless_left None = refl
        unless_left (Some d) = refl

    -- a selection without a name
    pub unnamed : (all left : List Data) (d : Data) (m : Numbered V) → None ≡ number_of_selection a b side d → IsFilling a b side all (d ∷ left) m
        → IsFilling a b side all left m
    unnamed all left d m nameless h q =
        ap (λ yes. option_or (had m q) (cond yes (Some d) (find (has_number a b side q) left))) (ap (λ o. option_eq ◌==◌ o (Some q)) nameless) ∙ h q

    -- the test of a selection that has the name
    tested : (d : Data) (k q : ℕ) → Some k ≡ number_of_selection a b side d → has_number a b side q d ≡ (k == q)
    tested d k q named = ap (λ o. option_eq ◌==◌ o (Some q)) (sym named)

    -- a selection with a name that is there
    pub named_before : (all left : List Data) (d : Data) (k : ℕ) (m : Numbered V) → Some k ≡ number_of_selection a b side d → is_some (at_number m k) ≡ true
        → IsFilling a b side all (d ∷ left) m → IsFilling a b side all left m
    named_before all left d k m named before h q = at q (at_number m q) refl ∙ h q
      where
        other : (q : ℕ) → at_number m q ≡ None → (yes : Bool) → (k == q) ≡ yes → yes ≡ false
        other q none true e = absurd (true≢false (sym before ∙ (ap (λ x. is_some (at_number m x)) (one_number k q e) ∙ ap is_some none)))
        other q none false e = refl

        at : (q : ℕ) (o : Option V) → at_number m q ≡ o → option_or (option_map see o) (find (has_number a b side q) left) ≡ option_or (option_map see o)
            (find (has_number a b side q) (d ∷ left))
        at q (Some w) e = refl
        at q None e = sym (ap (λ yes. cond yes (Some d) (find (has_number a b side q) left)) (tested d k q named ∙ other q e ((k == q)) refl))

    -- a selection with a new name, which is put there
    pub named_first : (all left : List Data) (d : Data) (w : V) (k : ℕ) (m n : Numbered V) → Some k ≡ number_of_selection a b side d
        → is_some (at_number m k) ≡ false
        → ((q : ℕ) → at_number n q ≡ cond (k == q) (Some w) (at_number m q)) → see w ≡ d → IsFilling a b side all (d ∷ left) m → IsFilling a b side all left n
    named_first all left d w k m n named new updates is h q =
        (ap (λ o. option_or (option_map see o) (find (has_number a b side q) left)) (updates q) ∙ at q ((k == q)) refl) ∙ h q
      where
        none : (o : Option V) → is_some o ≡ false → o ≡ None
        none None e = refl
        none (Some x) e = cc

        at : (q : ℕ) (yes : Bool) → (k == q) ≡ yes → option_or (option_map see (cond yes (Some w) (at_number m q))) (find (has_number a b side q) left)
            ≡ option_or (had m q) (find (has_number a b side q) (d ∷ left))
        at q true e =
            sym (ap (λ o. option_or (option_map see o) (find (has_number a b side q) (d ∷ left)))
            (ap (at_number m) (sym (one_number k q e)) ∙ none (at_number m k) new)
            ∙ (ap (λ yes. cond yes (Some d) (find (has_number a b side q) left)) (tested d k q named ∙ e) ∙ ap Some (sym is)))
        at q false e = sym (ap (λ yes. option_or (had m q) (cond yes (Some d) (find (has_number a b side q) left))) (tested d k q named ∙ e))

-- ---- the selections of two contests by the numbers of their names: what the right has at each name of the left is taken out

-- ---- entries of a map

-- a selection with its name
abbrev pub Entry : Type 0
Entry = ℕ × Bor Value

-- the value of the selection with the name, if there is one
abbrev pub seen_at : ℕ → List Entry → Option Data
seen_at q es = option_map (λ (v : Bor Value). view v.now) (lookup (λ l. q == l) es)

-- and names apart are so either way
apart_either : (k q : ℕ) → (k == q) ≡ false → (q == k) ≡ false
apart_either k q apart = grind arith

-- the first entry is found at its name
found_first : (e : Entry) (es : List Entry) → lookup (λ l. e.0 == l) (e ∷ es) ≡ Some e.1
found_first e es = rw (itself e.0) refl

-- and elsewhere what the others have
found_later : (e : Entry) (es : List Entry) (q : ℕ) → (e.0 == q) ≡ false → lookup (λ l. q == l) (e ∷ es) ≡ lookup (λ l. q == l) es
found_later e es q apart = rw (apart_either e.0 q apart) refl

-- a name that differs from all finds nothing
found_none : (k : ℕ) (es : List Entry) → AllByRecursion (λ l. (k == l) ≡ false) (keys_of es) → lookup (λ l. k == l) es ≡ None
found_none k [] h = refl
found_none k (e ∷ es) h = rw h.0 (found_none k es h.1)

-- ---- selections

-- what a selection of a class means
abbrev in_class : Preference → Data → Data → Class → SelectionRecord
in_class π t d c = record { class = c; members = plain_member π t d c }

module _ (a b : Judged) (side : ComparedReport) (ds : List Data) where
  abbrev π : Preference
  π = (on_side side a b).prefer

  abbrev t : Data
  t = view (on_side side a b).tree

  -- a selection with a name has a class, and so it means something
  means_something : (name : ℕ) (d : Data) → has_number a b side name d ≡ true → selection_record π t d ≡ None → ⊥
  means_something name d named = at (class_of_object selection_role d) named
    where
      at : (o : Option Class) → option_eq ◌==◌ (option_map (number_of_name a b) (option_map (λ c. name_in_class π (key_named π t) c d) o)) (Some name) ≡ true
          → option_map (in_class π t d) o ≡ None → ⊥
      at None h nothing = cc
      at (Some c) h nothing = cc

  -- what the map of the selections has at a name that one of them has, and that it has something there
  record_at : (name : ℕ) (d : Data) → find (has_number a b side name) ds ≡ Some d → numbered_map a b side ds name ≡ selection_record π t d
  record_at name d h = ap (option_and_then (selection_record π t)) h

  something_at : (name : ℕ) (d : Data) → find (has_number a b side name) ds ≡ Some d → numbered_map a b side ds name ≡ None → ⊥
  something_at name d h nothing = means_something name d (find-Some (has_number a b side name) ds d h).1 (sym (record_at name d h) ∙ nothing)

  -- and nothing at others
  nothing_at : (name : ℕ) → None ≡ find (has_number a b side name) ds → numbered_map a b side ds name ≡ None
  nothing_at name h = ap (option_and_then (selection_record π t)) (sym h)

  pub whole_at : AreWholeTrees ds → (name : ℕ) (d : Data) → find (has_number a b side name) ds ≡ Some d → IsWholeTree d
  whole_at whole name d h = In-all IsWholeTree d ds whole (find-Some (has_number a b side name) ds d h).0

-- different maps are told so
decided_not : {A : Type 0} {x y : A} → (x ≡ y → ⊥) → Decides false x y
decided_not apart = (λ h. cc, λ same. absurd (apart same))

-- ---- two contests

module _ (a b : Judged) (ds es : List Data) where
  -- the maps of both
  abbrev ones : ℕ → Option SelectionRecord
  ones = numbered_map a b Left ds

  abbrev others : ℕ → Option SelectionRecord
  others = numbered_map a b Right es

  -- a name that was passed: neither has it any more, and both mean the same there
  record IsPassed (ls rs : List Entry) (q : ℕ) : Type 0 where
    left : lookup (λ l. q == l) ls ≡ None
    right : lookup (λ l. q == l) rs ≡ None
    same : ones q ≡ others q

  -- a name that is left: each has the first selection with it
  record IsLeft (ls rs : List Entry) (q : ℕ) : Type 0 where
    left : seen_at q ls ≡ find (has_number a b Left q) ds
    right : seen_at q rs ≡ find (has_number a b Right q) es

  -- what is left of the entries of both
  pub record AreSelectionsLeft (ls rs : List Entry) : Type 0 where
    distinct : IsDistinct ◌==◌ (keys_of ls)
    each : (q : ℕ) → IsPassed ls rs q ⊎ IsLeft ls rs q

module _ {a b : Judged} {ds es : List Data} where
  pub both_maps : {all ls rs : List Entry} → all ≡ ls → IsDistinct ◌==◌ (keys_of ls) → IsByNumber a b Left ds ls → IsByNumber a b Right es rs
      → AreSelectionsLeft a b ds es all rs
  both_maps {rs = rs} begun distinct mine its = subst (λ xs. AreSelectionsLeft a b ds es xs rs) (sym begun)
      (record { distinct = distinct; each = λ q. inr (record { left = mine q; right = its q }) })

  -- the next entry
  module _ (e : Entry) {all ls rs : List Entry} (next : all ≡ e ∷ ls) (left : AreSelectionsLeft a b ds es all rs) where
    h : AreSelectionsLeft a b ds es (e ∷ ls) rs
    h = subst (λ xs. AreSelectionsLeft a b ds es xs rs) next left

    -- what the selections have at its name
    next_left : IsLeft a b ds es (e ∷ ls) rs e.0
    next_left = elim (h.each e.0) [
      | inl passed ↦ let clash : Some e.1 ≡ None = sym (found_first e ls) ∙ passed.left in cc
      | inr here ↦ here
    ]

    own_left : find (has_number a b Left e.0) ds ≡ Some (view e.1.now)
    own_left = sym next_left.left ∙ ap (option_map (λ (v : Bor Value). view v.now)) (found_first e ls)

    pub whole_left : AreWholeTrees ds → IsWholeTree (view e.1.now)
    whole_left whole = whole_at a b Left ds whole e.0 (view e.1.now) own_left

    -- an entry of the left alone
    pub left_alone : None ≡ lookup (λ l. e.0 == l) rs → Decides false (ones a b ds es) (others a b ds es)
    left_alone none =
        decided_not (λ same. something_at a b Left ds e.0 (view e.1.now) own_left
        (ap (λ m. m e.0) same ∙ nothing_at a b Right es e.0 (ap (option_map (λ (v : Bor Value). view v.now)) none ∙ next_left.right)))

    -- an entry of each
    module _ (w : Bor Value) (taken : Some w ≡ lookup (λ l. e.0 == l) rs) where
      own_right : find (has_number a b Right e.0) es ≡ Some (view w.now)
      own_right = sym next_left.right ∙ ap (option_map (λ (v : Bor Value). view v.now)) (sym taken)

      pub whole_right : AreWholeTrees es → IsWholeTree (view w.now)
      whole_right whole = whole_at a b Right es whole e.0 (view w.now) own_right

      -- they mean different things
      pub differ : (selection_record a.prefer (view a.tree) (view e.1.now) ≡ selection_record b.prefer (view b.tree) (view w.now) → ⊥)
          → Decides false (ones a b ds es) (others a b ds es)
      differ unequal =
          decided_not
          (λ same. unequal (sym (record_at a b Left ds e.0 (view e.1.now) own_left)
          ∙ (ap (λ m. m e.0) same ∙ record_at a b Right es e.0 (view w.now) own_right)))

      -- they mean the same
      pub both_passed : {rs' : List Entry} → ((q : ℕ) → lookup (λ l. q == l) rs' ≡ cond (e.0 == q) None (lookup (λ l. q == l) rs))
          → selection_record a.prefer (view a.tree) (view e.1.now) ≡ selection_record b.prefer (view b.tree) (view w.now) → AreSelectionsLeft a b ds es ls rs'
      unfolding IsDistinct
      both_passed {rs' = rs'} updates equal = record { distinct = h.distinct.1; each = λ q. at q (e.0 == q) refl }
        where
          here : IsPassed a b ds es ls rs' e.0
          here = record {
            left = found_none e.0 ls h.distinct.0;
            right = updates e.0 ∙ ap (λ b. cond b None (lookup (λ l. e.0 == l) rs)) (itself e.0);
            same = record_at a b Left ds e.0 (view e.1.now) own_left ∙ (equal ∙ sym (record_at a b Right es e.0 (view w.now) own_right));
          }

          elsewhere : (q : ℕ) → (e.0 == q) ≡ false → lookup (λ l. q == l) rs' ≡ lookup (λ l. q == l) rs
          elsewhere q apart = updates q ∙ ap (λ b. cond b None (lookup (λ l. q == l) rs)) apart

          at : (q : ℕ) (c : Bool) → (e.0 == q) ≡ c → IsPassed a b ds es ls rs' q ⊎ IsLeft a b ds es ls rs' q
          at q true is = inl (subst (IsPassed a b ds es ls rs') (one_number e.0 q is) here)
          at q false is = elim (h.each q) [
            | inl passed ↦ inl (record { left = sym (found_later e ls q is) ∙ passed.left; right = elsewhere q is ∙ passed.right; same = passed.same })
            | inr more ↦ inr (record {
              left = ap (option_map (λ (v : Bor Value). view v.now)) (sym (found_later e ls q is)) ∙ more.left;
              right = ap (option_map (λ (v : Bor Value). view v.now)) (elsewhere q is) ∙ more.right;
            })
          ]

  -- nothing is left of either
  all_passed : AreSelectionsLeft a b ds es [] [] → ones a b ds es ≡ others a b ds es
  all_passed h = fun_ext (λ q. elim (h.each q) [
    | inl passed ↦ passed.same
    | inr left ↦ nothing_at a b Left ds q left.left ∙ sym (nothing_at a b Right es q left.right)
  ])

  -- an entry of the right alone
  right_alone : (g : Entry) (rs : List Entry) → AreSelectionsLeft a b ds es [] (g ∷ rs) → ones a b ds es ≡ others a b ds es → ⊥
  right_alone g rs h same = elim (h.each g.0) [
    | inl passed ↦ let clash : Some g.1 ≡ None = sym (found_first g rs) ∙ passed.right in cc
    | inr left ↦ something_at a b Right es g.0 (view g.1.now) (sym left.right ∙ ap (option_map (λ (v : Bor Value). view v.now)) (found_first g rs))
        (sym (ap (λ m. m g.0) same) ∙ nothing_at a b Left ds g.0 left.left)
  ]

  -- at the end nothing is left of the right exactly if both mean the same
  pub ended : (answer : Bool) {ls : List Entry} (rs : List Entry) → ls ≡ [] → AreSelectionsLeft a b ds es ls rs → ((answer ≡ true) ↔ (length rs ≡ 0))
      → Decides answer (ones a b ds es) (others a b ds es)
  ended answer [] end h empty = (λ _. all_passed (subst (λ xs. AreSelectionsLeft a b ds es xs []) end h), λ _. empty.1 refl)
  ended answer (g ∷ rs) end h empty = (
    λ told. let none : suc (length rs) ≡ 0 = empty.0 told in
        cc,
    λ same. absurd (right_alone g rs (subst (λ xs. AreSelectionsLeft a b ds es xs (g ∷ rs)) end h) same),
  )

-- ---- what members mean: the selections of a contest, and all others, which mean what they do by themselves

-- ---- selections

-- the map that a member is, and an empty one of any other
abbrev map_in : Option MemberValue → NameParts → Option SelectionRecord
map_in (Some (a_selection_map m)) = m
map_in found = λ name. None

-- a value that was found, as its data
abbrev pub seen : Option (Bor Value) → Option Data
seen found = option_map (λ v. view v.now) found

-- a member that is no empty array is there
pub filled-there : (found : Option Data) (v : Data) → if_filled found ≡ Some v → found ≡ Some v
filled-there None v e = e
filled-there (Some (array no_items)) v e = cc
filled-there (Some (array (item d ds))) v e = e
filled-there (Some d) v e = e

-- a value that is no empty array is the one that was found, and a whole tree if that is one
pub whole_filled : (o : Option (Bor Value)) (v : Data) → IfSome o (λ w. IsWholeTree (view w.now)) → if_filled (option_map (λ w. view w.now) o)
    ≡ Some v → IsWholeTree v
whole_filled None v whole e = cc
whole_filled (Some w) v whole e =
    let same : Some (view w.now) ≡ Some v = filled-there (Some (view w.now)) v e in
    let is : view w.now ≡ v = cc in
    subst IsWholeTree is whole

-- the selections of a member that is no empty array
selections_meant-filled : (π : Preference) (t : Data) (found : Option Data) (v : Data) → if_filled found ≡ Some v → selections_meant π t found
    ≡ Some (a_selection_map (selection_map π t (entries_of v)))
selections_meant-filled π t found v e = subst (λ o. selections_meant π t o ≡ Some (a_selection_map (selection_map π t (entries_of v))))
    (sym (filled-there found v e)) (at v (subst (λ o. if_filled o ≡ Some v) (filled-there found v e) e))
  where
    at : (d : Data) → if_filled (Some d) ≡ Some d → selections_meant π t (Some d) ≡ Some (a_selection_map (selection_map π t (entries_of d)))
    at (array no_items) e = cc
    at (array (item d ds)) e = refl
    at d e = refl

-- two contests have the same selections exactly if the maps of their entries are the same
pub selections-Decide : (π ρ : Preference) {E : Type 0} (r : Result Bool E) (t u d e : Data) (found other : Option Data) (ds es : List Data) → if_filled found
    ≡ Some d → if_filled other ≡ Some e → ds ≡ entries_of d → es ≡ entries_of e
    → IfOk r (λ answer. Decides answer (selection_map π t ds) (selection_map ρ u es))
    → IfOk r (λ answer. Decides answer (selections_meant π t found) (selections_meant ρ u other))
selections-Decide π ρ (Err x) t u d e found other ds es left right of_d of_e h = tt
selections-Decide π ρ (Ok answer) t u d e found other ds es left right of_d of_e h = (
  λ is. selections_meant-filled π t found d left ∙ ap (λ m. Some (a_selection_map m)) (sym (ap (selection_map π t) of_d) ∙ h.0 is ∙ ap (selection_map ρ u) of_e)
      ∙ sym (selections_meant-filled ρ u other e right),
  λ same. h.1 (ap (selection_map π t) of_d ∙ ap map_in (sym (selections_meant-filled π t found d left) ∙ same ∙ selections_meant-filled ρ u other e right)
      ∙ sym (ap (selection_map ρ u) of_e)),
)

-- ---- other members

-- what a member means that it does by itself is determined by that
pub one_plain : (p q : Option PlainValue) → option_map a_plain p ≡ option_map a_plain q → p ≡ q
one_plain None None same = refl
one_plain (Some v) (Some w) same = cc
one_plain p q same = cc

pub plain-Decides : (answer : Bool) (p q : Option PlainValue) → Decides answer p q → Decides answer (option_map a_plain p) (option_map a_plain q)
plain-Decides answer p q h = (λ is. ap (option_map a_plain) (h.0 is), λ same. h.1 (one_plain p q same))

-- what all members mean by themselves is the same exactly if there is no name at which they differ
pub plain_maps-Decide : (p q : List ℕ → Option PlainValue) (left : PairsLeft) (found : Option (List ℕ)) → GoesOn (λ k. option_map a_plain (p k))
    (λ k. option_map a_plain (q k)) [] left found → Decides (not (is_some found)) p q
plain_maps-Decide p q left None end = (λ h. fun_ext (λ k. one_plain (p k) (q k) (none_there end k)), λ same. refl)
plain_maps-Decide p q left (Some name) next =
    (λ h. cc, λ same. absurd (next.differ.0 (ap (λ (m : List ℕ → Option PlainValue). option_map a_plain (m name)) same)))

-- members of a kind other than selections mean the same exactly if they do so by themselves
other_kind : (π ρ : Preference) (answer : Bool) (t u : Data) (k : MemberKind) (found other : Option Data) (p q : Option PlainValue) → is_selections k ≡ false
    → Decides answer p q → Decides answer (member_value π t k found p) (member_value ρ u k other q)
other_kind π ρ answer t u (kind.Keyed family.Selection) found other p q is h = cc
other_kind π ρ answer t u k found other p q is h = plain-Decides answer p q h

pub other_member : {E : Type 0} (a b : Judged) (c : Class) (name : List ℕ) (found other : Option Data) (r : Result Bool E)
    → is_selections (kind_of_member c name) ≡ false
    → IfOk r (λ answer. Decides answer (plain_found a.prefer (view a.tree) c name found) (plain_found b.prefer (view b.tree) c name other))
    → IfOk r (λ answer. Decides answer (member_found a.prefer (view a.tree) c name found) (member_found b.prefer (view b.tree) c name other))
other_member a b c name found other (Ok answer) is h = other_kind a.prefer b.prefer answer (view a.tree) (view b.tree)
    (kind_of_member c name) found other _ _ is h
other_member a b c name found other (Err e) is h = tt
