-- Two ballots of which no line is told are one.
use Rattle.erd_shown.proofs.Common.{◌≡◌, ℕ, Bool, true, false, not, ◌&&◌, ◌||◌, ◌==◌, List, [], ◌∷◌, ◌++◌, map, slice_get, Some, None, Option, cond}
use Rattle.erd_shown.proofs.Common.{sym, refl, ap, ap₂, ◌∙◌, subst, In, In-all, In-map_from, and_parts, bytes_eq, is_eq, is_lt, is_gt, pos, length}
use Rattle.erd_shown.proofs.Common.{key_of, entries_at, codes, compact_text, items_text, comma_if, tied_itself, key_cmp, key_cmp_total, options_exact}
use Rattle.erd_shown.proofs.Common.{name_cmp, name_cmp_total, equal_keys, equal_names, eq_by_cmp, option_cmp, NameParts, flat_map, list_any, slice_get-map}
use Rattle.erd_shown.proofs.Common.{option_map, object, member, no_members, boolean, items_of, options_total, IsTotalOrder, true≢false, Decides-eqb}
use Rattle.erd_shown.proofs.Common.{Ordering, Less, Equal, Greater, ordering_reverse, length-map, rising_list, Data, Preference, Key, Family, family}
use Rattle.erd_shown.proofs.Common.{NeverFalls, rising_never_falls, ItemsHaveFittingNumbers, filter_map, name_of}
use Rattle.std.specs.Bool.{beq}
use Rattle.std.specs.Cmp.{IsEquivalence}
use Rattle.std.specs.Ordering.{bool_cmp, ordering_then}
use Rattle.erd_check.proofs.Exact.{text_exact}
use Rattle.erd_text.specs.RisingLists.{with_inserted}
use Rattle.erd_shown.specs.BallotLaws.{IsOneBallot, LinesTell}
use Rattle.erd_shown.specs.BallotLines.{AreDifferingLines, is_same_line, headed_unless, line_unless, name_lines, nested_lines, pair_lines, row_lines}
use Rattle.erd_shown.specs.BallotLines.{has_same_voters, has_same_keys, selection_row_lines, side_lines, voter_lines}
use Rattle.erd_shown.specs.BallotWords.{printed_selections, selection_words}
use Rattle.erd_shown.specs.Ballots.{line_data, lines_data, lines_of, thing_at, what_members}
use Rattle.erd_shown.specs.KeyData.{array_of, shown_key, shown_key_or_null, shown_name, shown_whole}
use Rattle.erd_shown.specs.ListedNames.{listed_at, lists_selections, names_in_order, names_named, names_on, selections_on, sorted_names}
use Rattle.erd_shown.specs.Partners.{partners}
use Rattle.erd_shown.specs.Reworded.{is_line_reworded, is_reworded, true_of_any_named}
use Rattle.erd_shown.specs.RowData.{thing_cmp, things_of}
use Rattle.erd_shown.specs.Rows.{AreRows, IsRow}
use Rattle.erd_shown.specs.SelectionRows.{AreSelections, AreSelectionsAt, Beside, IsInside, are_listed}
use Rattle.erd_shown.specs.Shown.{keys_data}
use Rattle.erd_shown.specs.declared.rows.Row.{Row}
use Rattle.erd_shown.specs.declared.rows.Row.TheVariants.{Both, Removed, Added, MovedAway, MovedHere}
use Rattle.erd_shown.proofs.QuietRows.{IsQuiet, equivalence, none_before, none_of_each, none_told, same_things, so, stands}
use Rattle.erd_shown.proofs.PartnerLaws.{each_other, one_thing}
use Rattle.erd_shown.proofs.RowLaws.{equal_lists, partners_count}
use Rattle.erd_shown.proofs.fit.ExactTexts.{compact_exact}

-- ---- things

then_both : (o p : Ordering) → is_eq (ordering_then o p) ≡ true → (is_eq o ≡ true) × (is_eq p ≡ true)
then_both Less p e = cc
then_both Equal p e = (refl, e)
then_both Greater p e = cc

flags_exact : (a b : Bool) → is_eq (bool_cmp a b) ≡ true → a ≡ b
flags_exact true true e = refl
flags_exact false false e = refl
flags_exact true false e = cc
flags_exact false true e = cc

things_exact : (a b : Bool × Option Key) → eq_by_cmp thing_cmp a b ≡ true → a ≡ b
things_exact (x, k) (y, l) e =
    let both = then_both (bool_cmp x y) (option_cmp key_cmp k l) e in
    ap₂ (λ a b. (a, b)) (flags_exact x y both.0) (options_exact key_cmp equal_keys k l both.1)

thing_itself : (a : Bool × Option Key) → eq_by_cmp thing_cmp a a ≡ true
thing_itself (true, k) = ap is_eq (tied_itself (options_total key_cmp_total) k)
thing_itself (false, k) = ap is_eq (tied_itself (options_total key_cmp_total) k)

things_alike : IsEquivalence (eq_by_cmp thing_cmp)
things_alike = equivalence (eq_by_cmp thing_cmp) thing_itself things_exact

names_alike : IsEquivalence (eq_by_cmp name_cmp)
names_alike = equivalence (eq_by_cmp name_cmp) (λ n. ap is_eq (tied_itself name_cmp_total n)) equal_names

-- ---- selections

-- a list that rises is its own rising list
risen : {A : Type 0} (cmp : A → A → Ordering) → IsTotalOrder cmp → (xs : List A) → NeverFalls cmp xs → rising_list cmp xs ≡ xs
risen cmp order [] h = refl
risen cmp order (x ∷ []) h = refl
risen cmp order (x ∷ (y ∷ ys)) h = ap (λ zs. with_inserted cmp x zs) (risen cmp order (y ∷ ys) h.1) ∙ at (cmp y x) refl
  where
    at : (o : Ordering) → cmp y x ≡ o → cond (is_lt o) (y ∷ with_inserted cmp x ys) (x ∷ (y ∷ ys)) ≡ x ∷ (y ∷ ys)
    at Less e = absurd (true≢false (sym (ap is_gt (order.antisymm x y ∙ ap ordering_reverse e)) ∙ h.0.0))
    at Equal e = refl
    at Greater e = refl

some_name : (how : List ℕ) (ns : List NameParts) (i : ℕ) (n : NameParts) → slice_get ns i ≡ Some n → name_lines how (slice_get ns i) ≡ [] → ⊥
some_name how ns i n found none = let line : name_lines how (Some n) ≡ [] = sym (ap (name_lines how) found) ∙ none in cc

module _ (b : Beside) where
  -- no selection is told, so the names are the same
  same_names : AreRows (partners (eq_by_cmp name_cmp) b.lefts b.rights) (partners (eq_by_cmp name_cmp) b.rights b.lefts) b.rows → nested_lines b ≡ []
      → b.lefts ≡ b.rights
  same_names are none = same_things (eq_by_cmp name_cmp) names_alike b.lefts b.rights b.rows are quiet equal_names
    where
      row_so : (row : Row) → In row b.rows → IsRow (partners (eq_by_cmp name_cmp) b.lefts b.rights) (partners (eq_by_cmp name_cmp) b.rights b.lefts) row
      row_so = so (eq_by_cmp name_cmp) names_alike b.lefts b.rights b.rows are

      told : (row : Row) → In row b.rows → selection_row_lines b.lefts b.rights row ≡ []
      told row inside = none_of_each (selection_row_lines b.lefts b.rights) b.rows row none inside

      quiet : (row : Row) → In row b.rows → IsQuiet row
      quiet (Both i j) inside = tt
      quiet (MovedAway i j) inside = tt
      quiet (Removed i) inside = let x = stands (eq_by_cmp name_cmp) names_alike b.lefts b.rights i None (row_so (Removed i) inside) in
          some_name (codes "removed") b.lefts i x.0 x.1 (told (Removed i) inside)
      quiet (Added j) inside = let x = stands (eq_by_cmp name_cmp) names_alike b.rights b.lefts j None (row_so (Added j) inside) in
          some_name (codes "added") b.rights j x.0 x.1 (told (Added j) inside)
      quiet (MovedHere i j) inside = let x = stands (eq_by_cmp name_cmp) names_alike b.rights b.lefts j (Some i) (row_so (MovedHere i j) inside) in
          some_name (codes "moved") b.rights j x.0 x.1 (told (MovedHere i j) inside)

beq_exact : (a b : Bool) → beq a b ≡ true → a ≡ b
beq_exact true true e = refl
beq_exact false false e = refl
beq_exact true false e = cc
beq_exact false true e = cc

-- the names of a contest whose selections a ballot does not list are in rising order
names_sorted : (π : Preference) (t d : Data) → lists_selections d ≡ false → rising_list name_cmp (names_on π t d) ≡ names_on π t d
names_sorted π t d none =
    let all = selections_on t d in
    let sorted : names_on π t d ≡ sorted_names π t all = ap (λ x. cond x (names_named π t (listed_at d)) (sorted_names π t all)) none in
    ap (rising_list name_cmp) sorted ∙ risen name_cmp name_cmp_total (sorted_names π t all)
    (rising_never_falls name_cmp_total (filter_map (name_of π t) all)) ∙ sym sorted

-- the names on two lines are the same, if those beside each other are, and both lines list selections or neither does
names_same : (π : Preference) (t d : Data) (ρ : Preference) (u e : Data) (b : Beside) → AreSelections π t d ρ u e b → b.lefts ≡ b.rights
    → lists_selections d ≡ lists_selections e → names_on π t d ≡ names_on ρ u e
names_same π t d ρ u e b are same both = at (lists_selections d) refl
  where
    in_order : names_in_order (are_listed d e) (names_on π t d) ≡ names_in_order (are_listed d e) (names_on ρ u e)
    in_order = sym are.left_names ∙ same ∙ are.right_names

    at : (x : Bool) → lists_selections d ≡ x → names_on π t d ≡ names_on ρ u e
    at true is =
        let listed : are_listed d e ≡ true = ap₂ (λ a c. a && c) is (sym both ∙ is) in
        ap (λ x. names_in_order x (names_on π t d)) (sym listed) ∙ in_order ∙ ap (λ x. names_in_order x (names_on ρ u e)) listed
    at false is =
        let listed : are_listed d e ≡ false = ap (λ a. a && lists_selections e) is in
        let rising : rising_list name_cmp (names_on π t d) ≡ rising_list name_cmp (names_on ρ u e) =
        ap (λ x. names_in_order x (names_on π t d)) (sym listed) ∙ in_order ∙ ap (λ x. names_in_order x (names_on ρ u e)) listed in
        sym (names_sorted π t d is) ∙ rising ∙ names_sorted ρ u e (sym both ∙ is)

-- ---- voters

unless_so : (so : Bool) (line : List ℕ) → line_unless so line ≡ [] → so ≡ true
unless_so true line e = refl
unless_so false line e = cc

-- ---- lines

headed : (same : Bool) (line : List ℕ) (below : List (List ℕ)) → headed_unless same line below ≡ [] → (same ≡ true) × (below ≡ [])
headed same line [] e = (unless_so same line e, refl)
headed same line (x ∷ xs) e = cc

-- ---- lists of which each entry is written alike

texts_alike : (later : Bool) (xs ys : List Data) → map compact_text xs ≡ map compact_text ys → items_text later (items_of xs) ≡ items_text later (items_of ys)
texts_alike later [] [] e = refl
texts_alike later [] (y ∷ ys) e = cc
texts_alike later (x ∷ xs) [] e = cc
texts_alike later (x ∷ xs) (y ∷ ys) e =
    let first : compact_text x ≡ compact_text y = cc in
    let rest : map compact_text xs ≡ map compact_text ys = cc in
    ap₂ (λ a b. comma_if later ++ (a ++ b)) first (texts_alike true xs ys rest)

map_twice : {A B C : Type 0} (g : B → C) (f : A → B) (xs : List A) → map g (map f xs) ≡ map (λ x. g (f x)) xs
map_twice g f [] = refl
map_twice g f (x ∷ xs) = ap (λ ys. g (f x) ∷ ys) (map_twice g f xs)

none_so : {A B : Type 0} (P : A → Bool) (xs : List A) (ys : List B) → map P xs ≡ map (λ y. false) ys → list_any P xs ≡ false
none_so P [] ys e = refl
none_so P (x ∷ xs) [] e = cc
none_so P (x ∷ xs) (y ∷ ys) e =
    let first : P x ≡ false = cc in
    let rest : map P xs ≡ map (λ z. false) ys = cc in
    ap₂ (λ a b. a || b) first (none_so P xs ys rest)

keys_fit : (ks : List Key) → ItemsHaveFittingNumbers (items_of (map shown_key ks))
keys_fit [] = tt
keys_fit (k ∷ ks) = ((tt, (tt, (tt, tt))), keys_fit ks)

-- ---- one line of both

-- two lines of which no line is told
abbrev AreOneLine : Preference → Data → Preference → Data → ℕ × Data → ℕ × Data → Type 0
AreOneLine π t ρ u l r =
    (line_data π t l ≡ line_data ρ u r)
    × (compact_text (selection_words π t l.1) ≡ compact_text (selection_words ρ u r.1)) × (is_line_reworded π t ρ u l.1 ≡ false)

abbrev pub line_with : ℕ → Bool → List NameParts → Bool × Option Key → Data
line_with depth listed names thing =
    object (member (codes "depth") (shown_whole (pos depth)) (member (codes "listed") (boolean listed)
    (member (codes "selections") (array_of (map (λ n. shown_name (Some n)) names)) (what_members thing))))

pub not_so : (b : Bool) → not b ≡ true → b ≡ false
not_so false e = refl
not_so true e = cc

one_line : (π : Preference) (t : Data) (ρ : Preference) (u : Data) (l r : ℕ × Data) (b : Beside) → AreSelections π t l.1 ρ u r.1 b
    → is_same_line π t ρ u l r ≡ true → nested_lines b ≡ [] → thing_at π t l.1 ≡ thing_at ρ u r.1 → AreOneLine π t ρ u l r
one_line π t ρ u l r b are is nested thing =
    let depth = and_parts (l.0 == r.0) _ is in
    let both = and_parts (beq (lists_selections l.1) (lists_selections r.1)) _ depth.1 in
    let words = and_parts (bytes_eq (compact_text (selection_words π t l.1)) (compact_text (selection_words ρ u r.1))) _ both.1 in
    let deep : l.0 ≡ r.0 = (Decides-eqb l.0 r.0).0 depth.0 in
    let listed : lists_selections l.1 ≡ lists_selections r.1 = beq_exact (lists_selections l.1) (lists_selections r.1) both.0 in
    let names = names_same π t l.1 ρ u r.1 b are (same_names b are.are_rows nested) listed in
    (λ i. line_with (deep i) (listed i) (names i) (thing i), text_exact _ _ words.0, not_so (is_line_reworded π t ρ u l.1) words.1)

some_line : (π : Preference) (t : Data) (how : List ℕ) (ls : List (ℕ × Data)) (i : ℕ) (l : ℕ × Data) → slice_get ls i ≡ Some l
    → side_lines π t how (slice_get ls i) ≡ [] → ⊥
some_line π t how ls i l found none = let line : side_lines π t how (Some l) ≡ [] = sym (ap (side_lines π t how) found) ∙ none in cc

-- a line with a partner, or with none, stands on its ballot
line_there : (π ρ : Preference) (t u d e : Data) (i : ℕ) (o : Option ℕ)
    → slice_get (partners (eq_by_cmp thing_cmp) (things_of π t d) (things_of ρ u e)) i ≡ Some o → (l : ℕ × Data) × (slice_get (lines_of d) i ≡ Some l)
line_there π ρ t u d e i o is =
    let x = stands (eq_by_cmp thing_cmp) things_alike (things_of π t d) (things_of ρ u e) i o is in
    at x.0 (slice_get (lines_of d) i) refl (sym (slice_get-map (λ (y : ℕ × Data). thing_at π t y.1) (lines_of d) i) ∙ x.1)
  where
    at : (x : Bool × Option Key) (p : Option (ℕ × Data)) → slice_get (lines_of d) i ≡ p → option_map (λ (y : ℕ × Data). thing_at π t y.1) p ≡ Some x
        → (l : ℕ × Data) × (slice_get (lines_of d) i ≡ Some l)
    at x None f g = cc
    at x (Some l) f g = (l, f)

thing_there : (π : Preference) (t d : Data) (i : ℕ) (l : ℕ × Data) → slice_get (lines_of d) i ≡ Some l → slice_get (things_of π t d) i ≡ Some (thing_at π t l.1)
thing_there π t d i l is = slice_get-map (λ (x : ℕ × Data). thing_at π t x.1) (lines_of d) i ∙ ap (option_map (λ (x : ℕ × Data). thing_at π t x.1)) is

count : (π ρ : Preference) (t u d e : Data) {A : Type 0} (f : ℕ × Data → A)
    → length (partners (eq_by_cmp thing_cmp) (things_of π t d) (things_of ρ u e)) ≡ length (map f (lines_of d))
count π ρ t u d e f =
    partners_count (eq_by_cmp thing_cmp) (things_of π t d) (things_of ρ u e)
    ∙ length-map (lines_of d) (λ (l : ℕ × Data). thing_at π t l.1) ∙ sym (length-map (lines_of d) f)

voters : (π : Preference) (t : Data) (ρ : Preference) (u : Data) (f : Family) (name : List ℕ) (d e : Data) → has_same_voters π t ρ u f name d e ≡ true
    → (keys_data π t f (entries_at name d) ≡ keys_data ρ u f (entries_at name e)) × (true_of_any_named (is_reworded π t ρ u f) t f (entries_at name d) ≡ false)
voters π t ρ u f name d e is =
    let both = and_parts (has_same_keys π t ρ u f (entries_at name d) (entries_at name e)) _ is in
    (compact_exact _ _ (keys_fit _) (keys_fit _) (text_exact _ _ both.0), not_so _ both.1)

-- ---- two ballots

module _ (π ρ : Preference) (t u d e : Data) (key : key_of π d ≡ key_of ρ e) (h : AreDifferingLines π t d ρ u e []) where
  abbrev same : Bool × Option Key → Bool × Option Key → Bool
  same = eq_by_cmp thing_cmp

  abbrev rows : List Row
  rows = map (λ (r : Row × Beside). r.0) h.rows

  nothing : (voter_lines π t d ρ u e ≡ []) × (flat_map (row_lines π t (lines_of d) ρ u (lines_of e)) h.rows ≡ [])
  nothing = none_before (voter_lines π t d ρ u e) (flat_map (row_lines π t (lines_of d) ρ u (lines_of e)) h.rows) (sym h.tells)

  inside_row : (row : Row) → In row rows → (b : Beside) × In (row, b) h.rows
  inside_row row inside =
      let from = In-map_from (λ (r : Row × Beside). r.0) h.rows row inside in (from.0.1, subst (λ r. In (r, from.0.1) h.rows) from.2 from.1)

  told_of : (row : Row) (b : Beside) → In (row, b) h.rows → row_lines π t (lines_of d) ρ u (lines_of e) (row, b) ≡ []
  told_of row b inside = none_of_each (row_lines π t (lines_of d) ρ u (lines_of e)) h.rows (row, b) nothing.1 inside

  row_so : (row : Row) → In row rows → IsRow (partners same (things_of π t d) (things_of ρ u e)) (partners same (things_of ρ u e) (things_of π t d)) row
  row_so = so same things_alike (things_of π t d) (things_of ρ u e) rows h.are_rows

  quiet : (row : Row) → In row rows → IsQuiet row
  quiet (Both i j) inside = tt
  quiet (MovedAway i j) inside = tt
  quiet (Removed i) inside =
      let b = inside_row (Removed i) inside in
      let x = line_there π ρ t u d e i None (row_so (Removed i) inside) in
      some_line π t (codes "removed") (lines_of d) i x.0 x.1 (told_of (Removed i) b.0 b.1)
  quiet (Added j) inside =
      let b = inside_row (Added j) inside in
      let x = line_there ρ π u t e d j None (row_so (Added j) inside) in
      some_line ρ u (codes "added") (lines_of e) j x.0 x.1 (told_of (Added j) b.0 b.1)
  quiet (MovedHere i j) inside =
      let b = inside_row (MovedHere i j) inside in
      let x = line_there ρ π u t e d j (Some i) (row_so (MovedHere i j) inside) in
      some_line ρ u (codes "moved") (lines_of e) j x.0 x.1
      (none_before (side_lines ρ u (codes "moved") (slice_get (lines_of e) j)) _ (told_of (MovedHere i j) b.0 b.1)).0

  -- the two lines of a row
  lines_at : (i j : ℕ) → In (Both i j) rows
      → (l : ℕ × Data) × (r : ℕ × Data) × (slice_get (lines_of d) i ≡ Some l) × (slice_get (lines_of e) j ≡ Some r) × AreOneLine π t ρ u l r
  lines_at i j inside =
      let b = inside_row (Both i j) inside in
      let there = row_so (Both i j) inside in
      let l = line_there π ρ t u d e i (Some j) there in
      let r = line_there ρ π u t e d j (Some i) (each_other same things_alike (things_of π t d) (things_of ρ u e) i j there) in
      let told : pair_lines π t ρ u (Some l.0) (Some r.0) b.0 ≡ [] =
      sym (ap₂ (λ x y. pair_lines π t ρ u x y b.0) l.1 r.1) ∙ told_of (Both i j) b.0 b.1 in
      let none = headed (is_same_line π t ρ u l.0 r.0) _ (nested_lines b.0) told in
      let things = one_thing same things_alike (things_of π t d) (things_of ρ u e) i j there in
      let mine : Some things.0 ≡ Some (thing_at π t l.0.1) = sym things.2 ∙ thing_there π t d i l.0 l.1 in
      let its : Some things.1 ≡ Some (thing_at ρ u r.0.1) = sym things.3 ∙ thing_there ρ u e j r.0 r.1 in
      let one : things.1 ≡ things.0 = things_exact things.1 things.0 things.4 in
      let thing : thing_at π t l.0.1 ≡ thing_at ρ u r.0.1 = cc in
      let given : AreSelections π t l.0.1 ρ u r.0.1 b.0 =
      In-all (IsInside (AreSelectionsAt π t (lines_of d) ρ u (lines_of e))) (Both i j, b.0) h.rows h.inside b.1 l.0 r.0 l.1 r.1 in
      (l.0, r.0, l.1, r.1, one_line π t ρ u l.0 r.0 b.0 given none.0 none.1 thing)

  -- what is the same on the lines of each row is the same in all
  all_same : {A : Type 0} (f g : ℕ × Data → A) → ((l r : ℕ × Data) → AreOneLine π t ρ u l r → f l ≡ g r) → map f (lines_of d) ≡ map g (lines_of e)
  all_same f g each =
      equal_lists _ _ rows (map f (lines_of d)) (map g (lines_of e)) (count π ρ t u d e f) (count ρ π u t e d g) h.are_rows
      (none_told same things_alike (things_of π t d) (things_of ρ u e) rows h.are_rows quiet (map f (lines_of d)) (map g (lines_of e)) equal)
    where
      equal : (i j : ℕ) → In (Both i j) rows → slice_get (map f (lines_of d)) i ≡ slice_get (map g (lines_of e)) j
      equal i j inside =
          let x = lines_at i j inside in
          slice_get-map f (lines_of d) i ∙ ap (option_map f) x.2 ∙ ap Some (each x.0 x.1 x.4)
          ∙ sym (slice_get-map g (lines_of e) j ∙ ap (option_map g) x.3)

  no_voters : (line_unless (has_same_voters π t ρ u family.Party (codes "PartyIds") d e) (codes "  changed parties") ≡ [])
      × (line_unless (has_same_voters π t ρ u family.Unit (codes "GpUnitIds") d e) (codes "  changed units") ≡ [])
  no_voters = none_before (line_unless (has_same_voters π t ρ u family.Party (codes "PartyIds") d e) (codes "  changed parties"))
      (line_unless (has_same_voters π t ρ u family.Unit (codes "GpUnitIds") d e) (codes "  changed units")) nothing.0

  parties : has_same_voters π t ρ u family.Party (codes "PartyIds") d e ≡ true
  parties = unless_so _ _ no_voters.0

  units : has_same_voters π t ρ u family.Unit (codes "GpUnitIds") d e ≡ true
  units = unless_so _ _ no_voters.1

  lines : lines_data π t d ≡ lines_data ρ u e
  lines = ap array_of (all_same (line_data π t) (line_data ρ u) (λ l r one. one.0))

  words : compact_text (printed_selections π t d) ≡ compact_text (printed_selections ρ u e)
  words = ap (λ ts. 91 ∷ ts) (texts_alike false
      (map (λ (l : ℕ × Data). selection_words π t l.1) (lines_of d)) (map (λ (l : ℕ × Data). selection_words ρ u l.1) (lines_of e))
      (map_twice compact_text (λ (l : ℕ × Data). selection_words π t l.1) (lines_of d)
      ∙ all_same (λ (l : ℕ × Data). compact_text (selection_words π t l.1)) (λ (l : ℕ × Data). compact_text (selection_words ρ u l.1)) (λ l r one. one.1)
      ∙ sym (map_twice compact_text (λ (l : ℕ × Data). selection_words ρ u l.1) (lines_of e))))

  not_reworded : list_any (λ (l : ℕ × Data). is_line_reworded π t ρ u l.1) (lines_of d) ≡ false
  not_reworded = none_so (λ (l : ℕ × Data). is_line_reworded π t ρ u l.1) (lines_of d) (lines_of e)
      (all_same (λ (l : ℕ × Data). is_line_reworded π t ρ u l.1) (λ l. false) (λ l r one. one.2))

  one_ballot : IsOneBallot π t d ρ u e
  one_ballot =
      let mine = voters π t ρ u family.Party (codes "PartyIds") d e parties in
      let its = voters π t ρ u family.Unit (codes "GpUnitIds") d e units in (
        λ i. object (member (codes "key") (shown_key_or_null (key i)) (member (codes "lines") (lines i)
            (member (codes "parties") (mine.0 i) (member (codes "units") (its.0 i) no_members)))),
        words,
        ap₂ (λ a b. a || b) not_reworded (ap₂ (λ a b. a || b) mine.1 its.1),
      )

pub lines_told : LinesTell
lines_told π ρ t u d e key h = one_ballot π ρ t u d e key h
