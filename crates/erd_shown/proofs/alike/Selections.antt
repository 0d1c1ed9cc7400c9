-- Contests that mean the same have the same selections: their names, and what is printed of them.
use Rattle.erd_shown.proofs.Common.{◌≡◌, List, [], ◌∷◌, map, Some, None, Option, codes, option_and_then, option_map_or, find}
use Rattle.erd_shown.proofs.Common.{sym, refl, ap, ap₂, ◌∙◌, fun_ext, In, In-all, AllByRecursion, filter_map, rising_list, rising_list_map}
use Rattle.erd_shown.proofs.Common.{all_rising, contains_from_In, Data, null, array, no_items, item, get_member, entries_of, entries_at}
use Rattle.erd_shown.proofs.Common.{kind_of_member, family, role, MemberKind, kind, Preference, Key, NameParts, name_of, Placed, objects}
use Rattle.erd_shown.proofs.Common.{placed_with_key, placed_record, member_value, selection_map}
use Rattle.erd_shown.proofs.Common.{selection_record, unless_empty, MemberValue, a_plain, a_selection_map, SelectionRecord}
use Rattle.erd_shown.proofs.Common.{contest_selections, PlainValue}
use Rattle.erd_shown.specs.BallotWords.{in_name_order, words_data}
use Rattle.erd_shown.specs.ListedNames.{sorted_names}
use Rattle.erd_shown.specs.Shown.{selection_record_data}
use Rattle.erd_shown.specs.code.Fitting.{AreSelections, IsSelection}
use Rattle.erd_shown.proofs.fit.FitMembers.{selections_fit}
use Rattle.erd_shown.proofs.told.Laws.{Taken, taken}
use Rattle.erd_shown.proofs.told.Selections.{by_name, find_In, has_name, has_record, name_told, names_cmp, names_from, one_record, records_from}
use Rattle.erd_shown.proofs.told.Selections.{selections_tell}
use Rattle.erd_shown.proofs.told.Sets.{array_exact, map_exact}
use Rattle.erd_shown.proofs.alike.Objects.{AreAlike, found_has, member_in, member_meant, turned, twin}
use Rattle.erd_shown.proofs.alike.Words.{words_of_records}

-- ---- two lists of selections with one meaning

named_all : (f : Data → Option NameParts) (ds : List Data) → AllByRecursion (λ d. (n : NameParts) × (f d ≡ Some n)) ds → map Some (filter_map f ds) ≡ map f ds
named_all f [] h = refl
named_all f (d ∷ ds) h = at h.0.0 h.0.1 (named_all f ds h.1)
  where
    at : (n : NameParts) → f d ≡ Some n → map Some (filter_map f ds) ≡ map f ds → map Some (filter_map f (d ∷ ds)) ≡ f d ∷ map f ds
    at n e rest = rw e (ap (λ xs. Some n ∷ xs) rest)

module _ (π : Preference) (t : Data) where
  names_of : (ds : List Data) → AllByRecursion (IsSelection π t) ds → AllByRecursion (λ d. (n : NameParts) × (name_of π t d ≡ Some n)) ds
  names_of [] h = tt
  names_of (d ∷ ds) h = ((h.0.name, h.0.named), names_of ds h.1)

  sorted : (ds : List Data) → AllByRecursion (IsSelection π t) ds → map Some (sorted_names π t ds) ≡ map (name_of π t) (rising_list (by_name π t) ds)
  sorted ds h =
      rising_list_map Some names_cmp (filter_map (name_of π t) ds)
      ∙ ap (rising_list names_cmp) (named_all (name_of π t) ds (names_of ds h))
      ∙ sym (rising_list_map (name_of π t) names_cmp ds)

module _ (π ρ : Preference) (t u : Data) where
  each_word : (xs ys : List Data) → map (selection_record_data π t) xs ≡ map (selection_record_data ρ u) ys → map (words_data π t family.Selection) xs
      ≡ map (words_data ρ u family.Selection) ys
  each_word [] [] e = refl
  each_word [] (y ∷ ys) e = cc
  each_word (x ∷ xs) [] e = cc
  each_word (x ∷ xs) (y ∷ ys) e =
      let first : selection_record_data π t x ≡ selection_record_data ρ u y = cc in
      let rest : map (selection_record_data π t) xs ≡ map (selection_record_data ρ u) ys = cc in
      ap₂ ◌∷◌ (words_of_records π ρ t u x y (records_from π ρ t u x y first)) (each_word xs ys rest)

  each_name : (xs ys : List Data) → AllByRecursion (IsSelection π t) xs → AllByRecursion (IsSelection ρ u) ys
      → map (selection_record_data π t) xs ≡ map (selection_record_data ρ u) ys → map (name_of π t) xs ≡ map (name_of ρ u) ys
  each_name [] [] g h e = refl
  each_name [] (y ∷ ys) g h e = cc
  each_name (x ∷ xs) [] g h e = cc
  each_name (x ∷ xs) (y ∷ ys) g h e =
      let first : selection_record_data π t x ≡ selection_record_data ρ u y = cc in
      let rest : map (selection_record_data π t) xs ≡ map (selection_record_data ρ u) ys = cc in
      ap₂ ◌∷◌ (names_from π ρ t u x y g.0 h.0 first) (each_name xs ys g.1 h.1 rest)

  module _ (ds es : List Data) (left : AreSelections π t ds) (right : AreSelections ρ u es) (same : selection_map π t ds ≡ selection_map ρ u es) where
    abbrev xs : List Data
    xs = rising_list (by_name π t) ds

    abbrev ys : List Data
    ys = rising_list (by_name ρ u) es

    told : map (selection_record_data π t) xs ≡ map (selection_record_data ρ u) ys
    told = array_exact _ _ ((selections_tell π ρ t u ds es left right).1 same)

    pub words_alike : map (words_data π t family.Selection) (in_name_order π t ds) ≡ map (words_data ρ u family.Selection) (in_name_order ρ u es)
    words_alike = each_word xs ys told

    pub names_alike : sorted_names π t ds ≡ sorted_names ρ u es
    names_alike =
        map_exact Some (λ m n e. let h : m ≡ n = cc in h) _ _
        (sorted π t ds left.0
        ∙ each_name xs ys (all_rising (IsSelection π t) (by_name π t) ds left.0) (all_rising (IsSelection ρ u) (by_name ρ u) es right.0) told
        ∙ sym (sorted ρ u es right.0))

    -- the selection with a name
    abbrev words_named : Preference → Data → Option Data → Data
    words_named σ v o = option_map_or (words_data σ v family.Selection) o null

    pub word_alike : (n : NameParts) → words_named π t (find (has_name π t n) ds) ≡ words_named ρ u (find (has_name ρ u n) es)
    word_alike n = at (find (has_name π t n) ds) refl (find (has_name ρ u n) es) refl (ap (λ (f : NameParts → Option SelectionRecord). f n) same)
      where
        at : (o : Option Data) → find (has_name π t n) ds ≡ o → (p : Option Data) → find (has_name ρ u n) es ≡ p
            → option_and_then (selection_record π t) (find (has_name π t n) ds) ≡ option_and_then (selection_record ρ u) (find (has_name ρ u n) es)
            → words_named π t o ≡ words_named ρ u p
        at None e None g h = refl
        at None e (Some y) g h =
            let found = find_In (has_name ρ u n) es y g in
            absurd (has_record ρ u y n (name_told ρ u n y found.1)
            (sym (ap (option_and_then (selection_record ρ u)) g) ∙ sym h ∙ ap (option_and_then (selection_record π t)) e))
        at (Some x) e None g h =
            let found = find_In (has_name π t n) ds x e in
            absurd (has_record π t x n (name_told π t n x found.1)
            (sym (ap (option_and_then (selection_record π t)) e) ∙ h ∙ ap (option_and_then (selection_record ρ u)) g))
        at (Some x) e (Some y) g h =
            let one = find_In (has_name π t n) ds x e in
            let other = find_In (has_name ρ u n) es y g in
            let records : selection_record π t x ≡ selection_record ρ u y =
            sym (ap (option_and_then (selection_record π t)) e) ∙ h ∙ ap (option_and_then (selection_record ρ u)) g in
            words_of_records π ρ t u x y
            ((one_record π ρ t u x y (In-all (IsSelection π t) x ds left.0 one.0) (In-all (IsSelection ρ u) y es right.0 other.0)).1 records)

-- ---- two contests with one meaning

abbrev map_at : Option MemberValue → NameParts → Option SelectionRecord
map_at (Some (a_selection_map m)) = m
map_at (Some (a_plain v)) = λ n. None
map_at None = λ n. None

abbrev pub selections_in : Placed → List Data
selections_in o = entries_at (codes "ContestSelection") o.value

module _ (π : Preference) (t : Data) where
  held_map : (o : Option Data) → map_at (option_and_then (λ v. unless_empty (a_selection_map (selection_map π t (entries_of v))) v) o)
      ≡ selection_map π t (option_map_or entries_of o [])
  held_map None = refl
  held_map (Some (array no_items)) = refl
  held_map (Some (array (item d ds))) = refl
  held_map (Some d) = refl

  kind_map : (k : MemberKind) (o : Option Data) (p : Option PlainValue) → k ≡ kind.Keyed family.Selection → map_at (member_value π t k o p)
      ≡ selection_map π t (option_map_or entries_of o [])
  kind_map k o p e = ap (λ x. map_at (member_value π t x o p)) e ∙ held_map o

  meant_map : (o : Placed) → Taken π t (role.OfFamily family.Contest) o → map_at (member_in (codes "ContestSelection") (placed_record π t family.Contest o))
      ≡ selection_map π t (selections_in o)
  meant_map o a =
      let c = a.object_there.class in
      let ms = a.object_there.ms in
      ap map_at (member_meant π t family.Contest o a (codes "ContestSelection") refl refl)
      ∙ kind_map (kind_of_member c (codes "ContestSelection")) (get_member (codes "ContestSelection") ms) _ (contest_selections c a.object_there.role)
      ∙ ap (λ x. selection_map π t (entries_at (codes "ContestSelection") x)) (sym a.object_there.is_object)

-- what ballots say of the selections of a contest: their names, the words of all, and the words of the one with a name
abbrev pub Chosen : Type 0
Chosen = List NameParts × List Data × (NameParts → Data)

abbrev pub chosen_of : Preference → Data → Option Placed → Chosen
chosen_of π t None = ([], [], λ n. null)
chosen_of π t (Some o) = (
  sorted_names π t (selections_in o),
  map (words_data π t family.Selection) (in_name_order π t (selections_in o)),
  λ n. option_map_or (words_data π t family.Selection) (find (has_name π t n) (selections_in o)) null,
)

abbrev pub chosen_by : Preference → Data → Option Key → Chosen
chosen_by π t k = chosen_of π t (option_and_then (placed_with_key π t family.Contest) k)

module _ (π ρ : Preference) (t u : Data) (alike : AreAlike π ρ t u) where
  contests_alike : (o p : Placed) → In o (objects family.Contest t) → In p (objects family.Contest u) → placed_record π t family.Contest o
      ≡ placed_record ρ u family.Contest p
      → chosen_of π t (Some o) ≡ chosen_of ρ u (Some p)
  contests_alike o p i j e =
      let a = taken π t alike.left (role.OfFamily family.Contest) o (contains_from_In o (objects family.Contest t) i) in
      let b = taken ρ u alike.right (role.OfFamily family.Contest) p (contains_from_In p (objects family.Contest u) j) in
      let left = selections_fit π t alike.left.accepted alike.left.is_tree alike.left.fits o i in
      let right = selections_fit ρ u alike.right.accepted alike.right.is_tree alike.right.fits p j in
      let same : selection_map π t (selections_in o) ≡ selection_map ρ u (selections_in p) =
      sym (meant_map π t o a) ∙ ap (λ r. map_at (member_in (codes "ContestSelection") r)) e ∙ meant_map ρ u p b in
      let names = names_alike π ρ t u (selections_in o) (selections_in p) left right same in
      let words = words_alike π ρ t u (selections_in o) (selections_in p) left right same in
      let each = fun_ext (word_alike π ρ t u (selections_in o) (selections_in p) left right same) in
      λ i. (names i, words i, each i)

  pub chosen_alike : (k : Option Key) → chosen_by π t k ≡ chosen_by ρ u k
  chosen_alike None = refl
  chosen_alike (Some k) = at (placed_with_key π t family.Contest k) refl (placed_with_key ρ u family.Contest k) refl
    where
      at : (o : Option Placed) → placed_with_key π t family.Contest k ≡ o → (p : Option Placed) → placed_with_key ρ u family.Contest k ≡ p
          → chosen_of π t o ≡ chosen_of ρ u p
      at None e None g = refl
      at None e (Some q) g =
          let has = found_has ρ u family.Contest k q g in
          let other = twin ρ π u t (turned alike) family.Contest refl k q has.0 has.1 in
          let clash : None ≡ Some other.other = sym e ∙ other.found in
          cc
      at (Some o) e p g =
          let has = found_has π t family.Contest k o e in
          let other = twin π ρ t u alike family.Contest refl k o has.0 has.1 in
          contests_alike o other.other has.0 other.there other.records ∙ ap (chosen_of ρ u) (sym other.found ∙ g)
