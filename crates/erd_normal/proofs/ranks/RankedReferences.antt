-- Parts that are filled in turn, and what a reference becomes by the rank of what it names.
use Rattle.erd_normal.proofs.Common.{◌≡◌, ℕ, zero, suc, ◌+◌, ◌<◌, ◌≤◌, true, false, cond, List, [], ◌∷◌, ◌++◌, map, length, get_or, get_or as slice_index_or}
use Rattle.erd_normal.proofs.Common.{take, ◌==◌, slice_get, slice_set, Some, None, filter, Option, option_map, unwrap_or, sym, refl, ap, ◌∙◌, subst, true≢false}
use Rattle.erd_normal.proofs.Common.{append-nil, arith, Decides-eqb, take_more, filter-append, slice_get-map, slice_get_past, option_map_or, Global, Vec}
use Rattle.erd_normal.proofs.Common.{is_none, if◌then◌else◌, option_and_then, is_lt, is_gt, options_total, option_cmp, Data, family_number, Family, family}
use Rattle.erd_normal.proofs.Common.{IsAccepted, has_keys, key_cmp, Preference, key_of, key_in, rank_of, id_in, FindsId, Placed, objects, id_of, owner}
use Rattle.erd_normal.proofs.Common.{key_named, key_cmp_total, text_of, owner_is, owned_by, in_at, with_part, position_of, Key, id_of_rank, normal_id}
use Rattle.erd_normal.proofs.Common.{reference_cmp, rank_named, codes, find, ap₂, string, entries_at, selection_in, NameParts, contests, selections_of_contest}
use Rattle.erd_normal.proofs.Common.{numbered_selections, has_id, name_of, find-Some, option_map-Some, stands, one_object, has_id-Some, canonical_selection_id}
use Rattle.erd_normal.proofs.Common.{rank_of_name, id_of_selection, contest_with, selection_with, normal_selection_reference, AreSelectionRanks, In}
use Rattle.erd_normal.proofs.Common.{In-flat_map}
use Rattle.std.proofs.lemmas.Option.{slice_get-get_or}
use Rattle.erd_meaning.proofs.identity.ObjectFamilies.{family_exact, itself}
use Rattle.erd_meaning.proofs.finding.OneObject.{ObjectIn}
use Rattle.erd_normal.proofs.lists.Lists.{ranks_climb}
use Rattle.erd_meaning.proofs.selections.NamesTold.{Numbered, OfContest, of_its_contest, placed_of_contests}
use Rattle.erd_normal.proofs.canonical.ContestSelections.{one_contest}
use Rattle.erd_normal.proofs.lists.Matched.{FoundSelection, owner_found}
use Rattle.erd_normal.proofs.meaning.MatchedMeanings.{has_name}

-- ---- lists that are filled one entry after another: each has those entries that are put into it, in their order

-- the entries of a list, or none if the list is not there
abbrev pub in_list : {T A : Type 0} → (T → List A) → List T → ℕ → List A
in_list items lists i = option_map_or items (slice_get lists i) []

pub list_set : {T A : Type 0} (items : T → List A) (lists : List T) (i : ℕ) (new : T) → i < length lists → in_list items (slice_set lists i new) i ≡ items new
list_set items [] i new low = absurd (omega arith)
list_set items (p ∷ lists) zero new low = refl
list_set items (p ∷ lists) (suc i) new low = list_set items lists i new (omega arith)

pub list_kept : {T A : Type 0} (items : T → List A) (lists : List T) (i j : ℕ) (new : T) → (j ≡ i → ⊥) → in_list items (slice_set lists i new) j
    ≡ in_list items lists j
list_kept items [] zero j new other = refl
list_kept items [] (suc i) j new other = refl
list_kept items (p ∷ lists) zero zero new other = absurd (other refl)
list_kept items (p ∷ lists) zero (suc j) new other = refl
list_kept items (p ∷ lists) (suc i) zero new other = refl
list_kept items (p ∷ lists) (suc i) (suc j) new other = list_kept items lists i j new (λ e. other (ap suc e))

-- a list that is there
pub list_is : {T A : Type 0} (items : T → List A) (lists : List T) (i : ℕ) (d : T) → i < length lists → items (slice_index_or lists i d) ≡ in_list items lists i
list_is items lists i d low = ap (λ x. option_map_or items x []) (sym (slice_get-get_or lists i d low))

-- a list that is not there
pub list_missing : {T A : Type 0} (items : T → List A) (lists : List T) (i : ℕ) → length lists ≤ i → in_list items lists i ≡ []
list_missing items lists i high = ap (λ x. option_map_or items x []) (slice_get_past lists i high)

or_none : {A B : Type 0} (f : A → List B) (x : Option A) → option_map_or f x [] ≡ unwrap_or (option_map f x) []
or_none f None = refl
or_none f (Some x) = refl

-- the lists that a list gives
pub lists_given : {A B : Type 0} (lists : List (Vec B Global)) (f : A → List B) (xs : List A) (i : ℕ) → map (λ list. list.items) lists ≡ map f xs
    → in_list (λ list. list.items) lists i ≡ option_map_or f (slice_get xs i) []
lists_given {A} {B} lists f xs i e =
    let items : (Vec B Global → List B) = λ list. list.items in
    or_none items (slice_get lists i) ∙ (ap (λ x. unwrap_or x []) (sym (slice_get-map items lists i) ∙ (ap (λ ys. slice_get ys i) e ∙ slice_get-map f xs i))
    ∙ sym (or_none f (slice_get xs i)))

-- ---- entries that are put into lists one after another

module _ {A : Type 0} (list_of : A → ℕ) (rising : List A) (count : ℕ) where
  -- what stands in a list after k entries
  abbrev pub put_in : ℕ → ℕ → List A
  put_in k i = filter (λ x. list_of x == i) (take k rising)

  module _ (k : ℕ) (e : A) (low : k < length rising) (is : e ≡ get_or rising k e) (i : ℕ) where
    next_kept : put_in (k + 1) i ≡ put_in k i ++ cond (list_of e == i) (e ∷ []) []
    next_kept =
        ap (filter (λ x. list_of x == i)) (take_more rising k e low ∙ ap (λ x. take k rising ++ x ∷ []) (sym is))
        ∙ filter-append (λ x. list_of x == i) (take k rising) (e ∷ [])

    pub one_put : (old new : ℕ → List A) → (i < count → old i ≡ put_in k i) → (list_of e < count → new (list_of e) ≡ old (list_of e) ++ e ∷ [])
        → ((j : ℕ) → (j ≡ list_of e → ⊥) → new j ≡ old j) → i < count → new i ≡ put_in (k + 1) i
    one_put old new before here elsewhere inside =
        (elim (list_of e == i) as (λ b. (list_of e == i) ≡ b → new i ≡ put_in k i ++ cond b (e ∷ []) []) [
          | true ↦ λ same. subst (λ j. j < count → new j ≡ old j ++ e ∷ []) ((Decides-eqb (list_of e) i).0 same) here inside
              ∙ ap (λ xs. xs ++ e ∷ []) (before inside)
          | false ↦ λ other. elsewhere i (λ same. true≢false (sym ((Decides-eqb (list_of e) i).1 (sym same)) ∙ other))
              ∙ (before inside ∙ sym (append-nil (put_in k i)))
        ]) refl ∙ sym next_kept

-- ---- the rank of the object that a reference names

-- no key is below none
none_lesser : (π : Preference) (os : List Placed) → length (filter (λ o. is_lt (option_cmp key_cmp (key_of π o.value) None)) os) ≡ 0
none_lesser π [] = refl
none_lesser π (o ∷ os) =
    let rest : List Placed = filter (λ o. is_lt (option_cmp key_cmp (key_of π o.value) None)) os in
    elim (key_of π o.value) as (λ k. length (cond (is_lt (option_cmp key_cmp k None)) (o ∷ rest) rest) ≡ 0)
    [ None ↦ none_lesser π os | Some k ↦ none_lesser π os ]

-- ---- the object at a position

module _ (π : Preference) (t : Data) (f : Family) where
  -- the rank that a report lends for a key
  abbrev lent_rank : Option Key → Option ℕ
  lent_rank k = option_map (λ k. rank_of π t f (Some k)) k

  pub none_lent : (k : Option Key) → lent_rank k ≡ None → 0 ≡ rank_of π t f k
  none_lent None e = sym (none_lesser π (objects f t))
  none_lent (Some k) e = cc

-- ---- the object that has an `@id`

-- an object of another family is found
pub elsewhere : (t : Data) (f : Family) (id : List ℕ) (g : Family) (i : ℕ) → FindsId t id (Some (g, i)) → (family_number g == family_number f) ≡ false → (j : ℕ)
    → id_in f t j ≡ Some id → ⊥
elsewhere t f id g i finds other j e =
    let same : Some (g, i) ≡ Some (f, j) = (finds f j).1 e in
    let one : g ≡ f = ap (λ o. option_map_or (λ (x : Family × ℕ). x.0) o g) same in
    true≢false (sym (subst (λ h. (family_number g == family_number h) ≡ true) one (itself (family_number g))) ∙ other)

-- no object is found
pub nowhere : (t : Data) (f : Family) (id : List ℕ) → FindsId t id None → (j : ℕ) → id_in f t j ≡ Some id → ⊥
nowhere t f id finds j e = true≢false (ap is_none ((finds f j).1 e))

-- the `@id` text of the rank that is named
pub text_named : (π : Preference) (t : Data) (f : Family) (id : List ℕ) → id_of_rank f (rank_named π t f id) ≡ normal_id π t f id
text_named π t family.Selection id = refl
text_named π t f id = refl

-- ranks never fall along the order of keys
pub ranks_rise : (π : Preference) (t : Data) (f : Family) (a b : Data) → is_gt (reference_cmp π t f a b) ≡ false
    → rank_named π t f (text_of a) ≤ rank_named π t f (text_of b)
ranks_rise π t f a b low =
    elim (has_keys f) as (λ k. (if k then rank_of π t f (key_named π t f (text_of a)) else 0)
    ≤ (if k then rank_of π t f (key_named π t f (text_of b)) else 0)) [
      | true ↦ ranks_climb (options_total key_cmp_total) (λ (o : Placed). key_of π o.value) (key_named π t f (text_of a))
          (key_named π t f (text_of b)) (objects f t) low
      | false ↦ omega arith
    ]

module _ (π : Preference) (t : Data) (f : Family) (id : List ℕ) where
  -- an object of the family has it
  found_in : IsAccepted π t → has_keys f ≡ true → (i : ℕ) → id_in f t i ≡ Some id → rank_of π t f (key_in π f t i) ≡ rank_named π t f id
  found_in accepted keyed i here =
      let hit = with_part (λ o. id_of o.value) f t i id here in
      let o : ObjectIn f t i = hit.0 in
      let is : id_of o.one.value ≡ Some id = hit.1 in
      let key : key_named π t f id ≡ key_of π o.one.value =
      ap (option_and_then (key_of π)) (owner_is π t accepted f o.one id (in_at (objects f t) i o.one o.at) is) in
      ap (λ x. rank_of π t f (option_and_then (λ (o : Placed). if has_keys f then key_of π o.value else None) x)) o.at
      ∙ (ap (λ b. rank_of π t f (if b then key_of π o.one.value else None)) keyed
      ∙ (ap (rank_of π t f) (sym key) ∙ sym (ap (λ b. if b then rank_of π t f (key_named π t f id) else 0) keyed)))

  -- no object of the family has it
  unowned : ((i : ℕ) → id_in f t i ≡ Some id → ⊥) → owner t f id ≡ None
  unowned none =
      (elim (owner t f id) as (λ o. owner t f id ≡ o → o ≡ None) [
        | None ↦ λ e. refl
        | Some d ↦ λ e.
            let x = owned_by t f id d e in
            let place = position_of (objects f t) x.0 x.1 in
            absurd (none place.0 (ap (option_and_then (λ (o : Placed). id_of o.value)) place.1 ∙ (ap id_of x.2 ∙ x.3)))
      ]) refl

  pub unnamed : ((i : ℕ) → id_in f t i ≡ Some id → ⊥) → 0 ≡ rank_named π t f id
  unnamed none =
      elim (has_keys f) as (λ b. 0 ≡ (if b then rank_of π t f (key_named π t f id) else 0)) [
        | true ↦ sym (ap (rank_of π t f) (ap (option_and_then (key_of π)) (unowned none)) ∙ none_lesser π (objects f t))
        | false ↦ refl
      ]

  -- the family's object is found
  pub named_here : IsAccepted π t → has_keys f ≡ true → (g : Family) (i : ℕ) → FindsId t id (Some (g, i)) → (family_number g == family_number f) ≡ true
      → rank_of π t f (key_in π f t i) ≡ rank_named π t f id
  named_here accepted keyed g i finds same =
      let one : g ≡ f = family_exact g f same in
      found_in accepted keyed i ((finds f i).0 (ap (λ h. Some (h, i)) one))

-- ---- the selections of a report, without the numbers of their contests

-- the selection at a position, with the number of its contest
pub numbered_at : (t : Data) (i : ℕ) (o : Placed) → slice_get (objects family.Selection t) i ≡ Some o → (c : ℕ)
    × (slice_get (numbered_selections t) i ≡ Some (c, o))
numbered_at t i o at =
    let s = option_map-Some {A = Numbered} (λ s. s.1) (slice_get (numbered_selections t) i) o
    (sym (slice_get-map {A = Numbered} (λ s. s.1) (numbered_selections t) i) ∙ ap (λ xs. slice_get xs i) (placed_of_contests 0 (contests t)) ∙ at) in
    (s.0.0, s.1 ∙ ap (λ x. Some (s.0.0, x)) s.2)

-- ---- the selection that has the `@id`

-- the selection at a position with its contest
pub record SelectionAt (π : Preference) (t : Data) (id : List ℕ) (i : ℕ) : Type 0 where
  pub number : ℕ
  pub contest : Placed
  pub selection : Placed
  pub name : NameParts
  pub at : slice_get (numbered_selections t) i ≡ Some (number, selection)
  pub contest_at : slice_get (contests t) number ≡ Some contest
  pub named : name_of π t selection.value ≡ Some name
  pub text : normal_selection_reference π t (string id) ≡ string (id_of_selection π t contest.value selection.value)

module _ (π : Preference) (t : Data) (id : List ℕ) where
  pub selection_at : (i : ℕ) → IsAccepted π t → id_in family.Selection t i ≡ Some id → SelectionAt π t id i
  selection_at i accepted here =
      let hit = with_part (λ o. id_of o.value) family.Selection t i id here in
      let o : Placed = hit.0.one in
      let o_at : slice_get (objects family.Selection t) i ≡ Some o = hit.0.at in
      let is : id_of o.value ≡ Some id = hit.1 in
      let of_report : In o (objects family.Selection t) = (in_at (objects family.Selection t) i o o_at) in
      let s = numbered_at t i o o_at in
      let c : OfContest t (s.0, o) = of_its_contest t (s.0, o) (in_at {A = Numbered} (numbered_selections t) i (s.0, o) s.1) in
      let n = has_name π t accepted o.value (record { place = o.place; is = stands π t accepted family.Selection o of_report }) in
      let f : FoundSelection t id o.value = owner_found t id o.value (owner_is π t accepted family.Selection o id of_report is) in
      let one : f.selection ≡ o =
      one_object π t accepted family.Selection family.Selection f.selection o id
      (In-flat_map selections_of_contest f.selection f.contest (contests t) f.of_report f.of_contest) of_report
      (ap id_of f.value ∙ is) is in
      let whole : f.contest ≡ c.contest =
      one_contest π t accepted f.contest c.contest o f.of_report (c.there) (subst (λ z. In z (selections_of_contest f.contest)) one f.of_contest)
      (c.inside) in
      record {
        number = s.0;
        contest = c.contest;
        selection = o;
        name = n.0;
        at = s.1;
        contest_at = c.at;
        named = n.1;
        text = ap
            (λ x. string (option_map_or (λ (c : Placed). option_map_or (λ (o : Placed). id_of_selection π t c.value o.value) (selection_with id c) []) x []))
            f.contest_is
            ∙ ap (λ x. string (option_map_or (λ (o : Placed). id_of_selection π t f.contest.value o.value) x [])) f.selection_is
            ∙ ap₂ (λ (c o : Placed). string (id_of_selection π t c.value o.value)) whole one;
      }

  -- no selection has it
  pub unselected : ((i : ℕ) → id_in family.Selection t i ≡ Some id → ⊥) → string [] ≡ normal_selection_reference π t (string id)
  unselected none =
      (elim (contest_with t id) as (λ c. contest_with t id ≡ c → string []
      ≡ string (option_map_or (λ (c : Placed). option_map_or (λ (o : Placed). id_of_selection π t c.value o.value) (selection_with id c) []) c [])) [
        | None ↦ λ is. refl
        | Some c ↦ λ is.
            let found = find-Some (λ (c : Placed). option_map_or (λ (o : Placed). true) (find (λ o. has_id id o.value) (selections_of_contest c)) false)
            (contests t) c is in
            absurd (inside c found.0 (find (λ o. has_id id o.value) (selections_of_contest c)) refl found.1)
      ]) refl
    where
      inside : (c : Placed) → In c (contests t) → (o : Option Placed) → find (λ o. has_id id o.value) (selections_of_contest c) ≡ o
          → option_map_or (λ o. true) o false ≡ true → ⊥
      inside c of_report None is h = cc
      inside c of_report (Some o) is h =
          let found = find-Some (λ (o : Placed). has_id id o.value) (selections_of_contest c) o is in
          let place = position_of (objects family.Selection t) o (In-flat_map selections_of_contest o c (contests t) of_report found.0) in
          none place.0 (ap (option_and_then (λ (o : Placed). id_of o.value)) place.1 ∙ has_id-Some id o.value found.1)

-- what is looked up where a selection is found
module _ (π : Preference) (t : Data) (id : List ℕ) (i : ℕ) (s : SelectionAt π t id i) where
  pub selection_there : selection_in π t i ≡ Some (s.number, s.name)
  selection_there = ap (option_and_then {T = Numbered} (λ x. option_map (λ n. (x.0, n)) (name_of π t x.1.value))) s.at
      ∙ ap (option_map (λ n. (s.number, n))) s.named

  pub rank_there : (ranks : List ℕ) → AreSelectionRanks π t ranks → slice_get ranks i
      ≡ Some (rank_of_name π t (entries_at (codes "ContestSelection") s.contest.value) (name_of π t s.selection.value))
  rank_there ranks are = are i s.number s.contest s.selection s.at s.contest_at

  pub reference_there : string (canonical_selection_id (rank_of π t family.Contest (key_in π family.Contest t s.number))
      (rank_of_name π t (entries_at (codes "ContestSelection") s.contest.value) (name_of π t s.selection.value))) ≡ normal_selection_reference π t (string id)
  reference_there =
      ap (λ x. string (canonical_selection_id (rank_of π t family.Contest (option_and_then (λ (o : Placed). key_of π o.value) x))
      (rank_of_name π t (entries_at (codes "ContestSelection") s.contest.value) (name_of π t s.selection.value)))) s.contest_at ∙ sym s.text

-- the selection that is found has the `@id`
pub selection_found : (t : Data) (id : List ℕ) (g : Family) (i : ℕ) → FindsId t id (Some (g, i)) → (family_number g == family_number family.Selection) ≡ true
    → id_in family.Selection t i ≡ Some id
selection_found t id g i finds same =
    let one : g ≡ family.Selection = family_exact g family.Selection same in
    (finds family.Selection i).0 (ap (λ h. Some (h, i)) one)
