-- The canonical `@id` of each object of a report. It tells objects apart, and two functions lead from the `@id` texts of the
-- report to the canonical ones and back.
use Rattle.erd_normal.proofs.Common.{◌≡◌, ℕ, ◌+◌, ◌^◌, ◌<◌, true, List, [], ◌∷◌, ◌++◌, map, length, is_some, Some, None, decimal, Option, option_map, find}
use Rattle.erd_normal.proofs.Common.{flat_map, bytes_eq, is_eq, Equal, unwrap_or, sym, refl, ap, ◌∙◌, subst, ⊎_elim, arith, tied_back, length-map, same_Some}
use Rattle.erd_normal.proofs.Common.{options_total, IsDistinct, option_map_or, eq_by_cmp, Data, Family, family, text_exact, text_itself, values_distinct}
use Rattle.erd_normal.proofs.Common.{no_identity_fault, find-any, one_object, has_id-Some, has_id-from, distinct_one, IsAccepted, has_keys, Preference, key_of}
use Rattle.erd_normal.proofs.Common.{rank_of, Placed, contests, selections_of_contest, objects, id_of, has_id, IsBounded, name_of, key_cmp_total}
use Rattle.erd_normal.proofs.Common.{name_cmp_total, id_prefix, canonical_id, id_of_key, rank_of_name, id_of_selection, by_key, by_name, Bool, false}
use Rattle.erd_normal.proofs.Common.{option_and_then, list_all, string, rows_of_class, kind_of_identity, Class, class, role, MemberKind, kind, Step, Within}
use Rattle.erd_normal.proofs.Common.{is_reference, IsTree, text_of, want_of_kind, entry_want, Asked, asked, asked_from, Want, Member, Object, Reference, owned}
use Rattle.erd_normal.proofs.Common.{unrepeated_reference, owned_by, owner, key_named, IsUnused, normal_id, normal_selection_reference, In, In-all, In-append}
use Rattle.erd_normal.proofs.Common.{In-append_left, In-append_right, In-flat_map, In-flat_map_from, In-map, In-map_from, any_at, inl, inr}
use Rattle.erd_normal.proofs.canonical.CanonicalIds.{canonical_id_exact, selection_id_apart, few_selections, canonical_selection_id_exact}
use Rattle.erd_normal.proofs.canonical.ContestSelections.{one_contest}
use Rattle.erd_normal.proofs.canonical.NormalKeys.{selection_values_distinct, by_key_total, by_name_total, listed, selection_values, text_built}
use Rattle.erd_normal.proofs.lists.Lists.{rank_exact, rank_low}
use Rattle.erd_normal.proofs.inside.Homes.{is_prefixed}
use Rattle.erd_normal.proofs.inside.Walks.{all_pass}
use Rattle.erd_normal.proofs.same.complete.Texts.{no_keys, one_family, some_again}
use Rattle.erd_normal.proofs.same.IdsOfObjects.{Refers}
use Rattle.erd_normal.proofs.lists.Matched.{FoundSelection, owner_found}

-- ---- the canonical `@id` of an object

-- the object of the family has this `@id` in the report that is built
pub data NewId (π : Preference) (t : Data) (f : Family) (o : Placed) (id : List ℕ) : Type 0 where
  of_family : has_keys f ≡ true → In o (objects f t) → id_of_key π t f (key_of π o.value) ≡ Some id → NewId π t f o id
  of_contest : (contest : Placed) → f ≡ family.Selection → In contest (objects family.Contest t) → In o (selections_of_contest contest)
      → id ≡ id_of_selection π t contest.value o.value → NewId π t f o id

module _ (π : Preference) (t : Data) (accepted : IsAccepted π t) where
  pub stands_new : (f : Family) (o : Placed) (id : List ℕ) → NewId π t f o id → In o (objects f t)
  stands_new f o id (of_family keyed h is) = h
  stands_new f o id (of_contest contest is h k its) = subst (λ g. In o (objects g t)) (sym is) (In-flat_map selections_of_contest o contest (contests t) h k)

  -- an object has one canonical `@id`
  pub new_once : (f g : Family) (o : Placed) (id id' : List ℕ) → NewId π t f o id → NewId π t g o id' → id ≡ id'
  new_once f g o id id' (of_family keyed h is) (of_family keyed' h' is') =
      same_Some id id' (sym is ∙ ap (λ x. id_of_key π t x (key_of π o.value)) (one_family π t accepted f g o h h') ∙ is')
  new_once f g o id id' (of_family keyed h is) (of_contest c sel in_c of_c its) =
      absurd (no_keys f keyed (one_family π t accepted f g o h (stands_new g o id' (of_contest c sel in_c of_c its)) ∙ sel))
  new_once f g o id id' (of_contest c sel in_c of_c its) (of_family keyed h is) =
      absurd (no_keys g keyed (one_family π t accepted g f o h (stands_new f o id (of_contest c sel in_c of_c its)) ∙ sel))
  new_once f g o id id' (of_contest c sel in_c of_c its) (of_contest d sel' in_d of_d its') =
      its ∙ ap (λ x. id_of_selection π t x.value o.value) (one_contest π t accepted c d o in_c in_d of_c of_d) ∙ sym its'

  -- ---- it tells objects apart

  one_ranked : (f : Family) → has_keys f ≡ true → (o p : Placed) → In o (objects f t) → In p (objects f t) → rank_of π t f (key_of π o.value)
      ≡ rank_of π t f (key_of π p.value) → o ≡ p
  one_ranked f keyed o p in_o in_p same =
      let tied : by_key π o.value p.value ≡ Equal = rank_exact (λ (x : Placed). key_of π x.value) (options_total key_cmp_total)
      (objects f t) o p in_o in_p same in
      distinct_one (λ (x : Placed). x.value) (eq_by_cmp (by_key π)) (objects f t) (values_distinct π t (no_identity_fault π t accepted) f keyed) o p
      in_o in_p (ap is_eq tied)
      (ap is_eq (tied_back (by_key_total π) o.value p.value tied))

  in_values : (c o : Placed) → In o (selections_of_contest c) → In o.value (selection_values c)
  in_values c o h = subst (λ xs. In o.value xs) (listed c) (In-map (λ (x : Placed). x.value) o (selections_of_contest c) h)

  one_named_rank : (c o p : Placed) → In c (objects family.Contest t) → In o (selections_of_contest c) → In p (selections_of_contest c)
      → rank_of_name π t (selection_values c) (name_of π t o.value) ≡ rank_of_name π t (selection_values c) (name_of π t p.value) → o ≡ p
  one_named_rank c o p in_c of_o of_p same =
      let tied : by_name π t o.value p.value ≡ Equal =
      rank_exact (name_of π t) (options_total name_cmp_total) (selection_values c) o.value p.value (in_values c o of_o) (in_values c p of_p) same in
      distinct_one (λ (x : Placed). x.value) (eq_by_cmp (by_name π t)) (selections_of_contest c)
      (subst (IsDistinct (eq_by_cmp (by_name π t))) (sym (listed c)) (selection_values_distinct π t accepted c in_c)) o p of_o of_p (ap is_eq tied)
      (ap is_eq (tied_back (by_name_total π t) o.value p.value tied))

  module _ (bounded : IsBounded t) where
    low_rank : (f : Family) (o : Placed) → In o (objects f t) → rank_of π t f (key_of π o.value) + 1 < 2 ^ 64
    low_rank f o h =
        let low : rank_of π t f (key_of π o.value) < length (objects f t) =
        rank_low (λ (x : Placed). key_of π x.value) (options_total key_cmp_total) (objects f t) o h in
        let few : length (objects f t) < 2 ^ 64 = bounded.few f in
        omega (arith, low, few)

    low_name : (c o : Placed) → In c (objects family.Contest t) → In o (selections_of_contest c) → rank_of_name π t (selection_values c)
        (name_of π t o.value) + 1 < 2 ^ 64
    low_name c o in_c of_c =
        let low : rank_of_name π t (selection_values c) (name_of π t o.value) < length (selection_values c) =
        rank_low (name_of π t) (options_total name_cmp_total) (selection_values c) o.value (in_values c o of_c) in
        let few : length (selections_of_contest c) < 2 ^ 64 = few_selections t bounded c in_c in
        let same : length (selections_of_contest c) ≡ length (selection_values c) = sym (length-map (selections_of_contest c) (λ o. o.value))
        ∙ ap length (listed c) in
        omega (arith, low, few, same)

    pub new_exact : (f g : Family) (o p : Placed) (id : List ℕ) → NewId π t f o id → NewId π t g p id → o ≡ p
    new_exact f g o p id (of_family keyed h is) (of_family keyed' k its) =
        let n = canonical_id_exact f g _ _ id (low_rank f o h) (low_rank g p k) is its in
        one_ranked f keyed o p h (subst (λ x. In p (objects x t)) (sym n.0) k) (n.1 ∙ ap (λ x. rank_of π t x (key_of π p.value)) (sym n.0))
    new_exact f g o p id (of_family keyed h is) (of_contest c sel in_c of_c its) = absurd (selection_id_apart f _ _ _ (is ∙ ap Some its))
    new_exact f g o p id (of_contest c sel in_c of_c its) (of_family keyed h is) = absurd (selection_id_apart g _ _ _ (is ∙ ap Some its))
    new_exact f g o p id (of_contest c sel in_c of_c its) (of_contest d sel' in_d of_d its') =
        let n = canonical_selection_id_exact _ _ _ _ (low_rank family.Contest c in_c) (low_name c o in_c of_c) (low_rank family.Contest d in_d)
        (low_name d p in_d of_d) (sym its ∙ its') in
        let one : c ≡ d = one_ranked family.Contest refl c d in_c in_d n.0 in
        one_named_rank c o p in_c of_c (subst (λ x. In p (selections_of_contest x)) (sym one) of_d)
        (n.1 ∙ ap (λ x. rank_of_name π t (selection_values x) (name_of π t p.value)) (sym one))

-- ---- the objects with their canonical `@id`s

-- a family whose objects have `@id` texts by their ranks has keys
pub prefixed_keys : (f : Family) → is_prefixed f ≡ true → has_keys f ≡ true
prefixed_keys family.Selection h = cc
prefixed_keys f h = refl

-- the families whose objects have `@id`s by their ranks alone
abbrev prefixed_families : List Family
prefixed_families = family.Unit ∷ family.Party ∷ family.Person ∷ family.Office ∷ family.Header ∷ family.Candidate ∷ family.Contest ∷ []

prefixed_listed : (f : Family) → is_prefixed f ≡ true → In f prefixed_families
prefixed_listed family.Unit h = inl refl
prefixed_listed family.Party h = inr (inl refl)
prefixed_listed family.Person h = inr (inr (inl refl))
prefixed_listed family.Office h = inr (inr (inr (inl refl)))
prefixed_listed family.Header h = inr (inr (inr (inr (inl refl))))
prefixed_listed family.Candidate h = inr (inr (inr (inr (inr (inl refl)))))
prefixed_listed family.Contest h = inr (inr (inr (inr (inr (inr (inl refl))))))
prefixed_listed f h = cc

abbrev family_objects : Preference → Data → Family → List (Placed × List ℕ)
family_objects π t f = map (λ o. (o, unwrap_or (id_of_key π t f (key_of π o.value)) [])) (objects f t)

abbrev contest_objects : Preference → Data → Placed → List (Placed × List ℕ)
contest_objects π t c = map (λ o. (o, id_of_selection π t c.value o.value)) (selections_of_contest c)

abbrev named_objects : Preference → Data → List (Placed × List ℕ)
named_objects π t = flat_map (family_objects π t) prefixed_families ++ flat_map (contest_objects π t) (contests t)

-- what the canonical report calls the object that has this `@id`, and what the report calls the one with this canonical `@id`
abbrev pub new_text : Preference → Data → List ℕ → List ℕ
new_text π t s = option_map_or (λ (x : Placed × List ℕ). x.1) (find (λ (x : Placed × List ℕ). has_id s x.0.value) (named_objects π t)) []

abbrev pub old_text : Preference → Data → List ℕ → List ℕ
old_text π t s = option_map_or (λ (x : Placed × List ℕ). unwrap_or (id_of x.0.value) []) (find (λ (x : Placed × List ℕ). bytes_eq x.1 s) (named_objects π t)) []

abbrev pub IsNewText : Preference → Data → List ℕ → List ℕ → Type 0
IsNewText π t s id = (id ≡ new_text π t s) × (s ≡ old_text π t id)

has_letters : (f : Family) (i : ℕ) (id : List ℕ) → canonical_id f i ≡ Some id → is_prefixed f ≡ true
has_letters f i id = at (id_prefix f)
  where
    at : (o : Option (List ℕ)) → option_map (λ letters. letters ++ decimal (i + 1)) o ≡ Some id → is_some o ≡ true
    at None e = cc
    at (Some letters) e = refl

pub has_canonical : (f : Family) (i : ℕ) → is_prefixed f ≡ true → is_some (canonical_id f i) ≡ true
has_canonical f i = at (id_prefix f)
  where
    at : (o : Option (List ℕ)) → is_some o ≡ true → is_some (option_map (λ letters. letters ++ decimal (i + 1)) o) ≡ true
    at None h = cc
    at (Some letters) h = refl

module _ (π : Preference) (t : Data) where
  in_list : (f : Family) (o : Placed) (id : List ℕ) → NewId π t f o id → In (o, id) (named_objects π t)
  in_list f o id (of_family keyed h is) =
      In-append_left (o, id) (flat_map (family_objects π t) prefixed_families) (flat_map (contest_objects π t) (contests t))
      (In-flat_map (family_objects π t) (o, id) f prefixed_families (prefixed_listed f (has_letters f _ id is))
      (subst (λ x. In (o, x) (family_objects π t f)) (ap (λ x. unwrap_or x []) is)
      (In-map (λ (x : Placed). (x, unwrap_or (id_of_key π t f (key_of π x.value)) [])) o (objects f t) h)))
  in_list f o id (of_contest c sel in_c of_c its) =
      In-append_right (o, id) (flat_map (family_objects π t) prefixed_families) (flat_map (contest_objects π t) (contests t))
      (In-flat_map (contest_objects π t) (o, id) c (contests t) in_c
      (subst (λ x. In (o, x) (contest_objects π t c)) (sym its)
      (In-map (λ (x : Placed). (x, id_of_selection π t c.value x.value)) o (selections_of_contest c) of_c)))

  from_family : (x : Placed × List ℕ) → In x (flat_map (family_objects π t) prefixed_families) → (f : Family) × NewId π t f x.0 x.1
  from_family x h =
      let f = In-flat_map_from (family_objects π t) prefixed_families x h in
      let o = In-map_from (λ (y : Placed). (y, unwrap_or (id_of_key π t f.0 (key_of π y.value)) [])) (objects f.0 t) x f.2 in
      let named : is_prefixed f.0 ≡ true = In-all (λ g. is_prefixed g ≡ true) f.0 prefixed_families
      (refl, (refl, (refl, (refl, (refl, (refl, (refl, tt))))))) f.1 in (
        f.0,
        subst (λ (z : Placed × List ℕ). NewId π t f.0 z.0 z.1) o.2
            (of_family (prefixed_keys f.0 named) o.1 (some_again (id_of_key π t f.0 (key_of π o.0.value)) (has_canonical f.0 _ named))),
      )

  from_contest : (x : Placed × List ℕ) → In x (flat_map (contest_objects π t) (contests t)) → (f : Family) × NewId π t f x.0 x.1
  from_contest x h =
      let c = In-flat_map_from (contest_objects π t) (contests t) x h in
      let o = In-map_from (λ (y : Placed). (y, id_of_selection π t c.0.value y.value)) (selections_of_contest c.0) x c.2 in
      (family.Selection, subst (λ (z : Placed × List ℕ). NewId π t family.Selection z.0 z.1) o.2 (of_contest c.0 refl c.1 o.1 refl))

  from_list : (x : Placed × List ℕ) → In x (named_objects π t) → (f : Family) × NewId π t f x.0 x.1
  from_list x h =
      ⊎_elim (from_family x) (from_contest x) (In-append x (flat_map (family_objects π t) prefixed_families) (flat_map (contest_objects π t) (contests t)) h)

  module _ (accepted : IsAccepted π t) (bounded : IsBounded t) where
    text_there : (f : Family) (o : Placed) (s id : List ℕ) → NewId π t f o id → id_of o.value ≡ Some s → new_text π t s ≡ id
    text_there f o s id new e =
        let xs = named_objects π t in
        let x = find-any (λ (y : Placed × List ℕ). has_id s y.0.value) xs
        (any_at (λ (y : Placed × List ℕ). has_id s y.0.value) (o, id) xs (in_list f o id new) (has_id-from s o.value e)) in
        let y = from_list x.0 x.3 in
        let one : x.0.0 ≡ o = one_object π t accepted y.0 f x.0.0 o s (stands_new π t accepted y.0 x.0.0 x.0.1 y.1) (stands_new π t accepted f o id new)
        (has_id-Some s x.0.0.value x.2) e in
        ap (λ z. option_map_or (λ (y : Placed × List ℕ). y.1) z []) x.1 ∙ new_once π t accepted y.0 f o x.0.1 id
        (subst (λ z. NewId π t y.0 z x.0.1) one y.1) new

    text_back : (f : Family) (o : Placed) (s id : List ℕ) → NewId π t f o id → id_of o.value ≡ Some s → old_text π t id ≡ s
    text_back f o s id new e =
        let xs = named_objects π t in
        let x = find-any (λ (y : Placed × List ℕ). bytes_eq y.1 id) xs
        (any_at (λ (y : Placed × List ℕ). bytes_eq y.1 id) (o, id) xs (in_list f o id new) (text_itself id)) in
        let y = from_list x.0 x.3 in
        let same : x.0.1 ≡ id = text_exact x.0.1 id x.2 in
        let one : x.0.0 ≡ o = new_exact π t accepted bounded y.0 f x.0.0 o id (subst (NewId π t y.0 x.0.0) same y.1) new in
        ap (λ z. option_map_or (λ (y : Placed × List ℕ). unwrap_or (id_of y.0.value) []) z []) x.1 ∙ ap (λ z. unwrap_or (id_of z.value) []) one
        ∙ ap (λ z. unwrap_or z []) e

    -- the `@id` of an object stands for its canonical one
    pub stands_for : (f : Family) (o : Placed) (s id : List ℕ) → NewId π t f o id → id_of o.value ≡ Some s → IsNewText π t s id
    stands_for f o s id new e = (sym (text_there f o s id new e), sym (text_back f o s id new e))

-- ---- references of the report that is built: none is to an object without `@id`, and none of the report is to a style

-- an object with an `@id`, and its canonical `@id`
pub record Renamed (π : Preference) (t : Data) (s id : List ℕ) : Type 0 where
  pub its_family : Family
  pub object : Placed
  pub new : NewId π t its_family object id
  pub own : id_of object.value ≡ Some s

module _ (π : Preference) (t : Data) (accepted : IsAccepted π t) (tree : IsTree t) (bounded : IsBounded t) where
  pub renamed_reference : (f : Family) → is_prefixed f ≡ true → (d : Data) → (r : Refers t f d) → Renamed π t r.0 (normal_id π t f (text_of d))
  renamed_reference f named d r =
      let o = owned_by t f r.0 r.2.0 r.2.1 in
      let key : key_named π t f (text_of d) ≡ key_of π o.0.value =
      ap (λ x. key_named π t f (text_of x)) r.1 ∙ ap (option_and_then (key_of π)) (r.2.1 ∙ ap Some (sym o.2)) in
      let its : id_of_key π t f (key_of π o.0.value) ≡ Some (unwrap_or (id_of_key π t f (key_of π o.0.value)) []) =
      some_again (id_of_key π t f (key_of π o.0.value)) (has_canonical f _ named) in
      record {
        its_family = f;
        object = o.0;
        new = of_family (prefixed_keys f named) o.1 (its ∙ ap (λ k. Some (unwrap_or (id_of_key π t f k) [])) (sym key));
        own = ap id_of o.2 ∙ o.3;
      }

  pub renamed_selection : (d : Data) → (r : Refers t family.Selection d) → Renamed π t r.0 (text_of (normal_selection_reference π t d))
  renamed_selection d r =
      let owns : owner t family.Selection (text_of d) ≡ Some r.2.0 = ap (λ x. owner t family.Selection (text_of x)) r.1 ∙ r.2.1 in
      let s : FoundSelection t (text_of d) r.2.0 = owner_found t (text_of d) r.2.0 owns in
      record {
        its_family = family.Selection;
        object = s.selection;
        new = of_contest s.contest refl s.of_report s.of_contest (text_built π t accepted tree bounded d r.2.0 owns);
        own = ap id_of s.value ∙ (owned_by t family.Selection r.0 r.2.0 r.2.1).3;
      }

  pub pair_of : (s id : List ℕ) → Renamed π t s id → IsNewText π t s id
  pair_of s id r = stands_for π t accepted bounded r.its_family r.object s id r.new r.own

-- ---- no reference is to a style

-- no reference to a style is asked for by a member of this kind
abbrev is_free_kind : MemberKind → Bool
is_free_kind (kind.One family.Style) = false
is_free_kind (kind.Many family.Style) = false
is_free_kind k = true

abbrev pub is_free : Want → Bool
is_free (Reference family.Style) = false
is_free (Member (kind.Many family.Style) required) = false
is_free w = true

free_of_kind : (k : MemberKind) (required : Bool) → is_free_kind k ≡ true → is_free (want_of_kind k required) ≡ true
free_of_kind (kind.One family.Style) required h = cc
free_of_kind (kind.Many family.Style) required h = cc
free_of_kind k required h = refl

free_rows : (c : Class) → (list_all (λ m. is_free_kind m.kind) (rows_of_class c) ≡ true) × (is_free_kind (kind_of_identity c) ≡ true)
free_rows class.ElectionReport = (refl, refl)
free_rows c = (refl, refl)

free_entry : (w : Want) → is_free w ≡ true → option_map_or is_free (entry_want w) true ≡ true
free_entry (Member (kind.Many family.Style) required) h = cc
free_entry w h = refl

pub free_from : (a : Asked) (p : List Step) (b : Asked) → is_free a.want ≡ true → asked_from a p ≡ Some b → is_free b.want ≡ true
free_from = all_pass is_free is_free_kind free_of_kind free_rows refl refl refl (λ r. refl) refl refl free_entry

module _ (π : Preference) (t : Data) (accepted : IsAccepted π t) where
  one_reference : (g : Family) (s : List ℕ) (a : Asked) → a.want ≡ Reference g → a.value ≡ string s → Within t a → Within t (asked (Reference g) (string s))
  one_reference g s a asks value w =
      unrepeated_reference π t accepted g (string s) a.repeated
      (subst (λ x. Within t (record { want = x; value = string s; repeated = a.repeated })) asks
      (subst (λ x. Within t (record { want = a.want; value = x; repeated = a.repeated })) value w))

  -- nothing refers to a style
  pub style_unused : (o : Placed) (s : List ℕ) → In o (objects family.Style t) → id_of o.value ≡ Some s → IsUnused t s
  style_unused o s h own p a stands refers value = at a.want refl refers
    where
      at : (w : Want) → a.want ≡ w → is_reference w ≡ true → ⊥
      at (Reference g) asks is =
          let w : Within t (asked (Reference g) (string s)) = one_reference g s a asks value (record { place = p; is = stands }) in
          let x = owned π t accepted g s w in
          let q = owned_by t g s x.0 x.1 in
          let one : q.0 ≡ o = one_object π t accepted g family.Style q.0 o s q.1 h (ap id_of q.2 ∙ q.3) own in
          let style : g ≡ family.Style = one_family π t accepted g family.Style o (subst (λ z. In z (objects g t)) one q.1) h in
          let free : is_free (Reference g) ≡ true = ap is_free (sym asks) ∙ free_from (asked (Object role.Report) t) p a refl stands in
          let x : false ≡ true = ap (λ f. is_free (Reference f)) (sym style) ∙ free in
          cc
      at w asks is = cc
