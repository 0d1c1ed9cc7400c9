-- The selections of a contest by the numbers of their names: numbers are equal if and only if the names are. So two contests
-- mean the same by numbers if and only if they do by names.
use Rattle.erd_compare.proofs.Common.{◌≡◌, ℕ, Bool, true, cond, List, [], ◌∷◌, ◌==◌, Some, None, Option, option_map, find, option_and_then, is_eq, sym, refl}
use Rattle.erd_compare.proofs.Common.{ap, ◌∙◌, subst, inl, inr, fun_ext, Decides-eqb, tied_itself, both_ways, option_cmp, Data, view, In, Judged, NameParts}
use Rattle.erd_compare.proofs.Common.{selection_record, selection_map, name_of, name_cmp, name_cmp_total, option_eq, find-Some, options_exact, SelectionRecord}
use Rattle.erd_compare.proofs.Common.{number_of_name, number_of_selection, Decides, on_side, has_number, numbered_map, ComparedReport, Left, Right}
use Rattle.erd_compare.proofs.same_ranks.NameNumbers.{IsNameOn, one_name}
use Rattle.erd_meaning.proofs.rising.DistinctEntries.{equal_names}

same_find : {A : Type 0} (p q : A → Bool) (xs : List A) → ((x : A) → In x xs → p x ≡ q x) → find p xs ≡ find q xs
same_find p q [] same = refl
same_find p q (x ∷ xs) same = ap (λ b. cond b (Some x) (find p xs)) (same x (inl refl))
    ∙ ap (λ r. cond (q x) (Some x) r) (same_find p q xs (λ y i. same y (inr i)))

module _ (a b : Judged) where
  abbrev name_on : ComparedReport → Data → Option NameParts
  name_on side d = name_of (on_side side a b).prefer (view (on_side side a b).tree) d

  -- each selection of the list is one of the report
  abbrev pub AreNamed : ComparedReport → List Data → Type 0
  AreNamed side ds = (d : Data) → In d ds → (n : NameParts) → name_on side d ≡ Some n → IsNameOn a b side n

  -- a tested name is the name
  pub name_tested : (o : Option NameParts) (k : NameParts) → is_eq (option_cmp name_cmp o (Some k)) ≡ true → o ≡ Some k
  name_tested o k h = options_exact name_cmp equal_names o (Some k) h

  name_passes : (o : Option NameParts) (k : NameParts) → o ≡ Some k → is_eq (option_cmp name_cmp o (Some k)) ≡ true
  name_passes o k e = subst (λ x. is_eq (option_cmp name_cmp x (Some k)) ≡ true) (sym e) (ap is_eq (tied_itself name_cmp_total k))

  pub number_tested : (o : Option ℕ) (k : ℕ) → option_eq ◌==◌ o (Some k) ≡ true → o ≡ Some k
  number_tested None k h = cc
  number_tested (Some n) k h = ap Some ((Decides-eqb n k).0 h)

  number_passes : (o : Option ℕ) (k : ℕ) → o ≡ Some k → option_eq ◌==◌ o (Some k) ≡ true
  number_passes o k e = subst (λ x. option_eq ◌==◌ x (Some k) ≡ true) (sym e) ((Decides-eqb k k).1 refl)

  -- ---- selections by name

  abbrev is_named : ComparedReport → NameParts → Data → Bool
  is_named side k d = is_eq (option_cmp name_cmp (name_on side d) (Some k))

  abbrev record_on : ComparedReport → Data → Option SelectionRecord
  record_on side d = selection_record (on_side side a b).prefer (view (on_side side a b).tree) d

  abbrev map_on : ComparedReport → List Data → NameParts → Option SelectionRecord
  map_on side ds k = option_and_then (record_on side) (find (is_named side k) ds)

  -- a selection has a name that stands in a report exactly if it has its number
  same_tests : (s r : ComparedReport) (k : NameParts) → IsNameOn a b r k → (d : Data) → ((n : NameParts) → name_on s d ≡ Some n → IsNameOn a b s n)
      → is_named s k d ≡ has_number a b s (number_of_name a b k) d
  same_tests s r k its d mine =
      both_ways (is_named s k d) (has_number a b s (number_of_name a b k) d)
      (λ h. number_passes (number_of_selection a b s d) (number_of_name a b k) (ap (option_map (number_of_name a b)) (name_tested (name_on s d) k h)))
      (λ h. name_passes (name_on s d) k (at (name_on s d) refl (number_tested (number_of_selection a b s d) (number_of_name a b k) h)))
    where
      at : (o : Option NameParts) → name_on s d ≡ o → option_map (number_of_name a b) o ≡ Some (number_of_name a b k) → name_on s d ≡ Some k
      at None is h = cc
      at (Some n) is h = let same : number_of_name a b n ≡ number_of_name a b k = cc in is ∙ ap Some (one_name a b s r n k (mine n is) its same)

  -- so the maps are the same at it
  pub same_maps : (s r : ComparedReport) (ds : List Data) → AreNamed s ds → (k : NameParts) → IsNameOn a b r k → map_on s ds k
      ≡ numbered_map a b s ds (number_of_name a b k)
  same_maps s r ds mine k its =
      ap (option_and_then (record_on s))
      (same_find (is_named s k) (has_number a b s (number_of_name a b k)) ds (λ d inside. same_tests s r k its d (mine d inside)))

  module _ (ds es : List Data) (mine : AreNamed Left ds) (its : AreNamed Right es) where
    -- at a name of either report
    names_at : (r : ComparedReport) (k : NameParts) → IsNameOn a b r k → numbered_map a b Left ds (number_of_name a b k) ≡ numbered_map a b Right es
        (number_of_name a b k) → map_on Left ds k ≡ map_on Right es k
    names_at r k is same = same_maps Left r ds mine k is ∙ (same ∙ sym (same_maps Right r es its k is))

    numbers_at : (r : ComparedReport) (k : NameParts) → IsNameOn a b r k → map_on Left ds k ≡ map_on Right es k
        → numbered_map a b Left ds (number_of_name a b k) ≡ numbered_map a b Right es (number_of_name a b k)
    numbers_at r k is same = sym (same_maps Left r ds mine k is) ∙ (same ∙ same_maps Right r es its k is)

    names_same : ((q : ℕ) → numbered_map a b Left ds q ≡ numbered_map a b Right es q) → (k : NameParts) → map_on Left ds k ≡ map_on Right es k
    names_same same k = at (find (is_named Left k) ds) refl (find (is_named Right k) es) refl
      where
        its_name : (r : ComparedReport) (xs : List Data) (e : Data) → AreNamed r xs → find (is_named r k) xs ≡ Some e → IsNameOn a b r k
        its_name r xs e named is = let h = find-Some (is_named r k) xs e is in named e h.0 k (name_tested (name_on r e) k h.1)

        at : (o : Option Data) → find (is_named Left k) ds ≡ o → (p : Option Data) → find (is_named Right k) es ≡ p → map_on Left ds k ≡ map_on Right es k
        at (Some d) is p other = names_at Left k (its_name Left ds d mine is) (same (number_of_name a b k))
        at None is (Some e) other = names_at Right k (its_name Right es e its other) (same (number_of_name a b k))
        at None is None other = ap (option_and_then (record_on Left)) is ∙ sym (ap (option_and_then (record_on Right)) other)

    -- the name of a number that a selection has
    abbrev Named : ComparedReport → ℕ → Type 0
    Named r q = (name : NameParts) × IsNameOn a b r name × (number_of_name a b name ≡ q)

    has_its_name : (r : ComparedReport) (xs : List Data) (e : Data) (q : ℕ) → AreNamed r xs → find (has_number a b r q) xs ≡ Some e → Named r q
    has_its_name r xs e q named is = at (name_on r e) refl (number_tested (number_of_selection a b r e) q h.1)
      where
        h : In e xs × (has_number a b r q e ≡ true)
        h = find-Some (has_number a b r q) xs e is

        at : (o : Option NameParts) → name_on r e ≡ o → option_map (number_of_name a b) o ≡ Some q → Named r q
        at None here none = cc
        at (Some n) here some = let same : number_of_name a b n ≡ q = cc in (n, named e h.0 n here, same)

    numbered_same : ((k : NameParts) → map_on Left ds k ≡ map_on Right es k) → (q : ℕ) → numbered_map a b Left ds q ≡ numbered_map a b Right es q
    numbered_same same q = at (find (has_number a b Left q) ds) refl (find (has_number a b Right q) es) refl
      where
        by : (r : ComparedReport) → Named r q → numbered_map a b Left ds q ≡ numbered_map a b Right es q
        by r n = subst (λ x. numbered_map a b Left ds x ≡ numbered_map a b Right es x) n.2 (numbers_at r n.0 n.1 (same n.0))

        at : (o : Option Data) → find (has_number a b Left q) ds ≡ o → (p : Option Data) → find (has_number a b Right q) es ≡ p → numbered_map a b Left ds q
            ≡ numbered_map a b Right es q
        at (Some d) is p other = by Left (has_its_name Left ds d q mine is)
        at None is (Some e) other = by Right (has_its_name Right es e q its other)
        at None is None other = ap (option_and_then (record_on Left)) is ∙ sym (ap (option_and_then (record_on Right)) other)

    -- what is decided by numbers is decided by names
    pub maps_decide : (answer : Bool) → Decides answer (numbered_map a b Left ds) (numbered_map a b Right es)
        → Decides answer (selection_map a.prefer (view a.tree) ds) (selection_map b.prefer (view b.tree) es)
    maps_decide answer decides = (
      λ h. fun_ext (names_same (λ q. ap (λ m. m q) (decides.0 h))),
      λ same. decides.1 (fun_ext (numbered_same (λ k. ap (λ m. m k) same))),
    )
