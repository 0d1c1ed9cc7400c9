-- A selection stands in one contest of an accepted report.
use Rattle.erd_normal.proofs.Common.{◌≡◌, ℕ, ◌+◌, List, [], ◌∷◌, ◌++◌, codes, Less, Equal, sym, refl, ap, ◌∙◌, ap₂, tied_itself, Data, family, At, Name}
use Rattle.erd_normal.proofs.Common.{position_of, IsAccepted, Preference, IsBefore, Placed, selections_of_contest, objects, one_placed, In}
use Rattle.erd_tables.specs.Places.{place_cmp}
use Rattle.erd_tables.proofs.PlaceOrder.{place_cmp_total}
use Rattle.erd_normal.proofs.canonical.NormalKeys.{placed_at, selection_values}

-- ---- places

-- two lists with one more value each
never_empty : {A : Type 0} (xs : List A) (a : A) → [] ≡ xs ++ a ∷ [] → ⊥
never_empty [] a e = cc
never_empty (x ∷ xs) a e = cc

first_same : {A : Type 0} (xs ys : List A) (a b : A) → xs ++ a ∷ [] ≡ ys ++ b ∷ [] → xs ≡ ys
first_same [] [] a b e = refl
first_same [] (y ∷ ys) a b e = let rest : [] ≡ ys ++ b ∷ [] = cc in absurd (never_empty ys b rest)
first_same (x ∷ xs) [] a b e = let rest : [] ≡ xs ++ a ∷ [] = cc in absurd (never_empty xs a rest)
first_same (x ∷ xs) (y ∷ ys) a b e =
    let head : x ≡ y = cc in
    let rest : xs ++ a ∷ [] ≡ ys ++ b ∷ [] = cc in
    ap₂ (λ z zs. z ∷ zs) head (first_same xs ys a b rest)

-- the place of a selection's contest
contest_place : (c o : Placed) → In o (selections_of_contest c) → (k : ℕ) × (o.place ≡ (c.place ++ Name (codes "ContestSelection") ∷ []) ++ At k ∷ [])
contest_place c o h =
    let i = position_of (selections_of_contest c) o h in
    (0 + i.0, placed_at (c.place ++ Name (codes "ContestSelection") ∷ []) 0 (selection_values c) i.0 o i.1)

-- ---- contests

never_before_itself : (o : Placed) → IsBefore o o → ⊥
never_before_itself o before = let h : Equal ≡ Less = sym (tied_itself place_cmp_total o.place) ∙ before in cc

module _ (π : Preference) (t : Data) (accepted : IsAccepted π t) where
  -- two contests that have one selection are one
  pub one_contest : (c d o : Placed) → In c (objects family.Contest t) → In d (objects family.Contest t) → In o (selections_of_contest c)
      → In o (selections_of_contest d) → c ≡ d
  one_contest c d o in_c in_d of_c of_d =
      let k = contest_place c o of_c in
      let l = contest_place d o of_d in
      let inside : c.place ++ Name (codes "ContestSelection") ∷ [] ≡ d.place ++ Name (codes "ContestSelection") ∷ [] =
      first_same (c.place ++ Name (codes "ContestSelection") ∷ []) (d.place ++ Name (codes "ContestSelection") ∷ []) (At k.0) (At l.0) (sym k.1 ∙ l.1) in
      let same : c.place ≡ d.place = first_same c.place d.place (Name (codes "ContestSelection")) (Name (codes "ContestSelection")) inside in
      one_placed π t accepted family.Contest family.Contest c d in_c in_d
      (λ before. never_before_itself c (ap (place_cmp c.place) same ∙ before))
      (λ before. never_before_itself d (ap (place_cmp d.place) (sym same) ∙ before))
