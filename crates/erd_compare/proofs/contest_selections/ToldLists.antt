-- The differences that are told whole, one after another as far as their texts fit, are the longest run.
use Rattle.erd_compare.proofs.Common.{[], ◌≡◌, ℕ, zero, suc, true, false, ◌+◌, ◌<◌, List, ◌∷◌, ◌++◌, take, drop, Some, None, Option, sym, refl, ap, ◌∙◌, subst}
use Rattle.erd_compare.proofs.Common.{append-nil, arith, AllByRecursion, Meaning, Difference}
use Rattle.std.proofs.lemmas.List.{append_assoc}
use Rattle.std.proofs.lemmas.List.Sums.{sum_by-cons}
use Rattle.erd_compare.specs.SelectionDifferences.{is_in_selections, selections_with_key, text_size, told_with, IsBare, IsLongestRun, NoneFits, TellsAll}
use Rattle.erd_compare.specs.code.ContestSelections.{if_left, AreTold, Leaves, PassesInside, PassesOne}
use Rattle.erd_compare.specs.declared.detailed.DetailedDifference.{DetailedDifference}
use Rattle.erd_compare.specs.declared.inside.SelectionDifference.{SelectionDifference}
use Rattle.erd_compare.specs.declared.inside.room.Room.{Room}

module _ (m n : Meaning) (d : Difference) where
  -- a difference before those that may be told
  next_before : (first next : ℕ) (bytes after : Option ℕ) → 0 < first → next + 1 ≡ first → after ≡ bytes
      → (e : DetailedDifference) (rest : List DetailedDifference) → told_with e ≡ None → AreTold m n next after rest → AreTold m n first bytes (e ∷ rest)
  next_before zero next bytes after low one same e rest bare told = absurd (omega (arith, low))
  next_before (suc first) next bytes after low one same e rest bare told =
      let less : next ≡ first = omega (arith, one) in
      (bare, subst (λ b. AreTold m n first b rest) same (subst (λ f. AreTold m n f after rest) less told))

  pub passed_before : (before after : Room) → 0 < before.first → after.first + 1 ≡ before.first → after.bytes ≡ before.bytes → PassesOne m n d None before after
  passed_before before after low one same e rest is tells told = next_before before.first after.first before.bytes after.bytes low one same e rest tells told

  -- one that may
  abbrev Passes : Option (List SelectionDifference) → Option ℕ → Option ℕ → Type 0
  Passes told None after = (told ≡ None) × (after ≡ None)
  Passes told (Some room) after = (inside : Option (List SelectionDifference)) × TellsAll m n d inside × Leaves (text_size inside) room after
      × (told ≡ if_left after inside)

  next_here : (first next : ℕ) (bytes after : Option ℕ) (told : Option (List SelectionDifference)) → first ≡ 0 → next ≡ first → Passes told bytes after
      → (e : DetailedDifference) (rest : List DetailedDifference) → e.difference ≡ d → told_with e ≡ told
      → AreTold m n next after rest → AreTold m n first bytes (e ∷ rest)
  next_here (suc first) next bytes after told none same passes e rest is tells later = absurd (omega (arith, none))
  next_here zero next None after told none same (nothing, end) e rest is tells later =
      (tells ∙ nothing, subst (λ b. AreTold m n zero b rest) end (subst (λ f. AreTold m n f after rest) same later))
  next_here zero next (Some room) after told none same (inside, all, leaves, shown) e rest is tells later =
      (inside, after, subst (λ x. TellsAll m n x inside) (sym is) all, leaves, tells ∙ shown, subst (λ f. AreTold m n f after rest) same later)

  -- one that is in no selections
  pub passed_beside : (before after : Room) → before.first ≡ 0 → after.first ≡ before.first → after.bytes ≡ before.bytes → is_in_selections d ≡ false
      → PassesOne m n d None before after
  passed_beside before after none first same outside e rest is tells later =
      next_here before.first after.first before.bytes after.bytes None none first
      (subst (Passes None before.bytes) (sym same) (at before.bytes)) e rest is tells later
    where
      at : (bytes : Option ℕ) → Passes None bytes bytes
      at None = (refl, refl)
      at (Some room) = (None, outside, omega arith, refl)

  -- one that is in the selections of a contest
  pub passed_inside : is_in_selections d ≡ true → (before after : Room) → before.first ≡ 0 → after.first ≡ before.first
      → (told : Option (List SelectionDifference))
      → PassesInside (selections_with_key m d.key) (selections_with_key n d.key) told before.bytes after.bytes → PassesOne m n d told before after
  passed_inside inside before after none first told passes e rest is tells later =
      next_here before.first after.first before.bytes after.bytes told none first (at before.bytes after.bytes passes) e rest is tells later
    where
      at : (bytes left : Option ℕ) → PassesInside (selections_with_key m d.key) (selections_with_key n d.key) told bytes left → Passes told bytes left
      at None left h = h
      at (Some room) left (ds, are, leaves, shown) = (Some ds, (inside, are), leaves, shown)

-- ---- all of them

-- with what is told of the rest, all is told
abbrev pub AreToldUpTo : Meaning → Meaning → ℕ → ℕ → List DetailedDifference → Room → Type 0
AreToldUpTo m n first most found room = (rest : List DetailedDifference) → AreTold m n room.first room.bytes rest
    → AreTold m n first (Some most) (found ++ rest)

module _ (m n : Meaning) (first most : ℕ) where
  pub none_told : (found : List DetailedDifference) → found ≡ [] → AreToldUpTo m n first most found (record { first = first; bytes = Some most })
  none_told found none rest later = subst (λ es. AreTold m n first (Some most) (es ++ rest)) (sym none) later

  pub one_told : (found after : List DetailedDifference) (d : Difference) (e : DetailedDifference) (told : Option (List SelectionDifference))
      (before next : Room) → AreToldUpTo m n first most found before
      → PassesOne m n d told before next → e.difference ≡ d → told_with e ≡ told → after ≡ found ++ e ∷ [] → AreToldUpTo m n first most after next
  one_told found after d e told before next h passes is tells grown rest later =
      subst (AreTold m n first (Some most)) (sym (append_assoc found (e ∷ []) rest) ∙ ap (λ es. es ++ rest) (sym grown))
      (h (e ∷ rest) (passes e rest is tells later))

  pub all_told : (found : List DetailedDifference) (room : Room) → AreToldUpTo m n first most found room → AreTold m n first (Some most) found
  all_told found room h = subst (AreTold m n first (Some most)) (append-nil found) (h [] tt)

-- ---- the longest run

module _ (m n : Meaning) where
  -- once one did not fit, none is told
  none_later : (ds : List DetailedDifference) → AreTold m n zero None ds → AllByRecursion IsBare ds
  none_later [] h = tt
  none_later (d ∷ ds) (bare, later) = (bare, none_later ds later)

  -- those that are told are the longest run
  longest : (room : ℕ) (ds : List DetailedDifference) → AreTold m n zero (Some room) ds → IsLongestRun m n room ds
  longest room [] h = record { run = []; behind = []; split = refl; whole = tt; fits = omega arith; bare = tt; longest = tt }
  longest room (d ∷ ds) (inside, Some left, all, leaves, shown, later) = more (longest left ds later)
    where
      size : ℕ
      size = text_size (told_with d)

      of_this : text_size inside ≡ size
      of_this = ap text_size (sym shown)

      fewer : (used : ℕ) (es : List DetailedDifference) → NoneFits m n used left es → NoneFits m n (size + used) room es
      fewer used [] h = tt
      fewer used (e ∷ es) (next, told, over) = let same = of_this in (next, told, omega (arith, over, leaves, same))

      more : IsLongestRun m n left ds → IsLongestRun m n room (d ∷ ds)
      more h =
          let sum = sum_by-cons (λ (e : DetailedDifference). text_size (told_with e)) d h.run in
          record {
            run = d ∷ h.run;
            behind = h.behind;
            split = ap (λ es. d ∷ es) h.split;
            whole = (subst (TellsAll m n d.difference) (sym shown) all, h.whole);
            fits = let known = h.fits in let same = of_this in omega (arith, known, sum, leaves, same);
            bare = h.bare;
            longest = subst (λ used. NoneFits m n used room h.behind) (sym sum) (fewer _ h.behind h.longest);
          }
  longest room (d ∷ ds) (inside, None, all, leaves, shown, later) = record {
    run = [];
    behind = d ∷ ds;
    split = refl;
    whole = tt;
    fits = omega arith;
    bare = (shown, none_later ds later);
    longest = (inside, all, omega (arith, leaves));
  }

  -- and those before the first are not told
  pub as_bounded : (first most : ℕ) (ds : List DetailedDifference) → AreTold m n first (Some most) ds → AllByRecursion IsBare (take first ds)
      × IsLongestRun m n most (drop first ds)
  as_bounded zero most ds h = (tt, longest most ds h)
  as_bounded (suc first) most [] h = (tt, longest most [] tt)
  as_bounded (suc first) most (d ∷ ds) (bare, later) = let rest = as_bounded first most ds later in ((bare, rest.0), rest.1)
