-- The first difference of two meanings, as the parts are gone over in their order.
use Rattle.erd_compare.proofs.Common.{◌≡◌, ℕ, ◌+◌, ◌<◌, ◌≤◌, ◌⊎◌, List, [], ◌∷◌, get_or, Some, None, Option, nat_cmp, Ordering, Less, Equal, Greater, sym, refl}
use Rattle.erd_compare.proofs.Common.{ap, ◌∙◌, subst, inl, inr, arith, cases_order, option_cmp, ordering_then, Data, Family, family, key_cmp, Preference}
use Rattle.erd_compare.proofs.Common.{meaning, records_of, nat_cmp_is, same_meaning, Meaning, Key, part_number, part_cmp, record_at, Differ, IsFirstDifference}
use Rattle.erd_compare.proofs.Common.{DifferAtPart, Difference, Part, part}
use Rattle.std.proofs.lemmas.List.{get_or-map}
use Rattle.std.proofs.lemmas.List.FromFn.{get_or-range_with_len}

-- ---- the parts

abbrev parts : List Part
parts = part.Report ∷ part.Unit ∷ part.Party ∷ part.Person ∷ part.Office ∷ part.Header ∷ part.Election ∷ part.Candidate ∷ part.Contest ∷ part.Style ∷ []

-- the part at a position
abbrev pub part_at : ℕ → Part
part_at i = get_or parts i part.Report

pub number_at : (i : ℕ) → i < 10 → part_number (part_at i) ≡ i
number_at i low = let count : 0 + i ≡ i = omega arith in sym (get_or-map part_number parts i part.Report 0 low) ∙ (get_or-range_with_len 0 10 i 0 low ∙ count)

part_itself : (p : Part) → part_at (part_number p) ≡ p
part_itself part.Report = refl
part_itself p = refl

pub numbered : (p : Part) (i : ℕ) → part_number p ≡ i → part_at i ≡ p
numbered p i e = ap part_at (sym e) ∙ part_itself p

pub number_low : (p : Part) → part_number p < 10
number_low part.Report = omega arith
number_low p = omega arith

-- ---- going over them

-- the meanings are equal at each of the first parts
abbrev pub AreEqualBelow : Meaning → Meaning → ℕ → Type 0
AreEqualBelow m n i = (p : Part) (k : Option Key) → part_number p < i → record_at m p k ≡ record_at n p k

below_more : (j i : ℕ) → j < i + 1 → (j < i) ⊎ (j ≡ i)
below_more j i low = grind arith

-- one more part
pub equal_more : (m n : Meaning) (i : ℕ) → AreEqualBelow m n i → ((k : Option Key) → record_at m (part_at i) k ≡ record_at n (part_at i) k)
    → AreEqualBelow m n (i + 1)
equal_more m n i below here p k low = at (below_more (part_number p) i low)
  where
    at : (part_number p < i) ⊎ (part_number p ≡ i) → record_at m p k ≡ record_at n p k
    at (inl less) = below p k less
    at (inr same) = subst (λ q. record_at m q k ≡ record_at n q k) (numbered p i same) (here k)

after_greater : (x y : ℕ) (o : Ordering) → y < x → ordering_then (nat_cmp x y) o ≡ Less → ⊥
after_greater x y o low less = let clash : ordering_then Greater o ≡ Less = ap (λ c. ordering_then c o) (nat_cmp_is x y Greater low) ∙ less in cc

after_equal : (x y : ℕ) (o : Ordering) → x ≡ y → ordering_then (nat_cmp x y) o ≡ Less → o ≡ Less
after_equal x y o same less = ap (λ c. ordering_then c o) (nat_cmp_is x y Equal same) ∙ less

-- the difference at the next part is the first
pub first_told : (m n : Meaning) (i : ℕ) (d : Difference) → i < 10 → AreEqualBelow m n i → DifferAtPart m n (part_at i) d → IsFirstDifference m n d
first_told m n i d low below h = record {
  differ = subst (λ p. Differ (record_at m p d.key) (record_at n p d.key) d.how) (sym h.its_part) h.at.differ;
  least = λ p k less. at p k less (cases_order (part_number p) (part_number d.part));
}
  where
    number : part_number d.part ≡ i
    number = ap part_number h.its_part ∙ number_at i low

    at : (p : Part) (k : Option Key) → part_cmp p k d.part d.key ≡ Less
        → (part_number p ≡ part_number d.part) ⊎ ((part_number p < part_number d.part) ⊎ (part_number d.part < part_number p))
        → record_at m p k ≡ record_at n p k
    at p k less (inl same) =
        subst (λ q. record_at m q k ≡ record_at n q k) (numbered p i (same ∙ number))
        (h.at.least k (after_equal (part_number p) (part_number d.part) (option_cmp key_cmp k d.key) same less))
    at p k less (inr (inl lower)) = below p k (subst (λ j. part_number p < j) number lower)
    at p k less (inr (inr higher)) = absurd (after_greater (part_number p) (part_number d.part) (option_cmp key_cmp k d.key) higher less)

-- ---- equal at every part

equal_objects : (π ρ : Preference) (t u : Data) → ((p : Part) (k : Option Key) → record_at (meaning π t) p k ≡ record_at (meaning ρ u) p k)
    → (f : Family) (k : Key) → records_of π t f k ≡ records_of ρ u f k
equal_objects π ρ t u all family.Unit k = all part.Unit (Some k)
equal_objects π ρ t u all family.Party k = all part.Party (Some k)
equal_objects π ρ t u all family.Person k = all part.Person (Some k)
equal_objects π ρ t u all family.Office k = all part.Office (Some k)
equal_objects π ρ t u all family.Header k = all part.Header (Some k)
equal_objects π ρ t u all family.Candidate k = all part.Candidate (Some k)
equal_objects π ρ t u all family.Contest k = all part.Contest (Some k)
equal_objects π ρ t u all family.Style k = all part.Style (Some k)
equal_objects π ρ t u all family.Selection k = refl

-- reports that mean the same at every part mean the same
pub equal_meanings : (π ρ : Preference) (t u : Data) (i : ℕ) → 10 ≤ i → AreEqualBelow (meaning π t) (meaning ρ u) i → meaning π t ≡ meaning ρ u
equal_meanings π ρ t u i all below = same_meaning π ρ t u (at part.Report None) (at part.Election) (equal_objects π ρ t u at)
  where
    at : (p : Part) (k : Option Key) → record_at (meaning π t) p k ≡ record_at (meaning ρ u) p k
    at p k = below p k (omega (arith, number_low p))
