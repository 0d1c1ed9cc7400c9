-- The object that has a key, found by its position.
use Rattle.erd_shown.proofs.Common.{◌≡◌, ℕ, Bool, true, false, cond, List, slice_get, Some, None, Option}
use Rattle.erd_shown.proofs.Common.{option_and_then, option_cmp, is_eq, sym, refl, ap, ◌∙◌, tied_itself, key_cmp_total, position_of, equal_keys}
use Rattle.erd_shown.proofs.Common.{Data, Family, has_keys, Preference, IsAccepted, key_cmp, key_of, key_in, find-Some, find-any, any_at, in_at}
use Rattle.erd_shown.proofs.Common.{one_keyed, Placed, objects, placed_with_key, and_then-Some, Key}
use Rattle.erd_meaning.specs.Lookups.{FindsKey}

-- the key of an object of a family with keys is the one at its place
pub key_in_place : (π : Preference) (t : Data) (f : Family) → has_keys f ≡ true → (o : Placed) (i : ℕ) → slice_get (objects f t) i ≡ Some o
    → key_in π f t i ≡ key_of π o.value
key_in_place π t f keyed o i at =
    ap (option_and_then (λ (o : Placed). cond (has_keys f) (key_of π o.value) None)) at ∙ ap (λ b. cond b (key_of π o.value) None) keyed

-- the test that finds the object with a key
abbrev pub has_this_key : Preference → Key → Placed → Bool
has_this_key π k o = is_eq (option_cmp key_cmp (key_of π o.value) (Some k))

pub key_itself : (π : Preference) (k : Key) (o : Placed) → key_of π o.value ≡ Some k → has_this_key π k o ≡ true
key_itself π k o e = ap (λ x. is_eq (option_cmp key_cmp x (Some k))) e ∙ ap is_eq (tied_itself key_cmp_total k)

pub key_told : (π : Preference) (k : Key) (o : Placed) → has_this_key π k o ≡ true → key_of π o.value ≡ Some k
key_told π k o h = at (key_of π o.value) refl h
  where
    at : (x : Option Key) → key_of π o.value ≡ x → is_eq (option_cmp key_cmp (key_of π o.value) (Some k)) ≡ true → key_of π o.value ≡ Some k
    at None is e = let f = rw is at e in cc
    at (Some l) is e = is ∙ ap Some (equal_keys l k (rw is at e))

module _ (π : Preference) (t : Data) (accepted : IsAccepted π t) (f : Family) (k : Key) where
  abbrev os : List Placed
  os = objects f t

  -- what a position has
  key_at : (b : Bool) → has_keys f ≡ b → (i : ℕ) → key_in π f t i ≡ Some k → (o : Placed) × (slice_get os i ≡ Some o)
      × (cond b (key_of π o.value) None ≡ Some k)
  key_at b is i e =
      let o = and_then-Some (λ (o : Placed). cond (has_keys f) (key_of π o.value) None) (slice_get os i) k e in
      (o.0, o.1, ap (λ x. cond x (key_of π o.0.value) None) (sym is) ∙ o.2)

  key_there : has_keys f ≡ true → (i : ℕ) (o : Placed) → slice_get os i ≡ Some o → key_of π o.value ≡ Some k → key_in π f t i ≡ Some k
  key_there keyed i o there e =
      ap (option_and_then (λ (o : Placed). cond (has_keys f) (key_of π o.value) None)) there ∙ (ap (λ b. cond b (key_of π o.value) None) keyed ∙ e)

  pub keyed_found : has_keys f ≡ true → (found : Option ℕ) → FindsKey π t f k found → option_and_then (slice_get os) found ≡ placed_with_key π t f k
  keyed_found keyed None finds = at (placed_with_key π t f k) refl
    where
      at : (o : Option Placed) → placed_with_key π t f k ≡ o → None ≡ placed_with_key π t f k
      at None is = sym is
      at (Some o) is =
          let r = find-Some (has_this_key π k) os o is in
          let i = position_of os o r.0 in
          let clash : None ≡ Some i.0 = (finds i.0).1 (key_there keyed i.0 o i.1 (key_told π k o r.1)) in
          cc
  keyed_found keyed (Some i) finds =
      let a = key_at true keyed i ((finds i).0 refl) in
      let here = in_at os i a.0 a.1 in
      let r = find-any (has_this_key π k) os (any_at (has_this_key π k) a.0 os here (key_itself π k a.0 a.2)) in
      a.1 ∙ (ap Some (one_keyed π t accepted f a.0 r.0 k keyed here r.3 a.2 (key_told π k r.0 r.2)) ∙ sym r.1)

  -- an object that is found by its key
  pub family_found : (found : Option ℕ) → FindsKey π t f k found → option_and_then (slice_get os) found ≡ cond (has_keys f) (placed_with_key π t f k) None
  family_found found finds = at (has_keys f) refl
    where
      nowhere : has_keys f ≡ false → (o : Option ℕ) → found ≡ o → option_and_then (slice_get os) found ≡ None
      nowhere unkeyed None is = ap (option_and_then (slice_get os)) is
      nowhere unkeyed (Some i) is = let a = key_at false unkeyed i ((finds i).0 is) in let clash : None ≡ Some k = a.2 in cc

      at : (b : Bool) → has_keys f ≡ b → option_and_then (slice_get os) found ≡ cond (has_keys f) (placed_with_key π t f k) None
      at true is = keyed_found is found finds ∙ ap (λ b. cond b (placed_with_key π t f k) None) (sym is)
      at false is = nowhere is found refl ∙ ap (λ b. cond b (placed_with_key π t f k) None) (sym is)
