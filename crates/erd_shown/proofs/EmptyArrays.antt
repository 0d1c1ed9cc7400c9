-- What has no entry means nothing.
use Rattle.erd_shown.proofs.Common.{◌≡◌, suc, Bool, true, false, cond, length, Some, None, refl, ap, sym, arith, Data, array, Items, no_items, item}
use Rattle.erd_shown.proofs.Common.{list_of_items, is_empty_array, unless_empty}
use Rattle.erd_text.proofs.Common.{Decides-eqb}

-- an array with an entry is not empty
full : (d : Data) (ds : Items) → is_empty_array (array (item d ds)) ≡ false
full d ds = at (is_empty_array (array (item d ds))) refl
  where
    at : (b : Bool) → is_empty_array (array (item d ds)) ≡ b → is_empty_array (array (item d ds)) ≡ false
    at true e = let h : suc (length (list_of_items ds)) ≡ 0 = (Decides-eqb (suc (length (list_of_items ds))) 0).0 e in absurd (omega arith)
    at false e = e

-- the test tells whether a value means anything
pub unless_by_test : {V : Type 0} (v : V) (d : Data) → unless_empty v d ≡ cond (is_empty_array d) None (Some v)
unless_by_test v (array no_items) = refl
unless_by_test v (array (item d ds)) = ap (λ b. cond b None (Some v)) (sym (full d ds))
unless_by_test v d = refl
