-- What has no entry means nothing, whatever is made of it.
use Rattle.erd_meaning.proofs.Common.{◌≡◌, suc, Bool, true, false, not, length, if◌then◌else◌, is_some, Some, None, refl, ap, sym, ◌∙◌, arith, Data, array}
use Rattle.erd_meaning.proofs.Common.{Items, no_items, item, list_of_items, Decides-eqb}
use Rattle.erd_check.specs.Faults.{is_empty_array}
use Rattle.erd_meaning.specs.Records.{unless_empty}

-- an array with an entry is not empty
full : (d : Data) (ds : Items) → is_empty_array (array (item d ds)) ≡ false
full d ds = at (is_empty_array (array (item d ds))) refl
  where
    at : (b : Bool) → is_empty_array (array (item d ds)) ≡ b → is_empty_array (array (item d ds)) ≡ false
    at true e = let h : suc (length (list_of_items ds)) ≡ 0 = (Decides-eqb (suc (length (list_of_items ds))) 0).0 e in absurd (omega arith)
    at false e = e

-- the test tells whether anything is given
pub unless_by_test : {V : Type 0} (v : V) (d : Data) → unless_empty v d ≡ (if is_empty_array d then None else Some v)
unless_by_test v (array no_items) = refl
unless_by_test v (array (item d ds)) = ap (λ b. if b then None else Some v) (sym (full d ds))
unless_by_test v d = refl

-- something is given unless the array is empty
pub given_by_test : {V : Type 0} (v : V) (d : Data) → is_some (unless_empty v d) ≡ not (is_empty_array d)
given_by_test v d = ap is_some (unless_by_test v d) ∙ at (is_empty_array d)
  where
    at : (b : Bool) → is_some (if b then None else Some v) ≡ not b
    at true = refl
    at false = refl

-- and then it is the value
pub unless_filled : {V : Type 0} (v : V) (d : Data) → is_empty_array d ≡ false → unless_empty v d ≡ Some v
unless_filled v d filled = unless_by_test v d ∙ ap (λ b. if b then None else Some v) filled

pub given_unless : {V : Type 0} (d : Data) (v x : V) → unless_empty v d ≡ Some x → v ≡ x
given_unless (array no_items) v x e = cc
given_unless d v x e = cc
