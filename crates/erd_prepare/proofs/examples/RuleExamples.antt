-- What the definitions say of small values.
use Rattle.std.proofs.Common.{◌≡◌, Bool, true, false, [], ◌∷◌, Some, None, codes, refl}
use Rattle.serde_json.specs.Data.{Data, null, boolean, array, object, no_items, item, no_members, member}
use Rattle.erd_tables.specs.declared.place.Step.TheVariants.{Name, At}
use Rattle.erd_prepare.specs.Nulls.{nulls}
use Rattle.erd_prepare.specs.Places.{are_apart, is_untold, place_after, value_at}
use Rattle.erd_prepare.specs.Rules.{Rule, prepared, told, told_change}

-- a step that lets go of nulls in arrays
lets_nulls_go : Rule
lets_nulls_go = record nulls { drops = λ p s k d. false; lets_go = λ p w d. is_null d }
  where
    is_null : Data → Bool
    is_null null = true
    is_null d = false

-- {"a":[null,true],"b":null}
small : Data
small = object (member (codes "a") (array (item null (item (boolean true) no_items))) (member (codes "b") null no_members))

-- the member "b" goes, and is told
no_b : prepared nulls [] None small ≡ object (member (codes "a") (array (item null (item (boolean true) no_items))) no_members)
unfolding small
no_b = refl

b_told : told nulls [] None small ≡ told_change (Name (codes "b") ∷ []) null None ∷ []
unfolding small
b_told = refl

-- what stood at /a/1 is untold, and stays at /a/1
a_untold : is_untold (Name (codes "a") ∷ At 1 ∷ []) (told nulls [] None small) ≡ true
unfolding small
a_untold = refl

-- neither /b nor the whole value is untold
b_is_told : is_untold (Name (codes "b") ∷ []) (told nulls [] None small) ≡ false
unfolding small
b_is_told = refl

all_is_told : is_untold [] (told nulls [] None small) ≡ false
unfolding small
all_is_told = refl

-- an entry moves up by the one before it that goes
moves_up : place_after lets_nulls_go [] None (Some small) (Name (codes "a") ∷ At 1 ∷ []) ≡ Name (codes "a") ∷ At 0 ∷ []
unfolding small lets_nulls_go
moves_up = refl

-- a place inside another one is not apart from it, and one beside it is
inside : are_apart (Name (codes "a") ∷ []) (Name (codes "a") ∷ At 0 ∷ []) ≡ false
inside = refl

beside : are_apart (Name (codes "a") ∷ At 1 ∷ []) (Name (codes "a") ∷ At 0 ∷ []) ≡ true
beside = refl

-- the value at /a/1 (RFC 6901)
at_a_1 : value_at (Name (codes "a") ∷ At 1 ∷ []) small ≡ Some (boolean true)
unfolding small
at_a_1 = refl
