-- The value of a difference with what differs inside the selections is a tree, nests little, and has only numbers that fit.
use Rattle.erd_canon.proofs.Common.{◌≡◌, ℕ, ◌+◌, ◌^◌, ◌≤◌, Bool, true, false, List, [], ◌∷◌, map, Option, Some, None, pos, negsuc, refl, arith, nat_lt, codes}
use Rattle.erd_canon.proofs.Common.{Data, null, number, string, unsigned, negative, array, object, no_members, member, depth, items_depth, has_float}
use Rattle.erd_canon.proofs.Common.{items_have_float, IsTree, AreTrees, HasFittingNumbers, ItemsHaveFittingNumbers, items_of}
use Rattle.std.specs.Prelude.{ℤ, if◌then◌else◌, option_map}
use Rattle.std.proofs.lemmas.Bool.{ltb-true}
use Rattle.erd_meaning.specs.NameParts.{NameParts}
use Rattle.erd_meaning.specs.declared.keys.key.Key.{Key}
use Rattle.erd_compare.specs.DifferenceData.{difference_members, key_data}
use Rattle.erd_compare.specs.DifferenceLine.{key_as_json, part_text}
use Rattle.erd_compare.specs.SelectionData.{detailed_data, label_data, name_data, order_data, selection_data, selections_data, selections_member}
use Rattle.erd_compare.specs.declared.detailed.DetailedDifference.{DetailedDifference}
use Rattle.erd_compare.specs.declared.difference.How.{How}
use Rattle.erd_compare.specs.declared.difference.How.TheVariants.{Member, OnlyLeft, OnlyRight, OtherClass}
use Rattle.erd_compare.specs.declared.difference.Part.{Part}
use Rattle.erd_compare.specs.declared.inside.SelectionDifference.{SelectionDifference}

-- what is known of such a value
pub record IsLow (most : ℕ) (d : Data) : Type 0 where
  pub tree : IsTree d
  pub fits : HasFittingNumbers d
  pub low : depth d ≤ most
  pub whole : has_float d ≡ false

key_low : (k : Option Key) → IsLow 1 (key_data k)
key_low None = record { tree = tt; fits = tt; low = omega arith; whole = refl }
key_low (Some k) = record { tree = (tt, (tt, (tt, tt))); fits = (tt, (tt, (tt, tt))); low = omega arith; whole = refl }

label_low : (o : Option (List ℕ)) → IsLow 0 (label_data o)
label_low None = record { tree = tt; fits = tt; low = omega arith; whole = refl }
label_low (Some text) = record { tree = tt; fits = tt; low = omega arith; whole = refl }

order_low : (o : Option ℤ) → IsLow 0 (order_data o)
order_low None = record { tree = tt; fits = tt; low = omega arith; whole = refl }
order_low (Some (pos n)) = at (nat_lt n (2 ^ 64)) refl
  where
    at : (b : Bool) → nat_lt n (2 ^ 64) ≡ b → IsLow 0 (if b then number (unsigned n) else null)
    at true is = record { tree = tt; fits = ltb-true n (2 ^ 64) is; low = omega arith; whole = refl }
    at false is = record { tree = tt; fits = tt; low = omega arith; whole = refl }
order_low (Some (negsuc n)) = at (nat_lt n (2 ^ 63)) refl
  where
    at : (b : Bool) → nat_lt n (2 ^ 63) ≡ b → IsLow 0 (if b then number (negative (negsuc n)) else null)
    at true is = record { tree = tt; fits = ltb-true n (2 ^ 63) is; low = omega arith; whole = refl }
    at false is = record { tree = tt; fits = tt; low = omega arith; whole = refl }

-- the same of the entries of an array
record AreLow (most : ℕ) (ds : List Data) : Type 0 where
  trees : AreTrees (items_of ds)
  fit : ItemsHaveFittingNumbers (items_of ds)
  all_low : items_depth (items_of ds) ≤ most
  all_whole : items_have_float (items_of ds) ≡ false

none_low : (most : ℕ) → AreLow most []
none_low most = record { trees = tt; fit = tt; all_low = omega arith; all_whole = refl }

one_low : (most : ℕ) (d : Data) (ds : List Data) → IsLow most d → AreLow most ds → AreLow most (d ∷ ds)
one_low most d ds h more = record {
  trees = (h.tree, more.trees);
  fit = (h.fits, more.fit);
  all_low = let here = h.low in let rest = more.all_low in omega (arith, here, rest);
  all_whole = rw (h.whole, more.all_whole) refl;
}

array_low : (most over : ℕ) (ds : List Data) → over ≡ most + 1 → AreLow most ds → IsLow over (array (items_of ds))
array_low most over ds more h = let low = h.all_low in record { tree = h.trees; fits = h.fit; low = omega (arith, low, more); whole = h.all_whole }

weaker : (most more : ℕ) (d : Data) → most ≤ more → IsLow most d → IsLow more d
weaker most more d le h = let low = h.low in record { tree = h.tree; fits = h.fits; low = omega (arith, low, le); whole = h.whole }

keys_low : (ks : List Key) → AreLow 1 (map key_as_json ks)
keys_low [] = none_low 1
keys_low (k ∷ ks) = one_low 1 (key_as_json k) (map key_as_json ks) (key_low (Some k)) (keys_low ks)

name_low : (n : NameParts) → IsLow 3 (name_data n)
name_low n =
    array_low 2 3 _ refl
    (one_low 2 _ _ (record { tree = tt; fits = tt; low = omega arith; whole = refl })
    (one_low 2 _ _ (array_low 1 2 (map key_as_json n.keys) refl (keys_low n.keys))
    (one_low 2 _ _ (record { tree = tt; fits = tt; low = omega arith; whole = refl })
    (one_low 2 _ _ (weaker 0 2 (order_data n.order) (omega arith) (order_low n.order))
    (one_low 2 _ _ (weaker 0 2 (label_data n.label) (omega arith) (label_low n.label))
    (one_low 2 _ _ (weaker 1 2 (key_data n.identifier) (omega arith) (key_low n.identifier)) (none_low 2)))))))

-- ---- a difference of selections

unnamed : (how : List ℕ) (name : Data) → IsLow 3 name → IsLow 4 (object (member (codes "how") (string how) (member (codes "name") name no_members)))
unnamed how name it = let low = it.low in
    record { tree = (refl, tt, (tt, it.tree, tt)); fits = (tt, (it.fits, tt)); low = omega (arith, low); whole = rw it.whole refl }

selection_at : (n : NameParts) (h : How) → IsLow 4 (selection_data (record { name = n; how = h }))
selection_at n (Member name) =
    let it = name_low n in
    let low = it.low in
    record { tree = (refl, tt, (refl, tt, (tt, it.tree, tt))); fits = (tt, (tt, (it.fits, tt))); low = omega (arith, low); whole = rw it.whole refl }
selection_at n OnlyLeft = unnamed (codes "only left") (name_data n) (name_low n)
selection_at n OnlyRight = unnamed (codes "only right") (name_data n) (name_low n)
selection_at n OtherClass = unnamed (codes "other class") (name_data n) (name_low n)

pub selection_value : (d : SelectionDifference) → IsLow 4 (selection_data d)
selection_value d = selection_at d.name d.how

each_low : (ds : List SelectionDifference) → AreLow 4 (map selection_data ds)
each_low [] = none_low 4
each_low (d ∷ ds) = one_low 4 (selection_data d) (map selection_data ds) (selection_value d) (each_low ds)

selections_low : (ds : List SelectionDifference) → IsLow 5 (selections_data ds)
selections_low ds = array_low 4 5 (map selection_data ds) refl (each_low ds)

-- ---- a difference

plain : (how part : List ℕ) (k : Option Key)
    → IsLow 6 (object (member (codes "how") (string how) (member (codes "key") (key_data k) (member (codes "part") (string part) no_members))))
plain how part k = let it = key_low k in let low = it.low in
    record { tree = (refl, tt, (refl, it.tree, (tt, tt, tt))); fits = (tt, (it.fits, (tt, tt))); low = omega (arith, low); whole = rw it.whole refl }

told : (how part : List ℕ) (k : Option Key) (ds : List SelectionDifference)
    → IsLow 6
    (object (member (codes "how") (string how)
    (member (codes "key") (key_data k) (member (codes "part") (string part) (member (codes "selections") (selections_data ds) no_members)))))
told how part k ds =
    let it = key_low k in
    let in_key = it.low in
    let list = selections_low ds in
    let in_list = list.low in
    record {
      tree = (refl, tt, (refl, it.tree, (refl, tt, (tt, list.tree, tt))));
      fits = (tt, (it.fits, (tt, (list.fits, tt))));
      low = omega (arith, in_key, in_list);
      whole = rw (it.whole, list.whole) refl;
    }

detailed_at : (p : Part) (k : Option Key) (h : How) (o : Option (List SelectionDifference))
    → IsLow 6 (object (difference_members (record { part = p; key = k; how = h }) (selections_member o)))
detailed_at p k (Member name) None =
    let it = key_low k in
    let low = it.low in
    record {
      tree = (refl, tt, (refl, it.tree, (refl, tt, (tt, tt, tt))));
      fits = (tt, (it.fits, (tt, (tt, tt))));
      low = omega (arith, low);
      whole = rw it.whole refl;
    }
detailed_at p k (Member name) (Some ds) =
    let it = key_low k in
    let in_key = it.low in
    let list = selections_low ds in
    let in_list = list.low in
    record {
      tree = (refl, tt, (refl, it.tree, (refl, tt, (refl, tt, (tt, list.tree, tt)))));
      fits = (tt, (it.fits, (tt, (tt, (list.fits, tt)))));
      low = omega (arith, in_key, in_list);
      whole = rw (it.whole, list.whole) refl;
    }
detailed_at p k OnlyLeft None = plain (codes "only left") (part_text p) k
detailed_at p k OnlyRight None = plain (codes "only right") (part_text p) k
detailed_at p k OtherClass None = plain (codes "other class") (part_text p) k
detailed_at p k OnlyLeft (Some ds) = told (codes "only left") (part_text p) k ds
detailed_at p k OnlyRight (Some ds) = told (codes "only right") (part_text p) k ds
detailed_at p k OtherClass (Some ds) = told (codes "other class") (part_text p) k ds

pub detailed_value : (d : DetailedDifference) → IsLow 6 (detailed_data d)
detailed_value d = detailed_at d.difference.part d.difference.key d.difference.how (option_map (λ v. v.items) d.selections)
