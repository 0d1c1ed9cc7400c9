-- Whole numbers that fit 64 bits.
use Rattle.std.specs.Prelude.{◌≡◌, ◌<◌, ◌^◌, pos, negsuc, false, ⊤}
use Rattle.serde_json.specs.Data.{Num, unsigned, negative, float, Data, null, boolean, number, string, array, object, Items, no_items, item, Members}
use Rattle.serde_json.specs.Data.{no_members, member}
use Rattle.serde_json.specs.Find.{is_float}

-- The number is whole and lies between -2^63 and 2^64 - 1. It is kept as a negative number only if it is below zero.
abbrev pub IsFittingNumber : Num → Type 0
IsFittingNumber (unsigned n) = n < 2 ^ 64
IsFittingNumber (negative (pos n)) = ⊥
IsFittingNumber (negative (negsuc n)) = n < 2 ^ 63
IsFittingNumber (float x) = ⊥

-- Each number in the value is whole and fits 64 bits, as above.
abbrev mutual
  pub HasFittingNumbers : Data → Type 0
  HasFittingNumbers null = ⊤
  HasFittingNumbers (boolean b) = ⊤
  HasFittingNumbers (number n) = IsFittingNumber n
  HasFittingNumbers (string s) = ⊤
  HasFittingNumbers (array ds) = ItemsHaveFittingNumbers ds
  HasFittingNumbers (object ms) = MembersHaveFittingNumbers ms

  pub ItemsHaveFittingNumbers : Items → Type 0
  ItemsHaveFittingNumbers no_items = ⊤
  ItemsHaveFittingNumbers (item d ds) = HasFittingNumbers d × ItemsHaveFittingNumbers ds

  pub MembersHaveFittingNumbers : Members → Type 0
  MembersHaveFittingNumbers no_members = ⊤
  MembersHaveFittingNumbers (member k d ms) = HasFittingNumbers d × MembersHaveFittingNumbers ms

-- If the value is a whole number, it fits 64 bits.
abbrev pub IsInRange : Data → Type 0
IsInRange (number n) = is_float n ≡ false → IsFittingNumber n
IsInRange d = ⊤
