-- The values of ballots are trees whose numbers fit 64 bits. So two with one text are one value.
use Rattle.erd_shown.proofs.Common.{◌≡◌, ℕ, ◌^◌, Bool, true, false, if◌then◌else◌, List, [], ◌∷◌, map, pos, negsuc, Some, None, Option, nat_lt, bytes_eq, refl}
use Rattle.erd_shown.proofs.Common.{subst, both_ways, option_map_or, slice_get, Data, null, number, unsigned, negative, compact_text, is_same_json, text_exact}
use Rattle.erd_shown.proofs.Common.{text_itself, is_same_exact, family, Preference, key_of, Key, NameParts, Placed, objects, IsTree, HasFittingNumbers}
use Rattle.std.proofs.lemmas.Bool.{ltb-true}
use Rattle.std.specs.Prelude.{ℤ}
use Rattle.erd_shown.specs.BallotDifferences.{compared_in}
use Rattle.erd_shown.specs.Ballots.{compared_ballot, line_data, lines_of, thing_at, thing_data}
use Rattle.erd_shown.specs.KeyData.{array_of, shown_key, shown_key_or_null, shown_name, shown_order, shown_text_or_null, shown_whole}
use Rattle.erd_shown.specs.ListedNames.{names_on}
use Rattle.erd_shown.proofs.fit.ExactTexts.{compact_exact}
use Rattle.erd_shown.proofs.fit.FitMembers.{fitting_whole}
use Rattle.erd_shown.proofs.told.JsonSets.{itself}

abbrev IsSound : Data → Type 0
IsSound d = IsTree d × HasFittingNumbers d

mapped : {A : Type 0} (f : A → Data) → ((x : A) → IsSound (f x)) → (xs : List A) → IsSound (array_of (map f xs))
mapped f sound [] = (tt, tt)
mapped f sound (x ∷ xs) =
    let first = sound x in
    let rest = mapped f sound xs in
    ((first.0, rest.0), (first.1, rest.1))

below : (n : ℕ) (b : Bool) → nat_lt n (2 ^ 64) ≡ b → IsSound (if b then number (unsigned n) else null)
below n true low = (tt, ltb-true n (2 ^ 64) low)
below n false high = (tt, tt)

above : (n : ℕ) (b : Bool) → nat_lt n (2 ^ 63) ≡ b → IsSound (if b then number (negative (negsuc n)) else null)
above n true low = (tt, ltb-true n (2 ^ 63) low)
above n false high = (tt, tt)

whole_sound : (z : ℤ) → IsSound (shown_whole z)
whole_sound (pos n) = below n (nat_lt n (2 ^ 64)) refl
whole_sound (negsuc n) = above n (nat_lt n (2 ^ 63)) refl

key_sound : (k : Key) → IsSound (shown_key k)
key_sound k = ((tt, (tt, (tt, tt))), (tt, (tt, (tt, tt))))

key_or_null_sound : (k : Option Key) → IsSound (shown_key_or_null k)
key_or_null_sound None = (tt, tt)
key_or_null_sound (Some k) = key_sound k

order_sound : (z : Option ℤ) → IsSound (shown_order z)
order_sound None = (tt, tt)
order_sound (Some z) = whole_sound z

text_sound : (text : Option (List ℕ)) → IsSound (shown_text_or_null text)
text_sound None = (tt, tt)
text_sound (Some text) = (tt, tt)

name_sound : (n : NameParts) → IsSound (shown_name (Some n))
name_sound n =
    let keys = mapped shown_key key_sound n.keys in
    let order = order_sound n.order in
    let label = text_sound n.label in
    let identifier = key_or_null_sound n.identifier in
    ((tt, (keys.0, (tt, (order.0, (label.0, (identifier.0, tt)))))), (tt, (keys.1, (tt, (order.1, (label.1, (identifier.1, tt)))))))

thing_sound : (thing : Bool × Option Key) → IsSound (thing_data thing)
thing_sound (is_header, key) = let k = key_or_null_sound key in ((tt, (k.0, tt)), (tt, (k.1, tt)))

module _ (π : Preference) (t : Data) where
  line_sound : (line : ℕ × Data) → IsSound (line_data π t line)
  line_sound (depth, d) =
      let whole = whole_sound (pos depth) in
      let names = mapped (λ n. shown_name (Some n)) name_sound (names_on π t d) in
      let thing = thing_sound (thing_at π t d) in
      ((refl, whole.0, (refl, tt, (refl, names.0, (tt, thing.0, tt)))), (whole.1, (tt, (names.1, (thing.1, tt)))))

  compared_sound : (d : Data) → IsSound (compared_ballot π t d)
  compared_sound d =
      let k = key_or_null_sound (key_of π d) in
      let lines = mapped (line_data π t) line_sound (lines_of d) in
      let parties = mapped shown_key key_sound _ in
      let units = mapped shown_key key_sound _ in
      ((refl, k.0, (refl, lines.0, (refl, parties.0, (tt, units.0, tt)))), (k.1, (lines.1, (parties.1, (units.1, tt)))))

  placed_sound : (o : Option Placed) → IsSound (option_map_or (λ o. compared_ballot π t o.value) o null)
  placed_sound None = (tt, tt)
  placed_sound (Some o) = compared_sound o.value

  pub ballot_sound : (i : ℕ) → IsSound (compared_in π t i)
  ballot_sound i = placed_sound (slice_get (objects family.Style t) i)

same_values : (a b : Data) → IsSound a → IsSound b → bytes_eq (compact_text a) (compact_text b) ≡ is_same_json a b
same_values a b one other =
    both_ways (bytes_eq (compact_text a) (compact_text b)) (is_same_json a b)
    (λ h. subst (λ x. is_same_json a x ≡ true) (compact_exact a b one.1 other.1 (text_exact _ _ h)) (itself a (fitting_whole a one.1)))
    (λ h. subst (λ x. bytes_eq (compact_text a) (compact_text x) ≡ true) (is_same_exact a b one.0 other.0 h) (text_itself (compact_text a)))

-- two ballots are one value if and only if they have one text
pub same_ballots : (π : Preference) (t : Data) (ρ : Preference) (u : Data) (i j : ℕ)
    → bytes_eq (compact_text (compared_in π t i)) (compact_text (compared_in ρ u j)) ≡ is_same_json (compared_in π t i) (compared_in ρ u j)
same_ballots π t ρ u i j = same_values (compared_in π t i) (compared_in ρ u j) (ballot_sound π t i) (ballot_sound ρ u j)
