-- Whole numbers that are written with a fraction of zeros, as `1.0`, or with an exponent, as `1e2`.
use Rattle.std.specs.Prelude.{◌^◌, [], Bool, false, ◌&&◌, if◌then◌else◌, Option, Some, None, ℤ, pos, neg_ℤ, int_lt, Float}
use Rattle.std.specs.Float.{binary64, float_to_signed}
use Rattle.std.specs.Float.Ieee.{eq, of_int}
use Rattle.std.specs.Int.{w64}
use Rattle.serde_json.specs.Data.{Data, number, float}
use Rattle.serde_json.specs.Find.{of_integer}
use Rattle.erd_prepare.specs.Rules.{Rule, scope_in}

-- True for a whole number that no other number near it has the same float as.
abbrev pub is_held_whole : ℤ → Bool
is_held_whole z = int_lt (neg_ℤ (pos (2 ^ 53))) z && int_lt z (pos (2 ^ 53))

-- The whole number that a float is, given the float without its fraction.
abbrev pub whole_of : Float → ℤ → Option Data
whole_of x z = if eq (of_int binary64 z) x && is_held_whole z then Some (number (of_integer z)) else None

-- The whole number that a value is.
abbrev pub whole_form : Data → Option Data
whole_form (number (float x)) = whole_of x (float_to_signed w64 x)
whole_form d = None

-- The step: each such number is written whole, in carried values too.
abbrev pub whole_numbers : Rule
whole_numbers = record {
  scopes = scope_in;
  shapes = λ p w d. whole_form d;
  wraps = λ p w d. false;
  drops = λ p s k d. false;
  lets_go = λ p w d. false;
  puts = λ p w d. [];
}
