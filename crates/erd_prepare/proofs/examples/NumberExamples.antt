-- The numbers of small texts, by computation.
use Rattle.std.proofs.Common.{◌≡◌, ◌∷◌, [], arith, false, true, codes, inr, lit<, refl, rules}
use Rattle.std.specs.Float.{binary64}
use Rattle.std.specs.Fmt.{digits}
use Rattle.std.specs.Float.Numeral.{IsWellFormed, Parts, nearest_float as nearest}
use Rattle.ryu.specs.Plain.{IsLaidOut, IsPlain}
use Rattle.serde_json.specs.Data.{float, unsigned, number}
use Rattle.serde_json.proofs.OnLiterals.{serde_json_on_literals}
use Rattle.erd_prepare.specs.Numbers.{AreChangedNumbers, IsChanged, IsWritten, column_behind, line_behind, none, numbers_from, numbers_in, string_length}
use Rattle.erd_prepare.specs.Reading.{IsReadAs}

-- in {"1.5":[-0,"a\"2",1e2]} two numbers stand in no string
two_numbers : numbers_in (codes "{\"1.5\":[-0,\"a\\\"2\",1e2]}")
    ≡ (record { before = 8; token = codes "-0" }) ∷ (record { before = 18; token = codes "1e2" }) ∷ []
unfolding numbers_from string_length
two_numbers = refl

-- a string that ends by a backslash, and the number behind it
behind_a_string : numbers_in (codes "[\"\\\\\",7]") ≡ (record { before = 6; token = codes "7" }) ∷ []
unfolding numbers_from string_length
behind_a_string = refl

-- a number at the end of a text, and a name in which a digit does not begin
at_the_end : numbers_in (codes "true 10") ≡ (record { before = 5; token = codes "10" }) ∷ []
unfolding numbers_from string_length
at_the_end = refl

-- what stands behind two line feeds and a blank is on line 3, at column 2
on_line_3 : line_behind (codes "[1,\n2,\n ") ≡ 3
on_line_3 = refl

at_column_2 : column_behind (codes "[1,\n2,\n ") ≡ 2
at_column_2 = refl

-- the first byte of a text
first_byte : (line_behind [] ≡ 1) × (column_behind [] ≡ 1)
first_byte = (refl, refl)

-- a whole number is written by its digits
is_written : IsWritten (unsigned 120) (codes "120")
unfolding digits
is_written = refl

-- a text without a number has none that changes
nothing_changes : AreChangedNumbers (codes "[\"1.50\"]") []
unfolding numbers_from string_length
nothing_changes = none

reads_7 : IsReadAs (codes "7") (number (unsigned 7))
unfolding serde_json_on_literals
reads_7 = record { is_text = (codes "7", (refl, refl)); value = refl }

-- 1.50 is read as the float whose text is 1.5
parts : Parts
parts = record { whole = codes "1"; point = true; fraction = codes "5"; exponent_negative = false; exponent = []; len = 3 }

well_formed : IsWellFormed parts
unfolding parts
well_formed = record {
  whole_digits = search rules;
  fraction_digits = search rules;
  exponent_digits = search rules;
  no_point = λ point. cc;
  no_exponent = λ none. refl;
  len_is = refl;
}

plain : IsPlain parts
unfolding parts
plain = record { well_formed = well_formed; whole = lit< tt; no_leading_zero = λ zero. refl; fraction = λ point. lit< tt; marked = λ point. cc }

laid_out : IsLaidOut 16 4 parts
unfolding parts
laid_out =
    record {
      few_digits = λ no high. omega arith;
      few_zeros = λ no zero. (let absurd : ⊥ = omega arith in elim absurd [ ]);
      trimmed = λ some. inr (lit< tt);
      one_digit = λ some. elim some [ ];
      far = λ some. elim some [ ];
    }

changes : IsChanged (codes "1.50") (codes "1.5")
unfolding serde_json_on_literals parts
changes = record {
  value = float (nearest binary64 false parts);
  was_read = record { is_text = (codes "1.50", (refl, refl)); value = refl };
  is_written = (refl, (false, parts, refl, plain, laid_out));
  differs = λ same. cc;
}
