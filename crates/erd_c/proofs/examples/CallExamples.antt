-- What a call tells of the JSON `null`, which has one fault, and what it tells of wrong arguments.
use Rattle.std.proofs.Common.{◌≡◌, ◌<◌, Bool, true, false, List, [], ◌∷◌, length, codes, refl, ap, inl, inr, arith}
use Rattle.std.specs.Str.{IsUtf8}
unfoldable use Rattle.std.specs.Str.{is_utf8, chars}
use Rattle.std.proofs.lemmas.Str.{is_utf8-from_IsUtf8}
use Rattle.erd_canon.proofs.examples.EngineExamples.{null_refused, root_kind}
use Rattle.erd_canon.specs.Run.{IsChecked}
use Rattle.erd_canon.specs.declared.engines.outcome.Outcome.TheVariants.{Bad}
use Rattle.erd_c.specs.Told.{IsCall, IsPut, IsTelling, IsWrong}
use Rattle.erd_c.specs.declared.call_result.Told.{Told}

-- ---- what is put into the room

-- what the text leaves of the room is as before
put_in_front : IsPut (codes "same\n") (codes "0123456789") (codes "same\n56789")
put_in_front = record { fits = λ less. refl; too_long = λ less. absurd (omega (arith, less)) }

-- one byte too few, and the room is as before
no_room : IsPut (codes "same\n") (codes "0123") (codes "0123")
no_room = record { fits = λ less. absurd (omega (arith, less)); too_long = λ less. refl }

not_emptied : IsPut (codes "same\n") (codes "0123") [] → ⊥
not_emptied put = let same = ap length (put.too_long (omega arith)) in omega (arith, same)

-- ---- what is told of a report that is refused

abbrev pub fault_told : Told
fault_told = record { outcome = 1; length = 13 }

pub line_told : IsTelling Bad (codes ": wrong kind\n") fault_told (codes "0123456789abcde") (codes ": wrong kind\nde")
line_told = record { status = refl; count = refl; put = record { fits = λ less. refl; too_long = λ less. absurd (omega (arith, less)) } }

-- four bytes and no preference are no wrong arguments
pub right_arguments : IsWrong false [] 4 → ⊥
right_arguments (inl (prefers, no_text)) = absurd (cc prefers)
right_arguments (inr long) = absurd (omega (arith, long))

checked : IsCall (λ π. IsChecked π (codes "null")) false [] 4 fault_told (codes "0123456789abcde") (codes ": wrong kind\nde")
unfolding root_kind
checked = record {
  answered = λ few. record { outcome = Bad; text = codes ": wrong kind\n"; answers = (root_kind ∷ [], null_refused, refl); telling = line_told };
  silent = λ high. absurd (omega (arith, high));
  wrong = ((λ is. absurd (omega (arith, is))), (λ is. absurd (right_arguments is)));
  known = omega arith;
}

-- the text is told by its length where the room is too small, and the room is as before
checked_in_no_room : IsCall (λ π. IsChecked π (codes "null")) false [] 4 fault_told (codes "0123") (codes "0123")
unfolding root_kind
checked_in_no_room = record {
  answered = λ few. record {
    outcome = Bad;
    text = codes ": wrong kind\n";
    answers = (root_kind ∷ [], null_refused, refl);
    telling = record { status = refl; count = refl; put = record { fits = λ less. absurd (omega (arith, less)); too_long = λ less. refl } };
  };
  silent = λ high. absurd (omega (arith, high));
  wrong = ((λ is. absurd (omega (arith, is))), (λ is. absurd (right_arguments is)));
  known = omega arith;
}

-- ---- what is told of wrong arguments

pub no_text : IsUtf8 (255 ∷ []) → ⊥
unfolding is_utf8 chars
no_text is = let told : false ≡ true = is_utf8-from_IsUtf8 (255 ∷ []) is in absurd (cc told)

-- a preference that is not UTF-8
wrong_preference : IsCall (λ π. IsChecked π (codes "null")) true (255 ∷ []) 4 (record { outcome = 3; length = 0 }) (codes "0123") (codes "0123")
wrong_preference = record {
  answered = λ few. absurd (omega (arith, few));
  silent = λ high. record { count = refl; kept = refl };
  wrong = ((λ is. inl (refl, no_text)), (λ is. refl));
  known = omega arith;
}

-- the same bytes are right where no preference is asked for
unused_preference : IsCall (λ π. IsChecked π (codes "null")) false (255 ∷ []) 4 (record { outcome = 3; length = 0 }) [] [] → ⊥
unused_preference call = no (call.wrong.0 refl)
  where
    no : IsWrong false (255 ∷ []) 4 → ⊥
    no (inl (prefers, no_text)) = absurd (cc prefers)
    no (inr long) = absurd (omega (arith, long))

-- a report that is a byte too long is wrong, and never out of memory
too_long : IsCall (λ π. IsChecked π (codes "null")) false [] 67108865 (record { outcome = 4; length = 0 }) [] [] → ⊥
too_long call = let is : 4 ≡ 3 = call.wrong.1 (inr (omega arith)) in omega (arith, is)
