-- The lines for a file that cannot be opened, character by character.
use Rattle.std.proofs.Common.{◌≡◌, ◌++◌, ◌∷◌, ◌∙◌, [], ℕ, List, length, refl, ap, sym, append_assoc, append-nil, arith}
use Rattle.std.specs.Prelude.{IsUtf8, encode_utf8}
use Rattle.std.specs.List.{flat_map}
use Rattle.std.proofs.lemmas.Str.{IsUtf8-past_char, chars-nil, chars_past_char}
use Rattle.erd_program.specs.Messages.{character_in_line, name_in_line}

-- the bytes of a character
abbrev shown_bytes : ℕ → List ℕ
shown_bytes character = encode_utf8 (character_in_line character)

-- one more character was pushed
pub shown_more : (lines pushed left rest whole : List ℕ) (c d : ℕ) → IsUtf8 left → lines ++ name_in_line left ≡ whole → left ≡ encode_utf8 c ++ rest
    → pushed ≡ lines ++ encode_utf8 d
    → d ≡ character_in_line c → IsUtf8 rest × (pushed ++ name_in_line rest ≡ whole)
shown_more lines pushed left rest whole c d utf8 before split push is = (
  IsUtf8-past_char left rest c utf8 split,
  ap (λ w. w ++ name_in_line rest) (push ∙ ap (λ e. lines ++ encode_utf8 e) is) ∙ append_assoc lines (shown_bytes c) (name_in_line rest)
      ∙ ap (λ e. lines ++ e) (sym (ap (flat_map shown_bytes) (chars_past_char left rest c utf8 split))) ∙ before,
)

-- no character is left
pub shown_all : (lines left whole : List ℕ) → lines ++ name_in_line left ≡ whole → length left ≡ 0 → lines ≡ whole
shown_all lines [] whole before none = sym (append-nil lines) ∙ ap (λ cs. lines ++ flat_map shown_bytes cs) (sym chars-nil) ∙ before
shown_all lines (x ∷ xs) whole before none = absurd (omega (arith, none))
