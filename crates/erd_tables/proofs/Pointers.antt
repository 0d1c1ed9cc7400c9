-- Names without `~` and `/` stand in a pointer as they are.
use Rattle.std.proofs.Common.{◌≡◌, ℕ, suc, ◌<◌, ◌≤◌, List, [], ◌∷◌, ◌++◌, length, Bool, true, false, ◌||◌, ◌==◌, get_or, refl, append-nil, append_assoc, ap}
use Rattle.std.proofs.Common.{sym, ◌∙◌, arith, rules, ◌⊎◌, ⊎_elim}
use Rattle.std.specs.Prelude.{encode_utf8}
use Rattle.std.proofs.lemmas.Str.{NoCharPasses-byte}
use Rattle.erd_tables.specs.Places.{escaped_byte, escaped_name}

abbrev pub is_escaped : ℕ → Bool
is_escaped x = (x == 126) || (x == 47)

plain_byte : (x : ℕ) (a b : Bool) → (x == 126) ≡ a → (x == 47) ≡ b → a || b ≡ false → escaped_byte x ≡ x ∷ []
plain_byte x true b e f h = cc
plain_byte x false true e f h = cc
plain_byte x false false e f h = rw (e, f)

-- bytes that are not escaped stand in front as they are
pub kept : (bs rest : List ℕ) → ((i : ℕ) → i < length bs → is_escaped (get_or bs i 0) ≡ false) → escaped_name (bs ++ rest) ≡ bs ++ escaped_name rest
kept [] rest h = refl
kept (b ∷ bs) rest h =
    rw (plain_byte b (b == 126) (b == 47) refl refl (h 0 (omega arith)), kept bs rest (λ i l. h (suc i) (omega arith)))

not_ascii : (x : ℕ) → 128 ≤ x → is_escaped x ≡ false
not_ascii x h = grind arith

low_or_high : (x : ℕ) → (x < 128) ⊎ (128 ≤ x)
low_or_high x = search rules

byte_kept : (c i : ℕ) → is_escaped c ≡ false → i < length (encode_utf8 c) → is_escaped (get_or (encode_utf8 c) i 0) ≡ false
byte_kept c i plain l = ⊎_elim
    (λ low. NoCharPasses-byte is_escaped (encode_utf8 c) i (c ∷ [], append-nil (encode_utf8 c), (plain, tt)) l low)
    (λ high. not_ascii (get_or (encode_utf8 c) i 0) high)
    (low_or_high (get_or (encode_utf8 c) i 0))

character_kept : (c : ℕ) (rest : List ℕ) → is_escaped c ≡ false → escaped_name (encode_utf8 c ++ rest) ≡ encode_utf8 c ++ escaped_name rest
character_kept c rest plain = kept (encode_utf8 c) rest (λ i l. byte_kept c i plain l)

not_escaped : (c : ℕ) → (c ≡ 126 → ⊥) → (c ≡ 47 → ⊥) → is_escaped c ≡ false
not_escaped c tilde slash = grind arith

-- a character that is not escaped goes over from what is left to what is written
pub moved : (text written rest left whole : List ℕ) (c : ℕ) → (c ≡ 126 → ⊥) → (c ≡ 47 → ⊥) → text ++ escaped_name left ≡ whole
    → left ≡ encode_utf8 c ++ rest → written ≡ text ++ encode_utf8 c → written ++ escaped_name rest ≡ whole
moved text written rest left whole c tilde slash before split pushed =
    ap (λ w. w ++ escaped_name rest) pushed ∙ append_assoc text (encode_utf8 c) (escaped_name rest)
    ∙ ap (λ e. text ++ e) (sym (character_kept c rest (not_escaped c tilde slash)) ∙ ap escaped_name (sym split)) ∙ before
