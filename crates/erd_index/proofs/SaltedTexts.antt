-- What is written of a number or of a text tells where it ends.
use Rattle.std.proofs.Common.{◌≡◌, ◌<◌, ◌-◌, ◌%◌, ◌^◌, ℕ, Bool, true, false, cond, nat_lt, List, [], ◌∷◌, ◌++◌, length, take, drop, replicate, fold}
use Rattle.std.proofs.Common.{get_or, min, append-nil, refl, sym, ap, ◌∙◌, arith}
use Rattle.std.specs.Hash.{HashWrites, le_bytes, u64, usize}
use Rattle.std.specs.Hash.DefaultHasher.{write}
use Rattle.std.specs.declared.hash.DefaultHasher.{DefaultHasher}
use Rattle.std.specs.Int.{w64, to_le_bytes, from_le_bytes}
use Rattle.std.proofs.lemmas.Bool.Decides.{Decides-ltb}
use Rattle.std.proofs.lemmas.Nat.{from_le_bytes-to_le_bytes_8}
use Rattle.std.proofs.lemmas.List.{length-append, length-drop, length-replicate, length-take, take-append-drop}
use Rattle.std.proofs.lemmas.Grind.{flat_map-append, fold-append}
use Rattle.erd_index.specs.Salts.{bytes_in, first_word, long_length, short_length, text_writes, whole_part, whole_words}

-- ---- lists

pub append_assoc : {A : Type 0} (xs ys zs : List A) → (xs ++ ys) ++ zs ≡ xs ++ (ys ++ zs)
append_assoc [] ys zs = refl
append_assoc (x ∷ xs) ys zs = ap (λ l. x ∷ l) (append_assoc xs ys zs)

-- Two lists that are joined alike and begin with parts of one length have equal parts.
pub same_parts : {A : Type 0} (xs ys us vs : List A) → length xs ≡ length ys → xs ++ us ≡ ys ++ vs → (xs ≡ ys) × (us ≡ vs)
same_parts [] [] us vs many same = (refl, same)
same_parts [] (y ∷ ys) us vs many same = absurd (omega arith)
same_parts (x ∷ xs) [] us vs many same = absurd (omega arith)
same_parts (x ∷ xs) (y ∷ ys) us vs many same =
    let first : x ≡ y = cc in
    let rest : xs ++ us ≡ ys ++ vs = cc in
    let both = same_parts xs ys us vs (omega arith) rest in
    ((λ i. first i ∷ both.0 i), both.1)

-- ---- numbers

-- Two words that are written before something, and written alike, are equal.
pub word_ends : (m n : ℕ) (us vs : List ℕ) → m < 2 ^ 64 → n < 2 ^ 64 → bytes_in (u64 m) ++ us ≡ bytes_in (u64 n) ++ vs → (m ≡ n) × (us ≡ vs)
unfolding le_bytes
word_ends m n us vs p q same =
    let bytes : to_le_bytes w64 m ≡ to_le_bytes w64 n = ap (take 8) same in
    (sym (from_le_bytes-to_le_bytes_8 m p) ∙ ap (from_le_bytes w64) bytes ∙ from_le_bytes-to_le_bytes_8 n q, ap (drop 8) same)

-- What follows some writes.
pub bytes_after : (ws xs : HashWrites) (us : List ℕ) → bytes_in (ws ++ xs) ++ us ≡ bytes_in ws ++ (bytes_in xs ++ us)
bytes_after ws xs us = ap (λ l. l ++ us) (flat_map-append (λ w. w) ws xs) ∙ append_assoc (bytes_in ws) (bytes_in xs) us

-- ---- the first word of a text

-- The bytes of a text after its whole words, and zeros.
low_bytes : List ℕ → List ℕ
low_bytes text = drop (whole_words (length text)) text ++ replicate (7 - length text % 8) 0

rest_length : (text : List ℕ) → length (drop (whole_words (length text)) text) ≡ length text % 8
rest_length text = length-drop (whole_words (length text)) text ∙ omega arith

seven : (text : List ℕ) → length (low_bytes text) ≡ 7
unfolding low_bytes
seven text =
    omega (
      arith,
      length-append (drop (whole_words (length text)) text) (replicate (7 - length text % 8) 0),
      rest_length text,
      length-replicate {A = ℕ} (7 - length text % 8) 0,
    )

split_word : (text : List ℕ) → first_word text ≡ low_bytes text ++ short_length (length text) ∷ []
unfolding low_bytes
split_word text = sym (append_assoc (drop (whole_words (length text)) text) (replicate (7 - length text % 8) 0) (short_length (length text) ∷ []))

-- The bytes of a text in the order in which they are written, with what follows them.
text_bytes : (text us : List ℕ) → bytes_in (text_writes text) ++ us
    ≡ low_bytes text ++ (short_length (length text) ∷ (bytes_in (long_length (length text)) ++ (bytes_in (whole_part text) ++ us)))
text_bytes text us =
    append_assoc (first_word text) (bytes_in (long_length (length text) ++ whole_part text)) us
    ∙ ap (λ l. l ++ (bytes_in (long_length (length text) ++ whole_part text) ++ us)) (split_word text)
    ∙ append_assoc (low_bytes text) (short_length (length text) ∷ []) (bytes_in (long_length (length text) ++ whole_part text) ++ us)
    ∙ ap (λ l. low_bytes text ++ (short_length (length text) ∷ l)) (bytes_after (long_length (length text)) (whole_part text) us)

whole_bytes : (text : List ℕ) → bytes_in (whole_part text) ≡ take (whole_words (length text)) text
whole_bytes text = at (nat_lt (length text) 8) refl
  where
    at : (b : Bool) → nat_lt (length text) 8 ≡ b → bytes_in (cond b [] (take (whole_words (length text)) text ∷ [])) ≡ take (whole_words (length text)) text
    at true is = let none : whole_words (length text) ≡ 0 = omega (arith, (Decides-ltb (length text) 8).0 is) in ap (λ n. take n text) (sym none)
    at false is = append-nil (take (whole_words (length text)) text)

-- ---- lengths

-- What stands for a length, and the length if it is long, tell the length.
lengths_end : (m n : ℕ) (us vs : List ℕ) → m < 2 ^ 64 → n < 2 ^ 64 → short_length m ≡ short_length n
    → bytes_in (long_length m) ++ us ≡ bytes_in (long_length n) ++ vs → (m ≡ n) × (us ≡ vs)
lengths_end m n us vs p q = at (nat_lt m 254) (nat_lt n 254) refl refl
  where
    at : (b c : Bool) → nat_lt m 254 ≡ b → nat_lt n 254 ≡ c → cond b m 254 ≡ cond c n 254
        → bytes_in (cond b [] (usize m)) ++ us ≡ bytes_in (cond c [] (usize n)) ++ vs → (m ≡ n) × (us ≡ vs)
    at true true b c short same = (short, same)
    at true false b c short same = absurd (omega (arith, (Decides-ltb m 254).0 b, short))
    at false true b c short same = absurd (omega (arith, (Decides-ltb n 254).0 c, short))
    at false false b c short same = word_ends m n us vs p q same

short_small : (n : ℕ) → short_length n < 255
short_small n = at (nat_lt n 254) refl
  where
    at : (b : Bool) → nat_lt n 254 ≡ b → cond b n 254 < 255
    at true is = omega (arith, (Decides-ltb n 254).0 is)
    at false is = omega arith

-- ---- texts

-- Two texts that are written before something, and written alike, are equal.
pub text_ends : (xs ys us vs : List ℕ) → length xs < 2 ^ 64 → length ys < 2 ^ 64 → bytes_in (text_writes xs) ++ us ≡ bytes_in (text_writes ys) ++ vs
    → (xs ≡ ys) × (us ≡ vs)
unfolding low_bytes
text_ends xs ys us vs p q same =
    let w = whole_words (length xs) in
    let v = whole_words (length ys) in
    let first = same_parts (low_bytes xs) (low_bytes ys) _ _ (seven xs ∙ sym (seven ys)) (sym (text_bytes xs us) ∙ same ∙ text_bytes ys vs) in
    let short : short_length (length xs) ≡ short_length (length ys) = ap (λ l. get_or l 0 0) first.1 in
    let many = lengths_end (length xs) (length ys) _ _ p q short (ap (drop 1) first.1) in
    let rests = same_parts (drop w xs) (drop v ys) _ _ (rest_length xs ∙ ap (λ n. n % 8) many.0 ∙ sym (rest_length ys)) first.0 in
    let wholes = same_parts (take w xs) (take v ys) us vs (length-take w xs ∙ (λ i. min (whole_words (many.0 i)) (many.0 i)) ∙ sym (length-take v ys))
    (ap (λ l. l ++ us) (sym (whole_bytes xs)) ∙ many.1 ∙ ap (λ l. l ++ vs) (whole_bytes ys)) in
    (sym (take-append-drop w xs) ∙ (λ i. wholes.0 i ++ rests.0 i) ∙ take-append-drop v ys, wholes.1)

-- No text begins with the word of which each byte is 255.
pub no_text : (xs us vs : List ℕ) → bytes_in (text_writes xs) ++ us ≡ bytes_in (u64 (2 ^ 64 - 1)) ++ vs → ⊥
unfolding le_bytes low_bytes
no_text xs us vs same =
    let first = same_parts (low_bytes xs) (255 ∷ 255 ∷ 255 ∷ 255 ∷ 255 ∷ 255 ∷ 255 ∷ []) _ (255 ∷ vs) (seven xs) (sym (text_bytes xs us) ∙ same) in
    let short : short_length (length xs) ≡ 255 = ap (λ l. get_or l 0 0) first.1 in
    absurd (omega (arith, short, short_small (length xs)))

-- ---- what the hasher sees

-- Std's hasher sees no more of some writes than their bytes.
pub bytes_alone : (ws : HashWrites) (h : DefaultHasher) → fold write h ws ≡ write h (bytes_in ws)
unfolding write
bytes_alone [] h = refl
bytes_alone (w ∷ ws) h = bytes_alone ws (write h w) ∙ sym (fold-append _ h w (bytes_in ws))
