-- Worked examples of what is written of texts, and of keys with their numbers, by computation.
use Rattle.std.proofs.Common.{◌≡◌, ℕ, [], ◌∷◌, ◌++◌, replicate, codes, refl}
use Rattle.std.specs.Hash.{le_bytes, u64}
use Rattle.erd_index.specs.Salts.{AreNumbered, bytes_in, first_word, keys_in, long_length, salted_number, text_number, text_writes, whole_part}
use Rattle.erd_index.specs.declared.salt.Salt.{Salt}
use Rattle.erd_index.specs.declared.salted.Salted.{Salted}

-- a short text is one word: its bytes, zeros, and its length
short_texts : (text_writes (codes "gp1") ≡ (103 ∷ 112 ∷ 49 ∷ 0 ∷ 0 ∷ 0 ∷ 0 ∷ 3 ∷ []) ∷ [])
    × (text_writes [] ≡ (0 ∷ 0 ∷ 0 ∷ 0 ∷ 0 ∷ 0 ∷ 0 ∷ 0 ∷ []) ∷ [])
short_texts = (refl, refl)

-- of ten bytes the last two are in the first word, and the whole word follows it; of eight there are none
whole_texts : (text_writes (codes "precinct 7") ≡ (32 ∷ 55 ∷ 0 ∷ 0 ∷ 0 ∷ 0 ∷ 0 ∷ 10 ∷ []) ∷ codes "precinct" ∷ [])
    × (text_writes (codes "precinct") ≡ (0 ∷ 0 ∷ 0 ∷ 0 ∷ 0 ∷ 0 ∷ 0 ∷ 8 ∷ []) ∷ codes "precinct" ∷ [])
whole_texts = (refl, refl)

-- 253 fits into the first word; for 254 and 255 stands 254, and the length follows
long_texts : (first_word (replicate 253 97) ≡ 97 ∷ 97 ∷ 97 ∷ 97 ∷ 97 ∷ 0 ∷ 0 ∷ 253 ∷ []) × (long_length 253 ≡ [])
    × (first_word (replicate 254 97) ≡ 97 ∷ 97 ∷ 97 ∷ 97 ∷ 97 ∷ 97 ∷ 0 ∷ 254 ∷ []) × (long_length 254 ≡ (254 ∷ 0 ∷ 0 ∷ 0 ∷ 0 ∷ 0 ∷ 0 ∷ 0 ∷ []) ∷ [])
    × (first_word (replicate 255 97) ≡ 97 ∷ 97 ∷ 97 ∷ 97 ∷ 97 ∷ 97 ∷ 97 ∷ 254 ∷ []) × (long_length 255 ≡ (255 ∷ 0 ∷ 0 ∷ 0 ∷ 0 ∷ 0 ∷ 0 ∷ 0 ∷ []) ∷ [])
    × (whole_part (replicate 255 97) ≡ replicate 248 97 ∷ [])
unfolding le_bytes
long_texts = (refl, refl, refl, refl, refl, refl, refl)

-- the hasher doesn't see where a write ends, so what is written of a text tells it: "ab" and "c" are not "a" and "bc"
ends : (bytes_in ((1 ∷ 2 ∷ []) ∷ (3 ∷ []) ∷ []) ≡ bytes_in ((1 ∷ []) ∷ (2 ∷ 3 ∷ []) ∷ []))
    × (bytes_in (text_writes (codes "ab") ++ text_writes (codes "c")) ≡ 97 ∷ 98 ∷ 0 ∷ 0 ∷ 0 ∷ 0 ∷ 0 ∷ 2 ∷ 99 ∷ 0 ∷ 0 ∷ 0 ∷ 0 ∷ 0 ∷ 0 ∷ 1 ∷ [])
    × (bytes_in (text_writes (codes "a") ++ text_writes (codes "bc")) ≡ 97 ∷ 0 ∷ 0 ∷ 0 ∷ 0 ∷ 0 ∷ 0 ∷ 1 ∷ 98 ∷ 99 ∷ 0 ∷ 0 ∷ 0 ∷ 0 ∷ 0 ∷ 2 ∷ [])
ends = (refl, refl, refl)

-- a number has the number of the text of its eight bytes
number_as_text : (salt : Salt) → salted_number salt (u64 513) ≡ text_number salt (1 ∷ 2 ∷ 0 ∷ 0 ∷ 0 ∷ 0 ∷ 0 ∷ 0 ∷ [])
unfolding le_bytes
number_as_text salt = refl

-- two keys with the numbers that the salt gives them, in the order in which they came
abbrev numbered : Salt → ℕ → Salted ℕ
numbered salt key = record { number = salted_number salt (u64 key); key = key }

two_keys : (salt : Salt) → AreNumbered u64 salt (numbered salt 30 ∷ numbered salt 20 ∷ []) × (keys_in (numbered salt 30 ∷ numbered salt 20 ∷ []) ≡ 30 ∷ 20 ∷ [])
two_keys salt = ((refl, (refl, tt)), refl)
