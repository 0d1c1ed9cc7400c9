-- The numbers by which an index hashes its keys under a salt.
use Rattle.std.specs.Prelude.{◌≡◌, ◌-◌, ◌%◌, ℕ, List, [], ◌∷◌, ◌++◌, drop, fold, if◌then◌else◌, length, map, nat_lt, replicate, take}
use Rattle.std.specs.Hash.{HashWrites, u64, usize}
use Rattle.std.specs.Hash.DefaultHasher.{finish, initial, write}
use Rattle.std.specs.List.{flat_map, AllByRecursion}
use Rattle.std.specs.declared.hash.DefaultHasher.{DefaultHasher}
use Rattle.erd_index.specs.declared.salt.Salt.{Salt}
use Rattle.erd_index.specs.declared.salt_hasher.SaltHasher.{SaltHasher}
use Rattle.erd_index.specs.declared.salted.Salted.{Salted}

-- The hasher that has been given the words of the salt, and nothing else.
abbrev pub start_of : Salt → DefaultHasher
start_of salt = salt.start

-- The number that std's default hasher computes from the salt and then from what it is given.
abbrev pub salted_number : Salt → HashWrites → ℕ
salted_number salt ws = finish (fold write salt.start ws)

-- The number of a text: the hasher is given its bytes.
abbrev pub text_number : Salt → List ℕ → ℕ
text_number salt text = finish (write salt.start text)

-- The keys without their numbers: what contracts see of a set.
abbrev pub keys_in : {K : Type 0} → List (Salted K) → List K
keys_in keys = map (λ s. s.key) keys

-- What contracts see of a set under a salt: the hasher that its salt starts, and the keys.
pub record SaltedKeys (K : Type 0) : Type 0 where
  pub start : DefaultHasher
  pub keys : List K

-- Each key has the number that the salt gives it.
abbrev pub AreNumbered : {K : Type 0} → (K → HashWrites) → Salt → List (Salted K) → Type 0
AreNumbered writes salt keys = AllByRecursion (λ s. s.number ≡ salted_number salt (writes s.key)) keys

-- ---- what a salt is computed from

-- The bytes of some writes, which is all that std's default hasher sees of them.
abbrev pub bytes_in : HashWrites → List ℕ
bytes_in ws = flat_map (λ w. w) ws

-- How many bytes of a text of this length are in whole words.
abbrev pub whole_words : ℕ → ℕ
whole_words n = n - n % 8

-- What stands for the length of a text in its first word. The number 255 stands for none.
abbrev pub short_length : ℕ → ℕ
short_length n = if nat_lt n 254 then n else 254

-- The first word of a text: the bytes after its whole words, zeros, and what stands for its length.
abbrev pub first_word : List ℕ → List ℕ
first_word text = drop (whole_words (length text)) text ++ (replicate (7 - length text % 8) 0 ++ short_length (length text) ∷ [])

-- The length of a text, if its first word has no room for it.
abbrev pub long_length : ℕ → HashWrites
long_length n = if nat_lt n 254 then [] else usize n

-- The whole words of a text, if there are some.
abbrev pub whole_part : List ℕ → HashWrites
whole_part text = if nat_lt (length text) 8 then [] else take (whole_words (length text)) text ∷ []

-- What is written of a text: its first word, its length if that is long, and its whole words.
abbrev pub text_writes : List ℕ → HashWrites
text_writes text = first_word text ∷ (long_length (length text) ++ whole_part text)

-- The two hashers that have been given nothing but their first words.
abbrev pub unfed : SaltHasher
unfed = record { first = fold write initial (u64 1); second = fold write initial (u64 2) }

-- The two hashers after these writes, which both are given.
abbrev pub fed : SaltHasher → HashWrites → SaltHasher
fed hasher ws = record { first = fold write hasher.first ws; second = fold write hasher.second ws }

-- The start of the salt whose words the two hashers have computed.
abbrev pub salt_start : SaltHasher → DefaultHasher
salt_start hasher = fold write initial (u64 (finish hasher.first) ++ u64 (finish hasher.second))

-- The start of the salt that joins two.
abbrev pub joined_start : DefaultHasher → DefaultHasher → DefaultHasher
joined_start one other = fold write one (u64 (finish other) ++ u64 (finish (fold write other (u64 0))))
