-- When the indexes of a table of objects agree with the objects.
use Rattle.std.specs.Prelude.{◌≡◌, ◌&&◌, ◌==◌, ℕ, List, Bool, Option}
use Rattle.std.specs.Ordering.{is_eq}
use Rattle.erd_index.specs.Salts.{salted_number, text_number}
use Rattle.erd_index.specs.declared.salt.Salt.{Salt}
use Rattle.erd_index.specs.declared.salted.Salted.{Salted}
use Rattle.erd_tables.specs.Classes.{family_number}
use Rattle.erd_tables.specs.declared.class.Family.{Family}
use Rattle.erd_meaning.specs.Hashes.{key_writes}
use Rattle.erd_meaning.specs.Keys.{key_cmp}
use Rattle.erd_meaning.specs.code.ObjectIndexes.{contests_before, number_of_id, number_of_key, places_from}
use Rattle.erd_meaning.specs.code.ObjectWalk.{Kept}
use Rattle.erd_meaning.specs.declared.keys.key.Key.{Key}
use Rattle.std.specs.Str.{bytes_eq}
use denote.Ref.{Bor}

-- True if both the families and the keys are equal.
abbrev pub same_owned : Family × Key → Family × Key → Bool
same_owned a b = (family_number a.0 == family_number b.0) && is_eq (key_cmp a.1 b.1)

-- True if a key of the index is this `@id`.
abbrev pub is_salted_id : Salt → List ℕ → Salted (Bor (List ℕ)) → Bool
is_salted_id salt id k = (text_number salt id == k.number) && bytes_eq id k.key.now

-- True if a key of the index is this key of this family. The number is that of the key alone.
abbrev pub is_salted_owned : Salt → Family × Key → Salted (Family × Key) → Bool
is_salted_owned salt a k = (salted_number salt (key_writes a.1) == k.number) && same_owned a k.key

-- Each index answers what a search among the objects finds.
pub record IsIndexed (ks : List Kept) (places : Family → List ℕ) (before : List ℕ) (by_id : List ℕ → Option (Family × ℕ))
    (by_key : Family → Key → Option ℕ) : Type 0 where
  pub places_are : (f : Family) → places f ≡ places_from f 0 ks
  pub contests_are : before ≡ contests_before 0 ks
  pub ids_are : (id : List ℕ) → by_id id ≡ number_of_id ks id
  pub keys_are : (f : Family) (key : Key) → by_key f key ≡ number_of_key ks f key
