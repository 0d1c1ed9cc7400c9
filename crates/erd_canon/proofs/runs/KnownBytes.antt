-- What a loop of reads or writes keeps of the known bytes.
use Rattle.erd_canon.proofs.Common.{◌≡◌, ℕ, ◌+◌, ◌<◌, ◌≤◌, Bool, false, List, ◌++◌, length, take, drop, Option, sym, subst, arith, length-append, take-add}
use Rattle.erd_canon.proofs.Common.{Appends, Consumes, Exceeds, IsReadWhole}
use Rattle.std.specs.Io.KnownBytes.{IsAtEnd}
use Rattle.std.proofs.KnownBytes.{Appends-trans, Consumes-trans}

-- the reads so far: no more bytes than the limit, each read gave one at least, and none failed
pub record IsFilled (limit room : ℕ) (failed : Bool) (first_read reads first_given given : ℕ) (before after : Option (List ℕ)) (bytes : List ℕ) : Type 0 where
  pub in_limit : length bytes ≤ limit
  pub has_room : 0 < room
  pub works : failed ≡ false
  pub counted : reads ≤ first_read + length bytes
  pub gave : given ≡ first_given + length bytes
  pub came : Consumes before after bytes

-- a write of n more bytes
pub Appends-more : (a b c : Option (List ℕ)) (xs : List ℕ) (i n : ℕ) → Appends a b (take i xs) → Appends b c (take n (drop i xs))
    → Appends a c (take (i + n) xs)
Appends-more a b c xs i n p q = subst (Appends a c) (sym (take-add i n xs)) (Appends-trans a b c _ _ p q)

-- more bytes than the limit
pub Exceeds-more : (limit : ℕ) (a b c : Option (List ℕ)) (xs more : List ℕ) → Consumes a b xs → Consumes b c more
    → limit < length xs + length more → Exceeds limit a c
Exceeds-more limit a b c xs more p q lt = (xs ++ more, Consumes-trans a b c xs more p q, omega (arith, length-append xs more))

-- a reader was read to its end
pub read_whole : {limit n : ℕ} {before after : Option (List ℕ)} {bytes : List ℕ} → Consumes before after bytes × IsAtEnd after → n ≡ length bytes → n ≤ limit
    → IsReadWhole limit before after bytes
read_whole {limit} all same few = record { came = all.0; ended = all.1; in_limit = subst (λ m. m ≤ limit) same few }
