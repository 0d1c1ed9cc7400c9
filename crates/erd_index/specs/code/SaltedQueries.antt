-- What is looked up under a salt is hashed as the key that it finds, and tells keys apart as the set does.
use Rattle.std.proofs.Common.{◌≡◌, ◌==◌, ◌&&◌, Bool, true, ap, ap₂}
use Rattle.std.specs.Hash.{u64}
use Rattle.std.proofs.lemmas.Bool.Decides.{Decides-eqb}
use Rattle.std.proofs.lemmas.Bool.{and_parts}
use Rattle.erd_index.specs.declared.salted.Salted.{Salted}
use Rattle.erd_index.specs.declared.salted_set.Numbered.{Numbered}

module _ {Q K : Type 0} (asks : Q → K → Bool) where
  -- True if this is the key that is sought.
  abbrev finds : Numbered Q → Salted K → Bool
  finds q k = (q.number == k.number) && asks q.sought k.key

  pub asked_alike : (q : Numbered Q) (k : Salted K) → finds q k ≡ true → u64 q.number ≡ u64 k.number
  asked_alike q k e = ap u64 ((Decides-eqb q.number k.number).0 (and_parts (q.number == k.number) (asks q.sought k.key) e).0)

pub asked_equal : {Q K : Type 0} (same : K → K → Bool) (asks : Q → K → Bool) → ((q : Q) (x y : K) → asks q x ≡ true → asks q y ≡ same x y)
    → (q : Numbered Q) (x y : Salted K) → finds asks q x ≡ true → finds asks q y ≡ ((x.number == y.number) && same x.key y.key)
asked_equal same asks respects q x y e =
    let both = and_parts (q.number == x.number) (asks q.sought x.key) e in
    ap₂ (λ n b. (n == y.number) && b) ((Decides-eqb q.number x.number).0 both.0) (respects q.sought x.key y.key both.1)
