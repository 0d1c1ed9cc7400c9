-- Numbers that are given to things, as a map has them.
use Rattle.std.specs.Prelude.{ℕ, ◌≡◌, ◌<◌, List, Bool, true, Option, Some, map}
use Rattle.std.specs.Map.{lookup}

-- Each number in a map is that of one thing, and below the next number.
pub record AreDistinct {K : Type 0} (same : K → K → Bool) (entries : List (K × ℕ)) (next : ℕ) : Type 0 where
  pub below : (x : K) (n : ℕ) → lookup (same x) entries ≡ Some n → n < next
  pub one : (x y : K) (n : ℕ) → lookup (same x) entries ≡ Some n → lookup (same y) entries ≡ Some n → same x y ≡ true

-- A thing that has a number in one map has it in the other.
abbrev pub AreKept : {K : Type 0} → (K → K → Bool) → List (K × ℕ) → List (K × ℕ) → Type 0
AreKept {K} same old new = (x : K) (n : ℕ) → lookup (same x) old ≡ Some n → lookup (same x) new ≡ Some n

-- What a map is after it was given more things: the numbers that it had are kept, and each number is that of one thing if it was.
pub record IsGrown {K : Type 0} (same : K → K → Bool) (old : List (K × ℕ)) (before : ℕ) (new : List (K × ℕ)) (next : ℕ) : Type 0 where
  pub kept : AreKept same old new
  pub distinct : AreDistinct same old before → AreDistinct same new next

-- A thing has this number.
pub record IsNumbered {K : Type 0} (same : K → K → Bool) (x : K) (old : List (K × ℕ)) (before : ℕ) (new : List (K × ℕ)) (next n : ℕ) : Type 0 where
  pub grown : IsGrown same old before new next
  pub has : lookup (same x) new ≡ Some n

-- Things have these numbers.
pub record AreAllNumbered {K : Type 0} (same : K → K → Bool) (xs : List K) (old : List (K × ℕ)) (before : ℕ) (new : List (K × ℕ)) (next : ℕ) (ns : List ℕ)
    : Type 0 where
  pub grown : IsGrown same old before new next
  pub have : map (λ x. lookup (same x) new) xs ≡ map Some ns

-- The things of two lists have these numbers. Two of them have the same number if and only if they are the same.
pub record AreNumbered {K : Type 0} (same : K → K → Bool) (xs ys : List K) (ms ns : List ℕ) : Type 0 where
  pub number : K → Option ℕ
  pub lefts : map number xs ≡ map Some ms
  pub rights : map number ys ≡ map Some ns
  pub alike : (x y : K) → same x y ≡ true → number x ≡ number y
  pub one : (x y : K) (n : ℕ) → number x ≡ Some n → number y ≡ Some n → same x y ≡ true
