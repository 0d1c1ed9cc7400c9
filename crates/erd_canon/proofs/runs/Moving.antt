-- What moves from a buffer to a writer, in one step after another.
use Rattle.erd_canon.proofs.Common.{◌≡◌, ℕ, List, [], ◌++◌, length, take, drop, OnOk, Option, sym, ap, ◌∙◌, subst, append_assoc, append-nil, on_ok_weaker, Ok}
use Rattle.erd_canon.proofs.Common.{Err, Result, OnErr, take-append-drop, on_err_weaker, Appends, IsPartWritten, IsFrontMoved, IsMoved}
use Rattle.std.proofs.KnownBytes.{Appends-trans}
use lib.Seq.{take-append_seam}

pub IsMoved-trans : {a b c : Option (List ℕ)} {p q r : List ℕ} → IsMoved a b p q → IsMoved b c q r → IsMoved a c p r
IsMoved-trans {a} {b} {c} {r = r} m n = record {
  written = m.written ++ n.written;
  wrote = Appends-trans a b c m.written n.written m.wrote n.wrote;
  split = m.split ∙ ap (λ l. m.written ++ l) n.split ∙ sym (append_assoc m.written n.written r);
}

pub IsFrontMoved-trans : {a b c : Option (List ℕ)} {p q : List ℕ} → IsMoved a b p q → IsFrontMoved b c q → IsFrontMoved a c p
IsFrontMoved-trans m n = (n.0, IsMoved-trans m n.1)

-- with more bytes behind
pub IsMoved-behind : {a b : Option (List ℕ)} {p q : List ℕ} (xs : List ℕ) → IsMoved a b p q → IsMoved a b (p ++ xs) (q ++ xs)
IsMoved-behind {q = q} xs m = record { written = m.written; wrote = m.wrote; split = ap (λ l. l ++ xs) m.split ∙ append_assoc m.written q xs }

pub IsFrontMoved-behind : {a b : Option (List ℕ)} {p : List ℕ} (xs : List ℕ) → IsFrontMoved a b p → IsFrontMoved a b (p ++ xs)
IsFrontMoved-behind xs m = (m.0 ++ xs, IsMoved-behind xs m.1)

-- a first part was written
pub IsFrontMoved-part : {a b : Option (List ℕ)} {p : List ℕ} → IsPartWritten a b p → IsFrontMoved a b p
IsFrontMoved-part {p = p} part = (drop part.count p, record { written = take part.count p; wrote = part.wrote; split = sym (take-append-drop part.count p) })

-- the buffer was emptied, and more bytes come
passed : {a b : Option (List ℕ)} {p k : List ℕ} (xs : List ℕ) → IsMoved a b p k → k ≡ [] → IsMoved a b (p ++ xs) xs
passed {a} {b} {p} xs m none = subst (λ l. IsMoved a b (p ++ xs) (l ++ xs)) none (IsMoved-behind xs m)

-- the buffer was emptied, and bytes were written past it
pub IsMoved-through : {a b : Option (List ℕ)} {p k : List ℕ} (c : Option (List ℕ)) (xs : List ℕ) → IsMoved a b p k → k ≡ [] → Appends b c xs
    → IsMoved a c (p ++ xs) k
IsMoved-through c xs m none wrote =
    IsMoved-trans (passed xs m none) (record { written = xs; wrote = wrote; split = sym (ap (λ l. xs ++ l) none ∙ append-nil xs) })

pub IsFrontMoved-through : {a b c : Option (List ℕ)} {p k xs : List ℕ} → IsMoved a b p k → k ≡ [] → IsPartWritten b c xs → IsFrontMoved a c (p ++ xs)
IsFrontMoved-through {xs = xs} m none part = IsFrontMoved-trans (passed xs m none) (IsFrontMoved-part part)

-- the front of what is left was added to the buffer
pub IsMoved-more : {a b c : Option (List ℕ)} {p left q : List ℕ} (k xs rest : List ℕ) → IsMoved a b p (k ++ left) → left ≡ xs ++ rest → IsMoved b c (k ++ xs) q
    → IsMoved a c p (q ++ rest)
IsMoved-more {b = b} {c} {q = q} k xs rest m is n =
    IsMoved-trans m (subst (λ l. IsMoved b c l (q ++ rest)) (append_assoc k xs rest ∙ ap (λ l. k ++ l) (sym is)) (IsMoved-behind rest n))

-- a write failed as the front of what is left was added
pub IsFrontMoved-more : {a b c : Option (List ℕ)} {p left : List ℕ} (k xs rest : List ℕ) → IsMoved a b p (k ++ left) → left ≡ xs ++ rest
    → IsFrontMoved b c (k ++ xs) → IsFrontMoved a c p
IsFrontMoved-more k xs rest m is n = (n.0 ++ rest, IsMoved-more k xs rest m is n.1)

-- a first part of the bytes was written
pub IsPartWritten-moved : {a b : Option (List ℕ)} {p q : List ℕ} → IsMoved a b p q → IsPartWritten a b p
IsPartWritten-moved {a} {b} {q = q} m = record {
  count = length m.written;
  wrote = subst (Appends a b) (sym (ap (take (length m.written)) m.split ∙ take-append_seam m.written q)) m.wrote;
}

-- the first of two parts of a text was added
pub IsMoved-first : {a b : Option (List ℕ)} {k : List ℕ} (h xs ys whole : List ℕ) → whole ≡ xs ++ ys → IsMoved a b (h ++ xs) k
    → IsMoved a b (h ++ whole) (k ++ ys)
IsMoved-first {a} {b} {k} h xs ys whole is m = subst (λ l. IsMoved a b l (k ++ ys)) (append_assoc h xs ys ∙ ap (λ l. h ++ l) (sym is)) (IsMoved-behind ys m)

pub IsFrontMoved-first : {a b : Option (List ℕ)} (h xs ys whole : List ℕ) → whole ≡ xs ++ ys → IsFrontMoved a b (h ++ xs) → IsFrontMoved a b (h ++ whole)
IsFrontMoved-first h xs ys whole is m = (m.0 ++ ys, IsMoved-first h xs ys whole is m.1)

-- what a last call adds
pub last_moved : {X E : Type 0} {a b : Option (List ℕ)} {p q : List ℕ} (r : Result X E) (c : Option (List ℕ)) (s : List ℕ) → IsMoved a b p q
    → OnOk r (IsMoved b c q s) → OnOk r (IsMoved a c p s)
last_moved r c s m is = on_ok_weaker r (λ n. IsMoved-trans m n) is

pub last_part : {X E : Type 0} {a b : Option (List ℕ)} {p q : List ℕ} (r : Result X E) (c : Option (List ℕ)) → IsMoved a b p q → OnErr r (IsFrontMoved b c q)
    → OnErr r (IsFrontMoved a c p)
last_part r c m is = on_err_weaker r (λ n. IsFrontMoved-trans m n) is

-- a first part of the bytes was written, whether the last write failed or not
pub part_of_last : {X E : Type 0} {a b c : Option (List ℕ)} {p q : List ℕ} (r : Result X E) (s : List ℕ) → IsMoved a b p q → OnOk r (IsMoved b c q s)
    → OnErr r (IsFrontMoved b c q) → IsPartWritten a c p
part_of_last (Ok x) s m done front = IsPartWritten-moved (IsMoved-trans m done)
part_of_last (Err e) s m done front = IsPartWritten-moved (IsFrontMoved-trans m front).1
