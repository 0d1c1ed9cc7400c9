-- The selections of a contest stand one after another among those of the report, after those of the contests before.
use Rattle.erd_meaning.proofs.Common.{◌≡◌, ℕ, zero, suc, ◌+◌, ◌<◌, ◌⊎◌, List, [], ◌∷◌, ◌++◌, length, slice_get, refl, ap, inl, inr, ⊎_elim, arith, Bool, false}
use Rattle.erd_meaning.proofs.Common.{map, ◌==◌, codes, flat_map, sym, ◌∙◌, ap₂, append_assoc, append-nil, length-append, map-append, filter_map-append, Data}
use Rattle.erd_meaning.proofs.Common.{family_number, Family, family, Preference, Placed, placed_entries, report_of, elections, contests, selections_of_contest}
use Rattle.erd_meaning.proofs.Common.{has_several, numbered_selections_of, numbered_selections, contests_before, Kept, Located, located, contest_located}
use Rattle.erd_meaning.proofs.Common.{inside_election, election_located, shared_located, object_met, objects_among, kept_objects, numbered_from, ◌≤◌, true}
use Rattle.erd_meaning.proofs.Common.{cond, leb, get_or as slice_index_or, take, Some, None, Option, option_and_then, subst, true≢false, get_or-append-add}
use Rattle.erd_meaning.proofs.Common.{le-leb, Decides-eqb, leb_tells, length-map, get_or_append_left, AllByRecursion, IsNonDecreasingBy, ⊤, selections_before}
use Rattle.erd_meaning.proofs.Common.{IsStart, is_of_family, if_of_contest, StandFrom, false_from_ne_true}
use Rattle.erd_meaning.proofs.selections.NamesTold.{Numbered}
use Rattle.erd_meaning.proofs.identity.ObjectFamilies.{itself}

-- the positions of the first of two lists
pub get_first : {A : Type 0} (xs ys : List A) (i : ℕ) → i < length xs → slice_get (xs ++ ys) i ≡ slice_get xs i
get_first [] ys i low = absurd (omega arith)
get_first (x ∷ xs) ys zero low = refl
get_first (x ∷ xs) ys (suc i) low = get_first xs ys i (omega arith)

-- the positions of the second
pub get_later : {A : Type 0} (xs ys : List A) (i m : ℕ) → i ≡ length xs + m → slice_get (xs ++ ys) i ≡ slice_get ys m
get_later [] ys i m e = let same : i ≡ m = omega arith in ap (slice_get ys) same
get_later (x ∷ xs) ys zero m e = absurd (omega arith)
get_later (x ∷ xs) ys (suc i) m e = get_later xs ys i m (omega arith)

-- a position in a list of this length, or so far after it
pub within_or_after : (n i : ℕ) → (i < n) ⊎ ((m : ℕ) × (i ≡ n + m))
within_or_after zero i = let same : i ≡ 0 + i = omega arith in inr (i, same)
within_or_after (suc n) zero = inl (omega arith)
within_or_after (suc n) (suc i) =
    ⊎_elim (λ (low : i < n). inl (omega arith)) (λ (r : (m : ℕ) × (i ≡ n + m)). let e : i ≡ n + r.0 = r.1 in let later : suc i ≡ suc n + r.0 = omega arith in
    inr (r.0, later)) (within_or_after n i)

-- ---- how many contests stand before each selection that is kept of a report is the number of its contest and one

-- what is kept of objects at their places
abbrev objects_of : List Located → List Kept
objects_of xs = objects_among (map (λ x. x.met) xs)

objects_of-append : (xs ys : List Located) → objects_of (xs ++ ys) ≡ objects_of xs ++ objects_of ys
objects_of-append xs ys = ap objects_among (map-append (λ (x : Located). x.met) xs ys)
    ∙ filter_map-append object_met (map (λ x. x.met) xs) (map (λ x. x.met) ys)

-- how many contests there are up to those of the selections
abbrev pub counts_of : List Numbered → List ℕ
counts_of ss = map {A = Numbered} (λ s. s.0 + 1) ss

-- these objects stand first: what is noted of them, and how many contests have been met after them
abbrev Counts : List Located → ℕ → List ℕ → ℕ → Type 0
Counts xs n noted m = (ks : List Kept) → contests_before n (objects_of xs ++ ks) ≡ noted ++ contests_before m ks

counts-append : (xs ys : List Located) (n m l : ℕ) (a b : List ℕ) → Counts xs n a m → Counts ys m b l → Counts (xs ++ ys) n (a ++ b) l
counts-append xs ys n m l a b first later ks =
    ap (λ zs. contests_before n (zs ++ ks)) (objects_of-append xs ys) ∙ ap (contests_before n) (append_assoc (objects_of xs) (objects_of ys) ks)
    ∙ first (objects_of ys ++ ks) ∙ ap (λ ns. a ++ ns) (later ks) ∙ sym (append_assoc a b (contests_before l ks))

-- ---- objects of one family

passed : (π : Preference) (f : Family) → (family_number f == family_number family.Selection) ≡ false → (family_number f == family_number family.Contest) ≡ false
    → (os : List Placed) (n : ℕ) → Counts (located π f os) n [] n
passed π f s c [] n ks = refl
passed π f s c (o ∷ os) n ks = rw (s, c) (passed π f s c os n ks)

selections_counted : (π : Preference) (k : ℕ) (os : List Placed) → Counts (located π family.Selection os) (k + 1)
    (counts_of (map {B = Numbered} (λ o. (k, o)) os)) (k + 1)
selections_counted π k [] ks = refl
selections_counted π k (o ∷ os) ks = ap (λ ns. (k + 1) ∷ ns) (selections_counted π k os ks)

-- ---- contests

contest_counted : (π : Preference) (k : ℕ) (o : Placed) → Counts (contest_located π o) k (counts_of (numbered_selections_of (k, o))) (k + 1)
contest_counted π k o ks = selections_counted π k (selections_of_contest o) ks

pub counts_of-append : (ss rs : List Numbered) → counts_of (ss ++ rs) ≡ counts_of ss ++ counts_of rs
counts_of-append ss rs = map-append {A = Numbered} (λ s. s.0 + 1) ss rs

contests_counted : (π : Preference) (k : ℕ) (os : List Placed) → Counts (flat_map (contest_located π) os) k (counts_of (numbered_from k os)) (k + length os)
contests_counted π k [] ks = let none : k ≡ k + 0 = omega arith in ap (λ n. contests_before n ks) none
contests_counted π k (o ∷ os) ks =
    let next : k + 1 + length os ≡ k + length (o ∷ os) = omega arith in
    counts-append (contest_located π o) (flat_map (contest_located π) os) k (k + 1) (k + 1 + length os) (counts_of (numbered_selections_of (k, o)))
    (counts_of (numbered_from (k + 1) os))
    (contest_counted π k o) (contests_counted π (k + 1) os) ks
    ∙ ap₂ (λ ns m. ns ++ contests_before m ks) (sym (counts_of-append (numbered_selections_of (k, o)) (numbered_from (k + 1) os))) next

-- ---- elections

abbrev contests_of : Placed → List Placed
contests_of e = placed_entries (codes "Contest") e

election_counted : (π : Preference) (k : ℕ) (e : Placed) → Counts (inside_election π e) k (counts_of (numbered_from k (contests_of e)))
    (k + length (contests_of e))
election_counted π k e =
    let styles = placed_entries (codes "BallotStyle") e in
    let candidates = placed_entries (codes "Candidate") e in
    counts-append (located π family.Style styles) (located π family.Candidate candidates ++ flat_map (contest_located π) (contests_of e)) k k
    (k + length (contests_of e)) [] (counts_of (numbered_from k (contests_of e)))
    (passed π family.Style refl refl styles k)
    (counts-append (located π family.Candidate candidates) (flat_map (contest_located π) (contests_of e)) k k (k + length (contests_of e)) []
    (counts_of (numbered_from k (contests_of e)))
    (passed π family.Candidate refl refl candidates k) (contests_counted π k (contests_of e)))

pub numbered_from-append : (k : ℕ) (os ps : List Placed) → numbered_from k (os ++ ps) ≡ numbered_from k os ++ numbered_from (k + length os) ps
numbered_from-append k [] ps = let none : k ≡ k + 0 = omega arith in ap (λ n. numbered_from n ps) none
numbered_from-append k (o ∷ os) ps =
    let next : k + 1 + length os ≡ k + length (o ∷ os) = omega arith in
    ap (λ ss. numbered_selections_of (k, o) ++ ss) (numbered_from-append (k + 1) os ps ∙ ap (λ n. numbered_from (k + 1) os ++ numbered_from n ps) next)
    ∙ sym (append_assoc {A = Numbered} (numbered_selections_of (k, o)) (numbered_from (k + 1) os) (numbered_from (k + length (o ∷ os)) ps))

elections_counted : (π : Preference) (b : Bool) (k : ℕ) (es : List Placed)
    → Counts (flat_map (election_located π b) es) k (counts_of (numbered_from k (flat_map contests_of es))) (k + length (flat_map contests_of es))
elections_counted π b k [] ks = let none : k ≡ k + 0 = omega arith in ap (λ n. contests_before n ks) none
elections_counted π b k (e ∷ es) ks =
    let here = contests_of e in
    let later = flat_map contests_of es in
    let all : k + length here + length later ≡ k + length (here ++ later) = omega (arith, length-append {A = Placed}) in
    counts-append (election_located π b e) (flat_map (election_located π b) es) k (k + length here) (k + length here + length later)
    (counts_of (numbered_from k here)) (counts_of (numbered_from (k + length here) later))
    (election_counted π k e) (elections_counted π b (k + length here) es) ks ∙ ap₂ (λ ns m. ns ++ contests_before m ks)
    (sym (ap counts_of (numbered_from-append k here later) ∙ counts_of-append (numbered_from k here) (numbered_from (k + length here) later))) all

-- ---- the report

shared_counted : (π : Preference) (n : ℕ) (r : Placed) → Counts (shared_located π r) n [] n
shared_counted π n r =
    let at = λ (name : List ℕ). placed_entries name r in
    counts-append (located π family.Unit (at (codes "GpUnit"))) _ n n n [] [] (passed π family.Unit refl refl (at (codes "GpUnit")) n)
    (counts-append (located π family.Header (at (codes "Header"))) _ n n n [] [] (passed π family.Header refl refl (at (codes "Header")) n)
    (counts-append (located π family.Office (at (codes "Office"))) _ n n n [] [] (passed π family.Office refl refl (at (codes "Office")) n)
    (counts-append (located π family.Party (at (codes "Party"))) (located π family.Person (at (codes "Person"))) n n n [] []
    (passed π family.Party refl refl (at (codes "Party")) n) (passed π family.Person refl refl (at (codes "Person")) n))))

pub contests_counted_in : (π : Preference) (t : Data) → contests_before 0 (kept_objects π t) ≡ counts_of (numbered_selections t)
contests_counted_in π t =
    let n = 0 + length (contests t) in
    ap (contests_before 0) (sym (append-nil (kept_objects π t)))
    ∙ counts-append (flat_map (election_located π (has_several t)) (elections t)) (shared_located π (report_of t)) 0 n n (counts_of (numbered_selections t)) []
    (elections_counted π (has_several t) 0 (elections t)) (shared_counted π n (report_of t)) []
    ∙ ap (λ ns. ns ++ []) (append-nil (counts_of (numbered_selections t))) ∙ append-nil (counts_of (numbered_selections t))

-- ---- the numbers of contests rise

Rises : ℕ → List ℕ → Type 0
Rises n [] = ⊤
Rises n (x ∷ xs) = (n ≤ x) × Rises x xs

from_less : (m n : ℕ) (xs : List ℕ) → m ≤ n → Rises n xs → Rises m xs
unfolding Rises
from_less m n [] low h = tt
from_less m n (x ∷ xs) low h = let first : n ≤ x = h.0 in (omega arith, h.1)

before_rises : (n : ℕ) (ks : List Kept) → Rises n (contests_before n ks)
unfolding Rises
before_rises n [] = tt
before_rises n (k ∷ ks) = at (family_number k.family == family_number family.Selection) (is_of_family family.Contest k) (before_rises n ks)
    (before_rises (n + 1) ks)
  where
    next : (b : Bool) → Rises n (contests_before n ks) → Rises (n + 1) (contests_before (n + 1) ks) → Rises n (contests_before (cond b (n + 1) n) ks)
    next true same more = from_less n (n + 1) (contests_before (n + 1) ks) (omega arith) more
    next false same more = same

    at : (a b : Bool) → Rises n (contests_before n ks) → Rises (n + 1) (contests_before (n + 1) ks)
        → Rises n (cond a (n ∷ []) [] ++ contests_before (cond b (n + 1) n) ks)
    at true b same more = (omega arith, next b same more)
    at false b same more = next b same more

above_first : (n : ℕ) (xs : List ℕ) (j d : ℕ) → Rises n xs → j < length xs → n ≤ slice_index_or xs j d
unfolding Rises
above_first n [] j d h low = absurd (omega arith)
above_first n (x ∷ xs) zero d h low = h.0
above_first n (x ∷ xs) (suc j) d h low =
    let first : n ≤ x = h.0 in
    let later : x ≤ slice_index_or xs j d = above_first x xs j d h.1 (omega arith) in
    omega arith

rising : (n : ℕ) (xs : List ℕ) → Rises n xs → IsNonDecreasingBy (λ y. y) xs
unfolding Rises
rising n [] h i j d low high = absurd (omega arith)
rising n (x ∷ xs) h zero zero d low high = omega arith
rising n (x ∷ xs) h zero (suc j) d low high = above_first x xs j d h.1 (omega arith)
rising n (x ∷ xs) h (suc i) zero d low high = absurd (omega arith)
rising n (x ∷ xs) h (suc i) (suc j) d low high = rising x xs h.1 i j d (omega arith) (omega arith)

-- the numbers of the contests of selections rise
pub before_rising : (ks : List Kept) → IsNonDecreasingBy (λ y. y) (contests_before 0 ks)
before_rising ks = rising 0 (contests_before 0 ks) (before_rises 0 ks)

-- ---- the selections of one contest among all

pub all_both : {A : Type 0} (P : A → Type 0) (xs ys : List A) → AllByRecursion P xs → AllByRecursion P ys → AllByRecursion P (xs ++ ys)
all_both P [] ys h k = k
all_both P (x ∷ xs) ys h k = (h.0, all_both P xs ys h.1 k)

of_number : (P : Numbered → Type 0) (n : ℕ) (os : List Placed) → ((o : Placed) → P (n, o)) → AllByRecursion P (map {B = Numbered} (λ o. (n, o)) os)
of_number P n [] each = tt
of_number P n (o ∷ os) each = (each o, of_number P n os each)

all_later : (m n : ℕ) (cs : List Placed) → m < n → AllByRecursion {X = Numbered} (λ s. m < s.0) (numbered_from n cs)
all_later m n [] low = tt
all_later m n (c ∷ cs) low =
    all_both {A = Numbered} (λ s. m < s.0) (numbered_selections_of (n, c)) (numbered_from (n + 1) cs)
    (of_number (λ s. m < s.0) n (selections_of_contest c) (λ o. low)) (all_later m (n + 1) cs (omega arith))

-- as many as the contests have
many_of_contest : (n : ℕ) (c : Placed) → length (numbered_selections_of (n, c)) ≡ length (selections_of_contest c)
many_of_contest n c = length-map {B = Numbered} (selections_of_contest c) (λ p. (n, p))

many_in : List Placed → ℕ
many_in cs = length (flat_map selections_of_contest cs)

one_more : (c : Placed) (cs : List Placed) (n m : ℕ) → n ≡ length (selections_of_contest c) → m ≡ many_in cs → n + m ≡ many_in (c ∷ cs)
unfolding many_in
one_more c cs n m e f = ap₂ ◌+◌ e f ∙ sym (length-append {A = Placed} (selections_of_contest c) (flat_map selections_of_contest cs))

many_of_contests : (n : ℕ) (cs : List Placed) → length (numbered_from n cs) ≡ many_in cs
unfolding many_in
many_of_contests n [] = refl
many_of_contests n (c ∷ cs) =
    length-append {A = Numbered} (numbered_selections_of (n, c)) (numbered_from (n + 1) cs)
    ∙ one_more c cs (length (numbered_selections_of (n, c))) (length (numbered_from (n + 1) cs)) (many_of_contest n c) (many_of_contests (n + 1) cs)

-- the selections before those of a contest and after them
record Split (ss : List Numbered) (k : ℕ) (o : Placed) (many : ℕ) : Type 0 where
  before : List Numbered
  after : List Numbered
  whole : ss ≡ before ++ (numbered_selections_of (k, o) ++ after)
  low : AllByRecursion {X = Numbered} (λ s. s.0 < k) before
  high : AllByRecursion {X = Numbered} (λ s. k < s.0) after
  count : length before ≡ many

split : (n : ℕ) (cs : List Placed) (k : ℕ) (o : Placed) → slice_get cs k ≡ Some o → Split (numbered_from n cs) (n + k) o (many_in (take k cs))
unfolding many_in
split n [] k o at = cc
split n (c ∷ cs) zero o at =
    let same : c ≡ o = cc in
    let sum : n ≡ n + 0 = omega arith in
    subst (λ m. Split (numbered_from n (c ∷ cs)) m o 0) sum (record {
      before = [];
      after = numbered_from (n + 1) cs;
      whole = ap (λ (p : Placed). numbered_selections_of (n, p) ++ numbered_from (n + 1) cs) same;
      low = tt;
      high = all_later n (n + 1) cs (omega arith);
      count = refl;
    })
split n (c ∷ cs) (suc k) o at =
    let h = split (n + 1) cs k o at in
    let sum : n + 1 + k ≡ n + suc k = omega arith in
    subst (λ m. Split (numbered_from n (c ∷ cs)) m o (many_in (c ∷ take k cs))) sum (record {
      before = numbered_selections_of (n, c) ++ h.before;
      after = h.after;
      whole = ap (λ (ss : List Numbered). numbered_selections_of (n, c) ++ ss) h.whole
          ∙ sym (append_assoc {A = Numbered} (numbered_selections_of (n, c)) h.before (numbered_selections_of (n + 1 + k, o) ++ h.after));
      low = all_both {A = Numbered} (λ s. s.0 < n + 1 + k) (numbered_selections_of (n, c)) h.before
          (of_number (λ s. s.0 < n + 1 + k) n (selections_of_contest c) (λ p. omega arith)) h.low;
      high = h.high;
      count = length-append {A = Numbered} (numbered_selections_of (n, c)) h.before ∙ one_more c (take k cs) (length (numbered_selections_of (n, c)))
          (length h.before) (many_of_contest n c) h.count;
    })

all_below : (n : ℕ) (cs : List Placed) (k : ℕ) → slice_get cs k ≡ None → AllByRecursion {X = Numbered} (λ s. s.0 < n + k) (numbered_from n cs)
all_below n [] k at = tt
all_below n (c ∷ cs) zero at = cc
all_below n (c ∷ cs) (suc k) at =
    let sum : n + 1 + k ≡ n + suc k = omega arith in
    subst (λ m. AllByRecursion {X = Numbered} (λ s. s.0 < m) (numbered_from n (c ∷ cs))) sum
    (all_both {A = Numbered} (λ s. s.0 < n + 1 + k) (numbered_selections_of (n, c)) (numbered_from (n + 1) cs)
    (of_number (λ s. s.0 < n + 1 + k) n (selections_of_contest c) (λ p. omega arith)) (all_below (n + 1) cs k at))

-- ---- where they begin

not_leb : (a b : ℕ) → b < a → leb a b ≡ false
not_leb a b high = ⊎_elim (λ (h : (leb a b ≡ true) × (a ≤ b)). let low : a ≤ b = h.1 in absurd (omega arith))
    (λ (h : (leb a b ≡ false) × (b < a)). h.0) (leb_tells a b)

counts_low : (k : ℕ) (ss : List Numbered) (j d : ℕ) → AllByRecursion {X = Numbered} (λ s. s.0 < k) ss → j < length (counts_of ss)
    → leb (slice_index_or (counts_of ss) j d) k ≡ true
counts_low k [] j d h low = absurd (omega arith)
counts_low k (s ∷ ss) zero d h low = let less : s.0 < k = h.0 in le-leb (s.0 + 1) k (omega arith)
counts_low k (s ∷ ss) (suc j) d h low = counts_low k ss j d h.1 (omega arith)

counts_high : (k : ℕ) (ss : List Numbered) (j d : ℕ) → AllByRecursion {X = Numbered} (λ s. k ≤ s.0) ss → j < length (counts_of ss)
    → leb (slice_index_or (counts_of ss) j d) k ≡ false
counts_high k [] j d h low = absurd (omega arith)
counts_high k (s ∷ ss) zero d h low = let more : k ≤ s.0 = h.0 in not_leb (s.0 + 1) k (omega arith)
counts_high k (s ∷ ss) (suc j) d h low = counts_high k ss j d h.1 (omega arith)

many : (ss : List Numbered) → length (counts_of ss) ≡ length ss
many ss = length-map {A = Numbered} ss (λ s. s.0 + 1)

module _ (k r : ℕ) (ss rs : List Numbered) (start : IsStart (counts_of ss ++ counts_of rs) k r) (low : AllByRecursion {X = Numbered} (λ s. s.0 < k) ss)
    (high : AllByRecursion {X = Numbered} (λ s. k ≤ s.0) rs) where
  abbrev ms : List ℕ
  ms = counts_of ss

  abbrev ns : List ℕ
  ns = counts_of rs

  long : length (ms ++ ns) ≡ length ms + length ns
  long = length-append ms ns

  too_low : r < length ss → ⊥
  too_low less =
      let inside : r < length ms = omega (arith, many ss) in
      let told : leb (slice_index_or (ms ++ ns) r 0) k ≡ false = start.1.1 r 0 (omega arith) (omega (arith, long)) in
      let same : slice_index_or (ms ++ ns) r 0 ≡ slice_index_or ms r 0 = get_or_append_left ms ns 0 r inside in
      true≢false (sym (counts_low k ss r 0 low inside) ∙ ap (λ n. leb n k) (sym same) ∙ told)

  too_high : length ss < r → ⊥
  too_high more =
      let bound : r ≤ length (ms ++ ns) = start.0 in
      let inside : 0 < length ns = omega (arith, many ss, long, bound) in
      let place : length ms + 0 < r = omega (arith, many ss) in
      let told : leb (slice_index_or (ms ++ ns) (length ms + 0) 0) k ≡ true = start.1.0 (length ms + 0) 0 (omega arith) place in
      let same : slice_index_or (ms ++ ns) (length ms + 0) 0 ≡ slice_index_or ns 0 0 = get_or-append-add ms ns 0 0 in
      true≢false (sym told ∙ ap (λ n. leb n k) same ∙ counts_high k rs 0 0 high inside)

  -- the place after those of lesser numbers is the only one
  one_start : r ≡ length ss
  one_start = at (within_or_after (length ss) r)
    where
      by : (m : ℕ) → r ≡ length ss + m → r ≡ length ss
      by zero e = omega arith
      by (suc m) e = absurd (too_high (omega arith))

      at : (r < length ss) ⊎ ((m : ℕ) × (r ≡ length ss + m)) → r ≡ length ss
      at (inl less) = absurd (too_low less)
      at (inr after) = by after.0 after.1

-- ---- what stands there

not_same : (m n : ℕ) → n < m → (m == n) ≡ false
not_same m n less = false_from_ne_true (m == n) (λ e. let same : m ≡ n = (Decides-eqb m n).0 e in omega arith)

none_of_later : (k : ℕ) (ss : List Numbered) (i : ℕ) → AllByRecursion {X = Numbered} (λ s. k < s.0) ss → option_and_then (if_of_contest k)
    (slice_get ss i) ≡ None
none_of_later k [] i h = refl
none_of_later k (s ∷ ss) zero h = ap (λ b. cond b (Some s.1) None) (not_same s.0 k h.0)
none_of_later k (s ∷ ss) (suc i) h = none_of_later k ss i h.1

own_selections : (k : ℕ) (os : List Placed) (i : ℕ) → option_and_then (if_of_contest k) (slice_get (map {B = Numbered} (λ o. (k, o)) os) i) ≡ slice_get os i
own_selections k [] i = refl
own_selections k (o ∷ os) zero = ap (λ b. cond b (Some o) None) (itself k)
own_selections k (o ∷ os) (suc i) = own_selections k os i

past_end : {A : Type 0} (xs : List A) (i m : ℕ) → i ≡ length xs + m → slice_get xs i ≡ None
past_end [] i m e = refl
past_end (x ∷ xs) zero m e = absurd (omega arith)
past_end (x ∷ xs) (suc i) m e = past_end xs i m (omega arith)

from_contest : (k i : ℕ) (o : Placed) (after : List Numbered) → AllByRecursion {X = Numbered} (λ s. k < s.0) after
    → option_and_then (if_of_contest k) (slice_get (numbered_selections_of (k, o) ++ after) i) ≡ slice_get (selections_of_contest o) i
from_contest k i o after high = at (within_or_after (length own) i)
  where
    own : List Numbered
    own = numbered_selections_of (k, o)

    at : (i < length own) ⊎ ((m : ℕ) × (i ≡ length own + m)) → option_and_then (if_of_contest k) (slice_get (own ++ after) i)
        ≡ slice_get (selections_of_contest o) i
    at (inl low) = ap (option_and_then (if_of_contest k)) (get_first own after i low) ∙ own_selections k (selections_of_contest o) i
    at (inr past) =
        let same : length own ≡ length (selections_of_contest o) = length-map {B = Numbered} (selections_of_contest o) (λ p. (k, p)) in
        ap (option_and_then (if_of_contest k)) (get_later own after i past.0 past.1) ∙ none_of_later k after past.0 high
        ∙ sym (past_end (selections_of_contest o) i past.0 (past.1 ∙ ap (λ n. n + past.0) same))

all_high : (k : ℕ) (os : List Placed) (after : List Numbered) → AllByRecursion {X = Numbered} (λ s. k < s.0) after
    → AllByRecursion {X = Numbered} (λ s. k ≤ s.0) (map {B = Numbered} (λ o. (k, o)) os ++ after)
all_high k [] [] h = tt
all_high k [] (s ∷ ss) h = let less : k < s.0 = h.0 in (omega arith, all_high k [] ss h.1)
all_high k (o ∷ os) after h = (omega arith, all_high k os after h)

taken_all : (cs : List Placed) (k : ℕ) → slice_get cs k ≡ None → take k cs ≡ cs
taken_all [] zero e = refl
taken_all [] (suc k) e = refl
taken_all (c ∷ cs) zero e = cc
taken_all (c ∷ cs) (suc k) e = ap (λ os. c ∷ os) (taken_all cs k e)

module _ (cs : List Placed) (k : ℕ) where
  zero_more : 0 + k ≡ k
  zero_more = omega arith

  parted : (o : Placed) → slice_get cs k ≡ Some o → Split (numbered_from 0 cs) k o (many_in (take k cs))
  parted o e = subst (λ m. Split (numbered_from 0 cs) m o (many_in (take k cs))) zero_more (split 0 cs k o e)

  all_before : slice_get cs k ≡ None → length (numbered_from 0 cs) ≡ many_in (take k cs)
  all_before e = many_of_contests 0 cs ∙ ap many_in (sym (taken_all cs k e))

  -- the start is after the selections of the contests before
  start_is : (r : ℕ) → IsStart (counts_of (numbered_from 0 cs)) k r → r ≡ many_in (take k cs)
  start_is r start = at (slice_get cs k) refl
    where
      at : (o : Option Placed) → slice_get cs k ≡ o → r ≡ many_in (take k cs)
      at None e =
          let low : AllByRecursion {X = Numbered} (λ s. s.0 < k) (numbered_from 0 cs) =
          subst (λ m. AllByRecursion {X = Numbered} (λ s. s.0 < m) (numbered_from 0 cs)) zero_more (all_below 0 cs k e) in
          let whole = sym (counts_of-append (numbered_from 0 cs) []) ∙ ap counts_of (append-nil (numbered_from 0 cs)) in
          one_start k r (numbered_from 0 cs) [] (subst (λ ns. IsStart ns k r) (sym whole) start) low tt ∙ all_before e
      at (Some o) e =
          let h = parted o e in
          let rest = numbered_selections_of (k, o) ++ h.after in
          let whole = ap counts_of h.whole ∙ counts_of-append h.before rest in
          one_start k r h.before rest (subst (λ ns. IsStart ns k r) whole start) h.low (all_high k (selections_of_contest o) h.after h.high) ∙ h.count

  -- the selections that stand at and after the start
  found_at : (r i : ℕ) → r ≡ many_in (take k cs) → option_and_then (if_of_contest k) (slice_get (numbered_from 0 cs) (r + i))
      ≡ option_and_then (λ o. slice_get (selections_of_contest o) i) (slice_get cs k)
  found_at r i start = at (slice_get cs k) refl
    where
      at : (o : Option Placed) → slice_get cs k ≡ o → option_and_then (if_of_contest k) (slice_get (numbered_from 0 cs) (r + i))
          ≡ option_and_then (λ o. slice_get (selections_of_contest o) i) o
      at None e = ap (option_and_then (if_of_contest k)) (past_end (numbered_from 0 cs) (r + i) i (ap (λ n. n + i) (start ∙ sym (all_before e))))
      at (Some o) e =
          let h = parted o e in
          let rest = numbered_selections_of (k, o) ++ h.after in
          ap (λ (ss : List Numbered). option_and_then (if_of_contest k) (slice_get ss (r + i))) h.whole
          ∙ ap (option_and_then (if_of_contest k)) (get_later h.before rest (r + i) i (ap (λ n. n + i) (start ∙ sym h.count)))
          ∙ from_contest k i o h.after h.high

-- the start, by the contests before
pub start_counted : (t : Data) (k r : ℕ) → IsStart (counts_of (numbered_selections t)) k r → r ≡ selections_before t k
unfolding many_in
start_counted t k r start = start_is (contests t) k r start

-- and the selections of the contest stand from there on
pub stand_from_start : (t : Data) (k r : ℕ) → r ≡ selections_before t k → StandFrom t k r
unfolding many_in
stand_from_start t k r start i = found_at (contests t) k r i start
