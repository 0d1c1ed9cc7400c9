-- The steps inside a value: the names of members, and the positions of entries.
use Rattle.erd_check.proofs.Common.{◌≡◌, ℕ, suc, ◌+◌, ◌<◌, List, [], ◌∷◌, ◌++◌, length, Some, nat_cmp, is_eq, Less, Equal, sym, ap, ◌∙◌, subst, arith}
use Rattle.erd_check.proofs.Common.{length-append, bytes_eq-Decides, slice_cmp, AllByRecursion, Data, Members, no_members, member, get_member, names}
use Rattle.std.proofs.lemmas.Map.Text.{is_eq-slice_cmp}
use Rattle.erd_check.proofs.Shapes.{found_cases}

-- ---- names

pub text_from_equal : (k l : List ℕ) → slice_cmp nat_cmp k l ≡ Equal → k ≡ l
text_from_equal k l e = (bytes_eq-Decides k l).0 (sym (is_eq-slice_cmp k l) ∙ ap is_eq e)

-- what holds of all names holds of one that is found
pub found_all : (P : List ℕ → Type 0) (n : List ℕ) (d : Data) (ms : Members) → get_member n ms ≡ Some d → AllByRecursion P (names ms) → P n
found_all P n d no_members h a = absurd (cc h)
found_all P n d (member k e ms) h a = found_cases n k d e ms h (λ name same. subst P (sym name) a.0) (λ t. found_all P n d ms t a.1)

-- ---- positions

pub next_index : (earlier : List Data) (d : Data) (i : ℕ) → length (earlier ++ d ∷ []) + i ≡ length earlier + suc i
next_index earlier d i = omega (arith, length-append earlier (d ∷ []))

pub at_less : (i j : ℕ) → i < j → nat_cmp i j ≡ Less
at_less i j h = grind arith
