-- The order of names with ranks is total, and equal ones are hashed alike.
use Rattle.std.proofs.Common.{◌≡◌, ◌==◌, ◌&&◌, ℕ, List, true, ap, ap₂, ◌∙◌}
use Rattle.std.specs.Cmp.{IsTotalOrder, eq_by_cmp_equiv}
use Rattle.std.specs.Ordering.{eq_by_cmp}
use Rattle.std.proofs.lemmas.Bool.Decides.{Decides-eqb}
use Rattle.std.proofs.lemmas.Cmp.{on_total}
use Rattle.std.proofs.lemmas.Bool.{and_parts}
use Rattle.erd_meaning.specs.NameParts.{NameParts}
use Rattle.erd_meaning.specs.NumberedNames.{RankedParts, numbered_name_writes}
use Rattle.erd_meaning.specs.code.NumberedOrders.{equal_numbered_alike, numbered_name_cmp_total}
use Rattle.erd_meaning.specs.code.ObjectWalk.{Kept}
use Rattle.erd_meaning.specs.RankedNames.{PlacedName, ranked_name_cmp, ranked_name_writes, with_ranks}
use Rattle.erd_meaning.specs.code.RanksAmong.{has_keys_among, is_sought, ranked_parts}

pub ranked_name_cmp_total : IsTotalOrder ranked_name_cmp
ranked_name_cmp_total = on_total with_ranks numbered_name_cmp_total

pub equal_ranked_alike : (a b : RankedParts) → eq_by_cmp ranked_name_cmp a b ≡ true → ranked_name_writes a ≡ ranked_name_writes b
equal_ranked_alike a b e = equal_numbered_alike numbered_name_writes (with_ranks a) (with_ranks b) e

-- a name that is looked up is told from the others as the index tells them apart
pub sought_equal : (ks : List Kept) (c : ℕ) (n : NameParts) (x y : PlacedName) → is_sought ks c n x ≡ true
    → is_sought ks c n y ≡ ((x.0 == y.0) && eq_by_cmp ranked_name_cmp x.1 y.1)
sought_equal ks c n x y e =
    let outer = and_parts (has_keys_among ks n) ((c == x.0) && eq_by_cmp ranked_name_cmp (ranked_parts ks n) x.1) e in
    let both = and_parts (c == x.0) (eq_by_cmp ranked_name_cmp (ranked_parts ks n) x.1) outer.1 in
    ap (λ b. b && ((c == y.0) && eq_by_cmp ranked_name_cmp (ranked_parts ks n) y.1)) outer.0
    ∙ ap₂ (λ d b. (d == y.0) && b) ((Decides-eqb c x.0).0 both.0) ((eq_by_cmp_equiv ranked_name_cmp_total).congr (ranked_parts ks n) x.1 y.1 both.1)
