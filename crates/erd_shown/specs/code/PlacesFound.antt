-- The places of occurrences, as a map has them.
use Rattle.std.specs.Prelude.{ℕ, ◌≡◌, List}
use Rattle.std.specs.Map.{lookup}
use Rattle.std.specs.declared.cmp.Ordering.{Ordering}
use Rattle.std.specs.Ordering.{eq_by_cmp, nat_cmp, ordering_then}
use Rattle.erd_shown.specs.Partners.{place_from}

-- The order of occurrences: by the thing, and then by the number.
abbrev pub occurrence_cmp : {K : Type 0} → (K → K → Ordering) → K × ℕ → K × ℕ → Ordering
occurrence_cmp cmp p q = ordering_then (cmp p.0 q.0) (nat_cmp p.1 q.1)

-- The entries of a map tell where each occurrence of a list stands.
abbrev pub HavePlaces : {K : Type 0} → (K → K → Ordering) → List (K × ℕ) → List ((K × ℕ) × ℕ) → Type 0
HavePlaces {K} cmp occurrences entries = (p : K × ℕ) → lookup (eq_by_cmp (occurrence_cmp cmp) p) entries ≡ place_from (eq_by_cmp cmp) 0 occurrences p
