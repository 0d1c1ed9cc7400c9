-- What lines are, by borrowed keys and by keys.
use Rattle.erd_text.proofs.Common.{◌≡◌, Bool, Some, None, Option, Ordering, refl}
use Rattle.std.specs.Ordering.{bool_cmp, eq_by_cmp, ordering_then}
use Rattle.std.specs.Option.{option_cmp}
use denote.Ref.{Bor}
use Rattle.erd_meaning.specs.Keys.{key_cmp}
use Rattle.erd_meaning.specs.declared.keys.key.Key.{Key}
use Rattle.erd_shown.specs.RowData.{thing_cmp}
use Rattle.erd_shown.specs.code.LineLists.{of_thing}

-- the order of borrowed things
abbrev pub lent_thing_cmp : Bool × Option (Bor Key) → Bool × Option (Bor Key) → Ordering
lent_thing_cmp a b = ordering_then (bool_cmp a.0 b.0) (option_cmp (λ (k l : Bor Key). key_cmp k.now l.now) a.1 b.1)

pub same_thing : (a b : Bool × Option (Bor Key)) → eq_by_cmp lent_thing_cmp a b ≡ eq_by_cmp thing_cmp (of_thing a) (of_thing b)
same_thing (x, None) (y, None) = refl
same_thing (x, None) (y, Some l) = refl
same_thing (x, Some k) (y, None) = refl
same_thing (x, Some k) (y, Some l) = refl
