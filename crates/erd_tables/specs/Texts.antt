-- The bytes of texts, and their order.
use Rattle.std.specs.Prelude.{ℕ, List, string_bytes}
use Rattle.std.specs.Cmp.Lexicographic.{slice_cmp}
use Rattle.std.specs.Ordering.{nat_cmp}
use Rattle.std.specs.Rc.{rc_str_bytes}
use Rattle.std.specs.declared.cmp.Ordering.{Ordering}
use Rattle.erd_tables.specs.declared.text.Held.{Held}
use Rattle.erd_tables.specs.declared.text.Held.TheVariants.{Own, Shared}

-- The bytes of a text, whether it shares them or not. (this project)
abbrev pub held_bytes : Held → List ℕ
held_bytes (Own s) = string_bytes s
held_bytes (Shared s) = rc_str_bytes s

-- Texts are compared by their UTF-8 bytes. (profile)
abbrev pub text_cmp : List ℕ → List ℕ → Ordering
text_cmp = slice_cmp nat_cmp
