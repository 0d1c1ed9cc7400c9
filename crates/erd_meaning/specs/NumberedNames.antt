-- Names of selections with numbers in place of their keys. Such names are compared in no more time if keys are long.
use Rattle.std.specs.Prelude.{ℕ, List, [], ◌++◌}
use Rattle.std.specs.Cmp.Lexicographic.{slice_cmp}
use Rattle.std.specs.Hash.{HashWrites, str, slice, usize}
use Rattle.std.specs.Ordering.{nat_cmp, ordering_then}
use Rattle.std.specs.declared.cmp.Ordering.{Ordering}
use Rattle.erd_tables.specs.Classes.{text_of_class}
use Rattle.erd_meaning.specs.NameParts.{NameParts}
use Rattle.erd_meaning.specs.SelectionNames.{class_cmp, name_cmp}
use Rattle.erd_meaning.specs.Hashes.{after_keys_writes}

-- A name, and the ranks of its keys, or other numbers for them, in the order of the keys.
pub record RankedParts : Type 0 where
  pub name : NameParts
  pub ranks : List ℕ

-- The name with an empty list of keys.
abbrev pub without_keys : NameParts → NameParts
without_keys n = record { class = n.class; keys = []; write_in = n.write_in; order = n.order; label = n.label; identifier = n.identifier }

-- The name with the numbers in place of its keys.
abbrev pub numbered_parts : NameParts → List ℕ → RankedParts
numbered_parts n numbers = record { name = without_keys n; ranks = numbers }

-- These are compared as names are: by class, then by the numbers, then by the other parts.
abbrev pub numbered_name_cmp : RankedParts → RankedParts → Ordering
numbered_name_cmp a b =
    ordering_then (class_cmp a.name.class b.name.class)
    (ordering_then (slice_cmp nat_cmp a.ranks b.ranks) (name_cmp a.name b.name))

-- What the hasher is given of such a name.
abbrev pub numbered_name_writes : RankedParts → HashWrites
numbered_name_writes n = str (text_of_class n.name.class) ++ (slice usize n.ranks ++ after_keys_writes n.name)
