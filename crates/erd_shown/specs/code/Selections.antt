-- The selections of a contest with their names, as they are put in order.
use Rattle.std.specs.Prelude.{◌≡◌, ℕ, ◌+◌, ◌<◌, ◌^◌, List, Option, Some, ⊤, Bool, true, false}
use Rattle.std.specs.List.{slice_get}
use denote.Ref.{Bor}
use Rattle.serde_json.specs.Data.{Data, Members, no_members, member}
use Rattle.serde_json.specs.View.{view}
use Rattle.erd_tables.specs.Table.{kind_of_member}
use Rattle.erd_tables.specs.declared.class.Class.{Class}
use Rattle.erd_tables.specs.declared.class.Family.TheVariants as family
use Rattle.erd_tables.specs.declared.member.MemberKind.{MemberKind}
use Rattle.erd_tables.specs.declared.member.MemberKind.TheVariants as kind
use Rattle.erd_check.specs.Values.{entries_of}
use Rattle.serde_json.specs.declared.value.Value.{Value}
use Rattle.erd_meaning.specs.Keys.{Preference}
use Rattle.erd_meaning.specs.NameParts.{NameParts}
use Rattle.erd_meaning.specs.SelectionNames.{name_of}
use Rattle.erd_shown.specs.Shown.{named_record}
use Rattle.erd_shown.specs.code.Writing.{name_in}

-- Each of the values has a name, that of the selection of the report that stands as far behind position s. The positions fit a
-- machine word.
pub record AreNamedFrom (π : Preference) (t : Data) (s : ℕ) (ds : List Data) : Type 0 where
  pub named : (j : ℕ) (d : Data) → slice_get ds j ≡ Some d → (n : NameParts) × (name_in π t (s + j) ≡ Some n) × (name_of π t d ≡ Some n) × (s + j < 2 ^ 64)

-- A selection with its name.
abbrev pub named_selection : Preference → Data → Data → Option NameParts × Data
named_selection π t d = (name_of π t d, d)

-- What a name and a borrowed value stand for.
abbrev pub of_pair : NameParts × Bor Value → Option NameParts × Data
of_pair p = (Some p.0, view p.1.now)

-- The record of a selection with its name.
abbrev pub selection_of_pair : Preference → Data → NameParts × Bor Value → Data
selection_of_pair π t p = named_record π t (Some p.0) (view p.1.now)

-- The members that hold selections hold those from position s on.
abbrev pub HoldNamed : Preference → Data → ℕ → Class → Members → Type 0
HoldNamed π t s c no_members = ⊤
HoldNamed π t s c (member k d ms) = (kind_of_member c k ≡ kind.Keyed family.Selection → AreNamedFrom π t s (entries_of d)) × HoldNamed π t s c ms

-- True for the kind of a member that holds selections.
abbrev pub is_selections : MemberKind → Bool
is_selections (kind.Keyed family.Selection) = true
is_selections k = false
