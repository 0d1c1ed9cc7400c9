-- The members of an object that are left when the members of two objects are walked in step by their names.
use Rattle.std.specs.Prelude.{ℕ, ◌≡◌, List, [], ◌∷◌, Option, Some, None, ⊤, if◌then◌else◌}
use Rattle.std.specs.Str.{bytes_eq}
use Rattle.serde_json.specs.Data.{Data, Members, no_members, member}
use Rattle.serde_json.specs.Find.{get}
use Rattle.serde_json.specs.View.{members_view, view}
use Rattle.serde_json.specs.declared.value.Value.{Value}
use Rattle.std.proofs.Common.{String, Global}
use Rattle.erd_check.specs.Values.{names}
use Rattle.erd_compare.specs.declared.objects.members_left.MembersLeft.{MembersLeft}
use denote.Ref.{Bor}

-- The first member that is left, if there is one, and the members after it.
abbrev pub members_from : Option (Bor (List ℕ) × Bor Value) → List (String Global × Value) → Members
members_from None rest = no_members
members_from (Some first) rest = member first.0.now (view first.1.now) (members_view rest)

-- The members that are left.
abbrev pub members_left : MembersLeft → Members
members_left left = members_from left.first left.rest

-- The names of the members that are left.
abbrev pub names_left : MembersLeft → List (List ℕ)
names_left left = names (members_left left)

-- The names, without the first one if it is this name.
abbrev pub names_past : List ℕ → List (List ℕ) → List (List ℕ)
names_past name [] = []
names_past name (k ∷ ks) = if bytes_eq k name then ks else k ∷ ks

-- Each of the members stands in the object.
abbrev pub AreMembersOf : Data → Members → Type 0
AreMembersOf d no_members = ⊤
AreMembersOf d (member k v ms) = (get k d ≡ Some v) × AreMembersOf d ms
