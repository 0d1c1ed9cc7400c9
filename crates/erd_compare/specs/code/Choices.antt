-- The members of an object that are compared on their own: those beside a label's translations, and carried ones.
use Rattle.std.specs.Prelude.{ℕ, List, Bool, true, false, not, ◌||◌, if◌then◌else◌, Some, None, codes}
use Rattle.std.specs.Str.{bytes_eq}
use Rattle.serde_json.specs.Data.{Data, object, Members, no_members, member}
use Rattle.erd_tables.specs.Table.{kind_of_member}
use Rattle.erd_tables.specs.declared.member.MemberKind.{MemberKind}
use Rattle.erd_tables.specs.declared.member.MemberKind.TheVariants as kind
use Rattle.erd_check.specs.Values.{entries_at}
use Rattle.erd_meaning.specs.Meaning.{Label, translated}
use Rattle.erd_meaning.specs.Records.{label_beside_text, json_set}
use Rattle.erd_compare.specs.declared.values.chosen_members.Choice.{Choice}
use Rattle.erd_compare.specs.declared.values.chosen_members.Choice.TheVariants.{BesideText, Carried}

-- True if members of this kind are carried.
abbrev pub is_carried_kind : MemberKind → Bool
is_carried_kind kind.Carried = true
is_carried_kind k = false

-- True if the choice takes a member with this name.
abbrev pub takes_name : Choice → List ℕ → Bool
takes_name BesideText name = not (bytes_eq name (codes "@type") || bytes_eq name (codes "Text"))
takes_name (Carried None) name = false
takes_name (Carried (Some c)) name = is_carried_kind (kind_of_member c name)

-- The chosen members, in their order.
abbrev pub chosen_members : Choice → Members → Members
chosen_members choice no_members = no_members
chosen_members choice (member k d ms) = if takes_name choice k then member k d (chosen_members choice ms) else chosen_members choice ms

-- The members of an object, or no members for any other value.
abbrev pub members_in : Data → Members
members_in (object ms) = ms
members_in d = no_members

-- The chosen members of an object, or no members for any other value.
abbrev pub chosen_in : Choice → Data → Members
chosen_in choice d = chosen_members choice (members_in d)

-- What a label that is an object means.
abbrev pub translated_label : Data → Label
translated_label d = translated (label_beside_text d) (json_set (entries_at (codes "Text") d))
