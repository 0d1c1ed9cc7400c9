-- The selections of a contest, as one of its members.
use Rattle.std.specs.Prelude.{Bool, true, false, Option, option_and_then}
use Rattle.serde_json.specs.Data.{Data}
use Rattle.erd_check.specs.Values.{entries_of}
use Rattle.erd_tables.specs.declared.class.Family.TheVariants as family
use Rattle.erd_tables.specs.declared.member.MemberKind.{MemberKind}
use Rattle.erd_tables.specs.declared.member.MemberKind.TheVariants as kind
use Rattle.erd_meaning.specs.Keys.{Preference}
use Rattle.erd_meaning.specs.Meaning.{MemberValue, a_selection_map}
use Rattle.erd_meaning.specs.Records.{selection_map, unless_empty}

-- True if members of this kind hold selections.
abbrev pub is_selections : MemberKind → Bool
is_selections (kind.Keyed family.Selection) = true
is_selections k = false

-- The value, or none if it is an empty array.
abbrev pub if_filled : Option Data → Option Data
if_filled found = option_and_then (λ d. unless_empty d d) found

-- What the selections of a contest mean, or none if it has none.
abbrev pub selections_meant : Preference → Data → Option Data → Option MemberValue
selections_meant π t found = option_and_then (λ d. unless_empty (a_selection_map (selection_map π t (entries_of d))) d) found
