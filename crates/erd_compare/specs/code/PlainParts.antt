-- What a member means by itself, if it means anything.
use Rattle.std.specs.Prelude.{ℕ, List, Option, None, option_and_then, if◌then◌else◌}
use Rattle.serde_json.specs.Data.{Data}
use Rattle.serde_json.specs.Find.{as_str}
use Rattle.erd_tables.specs.Table.{kind_of_member}
use Rattle.erd_tables.specs.declared.class.Class.{Class}
use Rattle.erd_tables.specs.declared.member.MemberKind.{MemberKind}
use Rattle.erd_tables.specs.declared.member.MemberKind.TheVariants as kind
use Rattle.erd_check.specs.Values.{entries_of}
use Rattle.erd_meaning.specs.Keys.{Preference}
use Rattle.erd_meaning.specs.Meaning.{MemberValue, PlainValue, a_json, a_label, a_json_set, a_key, a_key_set, a_content}
use Rattle.erd_meaning.specs.Records.{content_of, is_in_envelope, json_set, key_set, label_of, member_value, plain_value}
use Rattle.erd_meaning.specs.SelectionNames.{key_named, keys_named}

-- What a value of this kind means, where it means anything by itself.
abbrev pub meant_value : Preference → Data → MemberKind → Data → PlainValue
meant_value π t kind.Label d = a_label (label_of d)
meant_value π t (kind.One f) d = a_key (option_and_then (key_named π t f) (as_str d))
meant_value π t (kind.Many f) d = a_key_set (key_set (keys_named π t f (entries_of d)))
meant_value π t kind.Identifiers d = a_json_set (json_set (entries_of d))
meant_value π t kind.Languages d = a_json_set (json_set (entries_of d))
meant_value π t kind.Content d = a_content (content_of π t d)
meant_value π t k d = a_json d

-- What the member with this name means by itself, in an object of the class that has this value there or lacks the member.
abbrev pub plain_found : Preference → Data → Class → List ℕ → Option Data → Option PlainValue
plain_found π t c name found = if is_in_envelope c name then None else option_and_then (plain_value π t (kind_of_member c name)) found

-- The same of the member as one of the object's, with the objects inside it.
abbrev pub member_found : Preference → Data → Class → List ℕ → Option Data → Option MemberValue
member_found π t c name found = member_value π t (kind_of_member c name) found (plain_found π t c name found)
