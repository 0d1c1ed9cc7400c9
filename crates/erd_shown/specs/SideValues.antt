-- What one of two reports has where they differ: the value of a member, or the record of an object. All of this is the profile's
-- own.
use Rattle.std.specs.Prelude.{ℕ, List, Bool, true, false, if◌then◌else◌, Option, Some, None, find, option_and_then, option_map, codes}
use Rattle.std.specs.Option.{option_cmp}
use Rattle.std.specs.Ordering.{is_eq}
use Rattle.std.specs.Str.{bytes_eq}
use Rattle.serde_json.specs.Data.{Data, string, object, no_members, member}
use Rattle.serde_json.specs.Find.{get}
use Rattle.erd_tables.specs.Classes.{text_of_class}
use Rattle.erd_tables.specs.Table.{kind_of_member}
use Rattle.erd_tables.specs.declared.class.Class.{Class}
use Rattle.erd_tables.specs.declared.class.Family.TheVariants as family
use Rattle.erd_tables.specs.declared.class.Role.{Role}
use Rattle.erd_tables.specs.declared.class.Role.TheVariants as role
use Rattle.erd_tables.specs.declared.member.MemberKind.{MemberKind}
use Rattle.erd_tables.specs.declared.member.MemberKind.TheVariants as kind
use Rattle.erd_check.specs.Values.{entries_at}
use Rattle.erd_check.specs.Wants.{class_of_object}
use Rattle.erd_meaning.specs.Keys.{Preference, has_keys}
use Rattle.erd_meaning.specs.NameParts.{NameParts}
use Rattle.erd_meaning.specs.Objects.{Placed, report_of}
use Rattle.erd_meaning.specs.Records.{election_with_key, placed_with_key}
use Rattle.erd_meaning.specs.SelectionNames.{name_cmp, name_of, selection_role}
use Rattle.erd_meaning.specs.declared.keys.key.Key.{Key}
use Rattle.erd_shown.specs.ContentData.{members_in}
use Rattle.erd_shown.specs.KeyData.{shown_key, shown_key_or_null}
use Rattle.erd_shown.specs.Shown.{holder_key, record_in_class, shown_members, shown_plain}

-- The object of a report that has this role and this key, and its place, or none. The report itself has no key. Selections are
-- in the records of their contests.
abbrev pub object_with_key : Preference → Data → Role → Option Key → Option Placed
object_with_key π t role.Report None = Some (report_of t)
object_with_key π t role.Report (Some k) = None
object_with_key π t role.Election k = election_with_key π t k
object_with_key π t (role.OfFamily f) k = option_and_then (λ k. if has_keys f then placed_with_key π t f k else None) k
object_with_key π t r k = None

-- True but for the content of a ballot, which is told line by line.
abbrev pub is_told_whole : MemberKind → Bool
is_told_whole kind.Content = false
is_told_whole k = true

-- What a member of an object of the class is told as, or none if it means nothing by itself. The selections of a contest and the
-- content of a ballot are told elsewhere, entry by entry.
abbrev pub told_plain : Preference → Data → Class → List ℕ → Data → Option Data
told_plain π t c name d = if is_told_whole (kind_of_member c name) then shown_plain π t c name d else None

-- What the member with this name is told as, or none. `ElectionId` stands for the key of the election that holds the object, as
-- in what the object means.
abbrev pub told_member : Preference → Data → Option Key → Data → Class → List ℕ → Option Data
told_member π t holder d c name =
    if bytes_eq name (codes "ElectionId") then option_map shown_key holder else option_and_then (told_plain π t c name) (get name d)

-- The record of an object: its class, the key of the election that holds it, and its members.
abbrev pub told_record : Preference → Data → Option Key → Data → Class → Data
told_record π t holder d c =
    object (member (codes "class") (string (text_of_class c)) (member (codes "election") (shown_key_or_null holder)
    (member (codes "members") (object (shown_members (told_plain π t c) (members_in d))) no_members)))

-- What is asked of an object: the member with a name, or the record where there is no name.
abbrev pub told_of_object : Preference → Data → Option (List ℕ) → Option Key → Data → Class → Option Data
told_of_object π t None holder d c = Some (told_record π t holder d c)
told_of_object π t (Some name) holder d c = told_member π t holder d c name

-- The same of an object with the role at its place, or none if its class does not have the role.
abbrev pub told_of_placed : Preference → Data → Role → Option (List ℕ) → Placed → Option Data
told_of_placed π t r what o = option_and_then (told_of_object π t what (holder_key π t r o) o.value) (class_of_object r o.value)

-- What a report has at a role and a key: the value of a member, or the record of the object. None where it has none.
abbrev pub side_value : Preference → Data → Role → Option Key → Option (List ℕ) → Option Data
side_value π t r k what = option_and_then (told_of_placed π t r what) (object_with_key π t r k)

-- ---- inside a contest

-- The selection of a contest that has this name, or none. No two selections of a contest have one name.
abbrev pub selection_with_name : Preference → Data → NameParts → Data → Option Data
selection_with_name π t n contest = find (λ d. is_eq (option_cmp name_cmp (name_of π t d) (Some n))) (entries_at (codes "ContestSelection") contest)

-- What is asked of a selection of the class: the value of the member with a name, or the record where there is no name, which is
-- its class and its members.
abbrev pub told_in_class : Preference → Data → Option (List ℕ) → Data → Class → Option Data
told_in_class π t None d c = Some (record_in_class (told_plain π t c) c d)
told_in_class π t (Some name) d c = option_and_then (told_plain π t c name) (get name d)

-- The same of a selection, or none if its class is not that of a selection.
abbrev pub told_of_selection : Preference → Data → Option (List ℕ) → Data → Option Data
told_of_selection π t what d = option_and_then (told_in_class π t what d) (class_of_object selection_role d)

-- The same of the selection of a contest that has this name.
abbrev pub told_at_name : Preference → Data → NameParts → Option (List ℕ) → Placed → Option Data
told_at_name π t n what contest = option_and_then (told_of_selection π t what) (selection_with_name π t n contest.value)

-- What a contest has at the name of a selection: the value of a member of the selection, or its record. The contest is that of
-- the report with this key. None where it has no such selection, or the report no such contest.
abbrev pub selection_value : Preference → Data → Option Key → NameParts → Option (List ℕ) → Option Data
selection_value π t k n what = option_and_then (told_at_name π t n what) (object_with_key π t (role.OfFamily family.Contest) k)
