-- What the table asks of the value at each place of a report. All of this is the profile's own, over the classes of NIST SP
-- 1500-100 version 2.
use Rattle.std.specs.Prelude.{ℕ, List, [], ◌∷◌, Bool, true, false, ◌||◌, ◌&&◌, if◌then◌else◌, Option, Some, None, option_and_then, option_map, codes, take}
use Rattle.std.specs.List.{list_any}
use Rattle.std.specs.Str.{bytes_eq}
use Rattle.serde_json.specs.Data.{Data, array, object, Items}
use Rattle.serde_json.specs.Find.{get, get_member, get_item, as_str}
use Rattle.erd_tables.specs.Classes.{class_in_role}
use Rattle.erd_tables.specs.Table.{is_reference_name, kind_of_member, is_required}
use Rattle.erd_tables.specs.declared.class.Class.{Class}
use Rattle.erd_tables.specs.declared.class.Class.TheVariants as class
use Rattle.erd_tables.specs.declared.class.Family.TheVariants as family
use Rattle.erd_tables.specs.declared.class.Role.{Role}
use Rattle.erd_tables.specs.declared.class.Role.TheVariants as role
use Rattle.erd_tables.specs.declared.member.MemberKind.{MemberKind}
use Rattle.erd_tables.specs.declared.member.MemberKind.TheVariants as kind
use Rattle.erd_tables.specs.declared.place.Step.{Step}
use Rattle.erd_tables.specs.declared.place.Step.TheVariants.{Name, At}
use Rattle.erd_check.specs.Trees.{is_same_json}
use Rattle.erd_check.specs.Values.{list_of_items}
use Rattle.erd_check.specs.declared.want.Want.{Want}
use Rattle.erd_check.specs.declared.want.Want.TheVariants.{Object, ClassText, Reference, Status, Member, Carried}
use Rattle.erd_check.specs.declared.want.Scope.{Scope}
use Rattle.erd_check.specs.declared.want.Scope.TheVariants as scope

-- ---- of members

-- The class that the object's `@type` names, or none if it names no class with this role.
abbrev pub class_of_object : Role → Data → Option Class
class_of_object r d = option_and_then (class_in_role r) (option_and_then as_str (get (codes "@type") d))

-- The scope of an object, which decides what is asked of its members. It follows from what is asked of the object.
abbrev pub scope_of_object : Want → Data → Scope
scope_of_object (Object r) d = scope.Members r (class_of_object r d)
scope_of_object (Member kind.Label required) d = scope.Members role.Label (class_of_object role.Label d)
scope_of_object Carried d = scope.Carried
scope_of_object w d = scope.Nothing

-- The scope of any value. Nothing is asked inside a value that is not an object.
abbrev pub scope_inside : Want → Data → Scope
scope_inside w (object ms) = scope_of_object w (object ms)
scope_inside w d = scope.Nothing

-- True for a set of references or translations, which must have an entry where its object must have the set.
abbrev pub may_need_entry : MemberKind → Bool
may_need_entry (kind.Many f) = true
may_need_entry kind.Languages = true
may_need_entry k = false

-- What is asked of a member of this kind. The flag says whether its object must have the member: only of some sets it is kept,
-- which then must have an entry.
abbrev pub want_of_kind : MemberKind → Bool → Want
want_of_kind (kind.One f) required = Reference f
want_of_kind kind.Carried required = Carried
want_of_kind k required = Member k (may_need_entry k && required)

-- True for the class ElectionReport.
abbrev pub is_report_class : Class → Bool
is_report_class class.ElectionReport = true
is_report_class c = false

-- What is asked of a member, other than `@type`, of an object of the class.
abbrev pub member_want : Class → List ℕ → Want
member_want c name =
    if is_report_class c && bytes_eq name (codes "Status") then Status
    else want_of_kind (kind_of_member c name) (is_required c name)

-- What is asked of a member inside a carried value: neither `@id` nor a name that ends in `Id` or `Ids` may stand there.
abbrev pub carried_want : List ℕ → Want
carried_want name = if bytes_eq name (codes "@id") || is_reference_name name then Member kind.StrangeIdentity false else Carried

-- What is asked of the member with this name. In an object of unknown class, only `@type` is judged.
abbrev pub want_of_name : Scope → List ℕ → Option Want
want_of_name scope.Nothing name = None
want_of_name (scope.Members r c) name =
    if bytes_eq name (codes "@type") then Some (ClassText r) else option_map (λ c. member_want c name) c
want_of_name scope.Carried name = Some (carried_want name)

-- ---- of entries

-- What is asked of each entry of an array of this kind, or none if nothing is asked of entries.
abbrev pub entry_want_of_kind : MemberKind → Option Want
entry_want_of_kind (kind.Many f) = Some (Reference f)
entry_want_of_kind (kind.Keyed f) = Some (Object (role.OfFamily f))
entry_want_of_kind kind.Identifiers = Some (Object role.Identifier)
entry_want_of_kind kind.Languages = Some (Object role.Language)
entry_want_of_kind kind.Elections = Some (Object role.Election)
entry_want_of_kind kind.Content = Some (Object role.Content)
entry_want_of_kind kind.Ordered = Some (Reference family.Selection)
entry_want_of_kind k = None

-- What is asked of each entry of an array, given what is asked of the array.
abbrev pub entry_want : Want → Option Want
entry_want (Member k required) = entry_want_of_kind k
entry_want Carried = Some Carried
entry_want w = None

-- True for a set whose entries are compared with one another: references, identifiers or translations.
abbrev pub is_compared_set : Want → Bool
is_compared_set (Member (kind.Many f) required) = true
is_compared_set (Member kind.Identifiers required) = true
is_compared_set (Member kind.Languages required) = true
is_compared_set w = false

-- True for an array of objects of a family. These are told apart by their keys or names.
abbrev pub is_keyed_array : Want → Bool
is_keyed_array (Member (kind.Keyed f) required) = true
is_keyed_array w = false

-- True for the array of elections.
abbrev pub is_elections : Want → Bool
is_elections (Member kind.Elections required) = true
is_elections w = false

-- True for each array that the table treats as a set: the order of its entries means nothing.
abbrev pub is_table_set : Want → Bool
is_table_set w = is_elections w || (is_keyed_array w || is_compared_set w)

-- ---- at places

-- A value, what is asked of it, and whether it is equal to an earlier entry of its set.
pub record Asked : Type 0 where
  pub want : Want
  pub value : Data
  pub repeated : Bool

-- The value and what is asked of it, where it repeats no earlier entry.
abbrev pub asked : Want → Data → Asked
asked w d = record { want = w; value = d; repeated = false }

-- True if the value is equal as JSON to an entry before position i.
abbrev pub is_repeated : Items → ℕ → Data → Bool
is_repeated ds i d = list_any (is_same_json d) (take i (list_of_items ds))

-- The member and what is asked of it, or none if it is absent or nothing is asked of it.
abbrev pub asked_of_member : Option Want → Option Data → Option Asked
asked_of_member want found = option_and_then (λ w. option_map (asked w) found) want

-- Entry i and what is asked of it, or none if it is absent or nothing is asked of it.
abbrev pub asked_of_entry : Option Want → Bool → Items → ℕ → Option Asked
asked_of_entry want in_set ds i =
    option_and_then (λ w.
    option_map (λ d. record { want = w; value = d; repeated = in_set && is_repeated ds i d }) (get_item i ds))
    want

-- What is asked one step inside a value, given what is asked of that value.
abbrev pub asked_inside : Want → Data → Step → Option Asked
asked_inside w (object ms) (Name n) = asked_of_member (want_of_name (scope_inside w (object ms)) n) (get_member n ms)
asked_inside w (array ds) (At i) = asked_of_entry (entry_want w) (is_compared_set w) ds i
asked_inside w d s = None

-- What is asked at a place inside a value, given what is asked of that value.
abbrev pub asked_from : Asked → List Step → Option Asked
asked_from a [] = Some a
asked_from a (s ∷ ss) = option_and_then (λ b. asked_from b ss) (asked_inside a.want a.value s)

-- What the table asks at a place of a report. It is none where no value stands and where nothing further is judged.
abbrev pub asked_at : Data → List Step → Option Asked
asked_at t p = asked_from (asked (Object role.Report) t) p
