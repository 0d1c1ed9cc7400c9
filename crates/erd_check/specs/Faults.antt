-- The faults of the shape of a report: one relation between a report, a place and a reason, with a case for each of the
-- reasons 1 to 11. All of this is the profile's own.
use Rattle.std.specs.Prelude.{ℕ, List, [], ◌∷◌, Bool, true, false, not, ◌||◌, ◌&&◌, ◌==◌, Some, None, codes, is_some, is_none, IsSomeAnd, IsTrue, length}
use Rattle.std.specs.List.{list_any}
use Rattle.std.specs.Option.{option_map_or}
use Rattle.std.specs.Str.{bytes_eq}
use Rattle.serde_json.specs.Data.{Data}
use Rattle.serde_json.specs.Find.{get, as_bool, as_number, as_str, as_array, as_object, is_float}
use Rattle.erd_tables.specs.Classes.{class_in_role}
use Rattle.erd_tables.specs.Table.{required_names}
use Rattle.erd_tables.specs.declared.fault.Reason.{Reason}
use Rattle.erd_tables.specs.declared.fault.Reason.TheVariants as reason
use Rattle.erd_tables.specs.declared.member.MemberKind.{MemberKind}
use Rattle.erd_tables.specs.declared.member.MemberKind.TheVariants as kind
use Rattle.erd_tables.specs.declared.place.Step.{Step}
use Rattle.erd_check.specs.Values.{list_of_items}
use Rattle.erd_check.specs.Wants.{Asked, scope_inside, asked_at, is_elections}
use Rattle.erd_check.specs.declared.want.Scope.{Scope}
use Rattle.erd_check.specs.declared.want.Scope.TheVariants as scope
use Rattle.erd_check.specs.declared.want.Want.{Want}
use Rattle.erd_check.specs.declared.want.Want.TheVariants.{Object, ClassText, Reference, Status, Member, Carried}

-- ---- tests of values

-- True for a JSON string.
abbrev pub is_text : Data → Bool
is_text d = is_some (as_str d)

-- True for a JSON array.
abbrev pub is_array : Data → Bool
is_array d = is_some (as_array d)

-- True for a JSON object.
abbrev pub is_object : Data → Bool
is_object d = is_some (as_object d)

-- True for an array that has no entries.
abbrev pub is_empty_array : Data → Bool
is_empty_array d = option_map_or (λ ds. length (list_of_items ds) == 0) (as_array d) false

-- True for a number that `serde_json` keeps as a float: it has a fraction or an exponent, is `-0`, or lies outside -2^63 to
-- 2^64 - 1.
abbrev pub is_not_whole : Data → Bool
is_not_whole d = option_map_or is_float (as_number d) false

-- True if the value has no member with this name.
abbrev pub lacks : Data → List ℕ → Bool
lacks d name = is_none (get name d)

-- ---- what each reason asks

-- True if the value is of the JSON kind that a member of this kind asks for. Outside members and misplaced names pass here,
-- since they have reasons of their own.
abbrev pub has_kind : MemberKind → Data → Bool
has_kind kind.Identity d = is_text d
has_kind kind.Word d = is_text d
has_kind kind.Label d = is_text d || is_object d
has_kind kind.Flag d = is_some (as_bool d)
has_kind kind.Whole d = is_some (as_number d)
has_kind (kind.Many f) d = is_array d
has_kind kind.Identifiers d = is_array d
has_kind kind.Languages d = is_array d
has_kind (kind.Keyed f) d = is_array d
has_kind kind.Elections d = is_array d
has_kind kind.Content d = is_array d
has_kind kind.Ordered d = is_array d
has_kind k d = true

-- True if the value is of the JSON kind that is asked for.
abbrev pub has_wanted_kind : Want → Data → Bool
has_wanted_kind (Object r) d = is_object d
has_wanted_kind (ClassText r) d = is_text d
has_wanted_kind (Reference f) d = is_text d
has_wanted_kind Status d = is_text d
has_wanted_kind (Member k required) d = has_kind k d
has_wanted_kind Carried d = true

-- The members that the object must have: those that its class requires, or `@type` alone if its class is unknown.
abbrev pub names_wanted : Scope → List (List ℕ)
names_wanted scope.Nothing = []
names_wanted (scope.Members r None) = codes "@type" ∷ []
names_wanted (scope.Members r (Some c)) = required_names c
names_wanted scope.Carried = []

-- True for an `@type` text that names no class that may stand there.
abbrev pub is_wrong_class : Want → Data → Bool
is_wrong_class (ClassText r) d = option_map_or (λ s. is_none (class_in_role r s)) (as_str d) false
is_wrong_class w d = false

-- True where a number must be whole: in a member for whole numbers, and in carried values.
abbrev pub wants_whole : Want → Bool
wants_whole (Member kind.Whole required) = true
wants_whole Carried = true
wants_whole w = false

-- True for a member outside the profile.
abbrev pub is_outside : Want → Bool
is_outside (Member kind.Outside required) = true
is_outside w = false

-- True for a member that is named like a reference and that the table does not list for the class.
abbrev pub is_strange_reference : Want → Bool
is_strange_reference (Member kind.StrangeReference required) = true
is_strange_reference w = false

-- True for `@id` where no identity belongs, and for a name like that of a reference inside a carried value.
abbrev pub is_strange_identity : Want → Bool
is_strange_identity (Member kind.StrangeIdentity required) = true
is_strange_identity w = false

-- True for a `Status` that is a text other than `pre-election`. (class ElectionReport)
abbrev pub is_other_status : Want → Data → Bool
is_other_status Status d = option_map_or (λ s. not (bytes_eq s (codes "pre-election"))) (as_str d) false
is_other_status w d = false

-- True for an array that must not be empty: a required set of references or translations.
abbrev pub wants_entry : Want → Bool
wants_entry (Member (kind.Many f) required) = required
wants_entry (Member kind.Languages required) = required
wants_entry w = false

-- True where a reference is asked for.
abbrev pub is_reference : Want → Bool
is_reference (Reference f) = true
is_reference w = false

-- ---- the faults

-- True if the value has a fault of shape for this reason, given what is asked of it. Repeated references are judged later,
-- with the other faults of references.
abbrev pub is_shape_fault : Asked → Reason → Bool
is_shape_fault a reason.WrongKind = not (has_wanted_kind a.want a.value)
is_shape_fault a (reason.MissingMember name) =
    list_any (bytes_eq name) (names_wanted (scope_inside a.want a.value)) && lacks a.value name
is_shape_fault a reason.WrongClassText = is_wrong_class a.want a.value
is_shape_fault a reason.NotWhole = wants_whole a.want && is_not_whole a.value
is_shape_fault a reason.OutsideProfile = is_outside a.want && not (is_empty_array a.value)
is_shape_fault a reason.UnknownReference = is_strange_reference a.want
is_shape_fault a reason.CarriedIdentity = is_strange_identity a.want
is_shape_fault a reason.NotPreElection = is_other_status a.want a.value
is_shape_fault a reason.ElectionCount = is_elections a.want && is_empty_array a.value
is_shape_fault a reason.EmptyArray = wants_entry a.want && is_empty_array a.value
is_shape_fault a reason.Repeated = a.repeated && not (is_reference a.want)
is_shape_fault a r = false

-- The value at the place has a fault of shape for this reason.
abbrev pub ShapeFault : Data → List Step → Reason → Type 0
ShapeFault t p r = IsSomeAnd (asked_at t p) (λ a. IsTrue (is_shape_fault a r))

-- There is no fault of this sort, at any place and for any reason.
abbrev pub NoneOf : (List Step → Reason → Type 0) → Type 0
NoneOf IsFault = (p : List Step) (r : Reason) → ¬ IsFault p r
