-- `@type` where it is absent and one class alone may stand, and where it lacks `ElectionResults.` in front.
use Rattle.std.specs.Prelude.{ℕ, List, [], ◌∷◌, ◌++◌, false, if◌then◌else◌, Option, Some, None, codes, is_some}
use Rattle.std.specs.Str.{bytes_eq}
use Rattle.serde_json.specs.Data.{Data, null, string}
use Rattle.serde_json.specs.Find.{get}
use Rattle.erd_tables.specs.Classes.{class_in_role, text_of_class}
use Rattle.erd_tables.specs.declared.class.Class.{Class}
use Rattle.erd_tables.specs.declared.class.Class.TheVariants as class
use Rattle.erd_tables.specs.declared.class.Family.{Family}
use Rattle.erd_tables.specs.declared.class.Family.TheVariants as family
use Rattle.erd_tables.specs.declared.class.Role.{Role}
use Rattle.erd_tables.specs.declared.class.Role.TheVariants as role
use Rattle.erd_tables.specs.declared.member.MemberKind.TheVariants as kind
use Rattle.erd_check.specs.Faults.{is_object}
use Rattle.erd_check.specs.Values.{text_at}
use Rattle.erd_check.specs.Wants.{entry_want}
use Rattle.erd_check.specs.declared.want.Scope.{Scope}
use Rattle.erd_check.specs.declared.want.Scope.TheVariants as scope
use Rattle.erd_check.specs.declared.want.Want.{Want}
use Rattle.erd_check.specs.declared.want.Want.TheVariants.{Object, Member}
use Rattle.erd_prepare.specs.Rules.{Rule, scope_in}

-- The role of the objects in a list of which this is asked.
abbrev pub role_of_entry : Option Want → Option Role
role_of_entry (Some (Object r)) = Some r
role_of_entry w = None

-- The role of an object of which this is asked. An object that stands where a list of objects belongs has the role of its
-- entries.
abbrev pub role_wanted : Option Want → Option Role
role_wanted None = None
role_wanted (Some (Object r)) = Some r
role_wanted (Some (Member kind.Label required)) = Some role.Label
role_wanted (Some w) = role_of_entry (entry_want w)

-- ---- the class of an object

-- The only class of a family, if it has no other one.
abbrev pub only_of_family : Family → Option Class
only_of_family family.Unit = Some class.ReportingUnit
only_of_family family.Person = Some class.Person
only_of_family family.Office = Some class.Office
only_of_family family.Header = Some class.Header
only_of_family family.Candidate = Some class.Candidate
only_of_family family.Style = Some class.BallotStyle
only_of_family f = None

-- On a ballot, a contest refers to a contest and a header to a header.
abbrev pub content_class : Data → Option Class
content_class d =
    if is_some (get (codes "ContestId") d) then Some class.OrderedContest
    else if is_some (get (codes "HeaderId") d) then Some class.OrderedHeader else None

-- The only class that an object with the role can have. A value without elections may be something else than a report.
abbrev pub only_class : Role → Data → Option Class
only_class role.Report d = if is_some (get (codes "Election") d) then Some class.ElectionReport else None
only_class role.Election d = Some class.Election
only_class (role.OfFamily f) d = only_of_family f
only_class role.Content d = content_class d
only_class role.Identifier d = Some class.ExternalIdentifier
only_class role.Label d = Some class.InternationalizedText
only_class role.Language d = Some class.LanguageString

-- The class, or else the other one.
abbrev pub class_or : Option Class → Option Class → Option Class
class_or (Some c) other = Some c
class_or None other = other

-- The class with the role that a text names, in full or without `ElectionResults.`.
abbrev pub class_named : Role → List ℕ → Option Class
class_named r text = class_or (class_in_role r text) (class_in_role r (codes "ElectionResults." ++ text))

-- The class of an object with the role, by its `@type` or else by its place.
abbrev pub class_by : Role → Data → Option Data → Option Class
class_by r d None = only_class r d
class_by r d (Some null) = only_class r d
class_by r d (Some (string text)) = class_named r text
class_by r d (Some other) = None

abbrev pub class_told : Role → Data → Option Class
class_told r d = class_by r d (get (codes "@type") d)

-- ---- the step

-- What is asked of the members of an object whose class is told so.
abbrev pub told_scope : Option Role → Option Want → Data → Scope
told_scope (Some r) w d = scope.Members r (class_told r d)
told_scope None w d = scope_in w d

abbrev pub lenient_scope : Option Want → Data → Scope
lenient_scope w d = if is_object d then told_scope (role_wanted w) w d else scope.Nothing

-- The `@type` that is put into an object of this class.
abbrev pub type_put : Option Class → Data → List (List ℕ × Data)
type_put (Some c) d = if bytes_eq (text_at (codes "@type") d) (text_of_class c) then [] else (codes "@type", string (text_of_class c)) ∷ []
type_put None d = []

abbrev pub class_put : Option Role → Data → List (List ℕ × Data)
class_put (Some r) d = type_put (class_told r d) d
class_put None d = []

-- The step: each object whose class is plain from its place says it in full.
abbrev pub class_names : Rule
class_names = record {
  scopes = lenient_scope;
  shapes = λ p w d. None;
  wraps = λ p w d. false;
  drops = λ p s k d. false;
  lets_go = λ p w d. false;
  puts = λ p w d. class_put (role_wanted w) d;
}
