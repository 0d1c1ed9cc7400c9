-- The reasons of a reference as the program reports them, by look-ups among the objects that it keeps. `ReferenceWalks`
-- proves that they are those of `ReferenceFault`.
use Rattle.std.specs.Prelude.{◌≡◌, ℕ, List, [], ◌∷◌, ◌++◌, Bool, true, false, not, ◌&&◌, if◌then◌else◌, Option, Some, option_map, is_none, codes}
use Rattle.std.specs.List.{list_any}
use Rattle.std.specs.Option.{option_map_or}
use Rattle.serde_json.specs.Data.{Data, Items, string}
use Rattle.serde_json.specs.Find.{as_str}
use Rattle.erd_tables.specs.declared.class.Family.{Family}
use Rattle.erd_tables.specs.declared.class.Family.TheVariants as family
use Rattle.erd_tables.specs.declared.class.Role.TheVariants as role
use Rattle.erd_tables.specs.declared.fault.Reason.{Reason}
use Rattle.erd_tables.specs.declared.fault.Reason.TheVariants.{Repeated, Unresolved, WrongFamily, SelectionOfOtherContest}
use Rattle.erd_tables.specs.declared.member.MemberKind.TheVariants as kind
use Rattle.erd_tables.specs.declared.place.Step.{Step}
use Rattle.erd_check.specs.Values.{text_at}
use Rattle.erd_check.specs.Visits.{told_of_items}
use Rattle.erd_check.specs.declared.want.Want.{Want}
use Rattle.erd_check.specs.declared.want.Want.TheVariants.{Member, Object, Reference}
use Rattle.erd_meaning.specs.code.ObjectIndexes.{is_in_contest, number_among}
use Rattle.erd_meaning.specs.code.ObjectLookups.{keeps_id, object_among}
use Rattle.erd_meaning.specs.code.ObjectWalk.{Kept}

-- ---- where references stand

-- True where a reference is asked for, or a value that may have references inside: an array of references, or an array or
-- an object that is not part of an identifier, a text or a carried value.
abbrev pub leads_to_references : Want → Bool
leads_to_references (Object role.Identifier) = false
leads_to_references (Object role.Label) = false
leads_to_references (Object role.Language) = false
leads_to_references (Object r) = true
leads_to_references (Reference f) = true
leads_to_references (Member (kind.Many f) required) = true
leads_to_references (Member (kind.Keyed f) required) = true
leads_to_references (Member kind.Elections required) = true
leads_to_references (Member kind.Content required) = true
leads_to_references (Member kind.Ordered required) = true
leads_to_references w = false

-- ---- look-ups

-- True if some object has this `@id`.
abbrev pub is_known : List Kept → List ℕ → Bool
is_known ks id = list_any (keeps_id id) ks

-- The first object with this `@id`, or none if that object is of another family.
abbrev pub owner_among : List Kept → Family → List ℕ → Option Data
owner_among ks f id = option_map (λ k. k.value) (object_among ks f id)

-- True if some object has this `@id`, but the first that has it is not of the family.
abbrev pub is_of_others : List Kept → Family → List ℕ → Bool
is_of_others ks f id = is_none (owner_among ks f id) && is_known ks id

-- True for the family of selections.
abbrev pub is_selection_family : Family → Bool
is_selection_family family.Selection = true
is_selection_family f = false

-- True if the object names a contest, and the selection at this position is not in that contest.
abbrev pub is_selection_elsewhere : List Kept → Data → ℕ → Bool
is_selection_elsewhere ks d selection =
    option_map_or (λ contest. not (is_in_contest ks contest selection)) (number_among ks family.Contest (text_at (codes "ContestId") d)) false

-- No selection of the contest at this position is elsewhere.
abbrev pub IsHome : List Kept → Data → ℕ → Type 0
IsHome ks d contest = (selection : ℕ) → is_in_contest ks contest selection ≡ true → is_selection_elsewhere ks d selection ≡ false

-- True if a selection has this `@id`, the object names a contest, and the selection is not in that contest.
abbrev pub is_elsewhere : List Kept → Data → List ℕ → Bool
is_elsewhere ks d id = option_map_or (is_selection_elsewhere ks d) (number_among ks family.Selection id) false

-- ---- at one place

-- The reason if the test holds, and otherwise nothing.
abbrev pub reason_if : Bool → Reason → List Reason
reason_if b r = if b then r ∷ [] else []

-- The reasons of a reference with this text, apart from being repeated. The object that has the list is given.
abbrev pub id_reasons : List Kept → Data → Family → List ℕ → List Reason
id_reasons ks outer f id =
    reason_if (not (is_known ks id)) Unresolved
    ++ (reason_if (is_of_others ks f id) WrongFamily ++ reason_if (is_selection_family f && is_elsewhere ks outer id) SelectionOfOtherContest)

-- The reasons of the reference at one place.
abbrev pub reference_reasons_told : List Kept → Data → Want → Bool → Data → List Reason
reference_reasons_told ks outer (Reference f) repeated d = reason_if repeated Repeated ++ option_map_or (id_reasons ks outer f) (as_str d) []
reference_reasons_told ks outer w repeated d = []

-- ---- in an array

-- The value is a reference to the object at a position of the family, and is refused for no reason, unless it is repeated.
pub record IsClear (ks : List Kept) (outer : Data) (f : Family) (d : Data) (n : ℕ) : Type 0 where
  pub text : List ℕ
  pub is : d ≡ string text
  pub named : number_among ks f text ≡ Some n
  pub clear : id_reasons ks outer f text ≡ []

-- No reason is told of references to the family in an array, wherever it stands. The value that has the array is given.
abbrev pub AreClear : List Kept → Data → Family → Bool → Items → Type 0
AreClear ks outer f is_set ds = (owner : Data) (p : List Step) → told_of_items (reference_reasons_told ks) outer owner p (Reference f) is_set [] ds ≡ []
