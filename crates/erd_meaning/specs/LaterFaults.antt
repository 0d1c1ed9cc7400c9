-- The faults of identity, of references and of selections: the reasons 12 to 18, and reason 11 for references. All of this
-- is the profile's own.
use Rattle.std.specs.Prelude.{ℕ, ◌≡◌, List, [], ◌∷◌, ◌++◌, Bool, false, not, ◌&&◌, Some, None, is_some, is_none, IsSomeAnd, IsTrue, Contains, codes}
use Rattle.std.specs.List.{list_any}
use Rattle.std.specs.Option.{option_map_or}
use Rattle.std.specs.declared.cmp.Ordering.TheVariants.{Less}
use Rattle.serde_json.specs.Data.{Data}
use Rattle.serde_json.specs.Find.{as_str}
use Rattle.erd_tables.specs.Places.{place_cmp}
use Rattle.erd_tables.specs.declared.class.Family.{Family}
use Rattle.erd_tables.specs.declared.class.Family.TheVariants as family
use Rattle.erd_tables.specs.declared.class.Role.{Role}
use Rattle.erd_tables.specs.declared.fault.Reason.{Reason}
use Rattle.erd_tables.specs.declared.fault.Reason.TheVariants as reason
use Rattle.erd_tables.specs.declared.place.Step.{Step}
use Rattle.erd_tables.specs.declared.place.Step.TheVariants.{Name, At}
use Rattle.erd_check.specs.Faults.{is_reference}
use Rattle.erd_check.specs.Wants.{Asked, asked_at}
use Rattle.erd_check.specs.declared.want.Want.{Want}
use Rattle.erd_check.specs.declared.want.Want.TheVariants.{Reference}
use Rattle.erd_meaning.specs.Keys.{Preference, is_keyed_role, key_of}
use Rattle.erd_check.specs.Values.{entries_at, text_at}
use Rattle.erd_meaning.specs.NameParts.{NameParts}
use Rattle.erd_meaning.specs.Objects.{Placed, selections_of_contest, IsObject, id_of, has_id, needs_key, objects_with_role, owner, is_owned}
use Rattle.erd_meaning.specs.SelectionNames.{name_of}
use Rattle.erd_meaning.specs.declared.keys.key.Key.{Key}

-- The first object stands earlier in the report than the second.
abbrev pub IsBefore : Placed → Placed → Type 0
IsBefore a b = place_cmp a.place b.place ≡ Less

-- ---- identity

-- Reason 12: the object at the place needs a key and has no external identifier.
pub record LacksIdentifier (π : Preference) (t : Data) (p : List Step) : Type 0 where
  pub role : Role
  pub needed : IsTrue (needs_key t role)
  pub placed : Placed
  pub stands : Contains (objects_with_role role t) placed
  pub place : p ≡ placed.place
  pub keyless : key_of π placed.value ≡ None

-- Reason 13: an earlier object with the same role has the same key as the object at the place.
pub record RepeatsKey (π : Preference) (t : Data) (p : List Step) : Type 0 where
  pub role : Role
  pub keyed : IsTrue (is_keyed_role role)
  pub later : Placed
  pub later_stands : Contains (objects_with_role role t) later
  pub place : p ≡ later.place
  pub earlier : Placed
  pub earlier_stands : Contains (objects_with_role role t) earlier
  pub before : IsBefore earlier later
  pub key : Key
  pub later_key : key_of π later.value ≡ Some key
  pub earlier_key : key_of π earlier.value ≡ Some key

-- Reason 14: an earlier object, of whatever family, has the same `@id` as the one at the place.
pub record RepeatsId (t : Data) (p : List Step) : Type 0 where
  pub family : Family
  pub later : Placed
  pub later_stands : IsObject t family later
  pub place : p ≡ later.place ++ Name (codes "@id") ∷ []
  pub earlier_family : Family
  pub earlier : Placed
  pub earlier_stands : IsObject t earlier_family earlier
  pub before : IsBefore earlier later
  pub id : List ℕ
  pub later_id : id_of later.value ≡ Some id
  pub earlier_id : id_of earlier.value ≡ Some id

-- The value at the place has a fault of identity for this reason: one of the reasons 12 to 14.
abbrev pub IdentityFault : Preference → Data → List Step → Reason → Type 0
IdentityFault π t p reason.NoIdentifier = LacksIdentifier π t p
IdentityFault π t p reason.TwinIdentifier = RepeatsKey π t p
IdentityFault π t p reason.DuplicateId = RepeatsId t p
IdentityFault π t p r = ⊥

-- ---- references

-- Reason 15: true if the reference is the `@id` of no object.
abbrev pub is_unresolved : Data → Want → Data → Bool
is_unresolved t (Reference f) d = option_map_or (λ id. not (is_owned t id)) (as_str d) false
is_unresolved t w d = false

-- Reason 16: true if the reference is the `@id` of an object of another family, and of no object of the family asked for.
abbrev pub is_of_other_family : Data → Want → Data → Bool
is_of_other_family t (Reference f) d = option_map_or (λ id. is_none (owner t f id) && is_owned t id) (as_str d) false
is_of_other_family t w d = false

-- True if the reference has this fault, given what is asked of it: it is repeated, unresolved, or to another family.
abbrev pub is_reference_fault : Data → Asked → Reason → Bool
is_reference_fault t a reason.Repeated = a.repeated && is_reference a.want
is_reference_fault t a reason.Unresolved = is_unresolved t a.want a.value
is_reference_fault t a reason.WrongFamily = is_of_other_family t a.want a.value
is_reference_fault t a r = false

-- True if a selection of the contest has this `@id`.
abbrev pub is_selection_in : Data → List ℕ → Bool
is_selection_in contest id = list_any (has_id id) (entries_at (codes "ContestSelection") contest)

-- True if some selection has this `@id`, `ContestId` of the object names a contest, and no selection of that contest has the
-- `@id`.
abbrev pub is_in_other_contest : Data → Data → List ℕ → Bool
is_in_other_contest t d id =
    is_some (owner t family.Selection id) && option_map_or (λ contest. not (is_selection_in contest id))
    (owner t family.Contest (text_at (codes "ContestId") d)) false

-- True if the entry is a reference to a selection, and to one of another contest in the sense above. (class OrderedContest)
abbrev pub is_other_selection : Data → Data → Want → Data → Bool
is_other_selection t d (Reference family.Selection) entry = option_map_or (is_in_other_contest t d) (as_str entry) false
is_other_selection t d w entry = false

-- The place of entry i in `OrderedContestSelectionIds` of the object at this place.
abbrev pub entry_place : List Step → ℕ → List Step
entry_place q i = q ++ Name (codes "OrderedContestSelectionIds") ∷ At i ∷ []

-- Reason 17: the place is that of an entry in the list of an OrderedContest, and the entry names a selection of another
-- contest than the one that `ContestId` names.
pub record NamesOtherContest (t : Data) (p : List Step) : Type 0 where
  pub object_place : List Step
  pub position : ℕ
  pub place : p ≡ entry_place object_place position
  pub ordered_contest : Asked
  pub ordered_contest_stands : asked_at t object_place ≡ Some ordered_contest
  pub entry : Asked
  pub entry_stands : asked_at t p ≡ Some entry
  pub elsewhere : IsTrue (is_other_selection t ordered_contest.value entry.want entry.value)

-- The value at the place has a fault of references for this reason: one of the reasons 11 and 15 to 17.
abbrev pub ReferenceFault : Data → List Step → Reason → Type 0
ReferenceFault t p reason.SelectionOfOtherContest = NamesOtherContest t p
ReferenceFault t p r = IsSomeAnd (asked_at t p) (λ a. IsTrue (is_reference_fault t a r))

-- ---- selections

-- Reason 18: an earlier selection of the same contest has the same name as the selection at the place.
pub record RepeatsName (π : Preference) (t : Data) (p : List Step) : Type 0 where
  pub contest : Placed
  pub contest_stands : IsObject t family.Contest contest
  pub later : Placed
  pub later_stands : Contains (selections_of_contest contest) later
  pub place : p ≡ later.place
  pub earlier : Placed
  pub earlier_stands : Contains (selections_of_contest contest) earlier
  pub before : IsBefore earlier later
  pub name : NameParts
  pub later_name : name_of π t later.value ≡ Some name
  pub earlier_name : name_of π t earlier.value ≡ Some name

-- The value at the place has a fault of selections, for which there is only reason 18.
abbrev pub SelectionFault : Preference → Data → List Step → Reason → Type 0
SelectionFault π t p reason.TwinSelection = RepeatsName π t p
SelectionFault π t p r = ⊥
