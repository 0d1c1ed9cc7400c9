-- The canonical form of a report, as a predicate on trees. All of this is the profile's own.
use Rattle.std.specs.Prelude.{ℕ, ◌≡◌, ◌+◌, List, ◌++◌, false, IsTrue, Option, Some, None, option_and_then, option_map, codes, decimal, slice_get, map, ⊤}
use Rattle.std.specs.List.Sorted.{IsStrictlySortedBy}
use Rattle.std.specs.Option.{option_cmp}
use Rattle.serde_json.specs.Data.{Data, string, number, unsigned}
use Rattle.serde_json.specs.Find.{get, as_str}
use Rattle.erd_tables.specs.declared.class.Family.{Family}
use Rattle.erd_tables.specs.declared.class.Family.TheVariants as family
use Rattle.erd_tables.specs.declared.member.MemberKind.{MemberKind}
use Rattle.erd_tables.specs.declared.member.MemberKind.TheVariants as kind
use Rattle.erd_tables.specs.declared.place.Step.{Step}
use Rattle.erd_check.specs.Values.{entries_of}
use Rattle.erd_check.specs.Wants.{Asked, asked_at}
use Rattle.erd_check.specs.Faults.{is_empty_array}
use Rattle.erd_check.specs.declared.want.Want.{Want}
use Rattle.erd_check.specs.declared.want.Want.TheVariants.{Member}
use Rattle.erd_meaning.specs.Accepted.{IsAccepted}
use Rattle.erd_meaning.specs.Keys.{Preference, has_keys, key_cmp, key_of}
use Rattle.erd_meaning.specs.Lookups.{rank_of}
use Rattle.erd_meaning.specs.Objects.{IsObject, Placed, id_of, selections_of_contest}
use Rattle.erd_meaning.specs.Records.{meaning}
use Rattle.erd_meaning.specs.SelectionNames.{name_cmp, name_of, key_named}
use Rattle.erd_text.specs.RisingLists.{compact_cmp}
use Rattle.erd_meaning.specs.declared.keys.key.Key.{Key}

-- ---- the envelope

-- The report has a member with this name, and its value is this one.
abbrev pub HasMember : Data → List ℕ → Data → Type 0
HasMember t name d = get name t ≡ Some d

-- Seven members of the envelope have the values that this project fixes, and `Notes` and `ExternalIdentifier` are absent.
-- (class ElectionReport)
pub record HasCanonicalEnvelope (t : Data) : Type 0 where
  pub format : HasMember t (codes "Format") (string (codes "summary-contest"))
  pub date : HasMember t (codes "GeneratedDate") (string (codes "2000-01-01T00:00:00Z"))
  pub issuer : HasMember t (codes "Issuer") (string (codes "canonical"))
  pub abbreviation : HasMember t (codes "IssuerAbbreviation") (string (codes "canonical"))
  pub application : HasMember t (codes "VendorApplicationId") (string (codes "canonical"))
  pub start : HasMember t (codes "SequenceStart") (number (unsigned 1))
  pub end : HasMember t (codes "SequenceEnd") (number (unsigned 1))
  pub notes : get (codes "Notes") t ≡ None
  pub identifiers : get (codes "ExternalIdentifier") t ≡ None

-- ---- arrays

-- The kind of the member that is asked for, or none. `Status`, a single reference and a carried member give none, since none
-- of them is an array of the table.
abbrev pub kind_wanted : Want → Option MemberKind
kind_wanted (Member k required) = Some k
kind_wanted w = None

-- No array of the table is empty. An outside member of an accepted report is an empty array, so a canonical report has none.
abbrev pub HasNoEmptyArray : Data → Type 0
HasNoEmptyArray t =
    (p : List Step) (a : Asked) (k : MemberKind) → asked_at t p ≡ Some a → kind_wanted a.want ≡ Some k → is_empty_array a.value ≡ false

-- The key of each object in the list, in their order.
abbrev pub keys_of : Preference → List Data → List (Option Key)
keys_of π ds = map (key_of π) ds

-- The key of the object that each reference in the list names, in their order.
abbrev pub keys_referred : Preference → Data → Family → List Data → List (Option Key)
keys_referred π t f ds = map (λ r. option_and_then (key_named π t f) (as_str r)) ds

-- The entries of a set of this kind strictly rise: objects and elections by key, selections by name, identifiers and
-- translations by compact text, references by the key of what they name.
abbrev pub RisesAs : Preference → Data → MemberKind → List Data → Type 0
RisesAs π t (kind.Keyed family.Selection) ds = IsStrictlySortedBy (option_cmp name_cmp) (map (name_of π t) ds)
RisesAs π t (kind.Keyed f) ds = IsStrictlySortedBy (option_cmp key_cmp) (keys_of π ds)
RisesAs π t kind.Elections ds = IsStrictlySortedBy (option_cmp key_cmp) (keys_of π ds)
RisesAs π t kind.Identifiers ds = IsStrictlySortedBy compact_cmp ds
RisesAs π t kind.Languages ds = IsStrictlySortedBy compact_cmp ds
RisesAs π t (kind.Many f) ds = IsStrictlySortedBy (option_cmp key_cmp) (keys_referred π t f ds)
RisesAs π t k ds = ⊤

-- The entries of each set of the table strictly rise in the order of its kind.
abbrev pub AreSetsInOrder : Preference → Data → Type 0
AreSetsInOrder π t =
    (p : List Step) (a : Asked) (k : MemberKind) → asked_at t p ≡ Some a → kind_wanted a.want ≡ Some k → RisesAs π t k (entries_of a.value)

-- ---- `@id` texts

-- The letters with which the canonical `@id` of an object begins, by family. A style has no `@id`, and selections are named
-- within their contests.
abbrev pub id_prefix : Family → Option (List ℕ)
id_prefix family.Unit = Some (codes "gp")
id_prefix family.Party = Some (codes "pa")
id_prefix family.Person = Some (codes "pe")
id_prefix family.Office = Some (codes "of")
id_prefix family.Header = Some (codes "hd")
id_prefix family.Candidate = Some (codes "ca")
id_prefix family.Contest = Some (codes "co")
id_prefix family.Style = None
id_prefix family.Selection = None

-- The canonical `@id` of the object with rank i in its family: the letters of the family, then i + 1. A style has none.
abbrev pub canonical_id : Family → ℕ → Option (List ℕ)
canonical_id f i = option_map (λ letters. letters ++ decimal (i + 1)) (id_prefix f)

-- The canonical `@id` of selection j of the contest with rank i: `cs`, i + 1, a hyphen, j + 1.
abbrev pub canonical_selection_id : ℕ → ℕ → List ℕ
canonical_selection_id i j = codes "cs" ++ (decimal (i + 1) ++ (codes "-" ++ decimal (j + 1)))

-- Each object has the `@id` of its family and of the rank of its key, and each selection that of the rank of its contest and
-- of its position there. A style has no `@id`.
pub record HasCanonicalIds (π : Preference) (t : Data) : Type 0 where
  pub families : (f : Family) (o : Placed) → IsTrue (has_keys f) → IsObject t f o → id_of o.value ≡ canonical_id f (rank_of π t f (key_of π o.value))
  pub selections : (j : ℕ) (contest o : Placed) → IsObject t family.Contest contest → slice_get (selections_of_contest contest) j ≡ Some o
      → id_of o.value ≡ Some (canonical_selection_id (rank_of π t family.Contest (key_of π contest.value)) j)

-- ---- the whole

-- The tree is an accepted report in canonical form. References need no condition here, since those of an accepted report
-- resolve.
pub record IsCanonical (π : Preference) (t : Data) : Type 0 where
  pub accepted : IsAccepted π t
  pub envelope : HasCanonicalEnvelope t
  pub no_empty_array : HasNoEmptyArray t
  pub in_order : AreSetsInOrder π t
  pub ids : HasCanonicalIds π t

-- u is the canonical form of t: it is canonical, and it means what t means.
pub record IsCanonicalFormOf (π : Preference) (t u : Data) : Type 0 where
  pub canonical : IsCanonical π u
  pub same : meaning π u ≡ meaning π t
