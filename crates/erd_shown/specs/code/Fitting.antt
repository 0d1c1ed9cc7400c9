-- What members of accepted reports are, and the laws of each kind: two values are written alike if and only if they mean the
-- same.
use Rattle.std.specs.Prelude.{ℕ, ℤ, pos, negsuc, ◌^◌, nat_lt, ◌≡◌, ◌↔◌, List, Bool, true, false, Option, Some, None, ⊤, codes}
use Rattle.std.specs.List.{AllByRecursion, IsDistinct}
use Rattle.std.specs.Ordering.{eq_by_cmp}
use Rattle.std.specs.Option.{option_cmp}
use Rattle.serde_json.specs.Data.{Data, string, object, Members}
use Rattle.serde_json.specs.Find.{get, get_member}
use Rattle.serde_json.specs.Written.{has_float}
use Rattle.erd_tables.specs.declared.class.Family.{Family}
use Rattle.erd_tables.specs.declared.class.Family.TheVariants as family
use Rattle.erd_tables.specs.declared.member.MemberKind.{MemberKind}
use Rattle.erd_tables.specs.declared.member.MemberKind.TheVariants as kind
use Rattle.erd_tables.specs.Table.{kind_of_member}
use Rattle.erd_tables.specs.declared.class.Class.{Class}
use Rattle.erd_check.specs.Trees.{AreMembers, IsTree}
use Rattle.erd_check.specs.Values.{entries_of, entries_at}
use Rattle.erd_check.specs.Wants.{class_of_object}
use Rattle.erd_text.specs.RisingLists.{compact_cmp, with_rising_text}
use Rattle.erd_meaning.specs.Keys.{Preference, key_cmp}
use Rattle.erd_meaning.specs.NameParts.{NameParts}
use Rattle.erd_meaning.specs.Records.{content_of, json_set, key_set, label_of, plain_value, plain_member, selection_map, member_of_class}
use Rattle.erd_meaning.specs.SelectionNames.{keys_named, name_named, name_cmp, name_of, selection_role}
use Rattle.erd_shown.specs.Shown.{keys_data, set_data, shown_value, shown_members, shown_plain, shown_selections, shown_member}
use Rattle.erd_meaning.specs.declared.keys.key.Key.{Key}
use Rattle.erd_shown.specs.ContentData.{content_data}

-- ---- what is known of the members of accepted reports

-- No key stands twice.
abbrev pub AreDistinctKeys : List Key → Type 0
AreDistinctKeys ks = IsDistinct (eq_by_cmp key_cmp) ks

-- (erd_compare has this) The value is a tree, and each of its numbers is whole.
pub record IsWholeTree (d : Data) : Type 0 where
  pub is_tree : IsTree d
  pub whole : has_float d ≡ false

-- The entries of a set: whole trees, of which no two have the same compact text.
pub record IsSet (ds : List Data) : Type 0 where
  pub trees : AllByRecursion IsWholeTree ds
  pub distinct : IsDistinct (eq_by_cmp compact_cmp) ds

-- A label: a text, or an object with the class of labels and a set of translations.
pub data IsLabel : Data → Type 0 where
  a_text : (s : List ℕ) → IsLabel (string s)
  an_object : (ms : Members) → IsTree (object ms) → get (codes "@type") (object ms) ≡ Some (string (codes "ElectionResults.InternationalizedText"))
      → IsSet (entries_at (codes "Text") (object ms)) → IsLabel (object ms)

-- The number fits 64 bits.
abbrev pub fits_word : ℤ → Bool
fits_word (pos n) = nat_lt n (2 ^ 64)
fits_word (negsuc n) = nat_lt n (2 ^ 63)

-- The sequence order in the name fits 64 bits, if there is one.
abbrev pub HasFittingOrder : Option ℤ → Type 0
HasFittingOrder None = ⊤
HasFittingOrder (Some z) = fits_word z ≡ true

-- So it is in the name of each selection of the report.
abbrev pub HasFittingNames : Preference → Data → Type 0
HasFittingNames π t = (id : List ℕ) (n : NameParts) → name_named π t id ≡ Some n → HasFittingOrder n.order

-- ---- the laws

-- Sets of references.
abbrev pub KeysTell : Type 0
KeysTell =
    (π ρ : Preference) (t u : Data) (f : Family) (ds es : List Data) → AreDistinctKeys (keys_named π t f ds) → AreDistinctKeys (keys_named ρ u f es)
    → (keys_data π t f ds ≡ keys_data ρ u f es) ↔ (key_set (keys_named π t f ds) ≡ key_set (keys_named ρ u f es))

-- Sets of JSON values.
abbrev pub SetsTell : Type 0
SetsTell = (ds es : List Data) → IsSet ds → IsSet es → (set_data ds ≡ set_data es) ↔ (json_set ds ≡ json_set es)

-- Labels.
abbrev pub LabelsTell : Type 0
LabelsTell = (d e : Data) → IsLabel d → IsLabel e → (with_rising_text d ≡ with_rising_text e) ↔ (label_of d ≡ label_of e)

-- The order of a ballot.
abbrev pub ContentsTell : Type 0
ContentsTell =
    (π ρ : Preference) (t u d e : Data) → HasFittingNames π t → HasFittingNames ρ u → IsTree d → IsTree e
    → (content_data π t d ≡ content_data ρ u e) ↔ (content_of π t d ≡ content_of ρ u e)

-- What an accepted report has as the value of a member of this kind.
abbrev pub IsFit : Preference → Data → MemberKind → Data → Type 0
IsFit π t kind.Label d = IsLabel d
IsFit π t (kind.Many f) d = AreDistinctKeys (keys_named π t f (entries_of d))
IsFit π t kind.Identifiers d = IsSet (entries_of d)
IsFit π t kind.Languages d = IsSet (entries_of d)
IsFit π t kind.Content d = IsTree d × HasFittingNames π t
IsFit π t k d = ⊤

-- Any member but the selections of a contest.
abbrev pub ValuesTell : Type 0
ValuesTell =
    (π ρ : Preference) (t u : Data) (k : MemberKind) (d e : Data) → IsFit π t k d → IsFit ρ u k e
    → (shown_value π t k d ≡ shown_value ρ u k e) ↔ (plain_value π t k d ≡ plain_value ρ u k e)

-- Whole records, but for the selections of a contest: the members of two objects of one class are written alike if and only if
-- they mean the same.
abbrev pub AreFit : Preference → Data → Class → Members → Type 0
AreFit π t c ms = (name : List ℕ) (d : Data) → get_member name ms ≡ Some d → IsFit π t (kind_of_member c name) d

abbrev pub RecordsTell : Type 0
RecordsTell =
    (π ρ : Preference) (t u : Data) (c : Class) (ms ns : Members) → AreMembers ms → AreMembers ns → AreFit π t c ms → AreFit ρ u c ns
    → (shown_members (shown_plain π t c) ms ≡ shown_members (shown_plain ρ u c) ns) ↔ (plain_member π t (object ms) c ≡ plain_member ρ u (object ns) c)

-- What an accepted report has as a selection: an object with a name, whose members are fit.
pub record IsSelection (π : Preference) (t d : Data) : Type 0 where
  pub name : NameParts
  pub named : name_of π t d ≡ Some name
  pub fits : HasFittingOrder name.order
  pub ms : Members
  pub is_object : d ≡ object ms
  pub rise : AreMembers ms
  pub fit : (c : Class) → class_of_object selection_role (object ms) ≡ Some c → AreFit π t c ms

-- The selections of a contest: no two have one name.
abbrev pub AreSelections : Preference → Data → List Data → Type 0
AreSelections π t ds = AllByRecursion (IsSelection π t) ds × IsDistinct (eq_by_cmp (λ a b. option_cmp name_cmp (name_of π t a) (name_of π t b))) ds

-- The selections of contests.
abbrev pub SelectionsTell : Type 0
SelectionsTell =
    (π ρ : Preference) (t u : Data) (ds es : List Data) → AreSelections π t ds → AreSelections ρ u es
    → (shown_selections π t ds ≡ shown_selections ρ u es) ↔ (selection_map π t ds ≡ selection_map ρ u es)

-- The same of any member.
abbrev pub IsFitMember : Preference → Data → MemberKind → Data → Type 0
IsFitMember π t (kind.Keyed family.Selection) d = AreSelections π t (entries_of d)
IsFitMember π t k d = IsFit π t k d

abbrev pub AreFitMembers : Preference → Data → Class → Members → Type 0
AreFitMembers π t c ms = (name : List ℕ) (d : Data) → get_member name ms ≡ Some d → IsFitMember π t (kind_of_member c name) d

-- Whole objects: the members of two objects of one class are written alike if and only if they mean the same.
abbrev pub AllMembersTell : Type 0
AllMembersTell =
    (π ρ : Preference) (t u : Data) (c : Class) (ms ns : Members) → AreMembers ms → AreMembers ns → AreFitMembers π t c ms → AreFitMembers ρ u c ns
    → (shown_members (shown_member π t c) ms ≡ shown_members (shown_member ρ u c) ns) ↔ (member_of_class π t (object ms) c ≡ member_of_class ρ u (object ns) c)
