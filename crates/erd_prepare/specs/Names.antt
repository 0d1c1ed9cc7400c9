-- Identifiers from names, for objects that have none.
use Rattle.std.specs.Prelude.{ℕ, List, [], ◌∷◌, ◌++◌, Bool, true, false, ◌&&◌, ◌||◌, if◌then◌else◌, Option, Some, None, codes, is_some, option_and_then}
use Rattle.std.specs.Prelude.{option_map, unwrap_or, length, nat_lt}
use Rattle.std.specs.Option.{option_map_or}
use Rattle.std.specs.Ordering.{is_lt, ordering_then}
use Rattle.serde_json.specs.Data.{Data, string, array, object, no_items, item, no_members, member}
use Rattle.serde_json.specs.Find.{as_null, as_str, get}
use Rattle.erd_tables.specs.Texts.{text_cmp}
use Rattle.erd_tables.specs.declared.class.Family.TheVariants as family
use Rattle.erd_tables.specs.declared.class.Role.{Role}
use Rattle.erd_tables.specs.declared.class.Role.TheVariants as role
use Rattle.erd_check.specs.Faults.{is_empty_array}
use Rattle.erd_check.specs.Values.{entries_at, text_at}
use Rattle.erd_check.specs.Wants.{class_of_object}
use Rattle.erd_check.specs.declared.want.Want.{Want}
use Rattle.erd_check.specs.declared.want.Want.TheVariants.{Object}
use Rattle.erd_prepare.specs.Rules.{Rule, scope_in}

-- ---- the text of a label

-- The language and the content of a translation that has both.
abbrev pub pair_of : Data → Option (List ℕ × List ℕ)
pair_of d =
    option_and_then (λ l. option_map (λ c. (l, c)) (option_and_then as_str (get (codes "Content") d))) (option_and_then as_str (get (codes "Language") d))

-- The lesser of two, by language and then by content; the first if they are equal.
abbrev pub lesser : Option (List ℕ × List ℕ) → Option (List ℕ × List ℕ) → Option (List ℕ × List ℕ)
lesser None q = q
lesser (Some p) None = Some p
lesser (Some p) (Some q) = if is_lt (ordering_then (text_cmp q.0 p.0) (text_cmp q.1 p.1)) then Some q else Some p

-- The least of a pair and those of the translations.
abbrev pub least_from : Option (List ℕ × List ℕ) → List Data → Option (List ℕ × List ℕ)
least_from best [] = best
least_from best (d ∷ ds) = least_from (lesser best (pair_of d)) ds

-- The text of a label: of several translations that of the least language.
abbrev pub text_of_label : Data → Option (List ℕ)
text_of_label (string s) = Some s
text_of_label (object ms) = option_map (λ p. p.1) (least_from None (entries_at (codes "Text") (object ms)))
text_of_label d = None

-- The text of the label in this member, if it has one.
abbrev pub label_at : List ℕ → Data → Option (List ℕ)
label_at name d = option_and_then text_of_label (get name d)

-- ---- the name of an object

-- Two texts with a blank between them, if both have letters.
abbrev pub joined : List ℕ → List ℕ → List ℕ
joined [] b = b
joined (x ∷ a) [] = x ∷ a
joined (x ∷ a) (y ∷ b) = (x ∷ a) ++ (codes " " ++ y ∷ b)

-- The name of an object with the role; empty if it has none.
abbrev pub name_text : Role → Data → List ℕ
name_text (role.OfFamily family.Candidate) d = unwrap_or (label_at (codes "BallotName") d) []
name_text (role.OfFamily family.Person) d = unwrap_or (label_at (codes "FullName") d) (joined (text_at (codes "FirstName") d) (text_at (codes "LastName") d))
name_text r d = unwrap_or (label_at (codes "Name") d) []

-- ---- the step

-- True for null and for a list without an entry.
abbrev pub is_nothing : Data → Bool
is_nothing d = is_some (as_null d) || is_empty_array d

-- True if the object has no entry of `ExternalIdentifier`.
abbrev pub has_no_identifier : Data → Bool
has_no_identifier d = option_map_or is_nothing (get (codes "ExternalIdentifier") d) true

-- True if objects with the role are known by an identifier. Elections are, if there are several.
abbrev pub is_known_by : Bool → Role → Bool
is_known_by several (role.OfFamily family.Selection) = false
is_known_by several (role.OfFamily f) = true
is_known_by several role.Election = several
is_known_by several r = false

-- An identifier of the Type `other`, given its OtherType and its Value.
abbrev pub other_identifier : List ℕ → List ℕ → Data
other_identifier other_type text =
    object (member (codes "@type") (string (codes "ElectionResults.ExternalIdentifier")) (member (codes "OtherType") (string other_type)
    (member (codes "Type") (string (codes "other")) (member (codes "Value") (string text) no_members))))

-- The list of one identifier.
abbrev pub name_identifier : List ℕ → Data
name_identifier text = array (item (other_identifier (codes "name") text) no_items)

-- What is put in for a name: nothing, if it is empty.
abbrev pub identifier_of_name : List ℕ → List (List ℕ × Data)
identifier_of_name [] = []
identifier_of_name (x ∷ text) = (codes "ExternalIdentifier", name_identifier (x ∷ text)) ∷ []

-- What is put into an object.
abbrev pub named : Bool → Option Want → Data → List (List ℕ × Data)
named several (Some (Object r)) d = if is_known_by several r && (is_some (class_of_object r d) && has_no_identifier d) then identifier_of_name
    (name_text r d) else []
named several w d = []

-- The step, given whether there are several elections.
abbrev pub naming_if : Bool → Rule
naming_if several = record {
  scopes = scope_in;
  shapes = λ p w d. None;
  wraps = λ p w d. false;
  drops = λ p s k d. false;
  lets_go = λ p w d. false;
  puts = λ p w d. named several w d;
}

-- The step: each object without an identifier has its name as one.
abbrev pub naming : Data → Rule
naming t = naming_if (nat_lt 1 (length (entries_at (codes "Election") t)))
