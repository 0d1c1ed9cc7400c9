-- Keys: what names an object independently of the vendor.
use Rattle.std.specs.Prelude.{ℕ, List, [], ◌∷◌, if◌then◌else◌, Bool, true, false, Option, Some, None, map, filter, codes}
use Rattle.std.specs.Option.{option_or}
use Rattle.std.specs.Ordering.{ordering_then, is_lt}
use Rattle.std.specs.Str.{bytes_eq}
use Rattle.std.specs.declared.cmp.Ordering.{Ordering}
use Rattle.serde_json.specs.Data.{Data}
use Rattle.erd_tables.specs.Texts.{text_cmp}
use Rattle.erd_tables.specs.declared.class.Family.{Family}
use Rattle.erd_tables.specs.declared.class.Family.TheVariants as family
use Rattle.erd_tables.specs.declared.class.Role.{Role}
use Rattle.erd_tables.specs.declared.class.Role.TheVariants as role
use Rattle.erd_check.specs.Values.{entries_at, text_at}
use Rattle.erd_meaning.specs.declared.keys.key.Key.{Key}

-- True for the first eight families, whose objects are named by keys. Selections have names of their own. (profile)
abbrev pub has_keys : Family → Bool
has_keys family.Selection = false
has_keys f = true

-- True for a role whose objects are told apart by keys: the first eight families and elections. (profile)
abbrev pub is_keyed_role : Role → Bool
is_keyed_role (role.OfFamily f) = has_keys f
is_keyed_role role.Election = true
is_keyed_role r = false

-- Keys are compared part by part: type, other type, value. (profile)
abbrev pub key_cmp : Key → Key → Ordering
key_cmp a b = ordering_then (text_cmp a.kind b.kind) (ordering_then (text_cmp a.other b.other) (text_cmp a.value b.value))

-- The triple of an identifier: `Type`, `OtherType` and `Value`, each the empty text if it is absent. (class
-- ExternalIdentifier)
abbrev pub triple_of : Data → Key
triple_of d = record { kind = text_at (codes "Type") d; other = text_at (codes "OtherType") d; value = text_at (codes "Value") d }

-- The lesser of two keys.
abbrev pub lesser_key : Key → Key → Key
lesser_key a b = if is_lt (key_cmp b a) then b else a

-- The least key among one key and a list of others.
abbrev pub least_key_of : Key → List Key → Key
least_key_of k [] = k
least_key_of k (l ∷ ls) = least_key_of (lesser_key k l) ls

-- The least key of a list, or none if the list is empty.
abbrev pub least_key : List Key → Option Key
least_key [] = None
least_key (k ∷ ks) = Some (least_key_of k ks)

-- The preferred type of identifier, which keys follow, or none. (profile)
abbrev pub Preference : Type 0
Preference = Option (List ℕ)

-- True if the `Type` of the triple is this text. `OtherType` does not count. (profile)
abbrev pub is_of_type : List ℕ → Key → Bool
is_of_type type k = bytes_eq k.kind type

-- The least key that has the preferred type, or none if no key has it or no type is preferred.
abbrev pub preferred_key : Preference → List Key → Option Key
preferred_key None ks = None
preferred_key (Some type) ks = least_key (filter (is_of_type type) ks)

-- The key that the identifiers give: the least triple of the preferred type if there is one, and otherwise the least triple
-- of all. (profile)
abbrev pub key_of_identifiers : Preference → List Data → Option Key
key_of_identifiers π ds = option_or (preferred_key π (map triple_of ds)) (least_key (map triple_of ds))

-- The key of an object, or none if it has no identifier. (profile)
abbrev pub key_of : Preference → Data → Option Key
key_of π d = key_of_identifiers π (entries_at (codes "ExternalIdentifier") d)

-- The key of an object of a family, or none if the family has no keys or the object has no identifier.
abbrev pub key_of_family_object : Preference → Family → Data → Option Key
key_of_family_object π f d = if has_keys f then key_of π d else None
