-- The report as it is written, by one recursion over what the table asks: other texts for references, sets in an order, members
-- left out and put in. It does not define the profile: `IsCanonicalFormOf` does.
use Rattle.std.specs.Prelude.{ℕ, List, [], ◌∷◌, Bool, true, false, ◌||◌, ◌&&◌, if◌then◌else◌, Option, Some, None, map, codes}
use Rattle.std.specs.Option.{option_map_or}
use Rattle.std.specs.declared.cmp.Ordering.{Ordering}
use Rattle.serde_json.specs.Data.{Data, null, string, array, object, Items, no_items, item, Members, no_members, member}
use Rattle.serde_json.specs.View.{items_of}
use Rattle.erd_tables.specs.declared.class.Family.{Family}
use Rattle.erd_tables.specs.declared.class.Family.TheVariants as family
use Rattle.erd_tables.specs.declared.class.Role.TheVariants as role
use Rattle.erd_tables.specs.declared.member.MemberKind.TheVariants as kind
use Rattle.erd_check.specs.Faults.{is_empty_array}
use Rattle.erd_check.specs.Values.{text_of}
use Rattle.erd_check.specs.Wants.{entry_want, is_table_set, scope_inside, want_of_name}
use Rattle.erd_check.specs.declared.want.Scope.{Scope}
use Rattle.erd_check.specs.declared.want.Want.{Want}
use Rattle.erd_check.specs.declared.want.Want.TheVariants.{Member, Object, Reference}
use Rattle.erd_meaning.specs.Keys.{Preference, key_of}
use Rattle.erd_text.specs.RisingLists.{compact_cmp, rising_list}
use Rattle.erd_normal.specs.SaysTheSame.{is_array_kind, is_envelope}
use Rattle.erd_normal.specs.code.Building.{put_all}
use Rattle.erd_normal.specs.code.NormalTree.{by_key, by_name, envelope_values, id_of_key, id_of_selection, normal_id, normal_selection_reference, reference_cmp}

-- ---- in any style

-- How a report is written: the text of a reference to an object of the family, the order of a set, and the members that are put
-- into an object, given the object that holds it.
pub record Style : Type 0 where
  pub text : Family → List ℕ → List ℕ
  pub cmp : Want → Data → Data → Ordering
  pub puts : Data → Want → Data → List (List ℕ × Data)

abbrev pub text_for : Style → Want → List ℕ → List ℕ
text_for n (Reference f) s = n.text f s
text_for n w s = s

-- True for an `@id`, in the place of which the style puts one, and for an empty array of the table.
abbrev pub is_dropped : Option Want → Data → Bool
is_dropped (Some (Member kind.Identity r)) d = true
is_dropped (Some (Member k r)) d = is_array_kind k && is_empty_array d
is_dropped w d = false

-- True for a member that is not written as it stands.
abbrev pub is_left_out : Scope → List ℕ → Data → Bool
is_left_out s k d = is_envelope s k || is_dropped (want_of_name s k) d

-- What becomes of the entries, each of which stands beside what becomes of it.
abbrev pub set_in_order : Style → Want → List (Data × Data) → List (Data × Data)
set_in_order n w ps = if is_table_set w then rising_list (λ (p q : Data × Data). n.cmp w p.0 q.0) ps else ps

-- The value as it is written, given the object that holds it and what is asked of it.
abbrev mutual
  pub view : Style → Data → Option Want → Data → Data
  view n o (Some w) (string s) = string (text_for n w s)
  view n o (Some w) (array ds) = array (items_of (map (λ (p : Data × Data). p.1) (set_in_order n w (view_entries n o (entry_want w) ds))))
  view n o (Some w) (object ms) = object (put_all (n.puts o w (object ms)) (view_members n (object ms) (scope_inside w (object ms)) ms))
  view n o w d = d

  -- Each entry, and what becomes of it.
  pub view_entries : Style → Data → Option Want → Items → List (Data × Data)
  view_entries n o w no_items = []
  view_entries n o w (item d ds) = (d, view n o w d) ∷ view_entries n o w ds

  -- The members that are not left out.
  pub view_members : Style → Data → Scope → Members → Members
  view_members n o s no_members = no_members
  view_members n o s (member k d ms) =
      option_map_or (λ v. member k v (view_members n o s ms)) (if is_left_out s k d then None else Some (view n o (want_of_name s k) d)) (view_members n o s ms)

-- The report as it is written.
abbrev pub whole : Style → Data → Data
whole n t = view n null (Some (Object role.Report)) t

-- ---- in the canonical style

abbrev pub text_of_reference : Preference → Data → Family → List ℕ → List ℕ
text_of_reference π t family.Selection s = text_of (normal_selection_reference π t (string s))
text_of_reference π t f s = normal_id π t f s

abbrev pub set_cmp : Preference → Data → Want → Data → Data → Ordering
set_cmp π t (Member (kind.Keyed family.Selection) r) a b = by_name π t a b
set_cmp π t (Member (kind.Keyed f) r) a b = by_key π a b
set_cmp π t (Member kind.Elections r) a b = by_key π a b
set_cmp π t (Member (kind.Many f) r) a b = reference_cmp π t f a b
set_cmp π t w a b = compact_cmp a b

-- The canonical `@id` of the object of the family, given the object that holds it.
abbrev pub id_given : Preference → Data → Data → Family → Data → Option (List ℕ)
id_given π t o family.Selection d = Some (id_of_selection π t o d)
id_given π t o f d = id_of_key π t f (key_of π d)

abbrev pub as_member : Option (List ℕ) → List (List ℕ × Data)
as_member (Some id) = (codes "@id", string id) ∷ []
as_member None = []

abbrev pub puts_of : Preference → Data → Data → Want → Data → List (List ℕ × Data)
puts_of π t o (Object role.Report) d = envelope_values
puts_of π t o (Object (role.OfFamily f)) d = as_member (id_given π t o f d)
puts_of π t o w d = []

abbrev pub style_of : Preference → Data → Style
style_of π t = record { text = text_of_reference π t; cmp = set_cmp π t; puts = puts_of π t }
