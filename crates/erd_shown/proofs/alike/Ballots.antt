-- In reports that mean the same, two styles with one key have one ballot.
use Rattle.erd_shown.proofs.Common.{◌≡◌, ℕ, false, List, [], map, Some, None, Option, codes, option_and_then, option_map, option_map_or}
use Rattle.erd_shown.proofs.Common.{bytes_eq, sym, refl, ap, ap₂, ◌∙◌, subst, fun_ext, In, contains_from_In, has_identifier, no_identity_fault}
use Rattle.erd_shown.proofs.Common.{no_shape_fault, compact_text, Data, null, array, object, no_items, item, member, no_members, get, get_member}
use Rattle.erd_shown.proofs.Common.{entries_of, entries_at, Class, class, Family, family, role, role_of_class, class_of_object, Object, ObjectAt}
use Rattle.erd_shown.proofs.Common.{member_within, Preference, key_of, Placed, objects, placed_record}
use Rattle.erd_shown.proofs.Common.{Content, no_content, content_of, PlainValue, MemberValue, a_plain, a_content, a_selection_map, member_of_class}
use Rattle.erd_shown.proofs.Common.{unless_empty}
use Rattle.erd_meaning.proofs.Common.{map-map}
use Rattle.erd_shown.specs.BallotLaws.{IsOneBallot}
use Rattle.erd_shown.specs.BallotWords.{printed_selections}
use Rattle.erd_shown.specs.Ballots.{ballot_data, lines_data, lines_of}
use Rattle.erd_shown.specs.KeyData.{array_of, shown_key_or_null}
use Rattle.erd_shown.specs.Laws.{IsTaken}
use Rattle.erd_shown.specs.Lines.{content_lines}
use Rattle.erd_shown.specs.Shown.{holder_key, keys_data, member_data, object_in_class}
use Rattle.erd_shown.proofs.told.Laws.{Taken, members_tell, objects_tell, taken}
use Rattle.erd_shown.proofs.alike.Objects.{AreAlike, found_here, member_in, member_meant, twin}
use Rattle.erd_shown.proofs.alike.Reworded.{ballot_not_reworded}
use Rattle.erd_shown.proofs.alike.Selections.{chosen_alike, chosen_by}
use Rattle.erd_shown.proofs.alike.Lines.{Seen, contents_seen, lines_meant, seen}

style_class : (c : Class) → role_of_class c ≡ role.OfFamily family.Style → c ≡ class.BallotStyle
style_class class.BallotStyle e = refl
style_class c e = cc

-- ---- the content that a member means, and the keys that one is written with

abbrev plain_content : PlainValue → Content
plain_content (a_content c) = c
plain_content v = no_content

abbrev content_in : Option MemberValue → Content
content_in (Some (a_plain v)) = plain_content v
content_in (Some (a_selection_map m)) = no_content
content_in None = no_content

abbrev data_or_none : Option Data → Data
data_or_none o = option_map_or (λ d. d) o (array_of [])

module _ (π : Preference) (t : Data) where
  held_content : (o : Option Data) → content_in (option_map a_plain (option_and_then (λ d. unless_empty (a_content (content_of π t d)) d) o))
      ≡ option_map_or (content_of π t) o no_content
  held_content None = refl
  held_content (Some (array no_items)) = refl
  held_content (Some (array (item d ds))) = refl
  held_content (Some d) = refl

  held_keys : (f : Family) (o : Option Data) → data_or_none (option_and_then (λ d. unless_empty (keys_data π t f (entries_of d)) d) o)
      ≡ keys_data π t f (option_map_or entries_of o [])
  held_keys f None = refl
  held_keys f (Some (array no_items)) = refl
  held_keys f (Some (array (item d ds))) = refl
  held_keys f (Some d) = refl

-- ---- one style

module _ (π : Preference) (t : Data) (given : IsTaken π t) (o : Placed) (there : In o (objects family.Style t)) where
  abbrev object_taken : Taken π t (role.OfFamily family.Style) o
  object_taken = taken π t given (role.OfFamily family.Style) o (contains_from_In o (objects family.Style t) there)

  is_style : object_taken.object_there.class ≡ class.BallotStyle
  is_style = style_class object_taken.object_there.class object_taken.object_there.role

  style_at : ObjectAt t (Object (role.OfFamily family.Style)) (role.OfFamily family.Style) class.BallotStyle object_taken.object_there.ms
  style_at =
      subst (λ c. ObjectAt t (Object (role.OfFamily family.Style)) (role.OfFamily family.Style) c object_taken.object_there.ms) is_style
      object_taken.object_there.at

  of_class : class_of_object (role.OfFamily family.Style) o.value ≡ Some class.BallotStyle
  of_class = ap (class_of_object (role.OfFamily family.Style)) object_taken.object_there.is_object ∙ style_at.among

  member_there : (name : List ℕ) → bytes_eq name (codes "ElectionId") ≡ false → member_in name (placed_record π t family.Style o)
      ≡ member_of_class π t o.value class.BallotStyle name
  member_there name other =
      member_meant π t family.Style o object_taken name refl other
      ∙ ap₂ (λ d c. member_of_class π t d c name) (sym object_taken.object_there.is_object) is_style

  abbrev content_meant : Content
  content_meant = option_map_or (content_of π t) (get (codes "OrderedContent") o.value) no_content

  lines_seen : map (seen π t given) (lines_of o.value) ≡ lines_meant (chosen_by π t) 0 content_meant
  lines_seen =
      subst
      (λ x. map (seen π t given) (lines_of x) ≡ lines_meant (chosen_by π t) 0 (option_map_or (content_of π t) (get (codes "OrderedContent") x) no_content))
      (sym object_taken.object_there.is_object) (at (get_member (codes "OrderedContent") object_taken.object_there.ms) refl)
    where
      at : (x : Option Data) → get_member (codes "OrderedContent") object_taken.object_there.ms ≡ x
          → map (seen π t given) (option_map_or (content_lines 0) x []) ≡ lines_meant (chosen_by π t) 0 (option_map_or (content_of π t) x no_content)
      at None e = refl
      at (Some v) e =
          contents_seen π t given 0 _ v
          (member_within t (no_shape_fault π t given.accepted) (Object (role.OfFamily family.Style)) (role.OfFamily family.Style)
          object_taken.object_there.ms class.BallotStyle (codes "OrderedContent") v style_at.asks style_at.among refl style_at.inside e)

-- ---- two styles with one key

module _ (π ρ : Preference) (t u : Data) (alike : AreAlike π ρ t u) (o p : Placed) (i : In o (objects family.Style t)) (j : In p (objects family.Style u))
    (key : key_of π o.value ≡ key_of ρ p.value) where
  records : placed_record π t family.Style o ≡ placed_record ρ u family.Style p
  records =
      let k = has_identifier π t (no_identity_fault π t alike.left.accepted) family.Style o refl i in
      let other = twin π ρ t u alike family.Style refl k.0 o i k.1 in
      let both : Some other.other ≡ Some p = sym other.found ∙ found_here ρ u family.Style k.0 alike.right.accepted refl p j (sym key ∙ k.1) in
      let one : other.other ≡ p = cc in
      other.records ∙ ap (placed_record ρ u family.Style) one

  member_same : (name : List ℕ) → bytes_eq name (codes "ElectionId") ≡ false → member_of_class π t o.value class.BallotStyle name
      ≡ member_of_class ρ u p.value class.BallotStyle name
  member_same name other =
      sym (member_there π t alike.left o i name other) ∙ ap (member_in name) records ∙ member_there ρ u alike.right p j name other

  content_same : content_meant π t alike.left o i ≡ content_meant ρ u alike.right p j
  content_same =
      sym (held_content π t (get (codes "OrderedContent") o.value)) ∙ ap content_in (member_same (codes "OrderedContent") refl)
      ∙ held_content ρ u (get (codes "OrderedContent") p.value)

  seen_same : map (seen π t alike.left) (lines_of o.value) ≡ map (seen ρ u alike.right) (lines_of p.value)
  seen_same =
      lines_seen π t alike.left o i ∙ ap₂ (λ g c. lines_meant g 0 c) (fun_ext (chosen_alike π ρ t u alike)) content_same
      ∙ sym (lines_seen ρ u alike.right p j)

  lines_same : lines_data π t o.value ≡ lines_data ρ u p.value
  lines_same =
      ap array_of
      (sym (map-map (λ (s : Seen). s.0) (seen π t alike.left) (lines_of o.value)) ∙ ap (map (λ (s : Seen). s.0)) seen_same
      ∙ map-map (λ (s : Seen). s.0) (seen ρ u alike.right) (lines_of p.value))

  words_same : printed_selections π t o.value ≡ printed_selections ρ u p.value
  words_same =
      ap array_of
      (sym (map-map (λ (s : Seen). s.1) (seen π t alike.left) (lines_of o.value)) ∙ ap (map (λ (s : Seen). s.1)) seen_same
      ∙ map-map (λ (s : Seen). s.1) (seen ρ u alike.right) (lines_of p.value))

  data_same : (name : List ℕ) → bytes_eq name (codes "ElectionId") ≡ false → member_data π t class.BallotStyle name o.value
      ≡ member_data ρ u class.BallotStyle name p.value
  data_same name other =
      (members_tell π ρ t u (role.OfFamily family.Style) o p class.BallotStyle name alike.left alike.right
      (contains_from_In o (objects family.Style t) i) (contains_from_In p (objects family.Style u) j)
      (of_class π t alike.left o i) (of_class ρ u alike.right p j)).1 (member_same name other)

  parties_same : keys_data π t family.Party (entries_at (codes "PartyIds") o.value) ≡ keys_data ρ u family.Party (entries_at (codes "PartyIds") p.value)
  parties_same =
      sym (held_keys π t family.Party (get (codes "PartyIds") o.value)) ∙ ap data_or_none (data_same (codes "PartyIds") refl)
      ∙ held_keys ρ u family.Party (get (codes "PartyIds") p.value)

  units_same : keys_data π t family.Unit (entries_at (codes "GpUnitIds") o.value) ≡ keys_data ρ u family.Unit (entries_at (codes "GpUnitIds") p.value)
  units_same =
      sym (held_keys π t family.Unit (get (codes "GpUnitIds") o.value)) ∙ ap data_or_none (data_same (codes "GpUnitIds") refl)
      ∙ held_keys ρ u family.Unit (get (codes "GpUnitIds") p.value)

  -- the key of the election, as the records of the two styles have it
  holder_same : shown_key_or_null (holder_key π t (role.OfFamily family.Style) o) ≡ shown_key_or_null (holder_key ρ u (role.OfFamily family.Style) p)
  holder_same =
      let r = role.OfFamily family.Style in
      let mine = ap (λ c. option_map_or (object_in_class π t (holder_key π t r o) o.value) c null) (of_class π t alike.left o i) in
      let its = ap (λ c. option_map_or (object_in_class ρ u (holder_key ρ u r p) p.value) c null) (of_class ρ u alike.right p j) in
      let told : object_in_class π t (holder_key π t r o) o.value class.BallotStyle ≡ object_in_class ρ u (holder_key ρ u r p) p.value class.BallotStyle =
      sym mine
      ∙ (objects_tell π ρ t u r o p alike.left alike.right (contains_from_In o (objects family.Style t) i) (contains_from_In p (objects family.Style u) j)).1
      records
      ∙ its in
      cc

  pub told_alike : ballot_data π t o ≡ ballot_data ρ u p
  told_alike = λ x. object (member (codes "election") (holder_same x) (member (codes "key") (shown_key_or_null (key x))
      (member (codes "lines") (lines_same x) (member (codes "parties") (parties_same x) (member (codes "units") (units_same x) no_members)))))

  pub one_ballot : IsOneBallot π t o.value ρ u p.value
  one_ballot = (
    λ x. object (member (codes "key") (shown_key_or_null (key x)) (member (codes "lines") (lines_same x)
        (member (codes "parties") (parties_same x) (member (codes "units") (units_same x) no_members)))),
    ap compact_text words_same,
    ballot_not_reworded π ρ t u alike o.value,
  )
