-- Steps that leave out members by what stands there alone.
use Rattle.std.specs.Prelude.{ℕ, ℤ, List, [], Bool, true, false, not, ◌&&◌, ◌||◌, Option, Some, None, Float, codes, option_map}
use Rattle.std.specs.Float.{binary64, float_to_signed, float_zero}
use Rattle.std.specs.Float.Ieee.{eq, of_int}
use Rattle.std.specs.Int.{w64}
use Rattle.std.specs.Option.{option_map_or}
use Rattle.std.specs.Str.{bytes_eq}
use Rattle.serde_json.specs.Data.{Data, null, boolean, number, float, string, array, object, Items, no_items, item, Members, no_members, member}
use Rattle.serde_json.specs.Find.{as_number, get, to_float}
use Rattle.erd_tables.specs.Table.{is_required}
use Rattle.erd_tables.specs.declared.class.Class.{Class}
use Rattle.erd_tables.specs.declared.class.Class.TheVariants as class
use Rattle.erd_tables.specs.declared.member.MemberKind.TheVariants as kind
use Rattle.erd_check.specs.Faults.{is_array, is_empty_array, is_object}
use Rattle.erd_check.specs.Wants.{want_of_name}
use Rattle.erd_check.specs.declared.want.Scope.{Scope}
use Rattle.erd_check.specs.declared.want.Scope.TheVariants as scope
use Rattle.erd_check.specs.declared.want.Want.{Want}
use Rattle.erd_check.specs.declared.want.Want.TheVariants.{Carried, Member}
use Rattle.erd_prepare.specs.Rules.{Rule, scope_in}

-- A step that leaves out these members and does nothing else.
abbrev pub dropping : (Scope → List ℕ → Data → Bool) → Rule
dropping drops = record {
  scopes = scope_in;
  shapes = λ p w d. None;
  wraps = λ p w d. false;
  drops = λ p s k d. drops s k d;
  lets_go = λ p w d. false;
  puts = λ p w d. [];
}

-- True if the class of the object must have the member.
abbrev pub is_required_in : Scope → List ℕ → Bool
is_required_in (scope.Members r (Some c)) name = is_required c name
is_required_in s name = false

-- True for a member that is outside the profile.
abbrev pub is_outside_member : Option Want → Bool
is_outside_member (Some (Member kind.Outside required)) = true
is_outside_member w = false

-- True for a member with a label.
abbrev pub is_label : Option Want → Bool
is_label (Some (Member kind.Label required)) = true
is_label w = false

-- True for an `@id` where none belongs.
abbrev pub is_stray_identity : Option Want → Bool
is_stray_identity (Some (Member kind.StrangeIdentity required)) = true
is_stray_identity w = false

-- ---- positions on a map

-- True for a float that is not this whole number.
abbrev pub is_no_whole : Float → ℤ → Bool
is_no_whole x z = not (eq (of_int binary64 z) x)

-- True for a number with a fraction.
abbrev pub is_fraction : Data → Bool
is_fraction (number (float x)) = is_no_whole x (float_to_signed w64 x)
is_fraction d = false

-- True for a number with a fraction, and for a list in which there is one, in a list of it too.
abbrev mutual
  pub holds_fraction : Data → Bool
  holds_fraction null = false
  holds_fraction (boolean b) = false
  holds_fraction (number n) = is_fraction (number n)
  holds_fraction (string s) = false
  holds_fraction (array ds) = items_hold_fraction ds
  holds_fraction (object ms) = false

  pub items_hold_fraction : Items → Bool
  items_hold_fraction no_items = false
  items_hold_fraction (item d ds) = holds_fraction d || items_hold_fraction ds

-- The names of the two parts of a position (SP 1500-100, LatLng).
abbrev pub is_degree_name : List ℕ → Bool
is_degree_name name = bytes_eq name (codes "Latitude") || bytes_eq name (codes "Longitude")

-- True for a carried value.
abbrev pub is_carried_want : Option Want → Bool
is_carried_want (Some Carried) = true
is_carried_want w = false

-- True for a member that may be a degree, or a list of positions.
abbrev pub may_be_geographic : List ℕ → Data → Bool
may_be_geographic name d = is_degree_name name || is_array d

-- A degree, or a list of positions, in a member that a vendor has in the place of a `LatLng`.
abbrev pub is_geographic : Option Want → List ℕ → Data → Bool
is_geographic w name d = is_carried_want w && (may_be_geographic name d && holds_fraction d)

-- Positions of places.
abbrev pub is_coordinate : Scope → List ℕ → Data → Bool
is_coordinate s name d = bytes_eq name (codes "LatLng") || is_geographic (want_of_name s name) name d

-- The names of members that are on no ballot.
abbrev pub is_off_ballot_name : List ℕ → Bool
is_off_ballot_name name = bytes_eq name (codes "OfficeGroup") || (bytes_eq name (codes "ElectionAdministration") || bytes_eq name (codes "PartyRegistration"))

-- Groups of offices, the administration of units and their registered voters.
abbrev pub is_off_ballot : Scope → List ℕ → Data → Bool
is_off_ballot s name d = is_off_ballot_name name && (is_outside_member (want_of_name s name) && not (is_empty_array d))

-- Texts without a translation that may be absent.
abbrev pub is_empty_label : Scope → List ℕ → Data → Bool
is_empty_label s name d =
    is_label (want_of_name s name) && (not (is_required_in s name) && (is_object d && option_map_or is_empty_array (get (codes "Text") d) true))

-- System names of objects to which nothing can refer.
abbrev pub is_stray_id : Scope → List ℕ → Data → Bool
is_stray_id s name d = bytes_eq name (codes "@id") && is_stray_identity (want_of_name s name)

-- ---- counts

-- True for the number zero, as `0`, `0.0` or `-0`.
abbrev pub is_zero : Data → Bool
is_zero d = option_map_or (λ x. eq x float_zero) (option_map to_float (as_number d)) false

-- The names of members with counts.
abbrev pub is_count_name : List ℕ → Bool
is_count_name name = bytes_eq name (codes "VoteCounts") || bytes_eq name (codes "OtherCounts")

-- True for the number of a round, and for a member that counts nothing.
abbrev pub member_counts_nothing : List ℕ → Bool → Bool
member_counts_nothing name nothing = bytes_eq name (codes "Round") || nothing

-- True if every number in the value is zero. The number of a round counts nothing.
abbrev mutual
  pub counts_nothing : Data → Bool
  counts_nothing null = true
  counts_nothing (boolean b) = true
  counts_nothing (number n) = is_zero (number n)
  counts_nothing (string s) = true
  counts_nothing (array ds) = items_count_nothing ds
  counts_nothing (object ms) = members_count_nothing ms

  pub items_count_nothing : Items → Bool
  items_count_nothing no_items = true
  items_count_nothing (item d ds) = counts_nothing d && items_count_nothing ds

  pub members_count_nothing : Members → Bool
  members_count_nothing no_members = true
  members_count_nothing (member k d ms) = member_counts_nothing k (counts_nothing d) && members_count_nothing ms

-- Vote counts of zero, which a system writes before the election.
abbrev pub is_zero_count : Scope → List ℕ → Data → Bool
is_zero_count s name d = is_count_name name && (is_outside_member (want_of_name s name) && (not (is_empty_array d) && counts_nothing d))

-- ---- empty lists

-- True for an object of a known class whose class does not require the member, and for carried objects.
abbrev pub may_lack : Scope → List ℕ → Bool
may_lack (scope.Members r (Some c)) name = not (is_required c name)
may_lack scope.Carried name = true
may_lack s name = false

-- Lists without an entry, where none has to stand.
abbrev pub is_empty_list : Scope → List ℕ → Data → Bool
is_empty_list s name d = is_empty_array d && may_lack s name

-- ---- what a comparison may pass over

-- The members of an object of the class that no ballot shows, but for its identifiers. None of them is required.
-- docs/PROFILE.md ("What a voter sees") has them as unseen.
abbrev pub is_unseen_name : Class → List ℕ → Bool
is_unseen_name class.ReportingUnit name =
    bytes_eq name (codes "AuthorityIds") || (bytes_eq name (codes "IsDistricted") || bytes_eq name (codes "IsMailOnly"))
is_unseen_name class.Party name = bytes_eq name (codes "LeaderPersonIds") || bytes_eq name (codes "PartyScopeGpUnitIds")
is_unseen_name class.Coalition name = bytes_eq name (codes "LeaderPersonIds") || bytes_eq name (codes "PartyScopeGpUnitIds")
is_unseen_name class.Office name = bytes_eq name (codes "OfficeHolderPersonIds")
is_unseen_name class.Candidate name = bytes_eq name (codes "FileDate")
is_unseen_name class.CandidateContest name = bytes_eq name (codes "NumberRunoff")
is_unseen_name c name = false

-- Members that no ballot shows.
abbrev pub is_unseen : Scope → List ℕ → Data → Bool
is_unseen (scope.Members r (Some c)) name d = is_unseen_name c name
is_unseen s name d = false

-- True for a member with a truth value.
abbrev pub is_flag : Option Want → Bool
is_flag (Some (Member kind.Flag required)) = true
is_flag w = false

-- True for the value `false`.
abbrev pub is_false : Data → Bool
is_false (boolean b) = not b
is_false d = false

-- Truth values that are false, where none has to stand.
abbrev pub is_false_flag : Scope → List ℕ → Data → Bool
is_false_flag s name d = is_flag (want_of_name s name) && (not (is_required_in s name) && is_false d)
