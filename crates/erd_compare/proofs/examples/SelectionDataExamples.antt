-- The JSON values of names of selections and of what differs inside them.
use Rattle.erd_compare.proofs.Common.{◌≡◌, ℕ, true, false, List, [], ◌∷◌, Some, None, codes, refl, Data, null, boolean, number, string, array, object}
use Rattle.erd_compare.proofs.Common.{no_members, member, unsigned, negative, class, local_key, NameParts, OnlyRight, Member}
use Rattle.std.specs.Prelude.{pos, negsuc}
use Rattle.serde_json.specs.View.{items_of}
use Rattle.erd_compare.specs.SelectionData.{name_data, selection_data, whole_data}

-- numbers of 64 bits are numbers, and others are null
whole_numbers : (whole_data (pos 9007199254740993) ≡ number (unsigned 9007199254740993))
    × (whole_data (pos 18446744073709551615) ≡ number (unsigned 18446744073709551615)) × (whole_data (pos 18446744073709551616) ≡ null)
whole_numbers = (refl, refl, refl)

below_zero : (whole_data (negsuc 0) ≡ number (negative (negsuc 0))) × (whole_data (negsuc 9223372036854775807) ≡ number (negative (negsuc 9223372036854775807)))
    × (whole_data (negsuc 9223372036854775808) ≡ null)
below_zero = (refl, refl, refl)

-- a write-in line that is the third of its contest
abbrev line : NameParts
line = record { class = class.CandidateSelection; keys = []; write_in = true; order = Some (pos 3); label = None; identifier = None }

abbrev line_data : Data
line_data = array (items_of (string (codes "ElectionResults.CandidateSelection") ∷ array (items_of []) ∷ boolean true ∷ number (unsigned 3) ∷ null ∷ null ∷ []))

-- a candidate with a key, and a selection with a label and an identifier
abbrev candidate : NameParts
candidate = record {
  class = class.CandidateSelection;
  keys = local_key (codes "A") ∷ [];
  write_in = false;
  order = None;
  label = Some (codes "Yes");
  identifier = Some (local_key (codes "S1"));
}

abbrev key_data : List ℕ → Data
key_data value = array (items_of (string (codes "local-level") ∷ string [] ∷ string value ∷ []))

names : (name_data line ≡ line_data)
    × (name_data candidate
    ≡ array (items_of (string (codes "ElectionResults.CandidateSelection") ∷ array (items_of (key_data (codes "A") ∷ [])) ∷ boolean false ∷ null
    ∷ string (codes "Yes") ∷ key_data (codes "S1") ∷ [])))
names = (refl, refl)

-- with the way and the member that differ
differences : (selection_data (record { name = line; how = OnlyRight })
    ≡ object (member (codes "how") (string (codes "only right")) (member (codes "name") line_data no_members)))
    × (selection_data (record { name = line; how = Member (codes "Note") })
    ≡ object (member (codes "how") (string (codes "member")) (member (codes "member") (string (codes "Note")) (member (codes "name") line_data no_members))))
differences = (refl, refl)
