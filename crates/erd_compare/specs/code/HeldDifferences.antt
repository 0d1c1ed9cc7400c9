-- The ways in which two objects differ that elections hold, with the key of the election as the member `ElectionId`.
use Rattle.std.specs.Prelude.{ℕ, ◌≡◌, Bool, List, [], ◌∷◌, Option, Some, None, codes, if◌then◌else◌}
use Rattle.std.specs.Ordering.{is_lt}
use Rattle.erd_tables.specs.Texts.{text_cmp}
use Rattle.erd_meaning.specs.Meaning.{ObjectRecord}
use Rattle.erd_meaning.specs.Records.{record_in_election}
use Rattle.erd_meaning.specs.declared.keys.key.Key.{Key}
use Rattle.erd_compare.specs.code.DifferingWays.{AreWays}
use Rattle.erd_compare.specs.declared.objects.ways.Ways.{Ways}

-- The names, with this name before the first of them that is not less.
abbrev pub with_name : List ℕ → List (List ℕ) → List (List ℕ)
with_name name [] = name ∷ []
with_name name (k ∷ ks) = if is_lt (text_cmp k name) then k ∷ with_name name ks else name ∷ k ∷ ks

-- The record has no member `ElectionId` of its own.
abbrev pub HasNoElectionId : ObjectRecord → Type 0
HasNoElectionId r = r.members (codes "ElectionId") ≡ None

-- If two records differ in the first ways, then with the keys of these elections they differ in the second ones.
abbrev pub TellsHeld : Bool → Ways → Option Key → Option Key → Ways → Type 0
TellsHeld all own k l ways =
    (a b : ObjectRecord) → HasNoElectionId a → HasNoElectionId b → AreWays all (Some a) (Some b) own
    → AreWays all (Some (record_in_election k a)) (Some (record_in_election l b)) ways
