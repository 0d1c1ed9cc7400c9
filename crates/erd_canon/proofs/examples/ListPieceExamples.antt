-- Pieces of a list of differences: of a refused report, of equal reports, and of two contests where a bound lets one be told.
use Rattle.erd_canon.proofs.Common.{◌≡◌, ◌≤◌, ◌<◌, ℕ, zero, suc, true, List, [], ◌∷◌, ◌++◌, map, length, take, Some, None, Option, codes, refl, ap}
use Rattle.erd_canon.proofs.Common.{inl, inr, arith, serde_json_on_literals, object, compact_text, fault_data, faults_data, refused_data, Bad, Good}
use Rattle.std.proofs.Common.{sum}
use Rattle.std.specs.Global.{Vec}
use Rattle.serde_json.specs.Data.{array}
use Rattle.serde_json.specs.View.{items_of}
use Rattle.erd_meaning.specs.NameParts.{NameParts}
use Rattle.erd_tables.specs.declared.class.Class.TheVariants as class
use Rattle.erd_compare.proofs.Common.{local_key}
use Rattle.erd_compare.specs.DifferenceData.{difference_members}
use Rattle.erd_compare.specs.SelectionData.{detailed_data, selections_member}
use Rattle.erd_compare.specs.declared.detailed.DetailedDifference.{DetailedDifference}
use Rattle.erd_compare.specs.declared.difference.Difference.{Difference}
use Rattle.erd_compare.specs.declared.difference.How.TheVariants.{Member, OnlyLeft}
use Rattle.erd_compare.specs.declared.difference.Part.TheVariants as part
use Rattle.erd_compare.specs.declared.inside.SelectionDifference.{SelectionDifference}
use Rattle.erd_canon.specs.EngineTexts.{AreDetailed}
use Rattle.erd_canon.specs.Pieces.{IsListPiece, IsPieceData}
use Rattle.erd_canon.specs.declared.data.piece.Piece.{Piece}
use Rattle.erd_canon.proofs.examples.EngineExamples.{null_refused, root_kind}

-- ---- a refused report

one_fault : IsPieceData fault_data (record { first = 0; most = 9; enough_bytes = 1 }) (root_kind ∷ []) (record { count = 1; all = 1 })
    (faults_data (root_kind ∷ []))
one_fault = record {
  shown = root_kind ∷ [];
  is_piece =
      record { front = record { rest = []; split = refl; few = omega arith; begun = begun; full = λ some. absurd (some refl) }; count = refl; all = refl };
  is_array = refl;
}
  where
    begun : (k : ℕ) → k < 1 → sum (map (λ f. length (compact_text (fault_data f))) (take k (root_kind ∷ []))) < 1
    begun zero less = omega arith
    begun (suc k) less = absurd (omega (arith, less))

-- the left report is judged first, whatever the right one is, and the piece is one of its faults
refused_left : (right : List ℕ) → IsListPiece None (codes "null") right (record { first = 0; most = 9; enough_bytes = 1 }) Bad (record { count = 1; all = 1 })
    (refused_data (codes "left") (faults_data (root_kind ∷ [])))
refused_left right = inl (faults_data (root_kind ∷ []), (root_kind ∷ [], null_refused, one_fault), refl)

-- ---- two contests

-- a line for a write-in that the left report alone has
abbrev line : NameParts
line = record { class = class.CandidateSelection; keys = []; write_in = true; order = None; label = None; identifier = None }

abbrev only : SelectionDifference
only = record { name = line; how = OnlyLeft }

-- the selections of the contest with this key differ, and what differs is told or not
abbrev in_contest : List ℕ → Difference
in_contest value = record { part = part.Contest; key = Some (local_key value); how = Member (codes "ContestSelection") }

abbrev contest : List ℕ → Option (Vec SelectionDifference) → DetailedDifference
contest value told = record { difference = in_contest value; selections = told }

-- with what is told the entry has 195 bytes, and 90 of these are the array of selections
told_text : (v : Vec SelectionDifference) → v.items ≡ only ∷ [] → compact_text (detailed_data (contest (codes "C1") (Some v)))
    ≡ codes "{\"how\":\"member\",\"key\":[\"local-level\",\"\",\"C1\"],\"member\":\"ContestSelection\",\"part\":\"contest\""
    ++ codes ",\"selections\":[{\"how\":\"only left\",\"name\":[\"ElectionResults.CandidateSelection\",[],true,null,null,null]}]}"
unfolding serde_json_on_literals
told_text v items = ap (λ ds. compact_text (object (difference_members (in_contest (codes "C1")) (selections_member (Some ds))))) items

-- the piece from this entry on, of which 90 bytes are enough
abbrev from : ℕ → Piece
from first = record { first = first; most = 9; enough_bytes = 90 }

abbrev size : DetailedDifference → ℕ
size d = length (compact_text (detailed_data d))

-- 90 bytes are enough for what differs inside the first contest alone. Its entry fills the piece, so the second one is left for
-- the next piece, and the list has two all the same.
first_told : (left right : List ℕ) (v : Vec SelectionDifference) → v.items ≡ only ∷ []
    → AreDetailed None left right 0 90 (contest (codes "C1") (Some v) ∷ contest (codes "C2") None ∷ [])
    → IsListPiece None left right (from 0) Bad (record { count = 1; all = 2 }) (array (items_of (detailed_data (contest (codes "C1") (Some v)) ∷ [])))
first_told left right v items are = inr (inr (
  contest (codes "C1") (Some v) ∷ contest (codes "C2") None ∷ [],
  are,
  refl,
  record {
    shown = contest (codes "C1") (Some v) ∷ [];
    is_piece = record {
      front = record { rest = contest (codes "C2") None ∷ []; split = refl; few = omega arith; begun = begun; full = λ some. inr enough };
      count = refl;
      all = refl;
    };
    is_array = refl;
  },
))
  where
    begun : (k : ℕ) → k < 1 → sum (map size (take k (contest (codes "C1") (Some v) ∷ []))) < 90
    begun zero less = omega arith
    begun (suc k) less = absurd (omega (arith, less))

    enough : 90 ≤ sum (map size (contest (codes "C1") (Some v) ∷ []))
    enough = let long : size (contest (codes "C1") (Some v)) ≡ 195 = ap length (told_text v items) in omega (arith, long)

-- the next piece has the second contest, without the first one's selections
second_told : (left right : List ℕ) (v : Vec SelectionDifference) → v.items ≡ only ∷ []
    → AreDetailed None left right 1 90 (contest (codes "C1") None ∷ contest (codes "C2") (Some v) ∷ [])
    → IsListPiece None left right (from 1) Bad (record { count = 1; all = 2 }) (array (items_of (detailed_data (contest (codes "C2") (Some v)) ∷ [])))
second_told left right v items are = inr (inr (
  contest (codes "C1") None ∷ contest (codes "C2") (Some v) ∷ [],
  are,
  refl,
  record {
    shown = contest (codes "C2") (Some v) ∷ [];
    is_piece =
        record { front = record { rest = []; split = refl; few = omega arith; begun = begun; full = λ some. absurd (some refl) }; count = refl; all = refl };
    is_array = refl;
  },
))
  where
    begun : (k : ℕ) → k < 1 → sum (map size (take k (contest (codes "C2") (Some v) ∷ []))) < 90
    begun zero less = omega arith
    begun (suc k) less = absurd (omega (arith, less))

-- ---- equal reports

-- nothing differs: the empty array, with outcome 0
none_differ : (left right : List ℕ) → AreDetailed None left right 0 90 [] → IsListPiece None left right (from 0) Good (record { count = 0; all = 0 })
    (array (items_of []))
none_differ left right are = inr (inr (
  [],
  are,
  refl,
  record {
    shown = [];
    is_piece = record {
      front = record { rest = []; split = refl; few = omega arith; begun = λ k less. absurd (omega (arith, less)); full = λ some. absurd (some refl) };
      count = refl;
      all = refl;
    };
    is_array = refl;
  },
))
