-- A piece of the list of what ballots print, of a report with a unit and an election: the second entry alone.
use Rattle.erd_canon.proofs.Common.{◌≡◌, ◌<◌, ℕ, zero, suc, List, [], ◌∷◌, ◌++◌, map, length, take, None, codes, refl, arith, digits, serde_json_on_literals}
use Rattle.erd_canon.proofs.Common.{compact_text, Data, Good}
use Rattle.std.proofs.Common.{sum}
use Rattle.serde_json.specs.Data.{array}
use Rattle.serde_json.specs.View.{items_of}
use Rattle.erd_check.proofs.Reports.{one_unit, tree_of}
use Rattle.erd_meaning.proofs.examples.RefusedExamples.{one_unit_is_accepted}
use Rattle.erd_tables.specs.declared.class.Role.TheVariants as role
use Rattle.erd_shown.specs.WordList.{role_word, worded_data}
use Rattle.erd_shown.specs.declared.word_list.WordedObject.{WordedObject}
use Rattle.erd_compare.specs.DifferenceLine.{part_text}
use Rattle.erd_compare.specs.declared.difference.Part.{Part}
use Rattle.erd_compare.specs.declared.difference.Part.TheVariants as part
use Rattle.erd_canon.specs.ValuedData.{role_in_part}
use Rattle.erd_canon.specs.WordAnswers.{IsWordsPiece, TellsWords}
use Rattle.erd_canon.specs.declared.data.piece.Piece.{Piece}
use Rattle.erd_canon.specs.declared.data.piece.Told.{Told}
use Rattle.erd_canon.proofs.examples.ReportExamples.{tree_of_one_unit}

-- from the second entry on, of which one byte is enough
abbrev piece : Piece
piece = record { first = 1; most = 9; enough_bytes = 1 }

abbrev told : Told
told = record { count = 1; all = 2 }

abbrev sole_election : WordedObject
sole_election = record { role = role.Election; position = 0 }

abbrev text : List ℕ
text = codes "[{\"class\":\"ElectionResults.Election\",\"key\":null,\"part\":\"election\",\"words\":{\"ElectionScopeId\":[\"local-level\",\"\",\"U1\"],"
    ++ codes "\"EndDate\":\"2026-11-03\",\"Name\":\"Test\",\"StartDate\":\"2026-11-03\",\"Type\":\"general\"}}]"

second_entry : TellsWords None (tree_of one_unit) piece told text
unfolding digits serde_json_on_literals
second_entry = record {
  value = array (items_of (worded_data None (tree_of one_unit) sole_election ∷ []));
  tells = record {
    shown = sole_election ∷ [];
    is_piece =
        record { front = record { rest = []; split = refl; few = omega arith; begun = begun; full = λ some. absurd (some refl) }; count = refl; all = refl };
    is_array = refl;
  };
  written = refl;
}
  where
    begun : (k : ℕ) → k < 1 → sum (map (λ o. length (compact_text (worded_data None (tree_of one_unit) o))) (take k (sole_election ∷ []))) < 1
    begun zero less = omega arith
    begun (suc k) less = absurd (omega (arith, less))

second_told : IsWordsPiece None one_unit piece Good told text
second_told = record { tree = tree_of one_unit; accepted = record { read = tree_of_one_unit; accepted = one_unit_is_accepted }; tells = second_entry }

-- the list calls each part as differences do
part_words : (p : Part) → role_word (role_in_part p) ≡ part_text p
part_words part.Report = refl
part_words part.Unit = refl
part_words part.Party = refl
part_words part.Person = refl
part_words part.Office = refl
part_words part.Header = refl
part_words part.Election = refl
part_words part.Candidate = refl
part_words part.Contest = refl
part_words part.Style = refl
