use Rattle.erd_canon.proofs.data_values.Together.{pieces_are_the_entries, pieces_are_the_lines}
use Rattle.erd_canon.proofs.data.laws.pieces_are_the_list.Goals as goal

pub returns : goal.returns
returns c = record {
  fault_lines = pieces_are_the_lines _;
  difference_lines = pieces_are_the_lines _;
  fault_values = pieces_are_the_entries _;
  difference_values = pieces_are_the_entries _;
}
