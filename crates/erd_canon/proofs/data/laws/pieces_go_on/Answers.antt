use Rattle.erd_canon.proofs.data_values.Together.{entries_go_on, lines_go_on}
use Rattle.erd_canon.proofs.data.laws.pieces_go_on.Goals as goal

pub returns : goal.returns
returns c = record {
  fault_lines = lines_go_on _;
  difference_lines = lines_go_on _;
  fault_values = entries_go_on _;
  difference_values = entries_go_on _;
}
