use Rattle.erd_canon.proofs.data_values.TakenTexts.{check_pieces, comparison_pieces, form_pieces, listing_pieces}
use Rattle.erd_canon.proofs.data.laws.pieces_are_the_text.Goals as goal

pub returns : goal.returns
returns c = record { check = check_pieces; form = form_pieces; comparison = comparison_pieces; listing = listing_pieces }
