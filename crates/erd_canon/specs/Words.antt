-- The words that the contracts of this crate cite, passed on from one place. Declares nothing.
pub use Rattle.std.specs.Io.{ReadsAtMost, WritesAtMost}
pub use Rattle.std.specs.Io.KnownBytes.{Appends, Consumes, IsAtEnd, Keeps, ReadConsumes, WriteAppends}
pub use Rattle.std.specs.Iterator.Adapters.{IterYieldsInOrder}
pub use Rattle.std.specs.Slice.Iter.{iter_rest}
pub use Rattle.serde_json.specs.Data.{string, Data}
pub use Rattle.serde_json.specs.View.{view}
pub use Rattle.serde_json.specs.Written.{comma_if, compact_text}
pub use Rattle.clap.specs.Words.{app_of, first_of, found_of, kind_of, new_app, rows_of, rule_of, subcommand_rows_of, with_rule}
pub use Rattle.erd_tables.specs.Faults.{fault_line, reason_number, reason_text}
pub use Rattle.erd_tables.specs.Places.{escaped_byte, escaped_name, pointer_text, step_text}
pub use Rattle.erd_check.specs.Numbers.{HasFittingNumbers}
pub use Rattle.erd_check.specs.Trees.{IsShallow}
pub use Rattle.erd_meaning.specs.Accepted.{IsAccepted}
pub use Rattle.erd_meaning.specs.Keys.{Preference}
pub use Rattle.erd_compare.specs.DifferenceLine.{difference_line}
pub use Rattle.erd_compare.specs.SelectionData.{detailed_data}
pub use Rattle.erd_canon.specs.Bytes.{IsAcceptedReport, IsTreeOf}
pub use Rattle.erd_canon.specs.Headline.{Headline}
pub use Rattle.erd_canon.specs.ByteLaws.{AgreesUnderEach, IsItsOwnForm, OneFormForOneMeaning, SameFormWhenRearranged, TellsWhatIsSaid}
pub use Rattle.erd_canon.specs.EngineTexts.{comparison_line, lines_of_side, text_of_lines, AreDetailed, IsComparison, IsRefusal}
pub use Rattle.erd_canon.specs.Refused.{IsSomeReport, RefusedAs, RefusedSide}
pub use Rattle.erd_canon.specs.Limits.{most_bytes, most_reads}
pub use Rattle.erd_canon.specs.Reading.{Exceeds}
pub use Rattle.erd_canon.specs.Run.{comparison_outcome, IsAnswerWritten, IsCheckWritten, IsCompareWritten}
pub use Rattle.erd_canon.specs.DataValues.{comparison_data, differences_data, fault_data, faults_data, place_data, step_data}
pub use Rattle.erd_canon.specs.DataAnswers.{listing_outcome, IsCheckedData, IsComparedData, IsDataText, IsListedData}
pub use Rattle.erd_canon.specs.Pieces.{whole_line, IsCheckLines, IsCheckPiece, IsCompareLines, IsComparePiece, IsFormLines, IsFormPiece, IsFoundLines}
pub use Rattle.erd_canon.specs.Pieces.{IsListLines, IsListPiece, IsPieceData, IsPieceText, TellsNone}
pub use Rattle.erd_canon.specs.Writing.{IsAnswerPartWritten, IsCheckPartWritten, IsComparePartWritten, IsPartWritten}
pub use Rattle.erd_canon.specs.Devices.{between, Reader, Writer}
pub use Rattle.erd_canon.specs.Engines.{IsCanonRun, IsCheckRun, IsCompareRun}
pub use Rattle.erd_canon.specs.Answering.{listing_lines, IsCheckLine, IsCompareLine, IsListed, IsListLine, IsPairPartWritten, IsPairRun, IsPairWritten}
pub use Rattle.erd_canon.specs.Answering.{IsReportPartWritten, IsReportRun, IsReportWritten}
pub use Rattle.erd_canon.specs.Remedies.{remedies_beyond, remedy_front, remedy_letter, remedy_lines}
pub use Rattle.erd_canon.specs.Preparing.{asked_steps, byte_order_mark, count_lines, done_lines, file_lines, grouped_text, tried_lines}
pub use Rattle.erd_canon.specs.Preparing.{AreFileTexts, AreNotJsonTexts, AreStepsListed, AreStepsTried, AreTextsPartWritten, AreTextsWith, AreTextsWritten}
pub use Rattle.erd_canon.specs.Preparing.{AreToldTexts, AreTriedTexts, AreUnmarkedSteps, IsJudged, IsPreparationTold, IsPreparedAs, IsTextsRun}
pub use Rattle.erd_canon.specs.Preparing.{IsUnmarkedPrepared, IsUnmarkedTold}
pub use Rattle.erd_canon.specs.BallotAnswering.{IsBallotDifferenceLines, IsBallotDifferencesLine, IsBallotLines, IsBallotsLine}
pub use Rattle.erd_canon.specs.Statuses.{fault_status, fault_words, outcome_status}
pub use Rattle.erd_canon.specs.Options.{has_flag, option_data, preference_in, steps_in}
pub use Rattle.erd_canon.specs.ExactLines.{words_of, HasPlainWords}
pub use Rattle.erd_canon.specs.Subcommands.{ballots_subcommand, canon_subcommand, check_subcommand, compare_subcommand, differences_subcommand, file_rule}
pub use Rattle.erd_canon.specs.Subcommands.{json_rule, list_rule, optional_file_rule, prefer_rule, prepare_subcommand, program, report_rule, steps_rule}
pub use Rattle.erd_canon.specs.ReadLines.{ballots_in, ballots_request, check_request, compare_request, differences_request, pair_request, preparation_in}
pub use Rattle.erd_canon.specs.ReadLines.{prepare_request, request_in, subcommand_request, word_for, IsFaultFor, IsLineRead}
pub use Rattle.erd_canon.specs.LineAnswers.{command_data, preparation_data, request_data, IsAnswerTo, IsLineData}
