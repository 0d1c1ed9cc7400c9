-- The names that the proofs of this crate cite most, passed on from one place. Declares nothing.
pub use Rattle.erd_normal.proofs.Common.{◌≡◌, ℕ, zero, suc, ◌+◌, ◌-◌, ◌/◌, ◌%◌, ◌^◌, ◌<◌, ◌≤◌, Bool, true, false, ◌&&◌, ◌||◌, ◌⊎◌, ◌↔◌, List, [], ◌∷◌, ◌++◌}
pub use Rattle.erd_normal.proofs.Common.{map, length, get_or, take, drop, pos, negsuc, is_some, OnOk, nat_lt, ◌==◌, slice_get, Some, None, string_bytes, codes}
pub use Rattle.erd_normal.proofs.Common.{IsUtf8, decimal, Contains, Option, option_map, option_copied, bytes_eq, unwrap_or, sym, refl, ap, ◌∙◌, subst, ap₂, inl}
pub use Rattle.erd_normal.proofs.Common.{inr, append_assoc, append-nil, map-id, arith, lit<, length-append, Bor, rules, lt-ltb, ne_eqb, IfOk-weaker}
pub use Rattle.erd_normal.proofs.Common.{on_ok_weaker, Num, unsigned, negative, float, Data, null, number, string, array, object, Items, no_items, item}
pub use Rattle.erd_normal.proofs.Common.{Members, no_members, member, depth, items_depth, read, max_depth, items_of, view, number_text, outline, items_outline}
pub use Rattle.erd_normal.proofs.Common.{members_outline, has_float, items_have_float, comma_if, compact_text, items_text, Reason, reason, IsFittingNumber}
pub use Rattle.erd_normal.proofs.Common.{HasFittingNumbers, ItemsHaveFittingNumbers, MembersHaveFittingNumbers, IsTree, AreTrees, IsShallow, IsNoDeeper}
pub use Rattle.erd_normal.proofs.Common.{IsAccepted, Preference, meaning}
pub use Rattle.erd_compare.proofs.Common.{◌≢◌, IfOk, Ok, Err, Result, iter_rest, record_at, Differ, IsDifference}
pub use Rattle.erd_meaning.proofs.Common.{OnErr, on_error, fold, take-append-drop, err_from_is_err_and, fault_cmp, Fault, IsFault}
unfoldable pub use Rattle.erd_normal.proofs.Common.{digits, serde_json_on_literals}
pub use Rattle.std.proofs.Common.{IsErrAnd, vec_len, MatchResult, take-add}
pub use Rattle.std.proofs.lemmas.Result.{on_err_weaker}
pub use Rattle.std.proofs.lemmas.Str.{IsUtf8-string_bytes}
pub use Rattle.std.specs.Fmt.{signed_decimal}
pub use Rattle.std.specs.Io.KnownBytes.{Appends, Consumes}
unfoldable pub use Rattle.clap.proofs.OnLiterals.{clap_on_literals}
pub use Rattle.clap.specs.Simple.{Shape}
pub use Rattle.clap.specs.Takes.{settle_passes, word_passes, step_passes, turn_passes, default_passes, is_valid, level_passes}
unfoldable pub use Rattle.clap.specs.Takes.{walk_passes}
pub use Rattle.clap.specs.Walk.{Rule, arg_by_id, arg_by_index, Held, settled, option, idle, next, value, option_word, word_met, Walk, to_positional, after_step}
pub use Rattle.clap.specs.Walk.{walk_from, walk, finished, nothing_held, rows_after}
unfoldable pub use Rattle.clap.specs.Walk.{walked}
pub use Rattle.clap.specs.Words.{kind_of, found_of, built, Row, Text, first_of, rows_of, App, app_of, is_simple, new_app, subcommand_of, subcommand_rows_of}
pub use Rattle.clap.specs.Words.{with_subcommand, takes, IsAmong, Kinds, fault_of, is_simple_and_free}
pub use Rattle.clap.specs.declared.error.kind.ErrorKind.TheVariants.{DisplayHelp, MissingRequiredArgument, OutOfMemory, UnknownArgument}
pub use Rattle.erd_tables.specs.Faults.{missing_name, reason_text, fault_line}
pub use Rattle.erd_tables.specs.Places.{escaped_byte, escaped_name, step_text, pointer_text}
pub use Rattle.erd_compare.specs.declared.difference.Difference.{Difference}
pub use Rattle.erd_canon.specs.Bytes.{IsTreeOf, IsNotJson, IsAcceptedReport, IsCanonicalBytes}
pub use Rattle.erd_canon.specs.DataValues.{step_data, fault_data, faults_data, refused_data, comparison_data}
pub use Rattle.erd_canon.specs.EngineTexts.{text_of_lines, IsRefusal, IsCheckText, IsCanonicalOutput, IsCanonicalErrors, comparison_line, lines_of_side}
pub use Rattle.erd_canon.specs.EngineTexts.{IsCompareText, IsComparison, IsRefusedReport}
pub use Rattle.erd_canon.specs.ExactLines.{words_of, IsFileName, IsOptionText, HasPlainWords}
pub use Rattle.erd_canon.specs.Limits.{most_bytes}
pub use Rattle.erd_canon.specs.ReadLines.{ballots_request, check_request, compare_request, differences_request, request_in, IsLineRead, IsFaultFor}
pub use Rattle.erd_canon.specs.Options.{has_flag, option_words, preference_words, preference_in, steps_words}
pub use Rattle.erd_canon.specs.Reading.{Exceeds, IsReadWhole}
pub use Rattle.erd_canon.specs.Refused.{IsSomeReport, RefusedAs, refusal_for, RefusedSide}
pub use Rattle.erd_canon.specs.Run.{IsChecked, IsAnswered, IsSideRefused, IsCompared, IsAnswerWritten, IsCheckWritten, IsCompareWritten, IsToldCheck}
pub use Rattle.erd_canon.specs.Run.{IsToldCompare, IsToldRun}
pub use Rattle.erd_canon.specs.Subcommands.{program}
pub use Rattle.erd_canon.specs.Writing.{IsPartWritten}
pub use Rattle.erd_canon.specs.code.Pending.{IsFrontMoved, IsMoved}
pub use Rattle.erd_canon.specs.code.RefusalData.{TellsRefusalAs, AppendsData, AnswersData, NamesSide, TellsSideAs}
pub use Rattle.erd_canon.specs.declared.bytes.refusal.Refusal.{Refusal, Refusal as refusal}
pub use Rattle.erd_canon.specs.declared.engines.outcome.Outcome.{Outcome}
pub use Rattle.erd_canon.specs.declared.engines.outcome.Outcome.TheVariants.{Bad, Good, NotJson}
pub use Rattle.erd_canon.specs.declared.engines.outcome.RunFault.{RunFault}
pub use denote.RattleType.{RattleType, Valss, owns}
pub use denote.Steps.{owned, nothing}
pub use mir.Val.{vptr, vstruct, vnil, vcons, Val}
pub use seplogic.Ra.Ura.{Ura}
pub use types.Kit.{‵, raw, ◌⊛◌, prop, !, ◌$◌, step, move, keep, split, fsplit, fjoin, fpack, feq_l, feq_i, regoal, suffices, done, qed, Goal, Item, Step, ◌∵◌}
pub use types.Logic.{Logic}
pub use mir.Syntax.{Fn, Args, a_type}
pub use mir.MapTy.{inst_fn}
pub use base.Logic.{SProp, ent}
pub use prog.Memory.{Memory}
pub use prog.Routine.{Routine}
pub use prog.Wp.{Calls, Loops, WpFn, Tables}
pub use contract.Monad.{Fun}
pub use sound.WpLaws.{WpFn-mono}
pub use types.Part.{agg}
pub use types.Run.{enter, returns, and_then, no_more}
pub use types.ByLocal.{alloc_all, pass_all, free_all, look_at, get, sets}
pub use denote.Laws.{Is}
pub use denote.Param.{param, layouts}
pub use denote.Signature.{plain, types_at}
pub use denote.Struct.Laws.{makes}
pub use denote.Struct.Tuple.{Tuple}
pub use denote.Triple.Clauses.{Clauses, Ended, closing}
pub use denote.Triple.Entry.{alive}
pub use denote.Triple.Spec.{Meets, triple_of}
pub use denote.Triple.Table.{entered}
pub use denote.Triple.Walked.{says, Stays, stay_dropped, walk_of, ends_at, walk_Meets, Goes-dropped}
