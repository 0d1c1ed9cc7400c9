-- The names that the proofs of this crate cite most, passed on from one place. Declares nothing.
pub use Rattle.erd_meaning.proofs.Common.{◌≡◌, ℕ, zero, suc, ◌+◌, ◌-◌, ◌<◌, ◌≤◌, Bool, true, false, cond, not, ◌&&◌, ◌||◌, ◌≢◌, ◌⊎◌, List, [], ◌∷◌, ◌++◌, map}
pub use Rattle.erd_meaning.proofs.Common.{length, get_or, take, drop, pos, is_some, IfSome, IfOk, nat_lt, ◌==◌, slice_get, Some, None, Ok, Err, codes, filter}
pub use Rattle.erd_meaning.proofs.Common.{Option, Result, option_map, IsPermutation, IsSorted, find, flat_map, filter_map, option_and_then, option_copied}
pub use Rattle.erd_meaning.proofs.Common.{bytes_eq, nat_cmp, is_eq, is_lt, Ordering, Less, Equal, Greater, unwrap_or, sym, refl, ap, ◌∙◌, subst, ap₂, inl, inr}
pub use Rattle.erd_meaning.proofs.Common.{true≢false, append-nil, add-one, arith, lit<, take_all, Bor, rules, fun_ext, and_parts, cases_order, and_from}
pub use Rattle.erd_meaning.proofs.Common.{or_parts, or_from, Decides-eqb, Decides-int_eq, tied_itself, nat_cmp_total, nat_list_cmp_total, map-append}
pub use Rattle.erd_meaning.proofs.Common.{length-map, drop_more, take_more, CmpEqualImpliesEq, exact_unsigned, exact_bytes, same_Some, slice_get-map}
pub use Rattle.erd_meaning.proofs.Common.{slice_get_within, slice_get_read, get_or_from_slice_get, IfOk-weaker, bytes_eq-Decides, Equal-is, IsTotalOrder}
pub use Rattle.erd_meaning.proofs.Common.{both_ways, AllByRecursion, cons_option, list_all, list_any, position_or_len, IsStrictlySortedBy, option_cmp}
pub use Rattle.erd_meaning.proofs.Common.{option_map_or, option_or, eq_by_cmp, match_ordering, ordering_then, Data, null, boolean, string, array, object, Items}
pub use Rattle.erd_meaning.proofs.Common.{no_items, item, Members, no_members, member, get_member, get, as_str, as_object, view, items_view, members_view}
pub use Rattle.erd_meaning.proofs.Common.{has_float, items_have_float, members_have_float, compact_text, Value, role_of_class, family_of_class, family_number}
pub use Rattle.erd_meaning.proofs.Common.{is_reference_name, kind_of_identity, kind_of_member, text_cmp, Class, class, Family, family, Role, role, MemberKind}
pub use Rattle.erd_meaning.proofs.Common.{kind, In, In-map, In-map_from, In-flat_map, any_at, In-from_contains, contains_from_In, In-all, position_of}
pub use Rattle.erd_meaning.proofs.Common.{all_weakened, tree_of, small_ballot_with, header_node, contest_node, small_ballot, election, one_unit, report_of_two}
pub use Rattle.erd_meaning.proofs.Common.{IsTree, is_same_json, list_of_items, entries_of, entries_at, text_at, Judged, has_keys, key_cmp, Preference, key_of}
pub use Rattle.erd_meaning.proofs.Common.{key_of_family_object, key_in, rank_of, rising_keys, election_rank_of, election_key_in, election_in, selections_before}
pub use Rattle.erd_meaning.proofs.Common.{FindsId, untranslated, Content, no_content, first_node, Node, a_contest, a_header, PlainValue, a_json, a_label, a_key}
pub use Rattle.erd_meaning.proofs.Common.{MemberValue, a_plain, ObjectRecord, NameParts, without_keys, numbered_parts, numbered_name_cmp, Placed, placed_from}
pub use Rattle.erd_meaning.proofs.Common.{placed_entries, report_of, elections, contests, selections_of_contest, objects, has_several, election_of_place}
pub use Rattle.erd_meaning.proofs.Common.{numbered_selections, has_id, owner_at, owner, family_chosen, ranked_name, PlacedName, ranked_selection_in, json_set}
pub use Rattle.erd_meaning.proofs.Common.{if_carried, carried_members, label_beside_text, content_of, meaning, plain_value, plain_member, selection_record}
pub use Rattle.erd_meaning.proofs.Common.{selection_map, member_value, member_of_class, object_record, with_election_id, record_in_election, placed_record}
pub use Rattle.erd_meaning.proofs.Common.{records_of, election_records, rising_list, key_named, keys_named, name_in_class, selection_role, name_of, name_cmp}
pub use Rattle.erd_meaning.proofs.Common.{name_named, positioned, rank_in_keys, rising_positions, key_cmp_total, key_cmp_exact, name_cmp_total, option_map-Some}
pub use Rattle.erd_meaning.proofs.Common.{In-any, all_hold, each_holds, In-flat_map_from, RankedParts}
pub use Rattle.erd_check.proofs.Common.{◌↔◌, Num, unsigned, negative, float, number, depth, members_depth, is_float, kind_in_rows, kind_of_unlisted}
pub use Rattle.erd_check.proofs.Common.{IsBeforeFirst, AreTrees, AreMembers, same_number, are_same_items, are_same_members, names}
unfoldable pub use Rattle.erd_meaning.proofs.Common.{IsDistinct, serde_json_on_literals}
pub use Rattle.std.proofs.Common.{◌*◌, eqb, drop-cons}
pub use Rattle.std.proofs.lemmas.List.{drop_all}
pub use Rattle.std.proofs.lemmas.Map.Text.{is_eq-slice_cmp}
pub use Rattle.std.proofs.lemmas.Option.{option_and_then_some}
pub use Rattle.std.specs.Cmp.{nat_cmp_is, unsigned_ties}
pub use Rattle.std.specs.List.{dedup}
pub use Rattle.std.specs.Option.{option_eq}
pub use Rattle.std.specs.Slice.Iter.{iter_rest}
pub use Rattle.serde_json.specs.Data.{items_depth}
pub use Rattle.serde_json.specs.declared.value.Value.{the_lemmas}
pub use Rattle.erd_check.proofs.Exact.{text_itself, flag_itself, is_same_exact, are_same_members_exact}
pub use Rattle.erd_check.proofs.Shapes.{get_member-first, get_member-later, found_cases, members_unique, get_member-tree, get_member-depth}
pub use Rattle.erd_check.proofs.Reports.{one_unit_report, status, unit, identifier, other_election, party_contest}
pub use Rattle.erd_check.proofs.Order.{not_below_itself}
pub use Rattle.erd_meaning.proofs.accepted.Standing.{find-Some, find-any, has_identifier}
pub use Rattle.erd_meaning.proofs.examples.RecordExamples.{local_key}
pub use Rattle.erd_check.proofs.Positions.{in_at}
pub use Rattle.erd_meaning.proofs.finding.OneObject.{at_low, sorted_at, one_key}
pub use Rattle.erd_meaning.proofs.meanings.WholeMeanings.{same_but_one, same_object, AgreeAt, is_key_in, same_at_every_key, AreAmong, no_record, value_with_key}
pub use Rattle.erd_meaning.proofs.meanings.WholeMeanings.{ObjectsAgree, same_at_key, same_at_key_with, HaveKeys, keys_of_family, nothing_at, same_family}
pub use Rattle.erd_meaning.proofs.meanings.WholeMeanings.{selection_with_name, SelectionsAgreeButOne, same_at_name, names_of_selections, same_selections}
pub use Rattle.erd_meaning.proofs.meanings.WholeMeanings.{election_has_key, same_sole_election, same_meaning}
pub use Rattle.erd_meaning.proofs.meanings.WholeRecords.{absent_plain, absent_member, no_election_id, other_than_election}
pub use Rattle.erd_meaning.proofs.rising.DistinctEntries.{distinct_from_one_place, options_exact, equal_keys}
pub use Rattle.erd_text.proofs.RisingOrders.{greater_turned, less_turned, all_rising, rising_strictly, stands_at_rank}
pub use Rattle.erd_meaning.proofs.selections.PositionedKeys.{KeyPosition, positioned_made, positioned_keys, all_positioned, rising_positioned}
pub use Rattle.erd_meaning.specs.Lookups.{rising_election_keys}
pub use Rattle.erd_meaning.specs.Meaning.{JsonMap, KeySet, translated, a_content, SelectionRecord, a_selection_map, Meaning}
pub use Rattle.erd_meaning.specs.RankedNames.{with_ranks}
pub use Rattle.erd_meaning.specs.Records.{key_set, class_of_node, is_header_class, nodes_of, node_of, unless_empty}
pub use Rattle.erd_meaning.specs.code.NumberedOrders.{numbered_name_cmp_total, numbered_name_cmp_exact}
pub use Rattle.erd_meaning.specs.declared.keys.key.Key.{Key}
pub use Rattle.erd_compare.specs.Differences.{part_number, part_cmp, record_with_key, record_without_key, record_at, Differ, IsDifference, DifferFirstAt}
pub use Rattle.erd_compare.specs.Differences.{IsFirstDifference, first_of, Stands, DifferIn, AreDifferent, AgreeBut, member_of, difference_cmp, AreDifferences}
pub use Rattle.erd_compare.specs.code.Choices.{is_carried_kind, takes_name, chosen_members, members_in, chosen_in, translated_label}
pub use Rattle.erd_compare.specs.code.CommonNames.{role_of_name, ranks_in_name, name_by_ranks, name_by_ranks_of, ranks_told, name_told, name_eq, names_on}
pub use Rattle.erd_compare.specs.code.CommonNames.{names_of_both, number_of_name, number_of_selection, numbers_on, AreNameNumbers}
pub use Rattle.erd_compare.specs.code.CommonRanks.{place_of, common_rank, rank_of_key, AreCommonRanks, common_ranks_in, AreAllCommonRanks, common_rank_of}
pub use Rattle.erd_compare.specs.code.CommonRanks.{next_cmp}
pub use Rattle.erd_compare.specs.code.Comparing.{NamesKeys, Decides, RecordMap, TellsPart, DifferAtKey, DifferAtPart, IsWholeTree}
pub use Rattle.erd_compare.specs.code.DifferingWays.{hows_of, AreWays, DifferInNames}
pub use Rattle.erd_compare.specs.code.HeldDifferences.{with_name, HasNoElectionId, TellsHeld}
pub use Rattle.erd_compare.specs.code.KeyedDifferences.{role_of_part, objects_in, key_with_role, keys_in_role, key_in_role, holder_in, holder_key_in, is_ranked}
pub use Rattle.erd_compare.specs.code.KeyedDifferences.{rising_in_role, shared, map_of, TellsAtPositions, TellsLeast, HasKeyAt, IsComparable}
pub use Rattle.erd_compare.specs.code.LeastNames.{MemberMap, record_of_class, TellsLeastName, lesser_name, DifferAtName}
pub use Rattle.erd_compare.specs.code.MemberPairs.{IsMapOf, DecideNames, IsPairOf}
pub use Rattle.erd_compare.specs.code.NamesInStep.{members_left, names_left, names_past, AreMembersOf}
pub use Rattle.erd_compare.specs.code.PlacedObjects.{IsPlaced, AreSelectionsAt, AreSelectionsIn}
pub use Rattle.erd_compare.specs.code.PlainParts.{meant_value, plain_found, member_found}
pub use Rattle.erd_compare.specs.code.RankedSides.{on_side, rank_with_id, list_of_ranks, rank_set, AreCommonByRank, IsRankSet}
pub use Rattle.erd_compare.specs.code.SelectionMembers.{is_selections, if_filled, selections_meant}
pub use Rattle.erd_compare.specs.code.SelectionsByName.{has_number, IsByNumber, numbered_map}
pub use Rattle.erd_compare.specs.declared.difference.Difference.{Difference}
pub use Rattle.erd_compare.specs.declared.difference.How.{How}
pub use Rattle.erd_compare.specs.declared.difference.How.TheVariants.{Member, OnlyLeft, OnlyRight, OtherClass}
pub use Rattle.erd_compare.specs.declared.difference.Part.{Part, Part as part}
pub use Rattle.erd_compare.specs.declared.objects.differing_names.MemberPair.{MemberPair}
pub use Rattle.erd_compare.specs.declared.objects.ways.Ways.{Ways, Ways as ways}
pub use Rattle.erd_compare.specs.declared.ranks.common_ranks.CommonRanks.{CommonRanks}
pub use Rattle.erd_compare.specs.declared.ranks.common_ranks.ComparedReport.{ComparedReport}
pub use Rattle.erd_compare.specs.declared.ranks.common_ranks.ComparedReport.TheVariants.{Left, Right}
pub use Rattle.erd_compare.specs.declared.values.chosen_members.Choice.TheVariants.{BesideText, Carried}
