-- The names that the proofs of this crate cite most, passed on from one place. Declares nothing.
pub use Rattle.erd_text.proofs.Common.{◌≡◌, ℕ, zero, suc, ◌+◌, ◌-◌, ◌^◌, ◌<◌, ◌≤◌, Bool, true, false, cond, not, ◌&&◌, ◌||◌, ◌⊎◌, List, [], ◌∷◌, ◌++◌, map}
pub use Rattle.erd_text.proofs.Common.{length, take, drop, ℤ, pos, negsuc, is_none, IsSomeAnd, IfSome, if◌then◌else◌, IsTrue, nat_lt, ◌==◌, slice_get, Some}
pub use Rattle.erd_text.proofs.Common.{None, string_bytes, codes, Contains, filter, Option, option_map, find, flat_map, option_and_then, bytes_eq, nat_cmp}
pub use Rattle.erd_text.proofs.Common.{is_eq, is_lt, Ordering, Less, Equal, Greater, unwrap_or, sym, refl, ap, ◌∙◌, subst, ap₂, inl, inr, ⊎_elim, true≢false}
pub use Rattle.erd_text.proofs.Common.{append_assoc, append-nil, arith, length-append, Bor, rules, not-true, not-false, and_parts, and_from, or_from}
pub use Rattle.erd_text.proofs.Common.{false_from_ne_true, tied_itself, tied_back, nat_list_cmp_total, exact_bytes, bytes_eq-Decides, Equal-is, IsTotalOrder}
pub use Rattle.erd_text.proofs.Common.{slice_cmp, AllByRecursion, list_all, list_any, option_cmp, option_map_or, bool_cmp, match_ordering, ordering_reverse}
pub use Rattle.erd_text.proofs.Common.{ordering_then, Data, null, boolean, string, array, object, Items, no_items, item, Members, no_members, member, put}
pub use Rattle.erd_text.proofs.Common.{get_member, get_item, get, items_of, view, items_view, members_view, Value, then_both, steps_less, start_less}
pub use Rattle.erd_text.proofs.Common.{place_same, text_of_class, role_of_class, class_in_role, reason_cmp, fault_cmp, ListsAll, Row, rows_of_class}
pub use Rattle.erd_text.proofs.Common.{is_reference_name, kind_of_identity, kind_of_member, is_required, text_cmp, Class, class, Family, family, Role, role}
pub use Rattle.erd_text.proofs.Common.{Report, Fault, Reason, reason, Repeated, MemberKind, kind, Step, At, Name, ShapeFault, NoneOf, steps_of, fault_at}
pub use Rattle.erd_text.proofs.Common.{IsTree, is_same_json, list_of_items, entries_of, faults_of, Telling, told_at, told_of_items, told_of_members}
pub use Rattle.erd_text.proofs.Common.{told_of_report, IsInOrder, IsKnown, AreItemsKnown, AreMembersKnown, class_of_object, scope_inside, want_of_kind}
pub use Rattle.erd_text.proofs.Common.{is_report_class, member_want, carried_want, want_of_name, entry_want, is_compared_set, Asked, asked, is_repeated}
pub use Rattle.erd_text.proofs.Common.{asked_of_member, asked_inside, asked_from, asked_at, leb, ◌≢◌, get_or, replicate, is_some, IfOk, OnErr, slice_set, Ok}
pub use Rattle.erd_text.proofs.Common.{Err, vec_items, fold, count_by, Result, swap, IsPermutation, IsSorted, option_to_list, position, filter_map}
pub use Rattle.erd_text.proofs.Common.{option_copied, is_gt, add-one, lit<, length-drop, length-set, take-append-drop, length-take, take_all, get_or-append-add}
pub use Rattle.erd_text.proofs.Common.{ltb-false, ne_eqb, le-leb, and-true, and-false, or-false, fun_ext, append_snoc, drop-append_seam, take-append_seam}
pub use Rattle.erd_text.proofs.Common.{eqb-false, cases_order, or_parts, and_left, and_right, true_from_ne_false, cases_Bool, cond_both, Decides-eqb}
pub use Rattle.erd_text.proofs.Common.{Decides-int_eq, leb_tells, nat_cmp_total, on_total, then_total, back_total, lists_total, position_from-zero, map-append}
pub use Rattle.erd_text.proofs.Common.{length-map, nil_from_length, length-replicate, get_or_append_left, take-append-le, drop_more, take_more, length_push}
pub use Rattle.erd_text.proofs.Common.{at_drop_more, at_drop_all, IsStrictlySortedBy-filter, flat_map-append, list_any-append, flat_map_single}
pub use Rattle.erd_text.proofs.Common.{filter_map-append, filter-append, IsPermutation-refl, ranks_by, answers_always, IsPermutation-sym, IsPermutation-cons}
pub use Rattle.erd_text.proofs.Common.{IsPermutation-swap, IsPermutation-trans, IsPermutation-map, IsPermutation-append_left, IsPermutation-append_right}
pub use Rattle.erd_text.proofs.Common.{IsPermutation-append_comm, IsPermutation-keeps, length_permutation, list_any-IsPermutation, sum_by-IsPermutation}
pub use Rattle.erd_text.proofs.Common.{IsPartitionedBy-leb, IsPartitionPoint-from_clause, CmpEqualImpliesEq, exact_unsigned, same_Some, slice_get-map}
pub use Rattle.erd_text.proofs.Common.{slice_get_within, some_pair_parts, slice_get_read, slice_get_past, get_or_from_slice_get, IfOk-weaker}
pub use Rattle.erd_text.proofs.Common.{err_from_is_err_and, map-map, IsStrictWeakOrder, bool_cmp_total, both_ways, nat_eq_equiv, bytes_decides, options_total}
pub use Rattle.erd_text.proofs.Common.{HashWrites, fed_then, str, usize, cons_option, enumerate_from, position_from, position_or_len, IsNonDecreasingBy}
pub use Rattle.erd_text.proofs.Common.{IsStable, ties, lookup, option_or, eq_by_cmp, ⊤, as_str, as_object, has_float, items_have_float, members_have_float}
pub use Rattle.erd_text.proofs.Common.{comma_if, compact_text, items_text, members_text, place_cmp_total, place_cmp_exact, family_of_class, families}
pub use Rattle.erd_text.proofs.Common.{family_number, step_cmp, place_cmp, unit_rows, party_rows, person_rows, office_rows, header_rows, candidate_rows}
pub use Rattle.erd_text.proofs.Common.{Contest, Selection, DuplicateId, NoIdentifier, SelectionOfOtherContest, TwinIdentifier, TwinSelection, Unresolved}
pub use Rattle.erd_text.proofs.Common.{WrongFamily, none_from_empty, less, tree_sound, if_some, tree_in_order, no_fault_listed, entries_in, array_from}
pub use Rattle.erd_text.proofs.Common.{list_of_items_exact, list_of_items-place, object_in, object_at, report_class, election_class, not_empty, is_absent}
pub use Rattle.erd_text.proofs.Common.{is_filled_array, keyed_list, MayBeArray, ObjectAt, ObjectIn, asked_at-step, Within-step, Within-root, not_within}
pub use Rattle.erd_text.proofs.Common.{of_role, asked_inside_object, faultless, wanted_within, lacks_none, member_within, Within, kind_of_class, kind_of_name}
pub use Rattle.erd_text.proofs.Common.{kind_of_id, want_by_kind, and_then-Some, option_map-Some, some_from, position_of, all_weakened, in_at, In}
pub use Rattle.erd_text.proofs.Common.{In-append_left, In-append_right, In-append, In-map, In-map_from, In-flat_map, any_at, In-filter, In-filter_kept}
pub use Rattle.erd_text.proofs.Common.{In-from_contains, contains_from_In, all_from_In, In-all, Below, sorted_append, rising_unique, In-any, all_hold}
pub use Rattle.erd_text.proofs.Common.{each_holds, In-flat_map_from, tree_of, small_ballot_with, header_node, contest_node, small_ballot}
pub use Rattle.erd_text.proofs.Common.{small_ballot_canonical, election, one_unit, with_report_member, with_unit_member, with_election_member, report_of_two}
pub use Rattle.erd_text.proofs.Common.{two_elections_with, two_elections, three_contests, outer_place, walk_lists, Agrees, Around, RefusedFor, IsFaultless}
pub use Rattle.erd_text.proofs.Common.{entries_at, text_at, Want, Carried, ClassText, Member, Reference, Status, with_inserted, rising_list, compact_cmp}
pub use Rattle.erd_text.proofs.Common.{with_rising_text, Entry, value_tokens, items_tokens, members_tokens}
unfoldable pub use Rattle.erd_text.proofs.Common.{IsStrictlySortedBy, serde_json_on_literals, IsDistinct}
pub use Rattle.indexmap.specs.IndexMap.{get_by}
pub use Rattle.erd_index.proofs.Results.{on_error}
pub use Rattle.erd_index.specs.Salts.{salted_number, text_number}
pub use Rattle.erd_index.specs.declared.salted.Salted.{Salted}
pub use Rattle.erd_meaning.specs.Accepted.{OrElse, IsFault, IsAccepted}
pub use Rattle.erd_meaning.specs.Hashes.{key_writes, after_keys_writes}
pub use Rattle.erd_meaning.specs.Judged.{Judged}
pub use Rattle.erd_meaning.specs.Keys.{has_keys, is_keyed_role, key_cmp, triple_of, lesser_key, least_key_of, least_key, Preference, preferred_key}
pub use Rattle.erd_meaning.specs.Keys.{key_of_identifiers, key_of, key_of_family_object}
pub use Rattle.erd_meaning.specs.LaterFaults.{IsBefore, IdentityFault, is_reference_fault, is_selection_in, is_in_other_contest, is_other_selection}
pub use Rattle.erd_meaning.specs.LaterFaults.{entry_place, ReferenceFault, SelectionFault, LacksIdentifier, NamesOtherContest, RepeatsId, RepeatsKey}
pub use Rattle.erd_meaning.specs.LaterFaults.{RepeatsName}
pub use Rattle.erd_meaning.specs.Lookups.{key_in, rank_of, rising_keys, election_rank_of, id_in, election_key_in, election_key_of, election_in, selection_in}
pub use Rattle.erd_meaning.specs.Lookups.{selections_before, FindsKey, FindsId, FindsSelection}
pub use Rattle.erd_meaning.specs.Meaning.{Label, untranslated, Content, no_content, first_node, Node, a_contest, a_header, PlainValue, a_json, a_label, a_key}
pub use Rattle.erd_meaning.specs.Meaning.{a_key_set, MemberValue, a_plain, ObjectRecord, Record}
pub use Rattle.erd_meaning.specs.NameParts.{NameParts}
pub use Rattle.erd_meaning.specs.NumberedNames.{RankedParts, without_keys, numbered_parts, numbered_name_cmp}
pub use Rattle.erd_meaning.specs.Objects.{Placed, placed_from, placed_entries, report_of, elections, contests, selections_of_contest, objects, has_several}
pub use Rattle.erd_meaning.specs.Objects.{objects_with_role, needs_key, election_of_place, numbered_selections_of, numbered_selections, id_of, has_id, owner_at}
pub use Rattle.erd_meaning.specs.Objects.{owner, is_owned, IsBounded}
pub use Rattle.erd_meaning.specs.Places.{places_put}
pub use Rattle.erd_meaning.specs.RankedNames.{family_chosen, ranked_name, PlacedName, ranked_selection_in, ranked_name_cmp, ranked_name_writes, IsRankedIn}
pub use Rattle.erd_meaning.specs.Records.{json_set, if_carried, carried_members, label_beside_text, label_of, content_of, meaning, plain_value, is_in_envelope}
pub use Rattle.erd_meaning.specs.Records.{plain_member, record_with, selection_record, selection_map, member_value, member_of_class, object_record}
pub use Rattle.erd_meaning.specs.Records.{with_election_id, record_in_election, placed_record, placed_with_key, records_of, election_records}
pub use Rattle.erd_meaning.specs.SelectionNames.{key_named, keys_found, keys_named, keys_of_selection, is_write_in, order_of_selection, label_of_selection}
pub use Rattle.erd_meaning.specs.SelectionNames.{name_in_class, selection_role, name_of, class_cmp, name_cmp, name_named}
pub use Rattle.erd_meaning.specs.code.ChosenKeys.{is_preferred, choice_cmp, choice_of_two, choice_of, choice}
pub use Rattle.erd_meaning.specs.code.ElectionKeys.{AreSeen, is_seen, seen_with}
pub use Rattle.erd_meaning.specs.code.Held.{HeldObjects, HeldElections, AreSalted}
pub use Rattle.erd_meaning.specs.code.Indexed.{same_owned, is_salted_id, is_salted_owned}
pub use Rattle.erd_meaning.specs.code.KeyOrders.{positioned, seen_keys, keys_seen, lent_key_cmp, AreDistinct, rank_by, positions_by, rank_in_keys}
pub use Rattle.erd_meaning.specs.code.KeyOrders.{rising_positions, family_keys, HaveDistinctKeys, IsOrder}
pub use Rattle.erd_meaning.specs.code.ObjectIndexes.{with_place, places_from, rank, number_at, number_of_id, number_of_key, contests_noted, contests_before}
pub use Rattle.erd_meaning.specs.code.ObjectIndexes.{is_in_contest, IsStart, number_among}
pub use Rattle.erd_meaning.specs.code.ObjectLookups.{is_of_family, those_of, is_keyed, keeps_id, object_among, key_among}
pub use Rattle.erd_meaning.specs.code.ObjectWalk.{Kept, kept, Met, an_object, an_election, Located, located_one, located_election, located, contest_located}
pub use Rattle.erd_meaning.specs.code.ObjectWalk.{inside_election, election_located, shared_located, all_located, object_met, election_met, objects_among}
pub use Rattle.erd_meaning.specs.code.ObjectWalk.{elections_among, all_met, kept_objects, election_keys, same_key, same_id, has_same_key, has_same_id, fault_if}
pub use Rattle.erd_meaning.specs.code.ObjectWalk.{faults_told, is_keyless, are_twins, are_named_alike, faults_after, ObjectsMet, met_one, met_all}
pub use Rattle.erd_meaning.specs.code.Orders.{key_cmp_total, key_cmp_exact, classes_exact, name_cmp_total, name_cmp_exact}
pub use Rattle.erd_meaning.specs.code.RanksAmong.{rank_among, AreRanks, key_at_among, rising_keys_among, ranked_key, is_key_among, fed_rank, name_among}
pub use Rattle.erd_meaning.specs.code.RanksAmong.{ranked_parts, ranked_name_among, HasKeysIn, has_keys_among, names_of, are_ranks_of, is_sought, AllAreRanked}
pub use Rattle.erd_meaning.specs.code.RanksAmong.{IsKeyIn, IsRanked}
pub use Rattle.erd_meaning.specs.code.ReferenceReasons.{leads_to_references, is_known, owner_among, is_of_others, is_selection_family, is_selection_elsewhere}
pub use Rattle.erd_meaning.specs.code.ReferenceReasons.{is_elsewhere, reason_if, id_reasons, reference_reasons_told, AreClear, IsClear, IsHome}
pub use Rattle.erd_meaning.specs.code.Resolved.{IsIdentified, IsReferred, IsToldApart, AreNames, IsResolved}
pub use Rattle.erd_meaning.specs.code.RisingNumbers.{IsRisingFrom}
pub use Rattle.erd_meaning.specs.code.SelectionWalk.{NumberedName, is_selection_named, is_taken, numbered_from, NamesMet, added_name, with_name, named_one}
pub use Rattle.erd_meaning.specs.code.SelectionWalk.{named_all, if_of_contest, StandFrom}
pub use Rattle.erd_meaning.specs.code.Shown.{shown, placed_at}
pub use Rattle.erd_meaning.specs.code.ShownWalks.{met_of, names_met}
pub use Rattle.erd_meaning.specs.declared.keys.key.Key.{Key}
pub use Rattle.erd_meaning.specs.declared.objects.table.Object.{Object}
pub use Rattle.erd_meaning.specs.declared.objects.order.Order.{Order}
