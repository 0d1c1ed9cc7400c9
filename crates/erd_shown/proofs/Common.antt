-- The names that the proofs of this crate cite most, passed on from one place. Declares nothing.
pub use Rattle.erd_meaning.proofs.Common.{◌≡◌, ℕ, zero, suc, ◌+◌, ◌-◌, ◌^◌, ◌<◌, ◌≤◌, Bool, true, false, cond, not, ◌&&◌, ◌||◌, ◌⊎◌, List, [], ◌∷◌, ◌++◌, map}
pub use Rattle.erd_meaning.proofs.Common.{length, get_or, take, drop, replicate, pos, negsuc, is_some, is_none, IsSomeAnd, if◌then◌else◌, IsTrue, nat_lt, ◌==◌}
pub use Rattle.erd_meaning.proofs.Common.{slice_get, slice_set, Some, None, string_bytes, codes, Contains, filter, Option, option_map, swap, IsPermutation}
pub use Rattle.erd_meaning.proofs.Common.{IsPermutation-cons, IsPermutation-swap, IsPermutation-map, IsPermutation-append_left, IsPermutation-append_right}
pub use Rattle.erd_meaning.proofs.Common.{length_permutation, list_any-IsPermutation, IsSorted, find, flat_map, filter_map, option_and_then, option_copied}
pub use Rattle.erd_meaning.proofs.Common.{bytes_eq, nat_cmp, is_eq, is_lt, is_gt, Ordering, Less, Equal, Greater, unwrap_or, sym, refl, ap, ◌∙◌, subst, ap₂}
pub use Rattle.erd_meaning.proofs.Common.{inl, inr, ⊎_elim, true≢false, append_assoc, append-nil, arith, lit<, length-append, length-take, take_all, Bor, rules}
pub use Rattle.erd_meaning.proofs.Common.{ne_eqb, not-true, not-false, eqb-false, and_parts, and_from, or_parts, false_from_ne_true, Decides-eqb, tied_itself}
pub use Rattle.erd_meaning.proofs.Common.{tied_back, nat_cmp_total, on_total, then_total, nat_list_cmp_total, map-append, length-map, drop_more, take_more}
pub use Rattle.erd_meaning.proofs.Common.{filter-append, IsPermutation-refl, IsPermutation-sym, IsPermutation-trans, CmpEqualImpliesEq, exact_unsigned}
pub use Rattle.erd_meaning.proofs.Common.{exact_bytes, same_Some, slice_get-map, slice_get_within, slice_get_past, get_or_from_slice_get, IfOk-weaker}
pub use Rattle.erd_meaning.proofs.Common.{bytes_eq-Decides, Equal-is, IsTotalOrder, both_ways, options_total, slice_cmp, AllByRecursion, cons_option}
pub use Rattle.erd_meaning.proofs.Common.{enumerate_from, list_all, list_any, option_cmp, option_map_or, option_or, eq_by_cmp, match_ordering, ordering_reverse}
pub use Rattle.erd_meaning.proofs.Common.{Data, null, boolean, string, array, object, Items, no_items, item, Members, no_members, member, put, get_member}
pub use Rattle.erd_meaning.proofs.Common.{get_item, get, as_str, items_of, view, items_view, members_view, has_float, items_have_float, members_have_float}
pub use Rattle.erd_meaning.proofs.Common.{comma_if, compact_text, items_text, members_text, Value, text_of_class, role_of_class, family_of_class, families}
pub use Rattle.erd_meaning.proofs.Common.{family_number, class_in_role, Row, rows_of_class, is_reference_name, kind_of_identity, kind_of_member, is_required}
pub use Rattle.erd_meaning.proofs.Common.{text_cmp, Class, class, Family, family, Role, role, Reason, reason, MemberKind, kind, Step, At, Name, less}
pub use Rattle.erd_meaning.proofs.Common.{tree_sound, tree_in_order, no_fault_listed, entries_in, array_from, list_of_items_exact, list_of_items-place}
pub use Rattle.erd_meaning.proofs.Common.{object_in, report_class, election_class, is_absent, is_filled_array, keyed_list, MayBeArray, ObjectAt, ObjectIn, In}
pub use Rattle.erd_meaning.proofs.Common.{all_from_In, In-all, position_of, all_weakened, tree_of, small_ballot_with, small_ballot, small_ballot_canonical}
pub use Rattle.erd_meaning.proofs.Common.{one_unit, two_elections, three_contests, rising_unique, Within-step, Within-root, not_within, of_role}
pub use Rattle.erd_meaning.proofs.Common.{asked_inside_object, faultless, wanted_within, lacks_none, member_within, Within, kind_of_class, kind_of_name}
pub use Rattle.erd_meaning.proofs.Common.{kind_of_id, want_by_kind, ShapeFault, NoneOf, IsTree, is_same_json, list_of_items, entries_of, entries_at, text_at}
pub use Rattle.erd_meaning.proofs.Common.{class_of_object, scope_inside, want_of_kind, is_report_class, member_want, carried_want, want_of_name, entry_want}
pub use Rattle.erd_meaning.proofs.Common.{is_compared_set, Asked, asked, is_repeated, asked_of_member, asked_inside, asked_from, asked_at, Want, Carried}
pub use Rattle.erd_meaning.proofs.Common.{ClassText, Member, Reference, Status, IsAccepted, Judged, has_keys, is_keyed_role, key_cmp, triple_of, Preference}
pub use Rattle.erd_meaning.proofs.Common.{key_of_identifiers, key_of, IsBefore, IdentityFault, is_reference_fault, is_selection_in, is_other_selection}
pub use Rattle.erd_meaning.proofs.Common.{ReferenceFault, SelectionFault, LacksIdentifier, NamesOtherContest, RepeatsKey, RepeatsName, key_in, rank_of}
pub use Rattle.erd_meaning.proofs.Common.{rising_keys, id_in, election_key_of, selection_in, FindsId, Label, untranslated, Content, no_content, first_node}
pub use Rattle.erd_meaning.proofs.Common.{Node, a_contest, a_header, PlainValue, a_json, a_label, a_key, a_key_set, MemberValue, a_plain, ObjectRecord, Record}
pub use Rattle.erd_meaning.proofs.Common.{NameParts, Placed, placed_from, placed_entries, report_of, elections, contests, selections_of_contest, objects}
pub use Rattle.erd_meaning.proofs.Common.{has_several, objects_with_role, needs_key, election_of_place, numbered_selections, id_of, has_id, owner, is_owned}
pub use Rattle.erd_meaning.proofs.Common.{IsBounded, json_set, if_carried, carried_members, label_beside_text, label_of, content_of, meaning, plain_value}
pub use Rattle.erd_meaning.proofs.Common.{is_in_envelope, plain_member, record_with, selection_record, selection_map, member_value, member_of_class}
pub use Rattle.erd_meaning.proofs.Common.{object_record, record_in_election, placed_record, placed_with_key, records_of, election_records, with_inserted}
pub use Rattle.erd_meaning.proofs.Common.{rising_list, compact_cmp, key_named, keys_named, keys_of_selection, is_write_in, order_of_selection, with_rising_text}
pub use Rattle.erd_meaning.proofs.Common.{label_of_selection, name_in_class, selection_role, name_of, name_cmp, name_named, positioned, rank_by, positions_by}
pub use Rattle.erd_meaning.proofs.Common.{key_cmp_total, key_cmp_exact, name_cmp_total, name_cmp_exact, option_map-Some, In-map_from, In-flat_map_from}
pub use Rattle.erd_meaning.proofs.Common.{In-from_contains, contains_from_In, In-map, In-flat_map, In-append_left, In-append_right, In-filter, any_at, In-any}
pub use Rattle.erd_meaning.proofs.Common.{each_holds, In-append}
pub use Rattle.erd_check.proofs.Common.{◌↔◌, Global, Num, unsigned, negative, float, number, depth, members_depth, as_integer, is_float, number_of, of_json}
pub use Rattle.erd_check.proofs.Common.{of_items, of_members, read, max_depth, kind_in_rows, required_names, is_text, is_array, is_object, is_empty_array}
pub use Rattle.erd_check.proofs.Common.{lacks, has_wanted_kind, names_wanted, wants_whole, is_reference, is_shape_fault, IsBeforeFirst, AreTrees, AreMembers}
pub use Rattle.erd_check.proofs.Common.{IsShallow, names, asked_of_entry}
unfoldable pub use Rattle.erd_meaning.proofs.Common.{IsDistinct, IsStrictlySortedBy, serde_json_on_literals}
pub use Rattle.std.proofs.Common.{◌*◌, ◌/◌, ◌%◌, max, OnOk, IsUtf8, decimal, Vec, map-id, le-ltb, lt-ltb}
pub use Rattle.std.proofs.Math.Seq.{take-length}
pub use Rattle.std.proofs.lemmas.Bool.{cases_lt, cases_eq}
pub use Rattle.std.proofs.lemmas.Cmp.{ranked, by_ranked}
pub use Rattle.std.proofs.lemmas.Fmt.{decimal_is_IsNumeral, decimal_nonempty, decimal_injective}
pub use Rattle.std.proofs.lemmas.List.{drop_all, nil_from_length}
pub use Rattle.std.proofs.lemmas.Map.Text.{is_eq-slice_cmp}
pub use Rattle.std.proofs.lemmas.Result.{on_ok_weaker}
pub use Rattle.std.specs.Bool.{⊤}
pub use Rattle.std.specs.Cmp.{alike_right}
unfoldable pub use Rattle.std.specs.Fmt.{digits}
pub use Rattle.json.specs.Token.{Token, begin_array, end_array, key}
pub use Rattle.serde_json.proofs.Views.{Entry, view-Object, get_member-put, get_member-put_other}
pub use Rattle.serde_json.specs.Data.{items_depth}
pub use Rattle.serde_json.specs.Find.{as_bool, as_number}
pub use Rattle.serde_json.specs.Written.{number_text, outline, items_outline, members_outline}
pub use Rattle.erd_tables.specs.Classes.{family_of_role}
pub use Rattle.erd_tables.specs.Rows.{envelope_rows}
pub use Rattle.erd_tables.specs.Table.{is_envelope_name}
pub use Rattle.erd_check.proofs.Deciding.{is_tree, before_later, before_all, faults_found}
pub use Rattle.erd_check.proofs.Shapes.{object_from, string_from_text, list_of_items-tree, get_member-before, get_member-first, found_cases, members_unique}
pub use Rattle.erd_check.proofs.Shapes.{get_member-tree, get_member-depth, asked_at-steps, AsksObject, of_label, unrepeated, classed, within-holds, within-tree}
pub use Rattle.erd_check.proofs.Shapes.{Classed, kind_of_unlisted_has, is_word, want_unless_status}
pub use Rattle.erd_check.proofs.Exact.{text_exact, text_itself, is_same_exact}
pub use Rattle.erd_check.proofs.Lists.{list_of_items-items_of}
pub use Rattle.erd_check.proofs.Positions.{and_then-Some, all_at, in_at}
pub use Rattle.erd_check.proofs.Order.{sorted_map}
pub use Rattle.erd_check.proofs.ReadTrees.{before_put, put-trees, read_is_tree}
pub use Rattle.erd_check.proofs.Reports.{identifier}
pub use Rattle.erd_check.proofs.Steps.{text_from_equal}
pub use Rattle.erd_check.proofs.Whole.{get_member-later, is_simple_class, no_strange, no_unknown, entry_itself}
pub use Rattle.erd_check.specs.Faults.{has_kind, is_wrong_class, is_outside, is_other_status, wants_entry}
pub use Rattle.erd_check.specs.Numbers.{IsFittingNumber, HasFittingNumbers, ItemsHaveFittingNumbers, MembersHaveFittingNumbers}
pub use Rattle.erd_check.specs.Trees.{IsNoDeeper}
pub use Rattle.erd_check.specs.Values.{text_of}
pub use Rattle.erd_check.specs.Wants.{scope_of_object, is_elections, is_table_set}
pub use Rattle.erd_check.specs.declared.want.Scope.{Scope, Scope as scope}
pub use Rattle.erd_check.specs.declared.want.Want.TheVariants.{Object}
pub use Rattle.erd_meaning.proofs.accepted.DistinctKeys.{election_has_identifier, objects_distinct, values_distinct, elections_distinct}
pub use Rattle.erd_meaning.proofs.accepted.HeldObjects.{held_key_in}
pub use Rattle.erd_meaning.proofs.accepted.Standing.{no_shape_fault, no_identity_fault, no_reference_fault, accepted_by_phases, owned, unrepeated_reference}
pub use Rattle.erd_meaning.proofs.accepted.Standing.{selected, find-Some, find-any, has_identifier, resolves, skeleton_of_shape, skeleton, values-placed_from}
pub use Rattle.erd_meaning.proofs.accepted.Standing.{values-placed_entries, values-placed_flat, election_entries, values_in_elections, election_stands}
pub use Rattle.erd_meaning.proofs.accepted.Standing.{election_within, election_object, Skeleton, stands, contest_selections, one_placed, one_object, one_keyed}
pub use Rattle.erd_meaning.proofs.accepted.Standing.{one_named, has_id-Some, has_id-from, owner_is, owned_by}
pub use Rattle.erd_meaning.proofs.examples.RecordExamples.{local_key, members_of}
pub use Rattle.erd_meaning.proofs.finding.OneObject.{at_low, with_part, one_id}
pub use Rattle.erd_meaning.proofs.meanings.SelectionKinds.{kind_of_type, is_selections, selections_kind, selections_name, selections_family, class_role}
pub use Rattle.erd_meaning.proofs.meanings.WholeMeanings.{same_meaning}
pub use Rattle.erd_meaning.proofs.rising.DistinctEntries.{options_exact, equal_keys, equal_names, distinct_from_one_place, distinct_map, distinct_one}
pub use Rattle.erd_meaning.proofs.rising.DistinctEntries.{unrepeated_distinct, unrepeated_by_cmp}
pub use Rattle.erd_text.proofs.RisingOrders.{two_exchanged, reordered-In, reordered_flat, reordered_rising, whole-reordered, count-reordered, all-reordered}
pub use Rattle.erd_text.proofs.RisingOrders.{along_permutation, reordered_kept, greater_turned, inserted_exchange, all_rising, NeverFalls, rising_strictly}
pub use Rattle.erd_text.proofs.RisingOrders.{rising_never_falls, rank_map, rank_by_at, length-rising, In-inserted, In-rising, compact_cmp_total}
pub use Rattle.erd_text.proofs.RisingLists.{by_first, rising_from_sort, rising_list_map}
pub use Rattle.erd_meaning.specs.LaterFaults.{is_unresolved, is_of_other_family}
pub use Rattle.erd_meaning.specs.Lookups.{rising_election_keys}
pub use Rattle.erd_meaning.specs.Meaning.{JsonMap, JsonSet, translated, a_json_set, a_content, SelectionRecord, a_selection_map}
pub use Rattle.erd_meaning.specs.Objects.{IsObject}
pub use Rattle.erd_meaning.specs.Records.{key_set, class_of_node, is_header_class, contest_node, header_node, nodes_of, node_of, content_inside, unless_empty}
pub use Rattle.erd_text.specs.StableOrder.{pairs_of, IsStablySorted}
pub use Rattle.erd_text.specs.Tokens.{value_tokens, items_tokens, members_tokens}
pub use Rattle.erd_meaning.specs.declared.keys.key.Key.{Key}
pub use mathlib.Core.Path.{fun_ext}
