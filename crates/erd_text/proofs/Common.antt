-- The names that the proofs of this crate cite most, passed on from one place. Declares nothing.
pub use Rattle.erd_check.proofs.Common.{◌≡◌, ℕ, zero, suc, ◌+◌, ◌-◌, ◌^◌, ◌<◌, ◌≤◌, Bool, true, false, cond, not, ◌&&◌, ◌||◌, ◌⊎◌, List, [], ◌∷◌, ◌++◌, map}
pub use Rattle.erd_check.proofs.Common.{length, take, drop, ℤ, pos, negsuc, is_none, IsSomeAnd, IfSome, if◌then◌else◌, IsTrue, nat_lt, ◌==◌, slice_get, Some}
pub use Rattle.erd_check.proofs.Common.{None, string_bytes, codes, Contains, filter, Option, option_map, find, flat_map, option_and_then, bytes_eq, nat_cmp}
pub use Rattle.erd_check.proofs.Common.{is_eq, is_lt, Ordering, Less, Equal, Greater, unwrap_or, sym, refl, ap, ◌∙◌, subst, ap₂, inl, inr, ⊎_elim, true≢false}
pub use Rattle.erd_check.proofs.Common.{append_assoc, append-nil, arith, length-append, Bor, rules, not-true, not-false, and_parts, and_from, or_from}
pub use Rattle.erd_check.proofs.Common.{false_from_ne_true, tied_itself, tied_back, nat_list_cmp_total, exact_bytes, bytes_eq-Decides, Equal-is, IsTotalOrder}
pub use Rattle.erd_check.proofs.Common.{slice_cmp, AllByRecursion, list_all, list_any, option_cmp, option_map_or, bool_cmp, match_ordering, ordering_reverse}
pub use Rattle.erd_check.proofs.Common.{ordering_then, Data, null, boolean, string, array, object, Items, no_items, item, Members, no_members, member, put}
pub use Rattle.erd_check.proofs.Common.{get_member, get_item, get, items_of, view, items_view, members_view, Value, then_both, steps_less, start_less}
pub use Rattle.erd_check.proofs.Common.{place_same, text_of_class, role_of_class, class_in_role, reason_cmp, fault_cmp, ListsAll, Row, rows_of_class}
pub use Rattle.erd_check.proofs.Common.{is_reference_name, kind_of_identity, kind_of_member, is_required, text_cmp, Class, class, Family, family, Role, role}
pub use Rattle.erd_check.proofs.Common.{Report, Fault, Reason, reason, Repeated, MemberKind, kind, Step, At, Name, ShapeFault, NoneOf, steps_of, fault_at}
pub use Rattle.erd_check.proofs.Common.{IsTree, is_same_json, list_of_items, entries_of, faults_of, Telling, told_at, told_of_items, told_of_members}
pub use Rattle.erd_check.proofs.Common.{told_of_report, IsInOrder, IsKnown, AreItemsKnown, AreMembersKnown, class_of_object, scope_inside, want_of_kind}
pub use Rattle.erd_check.proofs.Common.{is_report_class, member_want, carried_want, want_of_name, entry_want, is_compared_set, Asked, asked, is_repeated}
pub use Rattle.erd_check.proofs.Common.{asked_of_member, asked_inside, asked_from, asked_at}
unfoldable pub use Rattle.erd_check.proofs.Common.{IsStrictlySortedBy, serde_json_on_literals}
pub use Rattle.std.proofs.Common.{leb, ◌≢◌, get_or, replicate, is_some, IfOk, OnErr, slice_set, Ok, Err, vec_items, fold, count_by, Result, swap, IsPermutation}
pub use Rattle.std.proofs.Common.{IsSorted, option_to_list, position, filter_map, option_copied, is_gt, add-one, lit<, length-drop, length-set}
pub use Rattle.std.proofs.Common.{take-append-drop, length-take, take_all, get_or-append-add, ltb-false, ne_eqb, le-leb}
pub use Rattle.std.proofs.Math.Bool.{and-true, and-false, or-false}
pub use Rattle.std.proofs.Math.Path.{fun_ext}
pub use Rattle.std.proofs.Math.Seq.{append_snoc, drop-append_seam, take-append_seam}
pub use Rattle.std.proofs.lemmas.Bool.{eqb-false, cases_order, or_parts, and_left, and_right, true_from_ne_false, cases_Bool, cond_both}
pub use Rattle.std.proofs.lemmas.Bool.Decides.{Decides-eqb, Decides-int_eq, leb_tells}
pub use Rattle.std.proofs.lemmas.Cmp.{nat_cmp_total, on_total, then_total, back_total, lists_total}
pub use Rattle.std.proofs.lemmas.Iterator.Adapters.{position_from-zero}
pub use Rattle.std.proofs.lemmas.List.{map-append, length-map, nil_from_length, length-replicate, get_or_append_left, take-append-le, drop_more, take_more}
pub use Rattle.std.proofs.lemmas.List.{length_push, at_drop_more, at_drop_all}
pub use Rattle.std.proofs.lemmas.List.Kept.{IsStrictlySortedBy-filter}
pub use Rattle.std.proofs.lemmas.Grind.{flat_map-append}
pub use Rattle.std.proofs.lemmas.List.Folds.{list_any-append}
pub use Rattle.std.proofs.lemmas.List.Concat.{flat_map_single}
pub use Rattle.std.proofs.lemmas.List.Elements.{filter_map-append, filter-append}
pub use Rattle.std.proofs.lemmas.List.Sorted.{IsPermutation-refl, ranks_by, answers_always, IsPermutation-sym, IsPermutation-cons, IsPermutation-swap}
pub use Rattle.std.proofs.lemmas.List.Sorted.{IsPermutation-trans, IsPermutation-map, IsPermutation-append_left, IsPermutation-append_right}
pub use Rattle.std.proofs.lemmas.List.Sorted.{IsPermutation-append_comm, IsPermutation-keeps, length_permutation, list_any-IsPermutation, sum_by-IsPermutation}
pub use Rattle.std.proofs.lemmas.List.Sorted.{IsPartitionedBy-leb, IsPartitionPoint-from_clause}
pub use Rattle.std.proofs.lemmas.Map.Lookups.{CmpEqualImpliesEq, exact_unsigned}
pub use Rattle.std.proofs.lemmas.Option.{same_Some, slice_get-map, slice_get_within, some_pair_parts, slice_get_read, slice_get_past, get_or_from_slice_get}
pub use Rattle.std.proofs.lemmas.Result.{IfOk-weaker, err_from_is_err_and}
pub use Rattle.std.proofs.lemmas.Simd.{map-map}
pub use Rattle.std.specs.Cmp.{IsStrictWeakOrder, bool_cmp_total, both_ways, nat_eq_equiv}
pub use Rattle.std.specs.Cmp.Lexicographic.{bytes_decides, options_total}
pub use Rattle.std.specs.Hash.{HashWrites, fed_then, str, usize}
unfoldable pub use Rattle.std.specs.List.{IsDistinct}
pub use Rattle.std.specs.List.{cons_option, enumerate_from, position_from, position_or_len}
pub use Rattle.std.specs.List.Sorted.{IsNonDecreasingBy, IsStable, ties}
pub use Rattle.std.specs.Map.{lookup}
pub use Rattle.std.specs.Option.{option_or}
pub use Rattle.std.specs.Ordering.{eq_by_cmp}
pub use Rattle.std.specs.Prelude.{⊤}
pub use Rattle.serde_json.specs.Find.{as_str, as_object}
pub use Rattle.serde_json.specs.Written.{has_float, items_have_float, members_have_float, comma_if, compact_text, items_text, members_text}
pub use Rattle.erd_tables.proofs.PlaceOrder.{place_cmp_total, place_cmp_exact}
pub use Rattle.erd_tables.specs.Classes.{family_of_class, families, family_number}
pub use Rattle.erd_tables.specs.Places.{step_cmp, place_cmp}
pub use Rattle.erd_tables.specs.Rows.{unit_rows, party_rows, person_rows, office_rows, header_rows, candidate_rows}
pub use Rattle.erd_tables.specs.declared.class.Family.TheVariants.{Contest, Selection}
pub use Rattle.erd_tables.specs.declared.fault.Reason.TheVariants.{DuplicateId, NoIdentifier, SelectionOfOtherContest, TwinIdentifier, TwinSelection}
pub use Rattle.erd_tables.specs.declared.fault.Reason.TheVariants.{Unresolved, WrongFamily}
pub use Rattle.erd_check.proofs.Deciding.{none_from_empty, less, tree_sound, if_some, tree_in_order, no_fault_listed}
pub use Rattle.erd_check.proofs.Shapes.{entries_in, array_from, list_of_items_exact, list_of_items-place, object_in, object_at, report_class, election_class}
pub use Rattle.erd_check.proofs.Shapes.{not_empty, is_absent, is_filled_array, keyed_list, MayBeArray, ObjectAt, ObjectIn, asked_at-step, Within-step}
pub use Rattle.erd_check.proofs.Shapes.{Within-root, not_within, of_role, asked_inside_object, faultless, wanted_within, lacks_none, member_within, Within}
pub use Rattle.erd_check.proofs.Shapes.{kind_of_class, kind_of_name, kind_of_id, want_by_kind}
pub use Rattle.erd_check.proofs.Positions.{and_then-Some, option_map-Some, some_from, position_of, all_weakened, in_at}
pub use Rattle.erd_check.proofs.Order.{In, In-append_left, In-append_right, In-append, In-map, In-map_from, In-flat_map, any_at, In-filter, In-filter_kept}
pub use Rattle.erd_check.proofs.Order.{In-from_contains, contains_from_In, all_from_In, In-all, Below, sorted_append, rising_unique, In-any, all_hold}
pub use Rattle.erd_check.proofs.Order.{each_holds, In-flat_map_from}
pub use Rattle.erd_check.proofs.Reports.{tree_of, small_ballot_with, header_node, contest_node, small_ballot, small_ballot_canonical, election, one_unit}
pub use Rattle.erd_check.proofs.Reports.{with_report_member, with_unit_member, with_election_member, report_of_two, two_elections_with, two_elections}
pub use Rattle.erd_check.proofs.Reports.{three_contests}
pub use Rattle.erd_check.proofs.Walks.{outer_place, walk_lists, Agrees, Around}
pub use Rattle.erd_check.specs.Refusals.{RefusedFor}
pub use Rattle.erd_check.specs.Shapes.{IsFaultless}
pub use Rattle.erd_check.specs.Values.{entries_at, text_at}
pub use Rattle.erd_check.specs.declared.want.Want.{Want}
pub use Rattle.erd_check.specs.declared.want.Want.TheVariants.{Carried, ClassText, Member, Reference, Status}
pub use Rattle.erd_text.specs.RisingLists.{with_inserted, rising_list, compact_cmp, with_rising_text}
pub use Rattle.serde_json.proofs.Views.{Entry}
pub use Rattle.erd_text.specs.Tokens.{value_tokens, items_tokens, members_tokens}
