-- The names that the proofs of this crate cite most, passed on from one place. Declares nothing.
pub use Rattle.std.proofs.Common.{◌≡◌, ℕ, zero, suc, ◌+◌, ◌-◌, ◌^◌, ◌<◌, ◌≤◌, Bool, true, false, cond, not, ◌&&◌, ◌||◌, ◌⊎◌, ◌↔◌, List, [], ◌∷◌, ◌++◌, map}
pub use Rattle.std.proofs.Common.{length, take, drop, ℤ, pos, negsuc, neg_ℤ, is_none, IsSomeAnd, IfSome, if◌then◌else◌, IsTrue, nat_lt, nat_le, ◌==◌, slice_get}
pub use Rattle.std.proofs.Common.{slice_index, int_lt, Some, None, string_bytes, codes, Contains, filter, Option, String, option_map, find, flat_map}
pub use Rattle.std.proofs.Common.{option_and_then, bytes_eq, string_cmp, nat_cmp, int_cmp, is_eq, is_lt, Ordering, Less, Equal, Greater, Global, unwrap_or, sym}
pub use Rattle.std.proofs.Common.{refl, ap, ◌∙◌, subst, ap₂, inl, inr, ⊎_elim, true≢false, append_assoc, append-nil, add-zero, zero-add, arith, length-append}
pub use Rattle.std.proofs.Common.{Bor, rules}
pub use Rattle.std.proofs.lemmas.Bool.{not-true, not-false, and_parts, and_from, or_from, or_right, false_from_ne_true, cases_Bool, cond_both}
pub use Rattle.std.proofs.lemmas.Cmp.{tied_itself, tied_back, int_cmp_total, nat_list_cmp_total}
pub use Rattle.std.proofs.lemmas.Map.Lookups.{exact_bytes}
pub use Rattle.std.proofs.lemmas.Slice.Eq.{bytes_eq-Decides}
pub use Rattle.std.specs.Cmp.{Equal-is, IsTotalOrder}
pub use Rattle.std.specs.Cmp.Lexicographic.{slice_cmp}
pub use Rattle.std.specs.List.{AllByRecursion, list_all, list_any}
unfoldable pub use Rattle.std.specs.List.Sorted.{IsStrictlySortedBy}
pub use Rattle.std.specs.Option.{option_cmp, option_map_or}
pub use Rattle.std.specs.Ordering.{bool_cmp, match_ordering, ordering_reverse, ordering_then}
unfoldable pub use Rattle.serde_json.proofs.OnLiterals.{serde_json_on_literals}
pub use Rattle.serde_json.specs.Data.{Num, unsigned, negative, float, Data, null, boolean, number, string, array, object, Items, no_items, item, Members}
pub use Rattle.serde_json.specs.Data.{no_members, member, put, depth, members_depth}
pub use Rattle.serde_json.specs.Find.{get_member, get_item, get, as_integer, is_float}
pub use Rattle.serde_json.specs.Read.{is_integer, float_of, number_from, of_json, of_items, of_members, read, max_depth}
unfoldable pub use Rattle.serde_json.specs.Read.{number_of}
pub use Rattle.serde_json.specs.View.{items_of, members_of, view_step, view, items_view, members_view}
pub use Rattle.serde_json.specs.declared.value.Value.{Value, map-Value}
pub use Rattle.erd_tables.proofs.PlaceOrder.{then_both, steps_less, start_less, place_same}
pub use Rattle.erd_tables.specs.Classes.{text_of_class, role_of_class, class_in_role}
pub use Rattle.erd_tables.specs.Faults.{reason_number, reason_cmp, fault_cmp, ListsAll}
pub use Rattle.erd_tables.specs.Rows.{Row, rows_of_class}
pub use Rattle.erd_tables.specs.Table.{kind_in_rows, is_reference_name, kind_of_identity, kind_of_unlisted, kind_of_member, required_names, is_required}
pub use Rattle.erd_tables.specs.Texts.{text_cmp}
pub use Rattle.erd_tables.specs.declared.class.Class.{Class, Class as class}
pub use Rattle.erd_tables.specs.declared.class.Family.{Family, Family as family}
pub use Rattle.erd_tables.specs.declared.class.Role.{Role, Role as role}
pub use Rattle.erd_tables.specs.declared.class.Role.TheVariants.{Report}
pub use Rattle.erd_tables.specs.declared.fault.Fault.{Fault}
pub use Rattle.erd_tables.specs.declared.fault.Reason.{Reason, Reason as reason}
pub use Rattle.erd_tables.specs.declared.fault.Reason.TheVariants.{CarriedIdentity, ElectionCount, EmptyArray, MissingMember, NotPreElection, NotWhole}
pub use Rattle.erd_tables.specs.declared.fault.Reason.TheVariants.{OutsideProfile, Repeated, UnknownReference, WrongClassText, WrongKind}
pub use Rattle.erd_tables.specs.declared.member.MemberKind.{MemberKind, MemberKind as kind}
pub use Rattle.erd_tables.specs.declared.place.Step.{Step}
pub use Rattle.erd_tables.specs.declared.place.Step.TheVariants.{At, Name}
pub use Rattle.erd_check.specs.Faults.{is_text, is_array, is_object, is_empty_array, is_not_whole, lacks, has_wanted_kind, names_wanted, wants_whole}
pub use Rattle.erd_check.specs.Faults.{is_reference, is_shape_fault, ShapeFault, NoneOf}
pub use Rattle.erd_check.specs.Paths.{steps_of, fault_at}
pub use Rattle.erd_check.specs.Trees.{IsBeforeFirst, IsNumber, IsTree, AreTrees, AreMembers, IsShallow, same_flag, same_whole, same_number, is_same_json}
pub use Rattle.erd_check.specs.Trees.{are_same_items, are_same_members}
pub use Rattle.erd_check.specs.ValueSets.{StandsFor}
pub use Rattle.erd_check.specs.Values.{list_of_items, entries_of, names}
pub use Rattle.erd_check.specs.Visits.{faults_of, Telling, told_at, told_of_items, told_of_members, told_of_report, IsInOrder, AreItemsInOrder}
pub use Rattle.erd_check.specs.Visits.{AreMembersInOrder, IsKnown, AreItemsKnown, AreMembersKnown, IsSilentMember}
pub use Rattle.erd_check.specs.Wants.{class_of_object, scope_inside, want_of_kind, is_report_class, member_want, carried_want, want_of_name, entry_want}
pub use Rattle.erd_check.specs.Wants.{is_compared_set, Asked, asked, is_repeated, asked_of_member, asked_of_entry, asked_inside, asked_from, asked_at}
pub use Rattle.erd_check.specs.code.JsonOrder.{json_cmp, items_cmp, members_cmp}
pub use Rattle.erd_check.specs.code.Walk.{asked_with, missing, other_reasons, reasons, IsAskedInRange}
pub use Rattle.erd_check.specs.declared.want.Scope.{Scope, Scope as scope}
pub use Rattle.erd_check.specs.declared.want.Want.{Want}
pub use Rattle.erd_check.specs.declared.want.Want.TheVariants.{Carried, ClassText, Member, Object, Reference, Status}
