-- The words that the contracts of this crate cite, passed on from one place. Declares nothing.
pub use Rattle.erd_meaning.specs.Words.{as_str, codes, family_number, has_keys, objects, view, AllByRecursion, Data, IsBounded, IsTree, Preference}
pub use Rattle.std.specs.List.{filter_map, list_all, position_or_len}
pub use Rattle.indexmap.specs.IndexSet.{insert_all}
pub use Rattle.serde_json.specs.Data.{member, no_members, object, string}
pub use Rattle.serde_json.specs.Find.{get}
pub use Rattle.serde_json.specs.View.{members_view}
pub use Rattle.serde_json.specs.Written.{compact_text}
pub use Rattle.erd_tables.specs.Classes.{role_of_class}
pub use Rattle.erd_tables.specs.Table.{kind_of_member}
pub use Rattle.erd_tables.specs.declared.class.Role.TheVariants.{Election, OfFamily}
pub use Rattle.erd_check.specs.Trees.{are_same_members}
pub use Rattle.erd_check.specs.ValueSets.{values_in}
pub use Rattle.erd_check.specs.Values.{entries_of, text_at}
pub use Rattle.erd_meaning.specs.Meaning.{no_content}
pub use Rattle.erd_meaning.specs.RankedNames.{with_ranks}
pub use Rattle.erd_meaning.specs.Records.{carried_members, class_of_node, content_of, contest_node, header_node, is_header_class, is_in_envelope, json_set}
pub use Rattle.erd_meaning.specs.Records.{key_set, label_of, meaning, node_of, object_record, plain_member, plain_value, selection_map, selection_record}
pub use Rattle.erd_meaning.specs.SelectionNames.{key_named, keys_named, name_named}
pub use Rattle.erd_meaning.specs.declared.keys.key.Key.{Key}
pub use Rattle.erd_compare.specs.DifferenceData.{difference_data, difference_members, how_words, key_data}
pub use Rattle.erd_compare.specs.DifferenceLine.{difference_line, how_text, key_as_json, key_text, part_text}
pub use Rattle.erd_compare.specs.Differences.{first_of, record_at, AreDifferences, AreDifferent, IsDifference, Stands}
pub use Rattle.erd_compare.specs.SelectionData.{detailed_data, label_data, name_data, order_data, selection_data, selections_data, whole_data}
pub use Rattle.erd_compare.specs.SelectionDifferences.{is_in_selections, selections_with_key, text_size, AreDetailedDifferences, AreSelectionDifferences}
pub use Rattle.erd_compare.specs.declared.difference.How.TheVariants.{Member, OnlyLeft, OnlyRight}
