-- The words that the contracts of this crate cite, passed on from one place. Declares nothing.
pub use Rattle.std.specs.Cmp.{eq_by_cmp_equiv, partial_equiv_from_equiv, partial_order_from_total}
pub use Rattle.std.specs.Coded.{codes}
pub use Rattle.std.specs.Hash.DefaultHasher.{write}
pub use Rattle.std.specs.List.{list_any, AllByRecursion, IsDistinct}
pub use Rattle.std.specs.Option.{option_map_or, option_or}
pub use Rattle.std.specs.Ordering.{as_partial_cmp, eq_by_cmp, is_lt, nat_cmp}
pub use Rattle.indexmap.specs.IndexMap.{get_by, spare}
pub use Rattle.serde_json.specs.Data.{Data}
pub use Rattle.serde_json.specs.Find.{as_str}
pub use Rattle.serde_json.specs.View.{items_view, view}
pub use Rattle.serde_json.specs.Written.{has_float}
pub use Rattle.erd_index.specs.Salts.{joined_start}
pub use Rattle.erd_tables.specs.Classes.{family_number}
pub use Rattle.erd_tables.specs.Families.{entry_of}
pub use Rattle.erd_tables.specs.Faults.{ListsAll}
pub use Rattle.erd_tables.specs.declared.class.Family.{Family}
pub use Rattle.erd_check.specs.Numbers.{HasFittingNumbers}
pub use Rattle.erd_check.specs.Paths.{steps_of}
pub use Rattle.erd_check.specs.Refusals.{RefusedFor}
pub use Rattle.erd_check.specs.Shapes.{IsFaultless}
pub use Rattle.erd_check.specs.Trees.{IsShallow, IsTree}
pub use Rattle.erd_check.specs.Values.{entries_at}
pub use Rattle.erd_check.specs.Visits.{faults_of}
pub use Rattle.erd_check.specs.declared.error.CheckError.TheVariants.{Memory}
pub use Rattle.erd_text.specs.RisingLists.{rising_list}
pub use Rattle.erd_meaning.specs.Accepted.{IsAccepted, IsFault}
pub use Rattle.erd_meaning.specs.Hashes.{after_keys_writes, key_writes, name_writes}
pub use Rattle.erd_meaning.specs.Judged.{Judged}
pub use Rattle.erd_meaning.specs.Keys.{has_keys, key_cmp, key_of, key_of_family_object, triple_of, Preference}
pub use Rattle.erd_meaning.specs.LaterFaults.{IdentityFault, ReferenceFault, SelectionFault}
pub use Rattle.erd_meaning.specs.Lookups.{election_in, election_key_in, election_rank_of, key_in, rank_of, rising_election_keys, rising_keys, selection_in}
pub use Rattle.erd_meaning.specs.Lookups.{selections_before, FindsId, FindsKey, FindsSelection}
pub use Rattle.erd_meaning.specs.NameParts.{NameParts}
pub use Rattle.erd_meaning.specs.NumberedNames.{numbered_name_cmp, numbered_name_writes, numbered_parts, RankedParts}
pub use Rattle.erd_meaning.specs.Objects.{elections, id_of, numbered_selections, numbered_selections_of, objects, placed_entries, IsBounded}
pub use Rattle.erd_meaning.specs.Places.{places_put}
pub use Rattle.erd_meaning.specs.SaltWrites.{report_start, CoversEachKey}
pub use Rattle.erd_meaning.specs.RankedNames.{family_chosen, ranked_name_cmp, ranked_name_writes, ranked_selection_in, IsRankedIn}
pub use Rattle.erd_meaning.specs.SelectionNames.{is_write_in, keys_found, keys_of_selection, label_of_selection, name_cmp, order_of_selection}
pub use Rattle.erd_meaning.specs.declared.keys.key.Key.{Key}
