-- The words that the contracts of this crate cite, passed on from one place. Declares nothing.
pub use Rattle.erd_meaning.specs.Words.{codes, elections, entries_at, entry_of, family_number, has_float, has_keys}
pub use Rattle.erd_meaning.specs.Words.{items_view, key_in, name_cmp, objects, option_map_or, rank_of, rising_list, view}
pub use Rattle.erd_meaning.specs.Words.{Data, Family, FindsId, IsAccepted, IsBounded, IsShallow, IsTree, Judged, Preference}
pub use Rattle.std.specs.Option.{option_cmp}
pub use Rattle.arrayvec.specs.ArrayString.{array_string_len}
pub use Rattle.json.specs.Token.{key}
pub use Rattle.serde_json.specs.Data.{no_members, object, string, Members}
pub use Rattle.serde_json.specs.View.{items_of, members_view}
pub use Rattle.serde_json.specs.Written.{items_have_float, members_have_float}
pub use Rattle.serde_json.specs.declared.value.Value.{Value}
pub use Rattle.erd_tables.specs.Table.{kind_of_member}
pub use Rattle.erd_tables.specs.declared.member.MemberKind.{MemberKind}
pub use Rattle.erd_check.specs.Trees.{IsNoDeeper}
pub use Rattle.erd_check.specs.Values.{text_of}
pub use Rattle.erd_check.specs.Wants.{class_of_object}
pub use Rattle.erd_text.specs.Tokens.{items_tokens, members_tokens, value_tokens}
pub use Rattle.erd_meaning.specs.Lookups.{id_in}
pub use Rattle.erd_meaning.specs.Objects.{contests, Placed}
pub use Rattle.erd_meaning.specs.RankedNames.{ranked_name}
pub use Rattle.erd_meaning.specs.SelectionNames.{name_of, selection_role}
pub use Rattle.erd_normal.specs.Canonical.{canonical_id, canonical_selection_id, id_prefix, IsCanonicalFormOf}
pub use Rattle.erd_normal.specs.CanonicalText.{IsCanonicalText}
pub use Rattle.erd_normal.specs.Laws.{CanonicalFormExists, CanonicalIsUnique, NamesAgree, ObjectsAgree}
pub use Rattle.erd_normal.specs.Laws.{PreferencesAgree, RearrangedMeansTheSame, ReferencesAgree}
pub use Rattle.erd_normal.specs.MeansTheSame.{SayingTheSameMeansTheSame}
pub use Rattle.erd_normal.specs.SameForms.{CanonicalSaysTheSame, MeaningTheSameSaysTheSame, SayingAndMeaningAgree}
pub use Rattle.erd_normal.specs.SameLaws.{ExchangedSaysTheSame, RearrangedSaysTheSame, ReferencesNameTheSame}
pub use Rattle.erd_normal.specs.SameLaws.{RenamedSaysTheSame, SameIsAccepted, SaysBack, SaysInTurn, SaysItself}
