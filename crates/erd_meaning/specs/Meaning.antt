-- What a report means: finite maps under names that vendors share. They hold no `@id` and no position in a set. A finite map
-- is given by its value at each name, and a finite set by its test of membership. All of this is the profile's own.
use Rattle.std.specs.Prelude.{ℕ, List, Bool, Option}
use Rattle.serde_json.specs.Data.{Data}
use Rattle.erd_tables.specs.declared.class.Class.{Class}
use Rattle.erd_tables.specs.declared.class.Family.{Family}
use Rattle.erd_meaning.specs.NameParts.{NameParts}
use Rattle.erd_meaning.specs.declared.keys.key.Key.{Key}

-- A map from the names of members to JSON values.
abbrev pub JsonMap : Type 0
JsonMap = List ℕ → Option Data

-- A set of JSON values, given by its test of membership.
abbrev pub JsonSet : Type 0
JsonSet = Data → Bool

-- A set of keys, given by its test of membership.
abbrev pub KeySet : Type 0
KeySet = Key → Bool

-- A plain text, or the translations of an InternationalizedText with the members beside them.
pub data Label : Type 0 where
  untranslated : List ℕ → Label
  translated : JsonMap → JsonSet → Label

-- The order of a ballot (OrderedContent of class BallotStyle): a list of contests and headers. In what an accepted report
-- means, no key and no name is missing.
mutual
  pub data Content : Type 0 where
    no_content : Content
    first_node : Node → Content → Content

  -- A contest with the names of its selections, or a header with its own content. Either has its carried members too.
  pub data Node : Type 0 where
    a_contest : Option Key → List (Option NameParts) → JsonMap → Node
    a_header : Option Key → Content → JsonMap → Node

-- What a member means, if it holds no objects of a family.
pub data PlainValue : Type 0 where
  a_json : Data → PlainValue
  a_label : Label → PlainValue
  a_json_set : JsonSet → PlainValue
  a_key : Option Key → PlainValue
  a_key_set : KeySet → PlainValue
  a_content : Content → PlainValue

-- The record of an object: its class, and what each of its members means.
pub record Record (V : Type 0) : Type 0 where
  pub class : Class
  pub members : List ℕ → Option V

-- What a selection means.
abbrev pub SelectionRecord : Type 0
SelectionRecord = Record PlainValue

-- What a member of any other object means. The selections of a contest are a map from their names to their records.
pub data MemberValue : Type 0 where
  a_plain : PlainValue → MemberValue
  a_selection_map : (NameParts → Option SelectionRecord) → MemberValue

-- What an object means, if it is not a selection.
abbrev pub ObjectRecord : Type 0
ObjectRecord = Record MemberValue

-- What a report means: the record of the report, a map from the keys of its elections to their records, and for each family
-- that has keys a map from keys to records. A sole election may have no key.
pub record Meaning : Type 0 where
  pub report : Option ObjectRecord
  pub elections : Option Key → Option ObjectRecord
  pub objects : Family → Key → Option ObjectRecord
