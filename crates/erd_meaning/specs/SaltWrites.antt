-- What the salt of a report is computed from: all that its indexes hash of its elections and objects. Each part says where it
-- ends, so that no part can take from the next.
use Rattle.std.specs.Prelude.{◌≡◌, ◌∷◌, codes, map, ℕ, length, ◌<◌, ◌^◌, ◌+◌, ◌-◌, ◌*◌, cond, is_some, List, [], ◌++◌, true, false, Option, Some, None, IfSome}
use Rattle.std.specs.Prelude.{⊤}
use Rattle.std.specs.Hash.{HashWrites, i64, u64, usize}
use Rattle.serde_json.specs.Data.{Num, unsigned, negative, float, Data, null, boolean, number, string, array, object, Items, no_items, item, Members}
use Rattle.serde_json.specs.Data.{no_members, member}
use Rattle.std.specs.List.{flat_map, AllByRecursion}
use Rattle.std.specs.declared.hash.DefaultHasher.{DefaultHasher}
use Rattle.erd_index.specs.Salts.{bytes_in, fed, salt_start, text_writes, unfed}
use Rattle.erd_check.specs.Numbers.{IsFittingNumber}
use Rattle.erd_tables.specs.Classes.{family_number}
use Rattle.erd_tables.specs.declared.class.Family.{Family}
use Rattle.erd_tables.specs.declared.class.Family.TheVariants as family
use Rattle.erd_meaning.specs.Keys.{Preference, key_of, key_of_family_object}
use Rattle.erd_meaning.specs.Objects.{Placed, elections, id_of, placed_entries, report_of, selections_of_contest}
use Rattle.erd_meaning.specs.declared.keys.key.Key.{Key}

-- A number, after one that tells its kind. A name has whole numbers alone.
abbrev pub number_writes : Num → HashWrites
number_writes (unsigned n) = u64 4 ++ u64 n
number_writes (negative z) = u64 8 ++ i64 z
number_writes (float x) = u64 9

-- A value, after a number that tells its kind. No kind has the number 0, which ends an array or an object.
abbrev mutual
  pub value_writes : Data → HashWrites
  value_writes null = u64 1
  value_writes (boolean false) = u64 2
  value_writes (boolean true) = u64 3
  value_writes (number n) = number_writes n
  value_writes (string s) = u64 5 ++ text_writes s
  value_writes (array ds) = u64 6 ++ items_writes ds
  value_writes (object ms) = u64 7 ++ members_writes ms

  -- The entries of an array, and its end.
  pub items_writes : Items → HashWrites
  items_writes no_items = u64 0
  items_writes (item d ds) = value_writes d ++ items_writes ds

  -- The members of an object, and its end: a word with which no name begins.
  pub members_writes : Members → HashWrites
  members_writes no_members = u64 (2 ^ 64 - 1)
  members_writes (member k d ms) = text_writes k ++ (value_writes d ++ members_writes ms)

-- A value, if there is one.
abbrev pub option_writes : {T : Type 0} → (T → HashWrites) → Option T → HashWrites
option_writes writes None = []
option_writes writes (Some x) = writes x

-- The three texts of a key.
abbrev pub triple_writes : Key → HashWrites
triple_writes k = text_writes k.kind ++ (text_writes k.other ++ text_writes k.value)

-- What the indexes hash of an object or of an election: its family, where an election has none, its `@id` and its key, if it has
-- them, and the whole object if it is a selection, since the name of a selection is made of many members.
pub record Hashed : Type 0 where
  pub family : Option Family
  pub id : Option (List ℕ)
  pub key : Option Key
  pub selection : Option Data

-- The value if it is a selection.
abbrev pub whole_selection : Family → Data → Option Data
whole_selection family.Selection d = Some d
whole_selection f d = None

-- The number of the family. Elections have one that no family has.
abbrev pub hashed_number : Option Family → ℕ
hashed_number None = 9
hashed_number (Some f) = family_number f

-- The number of a family, or of elections, with a bit for each part that there is.
abbrev pub parts_number : ℕ → Option (List ℕ) → Option Key → Option Data → ℕ
parts_number n id key selection = n + 16 * (cond (is_some id) 1 0 + 2 * cond (is_some key) 1 0 + 4 * cond (is_some selection) 1 0)

-- The parts that there are, after that number.
abbrev pub parts_writes : ℕ → Option (List ℕ) → Option Key → Option Data → HashWrites
parts_writes n id key selection =
    usize (parts_number n id key selection) ++ (option_writes text_writes id ++ (option_writes triple_writes key ++ option_writes value_writes selection))

-- All that is written of an object or of an election.
abbrev pub hashed_writes : Hashed → HashWrites
hashed_writes h = parts_writes (hashed_number h.family) h.id h.key h.selection

-- ---- what can be told apart

-- The length of the text fits a word.
abbrev pub FitsText : List ℕ → Type 0
FitsText text = length text < 2 ^ 64

-- At every depth, the lengths of texts and names fit a word, and each number is whole and fits 64 bits.
abbrev mutual
  pub FitsValue : Data → Type 0
  FitsValue null = ⊤
  FitsValue (boolean b) = ⊤
  FitsValue (number n) = IsFittingNumber n
  FitsValue (string s) = FitsText s
  FitsValue (array ds) = FitsItems ds
  FitsValue (object ms) = FitsMembers ms

  pub FitsItems : Items → Type 0
  FitsItems no_items = ⊤
  FitsItems (item d ds) = FitsValue d × FitsItems ds

  pub FitsMembers : Members → Type 0
  FitsMembers no_members = ⊤
  FitsMembers (member k d ms) = FitsText k × FitsValue d × FitsMembers ms

-- The same of the three texts of a key.
abbrev pub FitsKey : Key → Type 0
FitsKey k = FitsText k.kind × FitsText k.other × FitsText k.value

-- The same of all that is hashed.
pub record FitsHashed (h : Hashed) : Type 0 where
  pub id : IfSome h.id FitsText
  pub key : IfSome h.key FitsKey
  pub selection : IfSome h.selection FitsValue

-- ---- the salt of a report

-- What the indexes hash of an object of the family.
abbrev pub hashed_object : Preference → Family → Placed → Hashed
hashed_object π f o = record { family = Some f; id = id_of o.value; key = key_of_family_object π f o.value; selection = whole_selection f o.value }

-- What they hash of objects of one family.
abbrev pub hashed_objects : Preference → Family → List Placed → List Hashed
hashed_objects π f os = map (hashed_object π f) os

-- What they hash of an election.
abbrev pub hashed_election : Preference → Placed → Hashed
hashed_election π e = record { family = None; id = None; key = key_of π e.value; selection = None }

-- What they hash of a contest, and then of its selections.
abbrev pub hashed_in_contest : Preference → Placed → List Hashed
hashed_in_contest π o = hashed_object π family.Contest o ∷ hashed_objects π family.Selection (selections_of_contest o)

-- What they hash of an election, and then of its objects.
abbrev pub hashed_in_election : Preference → Placed → List Hashed
hashed_in_election π e =
    hashed_election π e ∷ (hashed_objects π family.Style (placed_entries (codes "BallotStyle") e)
    ++ (hashed_objects π family.Candidate (placed_entries (codes "Candidate") e) ++ flat_map (hashed_in_contest π) (placed_entries (codes "Contest") e)))

-- What they hash of the objects that are outside the elections.
abbrev pub hashed_outside : Preference → Placed → List Hashed
hashed_outside π r =
    hashed_objects π family.Unit (placed_entries (codes "GpUnit") r) ++ (hashed_objects π family.Header (placed_entries (codes "Header") r)
    ++ (hashed_objects π family.Office (placed_entries (codes "Office") r)
    ++ (hashed_objects π family.Party (placed_entries (codes "Party") r) ++ hashed_objects π family.Person (placed_entries (codes "Person") r))))

-- What they hash of a report: of its elections and objects, in the order of their places.
abbrev pub all_hashed : Preference → Data → List Hashed
all_hashed π t = flat_map (hashed_in_election π) (elections t) ++ hashed_outside π (report_of t)

-- What the salt of a report is computed from.
abbrev pub salt_writes : Preference → Data → HashWrites
salt_writes π t = flat_map hashed_writes (all_hashed π t)

-- The hasher that the salt of a report starts: the words of the salt are those of two hashers that were given these writes.
abbrev pub report_start : Preference → Data → DefaultHasher
report_start π t = salt_start (fed unfed (salt_writes π t))

-- The lengths of the texts fit a word, and the numbers in selections are whole and fit 64 bits.
abbrev pub AllFit : Preference → Data → Type 0
AllFit π t = AllByRecursion FitsHashed (all_hashed π t)

-- Whichever report has a salt that is computed from the same bytes as that of this one, its indexes hash the same.
abbrev pub CoversEachKey : Preference → Data → Type 0
CoversEachKey π t = (u : Data) → AllFit π t → AllFit π u → bytes_in (salt_writes π t) ≡ bytes_in (salt_writes π u) → all_hashed π t ≡ all_hashed π u
