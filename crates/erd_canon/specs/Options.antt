-- The options of a command: their words, what is read of them, and their members in JSON.
use Rattle.std.specs.Prelude.{ℕ, Bool, false, List, [], ◌∷◌, Option, Some, None, codes, bytes_eq, unwrap_or}
use Rattle.clap.specs.Words.{Row, first_of}
use Rattle.serde_json.specs.Data.{Data, Members, null, boolean, string, no_members, member}

-- The words that state an option with this name: the name and the text of the option, or no words if it is not there.
abbrev pub option_words : List ℕ → Option (List ℕ) → List (List ℕ)
option_words name None = []
option_words name (Some text) = name ∷ text ∷ []

-- The words that state the preference: `--prefer` and the type, or no words if there is none.
abbrev pub preference_words : Option (List ℕ) → List (List ℕ)
preference_words prefer = option_words (codes "--prefer") prefer

-- The words that choose steps: `--steps` and their names, or no words if none are chosen.
abbrev pub steps_words : Option (List ℕ) → List (List ℕ)
steps_words steps = option_words (codes "--steps") steps

-- The preference that `clap` found in the words.
abbrev pub preference_in : List Row → Option (List ℕ)
preference_in rows = first_of (codes "TYPE") rows

-- The steps that `clap` found in the words.
abbrev pub steps_in : List Row → Option (List ℕ)
steps_in rows = first_of (codes "STEPS") rows

-- Whether `clap` found the flag with this name in the words: it gives a flag the value `true` then, and otherwise `false`.
abbrev pub has_flag : List ℕ → List Row → Bool
has_flag id rows = bytes_eq (unwrap_or (first_of id rows) []) (codes "true")

-- The text of an option as a string, or null if the option is not there. (docs/API.md)
abbrev pub option_data : Option (List ℕ) → Data
option_data None = null
option_data (Some text) = string text

-- The members of a request that are its options: whether JSON is asked for, and the preference. (docs/API.md)
abbrev pub option_members : Bool → Option (List ℕ) → Members
option_members json prefer = member (codes "json") (boolean json) (member (codes "prefer") (option_data prefer) no_members)

-- The members of a preparation that are its options: whether a list or a report is asked for, the preference, and the steps.
-- (docs/API.md)
abbrev pub preparation_members : Bool → Bool → Option (List ℕ) → Option (List ℕ) → Members
preparation_members list report steps prefer = member (codes "json") (boolean false) (member (codes "list") (boolean list)
    (member (codes "prefer") (option_data prefer) (member (codes "report") (boolean report) (member (codes "steps") (option_data steps) no_members))))
