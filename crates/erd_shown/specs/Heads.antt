-- The heads of the ballots of a report: their voters, and how many lines each has. All of this is the profile's own.
use Rattle.std.specs.Prelude.{ℕ, pos, length, slice_get, Option, map, codes}
use Rattle.std.specs.Option.{option_map_or}
use Rattle.serde_json.specs.Data.{Data, null, object, Members, member}
use Rattle.erd_tables.specs.declared.class.Family.TheVariants as family
use Rattle.erd_meaning.specs.Keys.{Preference}
use Rattle.erd_meaning.specs.Lookups.{rising_keys}
use Rattle.erd_meaning.specs.Objects.{objects}
use Rattle.erd_meaning.specs.declared.keys.key.Key.{Key}
use Rattle.erd_shown.specs.Ballots.{lines_of, voters_members}
use Rattle.erd_shown.specs.KeyData.{array_of, shown_key_or_null, shown_whole}

-- How many lines the ballot of a style has, and which voters get it, as the last members of its head.
abbrev pub counted_members : Preference → Data → Data → Members
counted_members π t d = member (codes "lines") (shown_whole (pos (length (lines_of d)))) (voters_members π t d)

-- The head of the ballot of a style with this key, at this position.
abbrev pub head_data : Preference → Data → Option Key × ℕ → Data → Data
head_data π t (key, i) d =
    object (member (codes "at") (shown_whole (pos i)) (member (codes "key") (shown_key_or_null key) (counted_members π t d)))

-- The head of the style at a position, or null if there is none.
abbrev pub head_in : Preference → Data → Option Key × ℕ → Data
head_in π t (key, i) = option_map_or (λ o. head_data π t (key, i) o.value) (slice_get (objects family.Style t) i) null

-- The heads of all styles, by their rising keys.
abbrev pub heads_data : Preference → Data → Data
heads_data π t = array_of (map (head_in π t) (rising_keys π t family.Style))
