-- The JSON value of a difference. docs/API.md describes it.
use Rattle.std.specs.Prelude.{ℕ, List, Option, Some, None, codes}
use Rattle.serde_json.specs.Data.{Data, null, string, object, Members, no_members, member}
use Rattle.erd_meaning.specs.declared.keys.key.Key.{Key}
use Rattle.erd_compare.specs.DifferenceLine.{key_as_json, part_text}
use Rattle.erd_compare.specs.declared.difference.Difference.{Difference}
use Rattle.erd_compare.specs.declared.difference.How.{How}
use Rattle.erd_compare.specs.declared.difference.How.TheVariants.{OnlyLeft, OnlyRight, OtherClass, Member}

-- How the reports differ, in words. The name of a member is not part of them.
abbrev pub how_words : How → List ℕ
how_words OnlyLeft = codes "only left"
how_words OnlyRight = codes "only right"
how_words OtherClass = codes "other class"
how_words (Member name) = codes "member"

-- The key as a JSON array of its three texts, or null if there is no key.
abbrev pub key_data : Option Key → Data
key_data None = null
key_data (Some k) = key_as_json k

-- The members with a member `member` before them, which holds the name of the member that differs. They stay as they are if
-- the reports differ in another way.
abbrev pub after_member : How → Members → Members
after_member OnlyLeft ms = ms
after_member OnlyRight ms = ms
after_member OtherClass ms = ms
after_member (Member name) ms = member (codes "member") (string name) ms

-- The members of the JSON object of a difference, with these behind them: `how`, `key`, `member` for the member that differs, and
-- `part`.
abbrev pub difference_members : Difference → Members → Members
difference_members d ms = member (codes "how") (string (how_words d.how))
    (member (codes "key") (key_data d.key) (after_member d.how (member (codes "part") (string (part_text d.part)) ms)))

-- The JSON object of a difference.
abbrev pub difference_data : Difference → Data
difference_data d = object (difference_members d no_members)
