-- Parts of the contents of a ballot: what stands inside a header, for any value, what a node means apart from that, and contests
-- that carry no member.
use Rattle.std.specs.Prelude.{◌≡◌, ℕ, List, Option, Some, None, codes, map, option_and_then}
use Rattle.serde_json.specs.Data.{Data, object}
use Rattle.serde_json.specs.Find.{as_str}
use Rattle.serde_json.specs.View.{view}
use Rattle.erd_tables.specs.declared.class.Class.TheVariants as class
use Rattle.erd_tables.specs.declared.class.Family.{Family}
use Rattle.erd_tables.specs.declared.class.Family.TheVariants as family
use Rattle.erd_check.specs.Values.{entries_at, text_at}
use Rattle.erd_meaning.specs.Keys.{Preference}
use Rattle.erd_meaning.specs.Meaning.{Content, no_content, JsonMap, Node, a_contest}
use Rattle.erd_meaning.specs.Records.{carried_members, class_of_node, content_inside}
use Rattle.erd_meaning.specs.SelectionNames.{key_named, name_named}
use Rattle.erd_meaning.specs.declared.keys.key.Key.{Key}
use Rattle.erd_compare.specs.declared.values.plain_contest.PlainContest.{PlainContest}

-- The content of the member `OrderedContent` of an object, or no content for any other value.
abbrev pub content_within : Preference → Data → Data → Content
content_within π t (object ms) = content_inside π t ms
content_within π t d = no_content

-- What a contest or header on a ballot means apart from what stands inside it: the key of the object of the family that it refers
-- to by the member with this name, and the members that it carries.
abbrev pub outside_of : Preference → Data → Family → List ℕ → Data → Option Key × JsonMap
outside_of π t f name d = (key_named π t f (text_at name d), carried_members (class_of_node d) d)

-- The node is an OrderedContest that carries no member, and this is what it refers to.
pub record IsPlainContest (d : Data) (found : PlainContest) : Type 0 where
  pub its_class : class_of_node d ≡ Some class.OrderedContest
  pub contest : found.contest.now ≡ text_at (codes "ContestId") d
  pub selections : map view found.selections.now ≡ entries_at (codes "OrderedContestSelectionIds") d
  pub carried : carried_members (Some class.OrderedContest) d ≡ (λ name. None)

-- What a contest on a ballot means that carries no member.
abbrev pub plain_node : Preference → Data → PlainContest → Node
plain_node π t found =
    a_contest (key_named π t family.Contest found.contest.now)
    (map (λ v. option_and_then (name_named π t) (as_str (view v))) found.selections.now)
    (λ name. None)
