-- What is told of steps, as JSON (docs/API.md).
use Rattle.std.specs.Prelude.{◌≡◌, ◌≢◌, ◌⊎◌, ◌≤◌, ◌+◌, ◌++◌, ◌||◌, ◌&&◌, ◌==◌, ℕ, List, [], ◌∷◌, Bool, true, false, Option, Some, None, map, length, nat_lt}
use Rattle.std.specs.Prelude.{codes, string_bytes}
use Rattle.json.specs.Lex.{tokens}
use Rattle.json.specs.Print.{print}
use Rattle.serde_json.specs.Data.{Data, boolean, number, string, array, object, unsigned, Members, no_members, member, depth}
use Rattle.serde_json.specs.Read.{read, max_depth}
use Rattle.serde_json.specs.View.{items_of}
use Rattle.erd_tables.specs.declared.place.Step.{Step}
use Rattle.erd_tables.specs.declared.place.Step.TheVariants.{Name, At}
use Rattle.erd_prepare.specs.Changes.{told_of}
use Rattle.erd_prepare.specs.Rules.{Told}
use Rattle.erd_prepare.specs.declared.change.Change.{Change}
use Rattle.erd_prepare.specs.declared.changed_number.ChangedNumber.{ChangedNumber}
use Rattle.erd_prepare.specs.declared.left.Left.{Left}
use Rattle.erd_prepare.specs.declared.left.LeftReason.{LeftReason}
use Rattle.erd_prepare.specs.declared.left.LeftReason.TheVariants as why
use Rattle.erd_prepare.specs.declared.told.TheConstants.{ENOUGH_BYTES, MOST_TOLD}

-- ---- the objects

-- A step of a place: the name of a member, or a position, counted from 0.
abbrev pub told_step_data : Step → Data
told_step_data (Name name) = string name
told_step_data (At i) = number (unsigned i)

-- A place: the steps that lead there, from the whole report inwards.
abbrev pub told_place_data : List Step → Data
told_place_data steps = array (items_of (map told_step_data steps))

-- The members behind one of this name with this value, if there is a value.
abbrev pub behind_value : List ℕ → Option Data → Members → Members
behind_value name None ms = ms
behind_value name (Some d) ms = member name d ms

-- A change: its place, what stood there and what stands there now.
abbrev pub change_data : List Step → Told → Data
change_data place c =
    object (behind_value (codes "after") c.after (behind_value (codes "before") c.before (member (codes "place") (told_place_data place) no_members)))

-- The key of the words that say why something was left.
abbrev pub left_reason_text : LeftReason → List ℕ
left_reason_text why.NoCounty = codes "noCounty"
left_reason_text why.NoTown = codes "noTown"
left_reason_text why.NothingTells = codes "nothingTells"
left_reason_text why.TwinIds = codes "twinIds"
left_reason_text why.Counted = codes "counted"
left_reason_text why.SomeGone = codes "someGone"
left_reason_text why.NoName = codes "noName"
left_reason_text why.RequiredText = codes "requiredText"
left_reason_text why.SharedNumber = codes "sharedNumber"
left_reason_text why.NamesObject = codes "namesObject"
left_reason_text why.NameTaken = codes "nameTaken"

-- What was left, and why.
abbrev pub left_data : List Step → LeftReason → Data
left_data place reason = object (member (codes "place") (told_place_data place) (member (codes "why") (string (left_reason_text reason)) no_members))

-- A number that is written in another way: where it stands in the file, and both texts.
abbrev pub number_data : ChangedNumber → Data
number_data n =
    object (member (codes "after") (string (string_bytes n.after)) (member (codes "before") (string (string_bytes n.before))
    (member (codes "column") (number (unsigned n.column)) (member (codes "line") (number (unsigned n.line)) no_members))))

-- A step: its name, whether it was done, how many changes it made and how much it left, and the first of each. `more` says
-- whether there are more.
abbrev pub step_object : List ℕ → Bool → ℕ → ℕ → List Data → List Data → Data
step_object name is_done count left_count changes left =
    object (member (codes "changes") (array (items_of changes)) (member (codes "count") (number (unsigned count)) (member (codes "done") (boolean is_done)
    (member (codes "left") (array (items_of left)) (member (codes "left_count") (number (unsigned left_count))
    (member (codes "more") (boolean (nat_lt (length changes) count || nat_lt (length left) left_count)) (member (codes "step") (string name) no_members)))))))

-- ---- the first of a list

-- The values are these entries as JSON, one for each, in their order.
pub data AreEach {A : Type 0} (Is : A → Data → Type 0) : List A → List Data → Type 0 where
  no_entry : AreEach Is [] []
  more_entries : (xs : List A) (ds : List Data) (x : A) (d : Data) → AreEach Is xs ds → Is x d → AreEach Is (xs ++ x ∷ []) (ds ++ d ∷ [])

-- The text is the value, written with no blank.
pub record IsTextOf (text : List ℕ) (d : Data) : Type 0 where
  pub value : depth d ≤ max_depth → read text ≡ Some d
  pub compact : text ≡ print (tokens text)

-- The texts of the values have so many bytes together, or more.
pub data HaveBytes : List Data → ℕ → Type 0 where
  no_value : HaveBytes [] 0
  more_values : (ds : List Data) (d : Data) (n m : ℕ) (text : List ℕ) → HaveBytes ds n → IsTextOf text d → m ≤ n + length text → HaveBytes (ds ++ d ∷ []) m

-- No further entry is told behind these.
abbrev pub AreEnough : List Data → Type 0
AreEnough ds = (MOST_TOLD ≤ length ds) ⊎ ((n : ℕ) × (ENOUGH_BYTES ≤ n) × HaveBytes ds n)

-- The values are the first of these entries: all of them, or as many as are told of a list.
pub record AreFirst {A : Type 0} (Is : A → Data → Type 0) (entries : List A) (ds : List Data) : Type 0 where
  pub shown : List A
  pub rest : List A
  pub split : entries ≡ shown ++ rest
  pub each : AreEach Is shown ds
  pub ends : (rest ≡ []) ⊎ AreEnough ds

-- ---- what is told

-- A change as JSON. Where `Unmoved` holds, its place is that in the report before the step; else it is one that leads there.
pub record IsChangeTold (Unmoved : Type 0) (c : Change) (d : Data) : Type 0 where
  pub place : List Step
  pub own : Unmoved → place ≡ c.place
  pub is_value : d ≡ change_data place (told_of c)

-- What was left as JSON, with some place.
abbrev pub IsLeftTold : Left → Data → Type 0
IsLeftTold it d = (place : List Step) × (d ≡ left_data place it.why)

-- A number that is written in another way as JSON.
abbrev pub IsNumberShown : ChangedNumber → Data → Type 0
IsNumberShown n d = d ≡ number_data n

-- A step as JSON: all that it changed and left is counted, and the first of it told.
pub record IsStepTold (name : List ℕ) (is_done : Bool) (Unmoved : Type 0) (changes : List Change) (left : List Left) (d : Data) : Type 0 where
  pub shown : List Data
  pub shown_left : List Data
  pub are_changes : AreFirst (IsChangeTold Unmoved) changes shown
  pub are_left : AreFirst IsLeftTold left shown_left
  pub is_value : d ≡ step_object name is_done (length changes) (length left) shown shown_left

-- The numbers that are written in another way, told as those of a step that is always done.
pub record AreNumbersTold (numbers : List ChangedNumber) (d : Data) : Type 0 where
  pub shown : List Data
  pub are_numbers : AreFirst IsNumberShown numbers shown
  pub is_value : d ≡ step_object (codes "numbers") true (length numbers) 0 shown []

-- True for a step that changes and leaves nothing.
abbrev pub is_quiet : List Change → List Left → Bool
is_quiet changes left = (length changes == 0) && (length left == 0)

-- A step is told, unless it changes and leaves nothing.
abbrev pub IsTellingAdded : List ℕ → Bool → Type 0 → List Change → List Left → List Data → List Data → Type 0
IsTellingAdded name is_done Unmoved changes left olds news =
    ((is_quiet changes left ≡ true) × (news ≡ olds))
    ⊎ ((is_quiet changes left ≡ false) × ((d : Data) × IsStepTold name is_done Unmoved changes left d × (news ≡ olds ++ d ∷ [])))

-- The numbers are told first, if there are any.
abbrev pub AreNumbersInFront : List ChangedNumber → List Data → List Data → Type 0
AreNumbersInFront numbers steps all =
    ((numbers ≡ []) × (all ≡ steps)) ⊎ ((numbers ≢ []) × ((d : Data) × AreNumbersTold numbers d × (all ≡ d ∷ steps)))
