-- The words by which a caller chooses steps.
use Rattle.std.specs.Prelude.{◌∷◌, ◌++◌, ◌==◌, ℕ, List, [], Bool, true, false, Option, Some, None, option_map, option_and_then, codes}
use Rattle.std.specs.List.{filter, find, slice_split}
use Rattle.std.specs.Option.{option_or}
use Rattle.std.specs.Str.{bytes_eq}
use Rattle.json.specs.Ascii.{comma}
use Rattle.erd_prepare.specs.declared.step_group.StepGroup.{StepGroup}
use Rattle.erd_prepare.specs.declared.step_group.StepGroup.TheVariants as group
use Rattle.erd_prepare.specs.declared.step_name.StepName.{StepName}
use Rattle.erd_prepare.specs.declared.step_name.StepName.TheVariants as step
use Rattle.erd_prepare.specs.declared.step_name.TheConstants.{STEPS}

-- The name of each step.
abbrev pub name_of_step : StepName → List ℕ
name_of_step step.ClassNames = codes "class-names"
name_of_step step.Nulls = codes "nulls"
name_of_step step.Kinds = codes "kinds"
name_of_step step.UnusedIds = codes "unused-ids"
name_of_step step.TwinIds = codes "twin-ids"
name_of_step step.Outside = codes "outside"
name_of_step step.Counts = codes "counts"
name_of_step step.Devices = codes "devices"
name_of_step step.Coordinates = codes "coordinates"
name_of_step step.WholeNumbers = codes "whole-numbers"
name_of_step step.StrayIds = codes "stray-ids"
name_of_step step.VendorIdentifiers = codes "vendor-identifiers"
name_of_step step.VendorTexts = codes "vendor-texts"
name_of_step step.Repeated = codes "repeated"
name_of_step step.Unseen = codes "unseen"
name_of_step step.FalseFlags = codes "false-flags"
name_of_step step.OtherCodes = codes "other-codes"
name_of_step step.GoneCandidates = codes "gone-candidates"
name_of_step step.UnusedStyles = codes "unused-styles"
name_of_step step.UnusedPersons = codes "unused-persons"
name_of_step step.EmptyLists = codes "empty-lists"
name_of_step step.EmptyTexts = codes "empty-texts"
name_of_step step.Names = codes "names"
name_of_step step.TownCodes = codes "town-codes"
name_of_step step.CountyCodes = codes "county-codes"
name_of_step step.SharedCodes = codes "shared-codes"
name_of_step step.WriteInCandidates = codes "write-in-candidates"
name_of_step step.Codes = codes "codes"
name_of_step step.WriteInLines = codes "write-in-lines"
name_of_step step.PartyLines = codes "party-lines"

-- What each step does to what a voter sees.
abbrev pub group_of : StepName → StepGroup
group_of step.ClassNames = group.FilledIn
group_of step.Nulls = group.Removed
group_of step.Kinds = group.FilledIn
group_of step.UnusedIds = group.Removed
group_of step.TwinIds = group.FilledIn
group_of step.Outside = group.Removed
group_of step.Counts = group.Removed
group_of step.Devices = group.Removed
group_of step.Coordinates = group.Removed
group_of step.WholeNumbers = group.FilledIn
group_of step.StrayIds = group.Removed
group_of step.VendorIdentifiers = group.FilledIn
group_of step.VendorTexts = group.FilledIn
group_of step.Repeated = group.FilledIn
group_of step.Unseen = group.View
group_of step.FalseFlags = group.View
group_of step.OtherCodes = group.View
group_of step.GoneCandidates = group.Visible
group_of step.UnusedStyles = group.Visible
group_of step.UnusedPersons = group.Removed
group_of step.EmptyLists = group.Removed
group_of step.EmptyTexts = group.Removed
group_of step.Names = group.FilledIn
group_of step.TownCodes = group.FilledIn
group_of step.CountyCodes = group.FilledIn
group_of step.SharedCodes = group.FilledIn
group_of step.WriteInCandidates = group.FilledIn
group_of step.Codes = group.FilledIn
group_of step.WriteInLines = group.FilledIn
group_of step.PartyLines = group.FilledIn

-- The name of each group.
abbrev pub name_of_group : StepGroup → List ℕ
name_of_group group.Removed = codes "removed"
name_of_group group.FilledIn = codes "filled-in"
name_of_group group.Visible = codes "visible"
name_of_group group.View = codes "view"

abbrev pub is_same_group : StepGroup → StepGroup → Bool
is_same_group group.Removed group.Removed = true
is_same_group group.FilledIn group.FilledIn = true
is_same_group group.Visible group.Visible = true
is_same_group group.View group.View = true
is_same_group g h = false

-- The steps of a group, in the order in which they are done.
abbrev pub steps_of_group : StepGroup → List StepName
steps_of_group g = filter (λ s. is_same_group (group_of s) g) STEPS

-- The step of this name, if there is one.
abbrev pub step_named : List ℕ → Option StepName
step_named word = find (λ s. bytes_eq (name_of_step s) word) STEPS

-- The group of this name, if there is one.
abbrev pub group_named : List ℕ → Option StepGroup
group_named word = find (λ g. bytes_eq (name_of_group g) word) (group.Removed ∷ group.FilledIn ∷ group.Visible ∷ group.View ∷ [])

-- The steps that one word chooses: the step of this name, or the steps of the group of this name. A word that is neither chooses
-- nothing.
abbrev pub steps_by_word : List ℕ → Option (List StepName)
steps_by_word word = option_or (option_map (λ s. s ∷ []) (step_named word)) (option_map steps_of_group (group_named word))

-- The steps that several words choose, in the order of the words, if each of them chooses some.
abbrev pub steps_by_words : List (List ℕ) → Option (List StepName)
steps_by_words [] = Some []
steps_by_words (word ∷ words) = option_and_then (λ steps. option_map (λ more. steps ++ more) (steps_by_words words)) (steps_by_word word)

-- The words of a text, with commas between them. The empty text has none.
abbrev pub words_at_commas : List ℕ → List (List ℕ)
words_at_commas [] = []
words_at_commas (b ∷ bs) = slice_split (λ c. c == comma) (b ∷ bs)

-- The steps that a text chooses, if each of its words chooses some.
abbrev pub steps_chosen : List ℕ → Option (List StepName)
steps_chosen text = steps_by_words (words_at_commas text)
