-- What each step leaves out that decides by what stands there alone.
use Rattle.std.specs.Prelude.{ℕ, List, Bool}
use Rattle.serde_json.specs.Data.{Data}
use Rattle.erd_check.specs.declared.want.Scope.{Scope}
use Rattle.erd_prepare.specs.Local.{is_coordinate, is_empty_label, is_empty_list, is_false_flag, is_off_ballot, is_stray_id, is_unseen, is_zero_count}
use Rattle.erd_prepare.specs.declared.local.Local.{Local}
use Rattle.erd_prepare.specs.declared.local.Local.TheVariants as local

-- True for a member that the step leaves out.
abbrev pub dropped_by : Local → Scope → List ℕ → Data → Bool
dropped_by local.Coordinates = is_coordinate
dropped_by local.Outside = is_off_ballot
dropped_by local.EmptyTexts = is_empty_label
dropped_by local.StrayIds = is_stray_id
dropped_by local.Counts = is_zero_count
dropped_by local.EmptyLists = is_empty_list
dropped_by local.Unseen = is_unseen
dropped_by local.FalseFlags = is_false_flag
