-- Which selection has a name, and the selections of a contest by their names. The names are given by their numbers.
use Rattle.std.specs.Prelude.{◌≡◌, ◌==◌, Bool, ℕ, List, Option, Some, find, option_and_then, option_map}
use Rattle.std.specs.Map.{lookup}
use Rattle.std.specs.Option.{option_eq}
use Rattle.serde_json.specs.Data.{Data}
use Rattle.serde_json.specs.View.{view}
use Rattle.serde_json.specs.declared.value.Value.{Value}
use Rattle.erd_meaning.specs.Judged.{Judged}
use Rattle.erd_meaning.specs.Meaning.{SelectionRecord}
use Rattle.erd_meaning.specs.Records.{selection_record}
use Rattle.erd_compare.specs.code.CommonNames.{number_of_selection}
use Rattle.erd_compare.specs.code.RankedSides.{on_side}
use Rattle.erd_compare.specs.declared.ranks.common_ranks.ComparedReport.{ComparedReport}
use denote.Ref.{Bor}

-- True if the name of the selection has the number.
abbrev pub has_number : Judged → Judged → ComparedReport → ℕ → Data → Bool
has_number a b side k d = option_eq ◌==◌ (number_of_selection a b side d) (Some k)

-- Under the number of each name, the list has the first selection with that name.
abbrev pub IsByNumber : Judged → Judged → ComparedReport → List Data → List (ℕ × Bor Value) → Type 0
IsByNumber a b side ds es = (k : ℕ) → option_map (λ v. view v.now) (lookup (λ l. k == l) es) ≡ find (has_number a b side k) ds

-- What the selections of a contest mean, by the numbers of their names.
abbrev pub numbered_map : Judged → Judged → ComparedReport → List Data → ℕ → Option SelectionRecord
numbered_map a b side ds k = option_and_then (selection_record (on_side side a b).prefer (view (on_side side a b).tree)) (find (has_number a b side k) ds)
