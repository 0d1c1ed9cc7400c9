-- The JSON of lines, and what lines are.
use Rattle.std.specs.Prelude.{List, Bool, Option, map}
use Rattle.serde_json.specs.Data.{Data}
use Rattle.erd_meaning.specs.Keys.{Preference}
use Rattle.erd_meaning.specs.declared.keys.key.Key.{Key}
use Rattle.erd_shown.specs.Ballots.{line_data, thing_at}
use Rattle.erd_shown.specs.KeyData.{array_of}
use Rattle.erd_shown.specs.code.LineLists.{of_line}
use Rattle.erd_shown.specs.declared.lines.Line.{Line}

-- Lines as the array of their objects.
abbrev pub written_lines : Preference → Data → List Line → Data
written_lines π t ls = array_of (map (λ l. line_data π t (of_line l)) ls)

-- What these lines are, in their order.
abbrev pub things_in : Preference → Data → List Line → List (Bool × Option Key)
things_in π t ls = map (λ l. thing_at π t (of_line l).1) ls
