-- What a line of a ballot stands for, and what it is.
use Rattle.std.specs.Prelude.{ℕ, Bool, Option, option_copied}
use denote.Ref.{Bor}
use Rattle.serde_json.specs.Data.{Data}
use Rattle.serde_json.specs.View.{view}
use Rattle.erd_meaning.specs.declared.keys.key.Key.{Key}
use Rattle.erd_shown.specs.declared.lines.Line.{Line}

abbrev pub of_line : Line → ℕ × Data
of_line l = (l.depth, view l.node.now)

abbrev pub of_thing : Bool × Option (Bor Key) → Bool × Option Key
of_thing a = (a.0, option_copied a.1)

abbrev pub of_place : Option (Bor Key) × ℕ → Option Key × ℕ
of_place p = (option_copied p.0, p.1)
