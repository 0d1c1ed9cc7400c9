-- Bytes: the tree that is read from them, and the canonical bytes of a report.
use Rattle.std.specs.Prelude.{ℕ, ◌≡◌, List, Some}
use Rattle.std.specs.Str.{IsUtf8}
use Rattle.serde_json.specs.Data.{Data}
use Rattle.serde_json.specs.Read.{read}
use Rattle.serde_json.specs.Written.{compact_text}
use Rattle.erd_meaning.specs.Keys.{Preference}
use Rattle.erd_meaning.specs.Accepted.{IsAccepted}
use Rattle.erd_normal.specs.Canonical.{IsCanonicalFormOf}

-- The bytes are UTF-8 text, and `serde_json` reads this tree from them. It is nested at most 127 deep. (RFC 8259)
abbrev pub IsTreeOf : List ℕ → Data → Type 0
IsTreeOf b t = IsUtf8 b × (read b ≡ Some t)

-- The bytes are not JSON: no tree can be read from them.
abbrev pub IsNotJson : List ℕ → Type 0
IsNotJson b = (t : Data) → ¬ IsTreeOf b t

-- The bytes are an accepted report, and this is its tree.
pub record IsAcceptedReport (π : Preference) (b : List ℕ) (t : Data) : Type 0 where
  pub read : IsTreeOf b t
  pub accepted : IsAccepted π t

-- b is an accepted report, and c is the compact text of its canonical form. From c the same form is read back. (profile)
pub record IsCanonicalBytes (π : Preference) (b c : List ℕ) : Type 0 where
  pub report : Data
  pub is_accepted : IsAcceptedReport π b report
  pub tree : Data
  pub is_canonical : IsCanonicalFormOf π report tree
  pub written : c ≡ compact_text tree
  pub reads_back : IsTreeOf c tree
