-- The text of the canonical form of a report.
use Rattle.std.specs.Prelude.{◌≡◌, ◌≤◌, ℕ, List, Some, false}
use Rattle.std.specs.Str.{IsUtf8}
use Rattle.serde_json.specs.Data.{Data, depth}
use Rattle.serde_json.specs.Read.{max_depth, read}
use Rattle.serde_json.specs.Written.{compact_text, has_float}
use Rattle.erd_check.specs.Trees.{IsNoDeeper, IsTree}
use Rattle.erd_meaning.specs.Keys.{Preference}
use Rattle.erd_normal.specs.Canonical.{IsCanonicalFormOf}

-- The text is the compact text of the canonical form of t, which is the only one. It is read back as that form.
pub record IsCanonicalText (π : Preference) (t : Data) (text : List ℕ) : Type 0 where
  pub tree : Data
  pub form : IsCanonicalFormOf π t tree
  pub only : (u : Data) → IsTree u → IsCanonicalFormOf π t u → u ≡ tree
  pub no_deeper : IsNoDeeper tree t
  pub is_tree : IsTree tree
  pub whole : has_float tree ≡ false
  pub written : text ≡ compact_text tree
  pub utf8 : IsUtf8 text
  pub reads_back : depth tree ≤ max_depth → read text ≡ Some tree
