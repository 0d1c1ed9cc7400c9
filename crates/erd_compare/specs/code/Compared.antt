-- The two reports that are compared, and what is known of them.
use Rattle.std.specs.Prelude.{◌≡◌}
use Rattle.serde_json.specs.View.{view}
use Rattle.serde_json.specs.declared.value.Value.{Value}
use Rattle.erd_meaning.specs.Judged.{Judged}
use Rattle.erd_compare.specs.code.CommonNames.{AreNameNumbers}
use Rattle.erd_compare.specs.code.CommonRanks.{AreAllCommonRanks}
use Rattle.erd_compare.specs.code.KeyedDifferences.{IsComparable}
use Rattle.erd_compare.specs.code.RankedSides.{AreCommonByRank}
use Rattle.erd_compare.specs.declared.ranks.common_ranks.CommonRanks.{CommonRanks}
use Rattle.erd_compare.specs.declared.ranks.name_numbers.NameNumbers.{NameNumbers}

-- The two reports.
pub record Compared : Type 0 where
  pub left : Judged
  pub right : Judged

-- The reports are accepted and their numbers are whole, and these are their trees, the ranks of their keys and the numbers of
-- their names.
pub record AreInCommon (a b : Judged) (one other : Value) (ranks : CommonRanks) (names : NameNumbers) : Type 0 where
  pub left_tree : one ≡ a.tree
  pub right_tree : other ≡ b.tree
  pub left : IsComparable a.prefer (view a.tree)
  pub right : IsComparable b.prefer (view b.tree)
  pub all : AreAllCommonRanks a b ranks
  pub by_rank : AreCommonByRank a b ranks
  pub numbered : AreNameNumbers a b names
