use Rattle.erd_text.proofs.Common.{drop}
use Rattle.erd_shown.proofs.PartnerLists.{HavePlacesBut}
use Rattle.erd_shown.proofs.partners.places.Given as goal

abbrev pub invariant-loop-index : goal.invariant-loop-index
invariant-loop-index g l = HavePlacesBut g.K.Ord.cmp l.occurrences l.index (drop l.index l.occurrences) l.places.entries
