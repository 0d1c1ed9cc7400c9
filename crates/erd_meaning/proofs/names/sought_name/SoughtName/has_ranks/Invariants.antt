use Rattle.erd_meaning.proofs.Common.{◌≡◌, map, drop, family_chosen, are_ranks_of, shown}
use Rattle.erd_meaning.proofs.names.sought_name.SoughtName.has_ranks.Given as goal

abbrev pub invariant-loop-index : goal.invariant-loop-index
invariant-loop-index l =
    are_ranks_of (map shown l.self.objects.now.objects) (family_chosen l.self.name.now.class) (drop l.index l.key-items) (drop l.index l.ranks)
    ≡ are_ranks_of (map shown l.self.objects.now.objects) (family_chosen l.self.name.now.class) l.key-items l.ranks
