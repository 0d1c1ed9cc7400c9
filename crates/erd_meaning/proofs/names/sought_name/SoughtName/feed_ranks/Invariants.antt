use Rattle.erd_meaning.proofs.Common.{◌≡◌, map, take, fold, flat_map, usize, family_chosen, fed_rank, shown}
use Rattle.std.specs.Hash.DefaultHasher.{write}
use Rattle.erd_meaning.proofs.names.sought_name.SoughtName.feed_ranks.Given as goal

abbrev pub invariant-loop-key : goal.invariant-loop-key
invariant-loop-key l =
    l.hasher ≡ fold write l.initial.hasher
    (flat_map usize (map (fed_rank (map shown l.self.objects.now.objects) (family_chosen l.self.name.now.class)) (take l.key-index l.self.name.now.keys)))
