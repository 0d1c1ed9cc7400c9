use Rattle.erd_meaning.proofs.Common.{◌≡◌, List, drop, flat_map, map}
use Rattle.erd_index.specs.Salts.{fed}
use Rattle.erd_meaning.specs.code.CollectedWalks.{found}
use Rattle.erd_meaning.specs.SaltWrites.{hashed_writes}
use Rattle.erd_meaning.specs.code.HashedMet.{hashed}
use Rattle.erd_meaning.specs.declared.objects.collected.Found.{Found}
use Rattle.erd_meaning.proofs.objects.salt.salt_of.Given as goal

abbrev pub invariant-loop-one : goal.invariant-loop-one
invariant-loop-one l =
    let writes = λ (all : List Found). flat_map hashed_writes (map hashed (map (λ x. x.met) (map found all))) in
    fed l.hasher (writes (drop l.one-index l.all)) ≡ fed l.initial.hasher (writes l.all)
