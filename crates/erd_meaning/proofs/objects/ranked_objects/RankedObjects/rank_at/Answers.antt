use Rattle.erd_meaning.proofs.Common.{HeldObjects, List, map, slice_get, option_map, ap, ◌∙◌, slice_get-map, those_of, Kept, rank_among, shown, Object, Order}
use Rattle.erd_tables.specs.Families.{entry_of}
use Rattle.erd_meaning.proofs.selections.PositionedKeys.{ranks_of_order}
use Rattle.erd_meaning.proofs.objects.ranked_objects.RankedObjects.rank_at.Goals as goal

pub returns : goal.returns
returns c =
    let f = c.args.family in
    let i = c.args.position in
    let ks = map shown c.self.inside.table.objects in
    c.rank_at.ensures
    ∙ ap (λ (order : Order). slice_get order.ranks.items i) c.get.ensures
    ∙ ap (λ ranks. slice_get ranks i) (ranks_of_order ks f (entry_of c.self.inside.orders f) (c.self.invariant f c.requires.keyed))
    ∙ slice_get-map (λ (k : Kept). rank_among ks f k.key) (those_of f ks) i
    ∙ ap (λ (os : HeldObjects). option_map (λ (k : Kept). rank_among (map shown os.objects) f k.key) (slice_get (those_of f (map shown os.objects)) i))
    c.self.view_is
