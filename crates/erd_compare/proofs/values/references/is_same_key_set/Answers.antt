use Rattle.erd_compare.proofs.Common.{ℕ, List, map, ◌∙◌, subst, Decides-eqb, view, keys_named, IsRankSet, Left, Right}
use Rattle.std.proofs.lemmas.Slice.Eq.{slice_eq-Decides}
use Rattle.erd_tables.specs.declared.class.Role.TheVariants.{OfFamily}
use Rattle.erd_compare.proofs.same_ranks.RankSets.{named_known, ranks_of_keys, sets_decide}
use Rattle.erd_compare.proofs.values.references.is_same_key_set.Goals as goal

pub returns : goal.returns
returns c =
    let a = c.args.comparer.now.left in
    let b = c.args.comparer.now.right in
    let f = c.args.family in
    let s = c.set_of-ones.result.items in
    let t = c.set_of-others.result.items in
    sets_decide a b (OfFamily f) (keys_named a.prefer (view a.tree) f (map view c.args.ones.now))
    (keys_named b.prefer (view b.tree) f (map view c.args.others.now))
    (named_known a b Left f c.requires.keyed (map view c.args.ones.now)) (named_known a b Right f c.requires.keyed (map view c.args.others.now)) s t c.eq.result
    (subst (λ (ns : List ℕ). IsRankSet ns s) (c.in_ok-ranks_named.ensures ∙ ranks_of_keys a b Left f c.args.ones.now) c.set_of-ones.ensures)
    (subst (λ (ns : List ℕ). IsRankSet ns t) (c.in_ok-ranks_named-2.ensures ∙ ranks_of_keys a b Right f c.args.others.now) c.set_of-others.ensures)
    (slice_eq-Decides Decides-eqb s t c.eq.result c.eq.ensures)
