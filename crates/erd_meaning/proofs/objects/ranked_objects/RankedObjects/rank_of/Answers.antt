use Rattle.erd_meaning.proofs.Common.{◌≡◌, List, map, slice_get, Some, option_map, sym, refl, ap, ◌∙◌, slice_get-map, has_keys, family_chosen, number_of_key}
use Rattle.erd_meaning.proofs.Common.{those_of, Kept, rank_among, shown, HeldObjects}
use Rattle.erd_meaning.proofs.selections.RankedKeys.{rank_found}
use Rattle.erd_meaning.proofs.selections.RankedReports.{chosen_keyed}
use Rattle.erd_meaning.proofs.objects.ranked_objects.RankedObjects.rank_of.Goals as goal

pub rank_at-requires : goal.rank_at-requires
rank_at-requires c = record { keyed = ap has_keys c.family_chosen-family.ensures ∙ chosen_keyed c.args.class }

pub returns : goal.returns
returns c =
    let ks = map shown c.args.self.now.objects in
    let f = family_chosen c.args.class in
    let i = c.in_ok-index.index in
    let rank = λ (k : Kept). rank_among ks f k.key in
    let found : number_of_key ks f c.args.key.now ≡ Some i =
    ap (λ g. number_of_key ks g c.args.key.now) (sym c.family_chosen-family.ensures)
    ∙ ap (λ (os : HeldObjects). number_of_key (map shown os.objects) c.family_chosen-family.result c.args.key.now) (sym c.self.view_is)
    ∙ sym c.position_of_key.ensures ∙ c.in_ok-index.was in
    c.rank_at.ensures
    ∙ ap (λ g. option_map (λ (k : Kept). rank_among ks g k.key) (slice_get (those_of g ks) i)) c.family_chosen-family.ensures
    ∙ sym (slice_get-map rank (those_of f ks) i) ∙ rank_found ks f c.args.key.now i (map rank (those_of f ks)) refl found
